-- A repeatable load in words (document 02, E6): the draws, which frames are allowed, the list of them, and which are taken
-- from it, one draw each. `Decide/Load` computes it.
use Rattle.std.specs.Prelude.{ℕ, suc, ◌+◌, ◌*◌, ◌/◌, ◌%◌, ◌<◌, ◌≡◌, false, ◌⊎◌, ◌↔◌, List, [], ◌∷◌, length}
use Rattle.std.proofs.Math.Option.{some}
use Rattle.std.proofs.Math.ListN.{get_elem?}
use Rattle.machine.specs.Monitor.{Monitor, Config, Frame}
use Rattle.machine.specs.Rules.{Waiting, PlainNotices, Rule}

-- The draws

-- "each draw replaces the number by itself times 1664525 plus 1013904223, kept to 32 bits" (R 17.4)
unfoldable pub drawn : ℕ → ℕ
drawn x = (x * 1664525 + 1013904223) % 4294967296

-- "and uses its upper sixteen bits": of the number that has replaced the one before (R 17.5)
unfoldable pub upper : ℕ → ℕ
upper x = x / 65536

-- The allowed frames

-- a frame is one of a list
unfoldable pub Among : List Frame → Frame → Type 0
Among [] g = ⊥
Among (f ∷ fs) g = (f ≡ g) ⊎ Among fs g

-- "ordered by thread and then region" (R 17.7)
unfoldable pub Before : Frame → Frame → Type 0
Before f g = (f.thread < g.thread) ⊎ ((f.thread ≡ g.thread) × (f.region < g.region))

-- each frame of a list stands before all that follow it
unfoldable pub Ordered : List Frame → Type 0
Ordered [] = Unit {0}
Ordered (f ∷ fs) = ((g : Frame) → Among fs g → Before f g) × Ordered fs

module _ (m : Monitor) where
  -- "A waiting thread with 00 is a recheck" (R 9.17)
  unfoldable pub Rechecks : Config → Frame → Type 0
  Rechecks c f = Waiting m (c.threads.place f.thread) × (f.flag ≡ false)

  -- "The frames the plain machine allows": its rules take the frame (R 17.6)
  unfoldable pub Takes : Config → Frame → Type 0
  Takes c f = (d : Config) × Rule m (PlainNotices m) c f d

  -- of the n threads "numbered from 0" exactly the frames that the plain machine allows, "rechecks left out", in order; so no
  -- two of them have one thread and one region (R 17.3, 17.6, 17.7)
  pub record AllowedList (n : ℕ) (c : Config) (fs : List Frame) : Type 0 where
    pub exactly : (f : Frame) → Among fs f ↔ ((f.thread < n) × Takes c f × (Rechecks c f → ⊥))
    pub in_order : Ordered fs

  -- What is taken from a point on, by a number, of n threads, while so many frames are still wanted (R 17.8, 17.9, 17.10)
  pub data Loads (n : ℕ) : ℕ → Config → ℕ → List Frame → Type 0 where
    -- "up to the wanted count"
    enough : {c : Config} {x : ℕ} → Loads n 0 c x []
    -- "or until none is allowed"
    none_allowed : {k : ℕ} {c : Config} {x : ℕ} → AllowedList n c [] → Loads n (suc k) c x []
    -- one draw replaces the number, and "the one at draw modulo their count is taken", also where it is the only one
    takes :
        {k : ℕ} {c d : Config} {x : ℕ} {f : Frame} {fs more : List Frame} → AllowedList n c fs
        → get_elem? fs (upper (drawn x) % length fs) ≡ some f → Rule m (PlainNotices m) c f d
        → Loads n k d (drawn x) more
        → Loads n (suc k) c x (f ∷ more)
