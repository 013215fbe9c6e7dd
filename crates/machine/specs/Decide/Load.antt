-- A repeatable load, computed (document 02, E6): the list of the frames that the plain machine allows, and the frames that
-- are taken from it. `proofs/Load` shows that these are the ones of `Load`.
use Rattle.std.specs.Prelude.{ℕ, zero, suc, ◌+◌, ◌%◌, Bool, true, false, not, ◌&&◌, List, [], ◌∷◌, ◌++◌, length, get_or}
use Rattle.machine.specs.Monitor.{Monitor, Config, Frame}
use Rattle.machine.specs.Load.{drawn, upper}
use Rattle.machine.specs.Decide.Step.{Outcome, moved, refused, step, plain_told, is_waiting}

-- The allowed frames

-- what a function gives for each of n numbers from k on, joined
unfoldable pub join_each : {A : Type 0} → ℕ → ℕ → (ℕ → List A) → List A
join_each zero k f = []
join_each (suc n) k f = f k ++ join_each n (k + 1) f

unfoldable pub is_moved : Outcome → Bool
is_moved (moved c) = true
is_moved (refused a) = false

-- a waiting thread's frame with 00 is a recheck
unfoldable pub is_recheck : Config → Frame → Bool
is_recheck c f = is_waiting (c.threads.place f.thread) && not f.flag

-- the frame, where it passes a test
unfoldable pub frame_if : Bool → Frame → List Frame
frame_if true f = f ∷ []
frame_if false f = []

module _ (m : Monitor) where
  -- "The frames the plain machine allows, rechecks left out" (R 17.6)
  unfoldable pub is_allowed : Config → Frame → Bool
  is_allowed c f = is_moved (step m (plain_told m) c f) && not (is_recheck c f)

  -- those of a thread at a region, with either flag
  unfoldable pub allowed_at : Config → ℕ → ℕ → List Frame
  allowed_at c t r =
      let f : Bool → Frame = λ b. record { thread = t; region = r; flag = b } in
      frame_if (is_allowed c (f false)) (f false) ++ frame_if (is_allowed c (f true)) (f true)

  -- those of a thread: at each region of the file
  unfoldable pub allowed_of : Config → ℕ → List Frame
  allowed_of c t = join_each m.regions 0 (allowed_at c t)

  -- "are ordered by thread and then region", of the first n threads (R 17.3, 17.7)
  unfoldable pub allowed_frames : ℕ → Config → List Frame
  allowed_frames n c = join_each n 0 (allowed_of c)

  -- The load

  -- the point behind a frame that is taken
  unfoldable pub behind : Config → Outcome → Config
  behind c (moved d) = d
  behind c (refused a) = c

  -- "the one at draw modulo their count is taken, up to the wanted count or until none is allowed": of n threads, up to k
  -- frames, from a point and a number on (R 17.8, 17.9, 17.10)
  unfoldable pub load_from : ℕ → ℕ → Config → ℕ → List Frame
  load_from n zero c x = []
  load_from n (suc k) c x =
      elim (allowed_frames n c) [
        | [] ↦ []
        | f ∷ fs ↦
            let taken = get_or (f ∷ fs) (upper (drawn x) % length (f ∷ fs)) f in
            taken ∷ load_from n k (behind c (step m (plain_told m) c taken)) (drawn x)
      ]
