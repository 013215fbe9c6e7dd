-- Rechecks told from the frames alone ("Both machines on one list").
use Rattle.std.specs.Prelude.{ℕ, ◌≡◌, Bool, true, false, ◌⊎◌, List, [], ◌∷◌, ◌++◌, length}
use Rattle.machine.specs.Monitor.{Frame}

-- thread t sent none of the frames
unfoldable pub Absent : ℕ → List Frame → Type 0
Absent t [] = Unit {0}
Absent t (f ∷ fs) = (f.thread ≡ t → ⊥) × Absent t fs

-- e is the last frame that thread t sent (R 11.7)
pub record LastOf (fs : List Frame) (t : ℕ) (e : Frame) : Type 0 where
  pub earlier : List Frame
  pub later : List Frame
  pub splits : fs ≡ earlier ++ (e ∷ later)
  pub sent : e.thread ≡ t
  pub none_later : Absent t later

-- the last frame that thread t sent has the flag 00 (R 11.7)
unfoldable pub SentLast00 : List Frame → ℕ → Type 0
SentLast00 fs t = (e : Frame) × LastOf fs t e × (e.flag ≡ false)

-- the same where some threads wait at the beginning and may not have sent a frame since
unfoldable pub Paused : (ℕ → Bool) → List Frame → ℕ → Type 0
Paused began fs t = SentLast00 fs t ⊎ (Absent t fs × (began t ≡ true))

-- frame k has the flag 00, and `before` tells its thread by the frames before it (R 11.7)
pub record RecheckBy (before : List Frame → ℕ → Type 0) (fs : List Frame) (k : ℕ) : Type 0 where
  pub front : List Frame
  pub frame : Frame
  pub more : List Frame
  pub splits : fs ≡ front ++ (frame ∷ more)
  pub place : length front ≡ k
  pub flag : frame.flag ≡ false
  pub so_before : before front frame.thread

-- "its flag is 00, and so was that of the last frame its thread sent before it" (R 11.7)
abbrev pub Recheck : List Frame → ℕ → Type 0
Recheck = RecheckBy SentLast00

abbrev pub RecheckFrom : (ℕ → Bool) → List Frame → ℕ → Type 0
RecheckFrom began = RecheckBy (Paused began)
