-- The points of a list as data (`meaning/specs/Points`): which are there, where each stands, and that its numbers,
-- places, guards, notices and turns are those of the points to which the machines' rules lead. The claim is
-- `DemandPoints`.
use Rattle.std.specs.Prelude.{ℕ, ◌+◌, ◌*◌, ◌≤◌, ◌<◌, ◌≡◌, true, not, ◌&&◌, ◌↔◌, List, [], ◌∷◌, ◌++◌, length, take, drop}
use Rattle.syntax.specs.Tree.{Monitor}
use Rattle.machine.specs.Monitor.{Frame, Config, all_idle}
use Rattle.machine.specs.Rules.{Rules}
use Rattle.meaning.specs.Answer.{accepted}
use Rattle.meaning.specs.Decide.Check.{check}
use Rattle.meaning.specs.Model.{kept, model}
use Rattle.meaning.specs.Calls.{Machine, notices_of, plain_machine, table_machine}
use Rattle.meaning.specs.Points.{point_size, set_bytes, shared_bytes, turn_bytes, point_at, list_points}

-- the two bytes of those told stand from a byte of point k + 1 on: who is notified behind frame k and was not before it
-- (R 15.10)
unfoldable pub ToldFrom : Monitor → Machine → ℕ → ℕ → List Frame → ℕ → Type 0
ToldFrom m w byte s fs k =
    (b c : Config) → Rules (model m) (notices_of m w) (all_idle s) (take k fs) b
    → Rules (model m) (notices_of m w) (all_idle s) (take (k + 1) fs) c
    → take 2 (drop byte (point_at m s fs (k + 1))) ≡ set_bytes (λ u. c.notified u && not (b.notified u))

pub record EveryPoint (m : Monitor) (s : ℕ) (fs : List Frame) (buffer : List ℕ) : Type 0 where
  -- point k is there exactly where the plain machine's rules take the first k frames (R 15.4)
  pub count :
      (k : ℕ) → (k < (list_points m s fs buffer).count) ↔ ((k ≤ length fs)
      × ((c : Config) × Rules (model m) (notices_of m plain_machine) (all_idle s) (take k fs) c))
  -- its bytes stand at 49 times k (R 15.5)
  pub each :
      (k : ℕ) → k < (list_points m s fs buffer).count
      → take point_size (drop (point_size * k) (list_points m s fs buffer).buffer) ≡ point_at m s fs k
  -- they are the numbers, places and guards of the point to which the plain machine's rules lead, and who is notified
  -- there, behind which stand those told, the table's part and the turns (R 15.6, 15.7, 15.8, 15.9)
  pub plain :
      (k : ℕ) (c : Config) → k ≤ length fs
      → Rules (model m) (notices_of m plain_machine) (all_idle s) (take k fs) c
      → (rest : List ℕ) × (point_at m s fs k ≡ shared_bytes m c ++ (set_bytes c.notified ++ rest))
  -- wherever the table's rules lead to a point, numbers, places and guards are that point's too (demand 3, as data;
  -- R 12.9), and behind the plain machine's four bytes stand 01 and who is notified by the table (R 15.11)
  pub table :
      (k : ℕ) (d : Config) → k ≤ length fs
      → Rules (model m) (notices_of m table_machine) (all_idle s) (take k fs) d
      → (four rest : List ℕ) × (length four ≡ 4)
      × (point_at m s fs k ≡ shared_bytes m d ++ (four ++ (1 ∷ (set_bytes d.notified ++ rest))))
  -- where they lead to none, five bytes of 00 (R 15.12), and the turns behind
  pub absent :
      (k : ℕ) (c : Config) → k ≤ length fs
      → Rules (model m) (notices_of m plain_machine) (all_idle s) (take k fs) c
      → ((d : Config) → Rules (model m) (notices_of m table_machine) (all_idle s) (take k fs) d → ⊥)
      → (four : List ℕ) × (length four ≡ 4)
      × (point_at m s fs k ≡ shared_bytes m c ++ (four ++ (0 ∷ 0 ∷ 0 ∷ 0 ∷ 0 ∷ turn_bytes c.threads)))
  -- at the end the turns, on the plain machine, and wherever the table's rules lead to a point on the table's (R 15.13)
  pub turns :
      (k : ℕ) (c : Config) (w : Machine) → k ≤ length fs → Rules (model m) (notices_of m w) (all_idle s) (take k fs) c
      → drop 33 (point_at m s fs k) ≡ turn_bytes c.threads
  -- those told by a frame, of each machine (R 15.10, 15.11), and at point 0 none
  pub told :
      (k : ℕ) → k < length fs → ToldFrom m plain_machine 26 s fs k × ToldFrom m table_machine 31 s fs k
  pub none_told :
      (take 2 (drop 26 (point_at m s fs 0)) ≡ 0 ∷ 0 ∷ []) × (take 2 (drop 31 (point_at m s fs 0)) ≡ 0 ∷ 0 ∷ [])
  -- the bytes behind the points are kept (R 15.4)
  pub behind :
      drop (point_size * (list_points m s fs buffer).count) (list_points m s fs buffer).buffer
      ≡ drop (point_size * (list_points m s fs buffer).count) buffer

pub record DemandPoints : Type 0 where
  -- from every state that meets the kept condition, on every list of frames (R 11.1, 11.2)
  pub points :
      (file : List ℕ) (m : Monitor) → check file ≡ accepted m → (s : ℕ) → kept m s ≡ true
      → (fs : List Frame) (buffer : List ℕ) → EveryPoint m s fs buffer
