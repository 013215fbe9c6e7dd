-- Waiters by arrival (document 02, E4), in words: who is in the queue, what the turns are at a point, what the lines are by
-- them, what a frame makes of them, that their order is the one in which the threads began to wait, told from the frames
-- alone, and the count.
-- `proofs/Reached`, `Turns`, `Arrival` and `Count` show it of the rules.
use Rattle.std.specs.Prelude.{ℕ, suc, ◌<◌, ◌≡◌, Bool, true, false, ◌↔◌, List, [], ◌∷◌, ◌++◌, length}
use Rattle.machine.specs.Monitor.{Threads, Monitor, Frame, Config, turn, line}
use Rattle.machine.specs.Queue.{has, place_in}
use Rattle.machine.specs.Rules.{Notices, Waits, Waiting, Front, First, Rule, Rules}
use Rattle.machine.specs.Recheck.{SentLast00}

-- no member of a list stands in it twice
unfoldable pub Once : List ℕ → Type 0
Once [] = Unit {0}
Once (v ∷ vs) = (has vs v ≡ false) × Once vs

-- f rises along a list
unfoldable pub Rising : (ℕ → ℕ) → List ℕ → Type 0
Rising f [] = Unit {0}
Rising f (v ∷ vs) = ((u : ℕ) → has vs u ≡ true → f v < f u) × Rising f vs

module _ (m : Monitor) where
  -- exactly those who wait are in the queue, each once (R 9.37)
  pub record Lined (p : Threads) : Type 0 where
    pub once : Once p.queue
    pub waits : (u : ℕ) → (has p.queue u ≡ true) ↔ Waiting m (p.place u)

  -- the turns of those who wait are 0 to their count less one, each once; an idle or due thread has turn 0
  -- (R 9.38, 9.39)
  pub record Turns (p : Threads) : Type 0 where
    pub below : (u : ℕ) → Waiting m (p.place u) → turn p u < length p.queue
    pub each : (k : ℕ) → k < length p.queue → (u : ℕ) × Waiting m (p.place u) × (turn p u ≡ k)
    pub once : (u v : ℕ) → Waiting m (p.place u) → Waiting m (p.place v) → turn p u ≡ turn p v → u ≡ v
    pub none : (u : ℕ) → (Waiting m (p.place u) → ⊥) → turn p u ≡ 0

  -- The lines, by turns
  pub record Lines (p : Threads) : Type 0 where
    -- the line on a guard has those who wait on it, in the order of their turns, so each once (R 9.27)
    pub members : (g u : ℕ) → (has (line m p g) u ≡ true) ↔ Waits m p g u
    pub rising : (g : ℕ) → Rising (turn p) (line m p g)
    -- at its front stands the one with the lowest turn (R 9.27)
    pub front : (g u : ℕ) → Front (line m p g) u
        ↔ (Waits m p g u × ((v : ℕ) → Waits m p g v → turn p v < turn p u → ⊥))
    -- "the earliest to begin waiting is chosen": one who waits on the guard is first with respect to a set exactly if
    -- nobody of that set who waits there has a lower turn (R 9.19)
    pub first : (n : ℕ → Bool) (g u : ℕ) → First (line m p g) n u
        ↔ (Waits m p g u × ((v : ℕ) → Waits m p g v → n v ≡ true → turn p v < turn p u → ⊥))

  -- what a frame makes of them (R 9.40)
  pub record TurnsAfter (p : Threads) (f : Frame) (p' : Threads) : Type 0 where
    -- an idle or due thread that gets 00 begins to wait then, and stands last
    pub begins : f.flag ≡ false → (Waiting m (p.place f.thread) → ⊥) → turn p' f.thread ≡ length p.queue
    -- unless a waiter resumes, nobody else's turn changes
    pub others_stay :
        (u : ℕ) → (u ≡ f.thread → ⊥) → (Waiting m (p.place f.thread) → f.flag ≡ false) → turn p' u ≡ turn p u
    -- "A recheck keeps its place in the queue"
    pub recheck_stays :
        f.flag ≡ false → Waiting m (p.place f.thread) → turn p' f.thread ≡ turn p f.thread
    -- where a waiter resumes, those ahead of it keep their turns and those behind close up by one
    pub ahead_stay :
        (u : ℕ) → f.flag ≡ true → Waiting m (p.place f.thread) → Waiting m (p.place u)
        → turn p u < turn p f.thread → turn p' u ≡ turn p u
    pub behind_close :
        (u : ℕ) → f.flag ≡ true → Waiting m (p.place f.thread) → Waiting m (p.place u)
        → turn p f.thread < turn p u → suc (turn p' u) ≡ turn p u

-- every frame of thread u has the flag 00
unfoldable pub Only00 : ℕ → List Frame → Type 0
Only00 u [] = Unit {0}
Only00 u (f ∷ fs) = (f.thread ≡ u → f.flag ≡ false) × Only00 u fs

-- frame i is the one by which thread u began to wait, told from the frames: its flag is 00, u did not wait before it
-- (`before` tells whether it did), and u has sent no 01 since (R 9.37, 11.7)
pub record BeganBy (before : List Frame → ℕ → Type 0) (fs : List Frame) (u i : ℕ) : Type 0 where
  pub front : List Frame
  pub frame : Frame
  pub later : List Frame
  pub splits : fs ≡ front ++ (frame ∷ later)
  pub place : length front ≡ i
  pub sent : frame.thread ≡ u
  pub flag : frame.flag ≡ false
  pub new : before front u → ⊥
  pub since : Only00 u later

abbrev pub Began : List Frame → ℕ → ℕ → Type 0
Began = BeganBy SentLast00

-- after a list of frames each waiter began to wait by one of them, and turns are in the order of these frames (R 9.38)
pub record InOrder (m : Monitor) (fs : List Frame) (p : Threads) : Type 0 where
  pub began : (u : ℕ) → Waiting m (p.place u) → (i : ℕ) × Began fs u i
  pub order :
      (u v i j : ℕ) → Waiting m (p.place u) → Waiting m (p.place v) → Began fs u i → Began fs v j
      → (turn p u < turn p v) ↔ (i < j)

-- The count

module _ (m : Monitor) where
  -- by the frame a waiter on guard g resumes; idle and due threads that run do not (R 9.41)
  unfoldable pub Resumes : ℕ → Config → Frame → Type 0
  Resumes g c f = Waits m c.threads g f.thread × (f.flag ≡ true)

  -- those of a list are exactly the ones ahead of t on guard g, each once, in the order of their turns (R 9.41)
  pub record ExactlyAhead (g : ℕ) (p : Threads) (t : ℕ) (us : List ℕ) : Type 0 where
    pub exactly : (u : ℕ) → (has us u ≡ true) ↔ (Waits m p g u × (turn p u < turn p t))
    pub in_turn : Rising (turn p) us
    -- "k others ahead on its guard": as many as stand ahead of it in the line
    pub how_many_is : length us ≡ place_in (line m p g) t

module _ (m : Monitor) (notices : Notices) where
  -- the rules lead from one point to another, and on the way the threads of a list resume on guard g, in its order, and
  -- nobody else does (R 9.41)
  pub data Resuming (g : ℕ) : Config → List Frame → Config → List ℕ → Type 0 where
    no_frame : {c : Config} → Resuming g c [] c []
    resumes :
        {c d e : Config} {f : Frame} {fs : List Frame} {us : List ℕ} → Rule m notices c f d → Resumes m g c f
        → Resuming g d fs e us → Resuming g c (f ∷ fs) e (f.thread ∷ us)
    nobody_resumes :
        {c d e : Config} {f : Frame} {fs : List Frame} {us : List ℕ} → Rule m notices c f d → (Resumes m g c f → ⊥)
        → Resuming g d fs e us → Resuming g c (f ∷ fs) e us

  -- every run has such a list (R 9.41)
  unfoldable pub Listed : Config → Type 0
  Listed c = (g : ℕ) (fs : List Frame) (d : Config) → Rules m notices c fs d → (us : List ℕ) × Resuming g c fs d us

  -- "resumes, if it does, after exactly those k have resumed on that guard", from any point at which t waits on g
  -- (R 9.41)
  unfoldable pub Counts : Config → Type 0
  Counts c =
      (t g : ℕ) → Waits m c.threads g t → (fs : List Frame) (d : Config) (us : List ℕ) → Resuming g c fs d us
      → Only00 t fs → (f : Frame) (e : Config) → Rule m notices d f e → f.thread ≡ t → f.flag ≡ true
      → ExactlyAhead m g c.threads t us
