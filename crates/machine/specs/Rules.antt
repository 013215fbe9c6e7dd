-- The published step rules 1a, 1b, 2a, 2b (source document 001, Figures 4 to 6), as document 01 narrows them and document
-- 02's E4 orders those who wait: a relation, over what states are and over whom a body notifies. At the end, states are
-- numbers: `RulesDecided` shows that the step of `Decide/Step` takes a frame exactly where this relation does. Demand 2
-- has them as values.
use Rattle.std.specs.Prelude.{ℕ, ◌+◌, ◌<◌, ◌≡◌, Bool, true, false, ◌⊎◌, ◌↔◌, List, [], ◌∷◌, ◌++◌, length}
use Rattle.machine.specs.Monitor.{Place, idle, waiting, due, Threads, Monitor, Frame, Point, Config, threads}
use Rattle.machine.specs.Monitor.{line}
use Rattle.machine.specs.Queue.{has, joined, left}
use Rattle.machine.specs.Algorithm1.{Entry, entry}

-- what the rules ask of states of a kind
pub record Semantics (S : Type 0) : Type 1 where
  -- does the guard with a number hold in a state: the source's ⊨ (R 4.9)
  pub holds : ℕ → S → Bool
  -- the body of the region with a number leads from one state to another: the source's ⇓ (R 4.19)
  pub runs : ℕ → S → S → Type 0

-- a set of threads to notify: by the state after a body, the threads then and the region that ran (R 9.23)
abbrev pub NoticesOver : Type 0 → Type 1
NoticesOver S = S → Threads → ℕ → ℕ → Type 0

-- u stands at the front of a line: where the source has min(Events(B, g)), by arrival (R 9.27)
unfoldable pub Front : List ℕ → ℕ → Type 0
Front line u = (behind : List ℕ) × (line ≡ u ∷ behind)

-- u stands in a line, and none of those ahead of it there is one of a set: where the source has min(N), among those of one
-- guard and by arrival (R 9.19, 9.20)
pub record First (line : List ℕ) (among : ℕ → Bool) (u : ℕ) : Type 0 where
  pub ahead : List ℕ
  pub behind : List ℕ
  pub splits : line ≡ ahead ++ (u ∷ behind)
  pub none_ahead : (v : ℕ) → has ahead v ≡ true → among v ≡ true → ⊥

module _ (m : Monitor) where
  -- thread u waits at a region whose guard is g: in the source, one of Events(B, g) (R 9.5)
  unfoldable pub Waits : Threads → ℕ → ℕ → Type 0
  Waits p g u = (w : ℕ) × (p.place u ≡ waiting w) × (m.guard_of w ≡ g)

  module _ {S : Type 0} (sense : Semantics S) where
    -- Figure 4: whom the plain machine notifies (R 9.24)
    unfoldable pub PlainNoticesBy : NoticesOver S
    PlainNoticesBy s p r u = (g : ℕ) × Waits p g u × (sense.holds g s ≡ true)

    -- Figure 6: GetSignals and GetBroadcasts of a table, by what it has for a region and a guard: unconditional or not,
    -- broadcast or signal; a signal picks the front of the line, notified or not (R 9.25, 9.26, 9.28, 9.29)
    unfoldable pub TableNoticesBy : (ℕ → ℕ → Bool → Bool → Type 0) → NoticesOver S
    TableNoticesBy entered s p r u =
        (g : ℕ) × Waits p g u × (a b : Bool) × entered r g a b × ((a ≡ true) ⊎ (sense.holds g s ≡ true))
        × ((b ≡ true) ⊎ Front (line m p g) u)

  -- where a thread may be next (13; R 9.11, 9.12)
  unfoldable pub MayBeAt : Place → ℕ → Type 0
  MayBeAt idle r = (r < m.regions) × (m.begins r ≡ true)
  MayBeAt (waiting w) r = w ≡ r
  MayBeAt (due w) r = w ≡ r

  -- 13, asked of the places alone: nobody else is due, and the thread may be at the region (R 9.9, 9.10)
  pub record May (p : Threads) (f : Frame) : Type 0 where
    pub nobody_due : (u r : ℕ) → u < threads → (u ≡ f.thread → ⊥) → p.place u ≡ due r → ⊥
    pub at_region : MayBeAt (p.place f.thread) f.region

  -- a waiter's place (R 9.5)
  unfoldable pub Waiting : Place → Type 0
  Waiting q = (w : ℕ) × (q ≡ waiting w)

  -- after a frame of thread t, t is at q, nobody else has moved, and the queue is the one given (R 9.16, 9.22, 9.40)
  pub record Moved (p p' : Threads) (t : ℕ) (q : Place) (queue : List ℕ) : Type 0 where
    pub own_place : p'.place t ≡ q
    pub others : (u : ℕ) → (u ≡ t → ⊥) → p'.place u ≡ p.place u
    pub then_queue : p'.queue ≡ queue

  -- exactly those of a set are notified
  unfoldable pub NotifiedAre : (ℕ → Bool) → (ℕ → Type 0) → Type 0
  NotifiedAre n who = (u : ℕ) → (n u ≡ true) ↔ who u

  -- the other threads that were notified before (R 9.17, 9.22)
  unfoldable pub OthersOf : (ℕ → Bool) → ℕ → ℕ → Type 0
  OthersOf n t u = (u ≡ t → ⊥) × (n u ≡ true)

  module _ {S : Type 0} (sense : Semantics S) (notices : NoticesOver S) where
    -- What a body's frame leads to, in 2a and 2b (R 9.21, 9.22, 9.23). Not as in the source's Figure 5: there 2b picks
    -- among those blocked before the frame, the thread that resumes still among them, and takes it out of those picked
    -- at the end, so a signal that picks it is lost. Here, as document 01 says, it leaves its line when it resumes
    -- (`places`), before anybody is picked, so it is never among those notified for the body that it has just run.
    pub record BodyBy (c : Point S) (f : Frame) (c' : Point S) : Type 0 where
      pub state : sense.runs f.region c.state c'.state
      pub places :
          Moved c.threads c'.threads f.thread (m.follows f.region) (left c.threads.queue f.thread)
      pub notified :
          NotifiedAre c'.notified
          (λ u. OthersOf c.notified f.thread u ⊎ notices c'.state c'.threads f.region u)

    -- a rule takes a frame that 13 passes; the flag tells the truth of the guard in the state before (R 9.14, 9.15)
    pub data RuleBy (c : Point S) (f : Frame) (c' : Point S) : Type 0 where
      -- (R 9.16)
      rule_1a :
          May c.threads f → f.flag ≡ false → sense.holds (m.guard_of f.region) c.state ≡ false
          → (Waiting (c.threads.place f.thread) → ⊥)
          → c'.state ≡ c.state
          → Moved c.threads c'.threads f.thread (waiting f.region) (joined c.threads.queue f.thread)
          → NotifiedAre c'.notified (λ u. c.notified u ≡ true) → RuleBy c f c'
      -- (R 9.17)
      rule_1b :
          May c.threads f → f.flag ≡ false → sense.holds (m.guard_of f.region) c.state ≡ false
          → Waiting (c.threads.place f.thread) → c.notified f.thread ≡ true
          → c'.state ≡ c.state → c'.threads ≡ c.threads
          → NotifiedAre c'.notified (OthersOf c.notified f.thread) → RuleBy c f c'
      -- (R 9.18)
      rule_2a :
          May c.threads f → f.flag ≡ true → sense.holds (m.guard_of f.region) c.state ≡ true
          → (Waiting (c.threads.place f.thread) → ⊥) → BodyBy c f c' → RuleBy c f c'
      -- (R 9.19)
      rule_2b :
          May c.threads f → f.flag ≡ true → sense.holds (m.guard_of f.region) c.state ≡ true
          → Waiting (c.threads.place f.thread) → c.notified f.thread ≡ true
          → First (line m c.threads (m.guard_of f.region)) c.notified f.thread
          → BodyBy c f c' → RuleBy c f c'

    -- frames allowed one after the other (the source's rule 3 and its closure; R 9.7)
    pub data RulesBy : Point S → List Frame → Point S → Type 0 where
      no_more : {c : Point S} → RulesBy c [] c
      one_more : {c d c' : Point S} {f : Frame} {fs : List Frame} → RuleBy c f d → RulesBy d fs c'
          → RulesBy c (f ∷ fs) c'

    -- what a frame that is refused by a number breaks: "13 first" (R 9.9, 9.14)
    pub data RefusesBy (c : Point S) (f : Frame) : ℕ → Type 0 where
      may_not : (May c.threads f → ⊥) → RefusesBy c f 13
      no_rule : May c.threads f → ((c' : Point S) → RuleBy c f c' → ⊥) → RefusesBy c f 14

    -- The frames before frame j, counted on from k, are allowed one after the other, and frame j is refused by number a
    -- (R 9.8)
    pub record StopsBy (k : ℕ) (c : Point S) (fs : List Frame) (a j : ℕ) : Type 0 where
      pub front : List Frame
      pub frame : Frame
      pub more : List Frame
      pub point : Point S
      pub splits : fs ≡ front ++ (frame ∷ more)
      pub place : j ≡ k + length front
      pub allow : RulesBy c front point
      pub refuse : RefusesBy point frame a

-- The same where a state is its number (R 3.17)

abbrev pub Notices : Type 1
Notices = NoticesOver ℕ

module _ (m : Monitor) where
  -- a guard is asked of a state's number, and a body leads to the number of the state after it, also where it faults
  -- (R 4.9, 4.19, 4.20)
  abbrev pub numbered : Semantics ℕ
  numbered = record { holds = m.holds; runs = λ r s s'. s' ≡ m.after r s }

  abbrev pub PlainNotices : Notices
  PlainNotices = PlainNoticesBy m numbered

  abbrev pub TableNotices : (ℕ → ℕ → Entry) → Notices
  TableNotices e = TableNoticesBy m numbered (λ r g a b. e r g ≡ entry a b)

  module _ (notices : Notices) where
    abbrev pub Body : Config → Frame → Config → Type 0
    Body = BodyBy m numbered notices

    abbrev pub Rule : Config → Frame → Config → Type 0
    Rule = RuleBy m numbered notices

    abbrev pub Rules : Config → List Frame → Config → Type 0
    Rules = RulesBy m numbered notices

    abbrev pub Refuses : Config → Frame → ℕ → Type 0
    Refuses = RefusesBy m numbered notices

    abbrev pub Stops : ℕ → Config → List Frame → ℕ → ℕ → Type 0
    Stops = StopsBy m numbered notices
