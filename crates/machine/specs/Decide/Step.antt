-- The two machines, computed: one step with a parameter that says whom a body notifies; the plain machine and the
-- table's are its two instances. `proofs/RulesDecided` shows that a step takes a frame exactly where `Rules` does.
use Rattle.std.specs.Prelude.{ℕ, suc, Bool, true, false, not, ◌&&◌, ◌||◌, List, [], ◌∷◌, eqb, ltb}
use Rattle.std.specs.Bool.{beq}
use Rattle.logic.specs.Tests.{any}
use Rattle.machine.specs.Monitor.{Config, Frame, Monitor, Place, Run, Threads, accepted}
use Rattle.machine.specs.Monitor.{due, idle, line, stopped, threads, waiting}
use Rattle.machine.specs.Queue.{joined, left}

-- the places with that of thread t replaced
unfoldable pub put : (ℕ → Place) → ℕ → Place → ℕ → Place
put p t q u = elim (eqb u t) [ true ↦ q | false ↦ p u ]

-- a set of threads without t
unfoldable pub without : (ℕ → Bool) → ℕ → ℕ → Bool
without n t u = not (eqb u t) && n u

unfoldable pub is_due : Place → Bool
is_due idle = false
is_due (waiting r) = false
is_due (due r) = true

unfoldable pub is_waiting : Place → Bool
is_waiting idle = false
is_waiting (waiting r) = true
is_waiting (due r) = false

-- a thread that begins to wait at a region, and one that goes on from a body: all that changes places and the queue
unfoldable pub begin_wait : Threads → ℕ → ℕ → Threads
begin_wait p t r = record { place = put p.place t (waiting r); queue = joined p.queue t }

unfoldable pub leave : Threads → ℕ → Place → Threads
leave p t q = record { place = put p.place t q; queue = left p.queue t }

-- thread u stands at the front of a line
unfoldable pub at_front : List ℕ → ℕ → Bool
at_front [] u = false
at_front (v ∷ vs) u = eqb v u

-- thread u stands in a line, and none of those ahead of it passes a test
unfoldable pub first_in : List ℕ → (ℕ → Bool) → ℕ → Bool
first_in [] among u = false
first_in (v ∷ vs) among u = eqb v u || (not (among v) && first_in vs among u)

-- what becomes of one frame
pub data Outcome : Type 0 where
  moved : Config → Outcome
  refused : ℕ → Outcome

-- Whom a body notifies: by the state after it, the threads then, the region that ran, and the thread asked about
abbrev pub Told : Type 0
Told = ℕ → Threads → ℕ → ℕ → Bool

module _ (m : Monitor) where
  -- thread u is next in line on guard g: "A guard's first waiter"
  unfoldable pub next : Threads → ℕ → ℕ → Bool
  next p g u = at_front (line m p g) u

  -- t stands in the line on guard g, and none ahead of it there is notified
  unfoldable pub first_notified : Threads → (ℕ → Bool) → ℕ → ℕ → Bool
  first_notified p n g t = first_in (line m p g) n t

  -- the guard of the region at which a thread waits holds
  unfoldable pub own : ℕ → Place → Bool
  own s idle = false
  own s (waiting w) = m.holds (m.guard_of w) s
  own s (due w) = false

  -- "the plain machine notifies every waiter whose guard holds"
  unfoldable pub plain_told : Told
  plain_told s p r u = own s (p.place u)

  -- where a thread may be next: "an idle thread may enter the first region of a method, and a waiting one names only
  -- its own region"
  unfoldable pub may_be_at : Place → ℕ → Bool
  may_be_at idle r = ltb r m.regions && m.begins r
  may_be_at (waiting w) r = eqb w r
  may_be_at (due w) r = eqb w r

  -- 13 where this is false: "A due thread must send the next frame"
  unfoldable pub may : Threads → Frame → Bool
  may p f =
      not (any threads (λ u. not (eqb u f.thread) && is_due (p.place u)))
      && may_be_at (p.place f.thread) f.region

  module _ (told : Told) where
    -- "After a body the thread is no waiter and not notified"; then others are notified
    unfoldable pub ran : Config → Frame → Config
    ran c f =
        let s' = m.after f.region c.state in
        let p' = leave c.threads f.thread (m.follows f.region) in
        record {
          state = s';
          threads = p';
          notified = λ u. without c.notified f.thread u || told s' p' f.region u;
        }

    -- "With 00 a thread that was not waiting waits"
    unfoldable pub waited : Config → Frame → Config
    waited c f =
        record { state = c.state; threads = begin_wait c.threads f.thread f.region; notified = c.notified }

    -- a recheck: "that notice is used up"
    unfoldable pub rechecked : Config → Frame → Config
    rechecked c f = record { state = c.state; threads = c.threads; notified = without c.notified f.thread }

    unfoldable pub allowed : Bool → Config → Outcome
    allowed true c = moved c
    allowed false c = refused 14

    -- the rules for a frame whose flag equals the guard's truth: is the thread waiting, and the flag
    unfoldable pub act : Config → Frame → Bool → Bool → Outcome
    act c f false false = moved (waited c f)
    act c f false true = moved (ran c f)
    act c f true false = allowed (c.notified f.thread) (rechecked c f)
    act c f true true =
        let first = first_notified c.threads c.notified (m.guard_of f.region) f.thread in
        allowed (c.notified f.thread && first) (ran c f)

    -- 13 first, then the flag, then the rules
    unfoldable pub judged : Config → Frame → Bool → Bool → Outcome
    judged c f false b = refused 13
    judged c f true false = refused 14
    judged c f true true = act c f (is_waiting (c.threads.place f.thread)) f.flag

    unfoldable pub step : Config → Frame → Outcome
    step c f =
        judged c f (may c.threads f) (beq f.flag (m.holds (m.guard_of f.region) c.state))

-- "A refused frame ends that machine's run of the list"; frames are counted on from k
unfoldable pub run : Monitor → Told → ℕ → Config → List Frame → Run
run m told k c [] = accepted c
run m told k c (f ∷ fs) = elim (step m told c f) [ moved d ↦ run m told (suc k) d fs | refused a ↦ stopped a k ]
