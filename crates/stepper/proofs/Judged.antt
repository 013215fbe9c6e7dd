-- What number answers a frame, by what the code has tested: a law for each answer. Each is the verdict at the Booleans
-- that the tests give.
use Prim.Native.Nat.{ℕ}
use mathlib.Core.Path.{◌≡◌, refl, ap, ap₂, ◌∙◌}
use mathlib.Core.Bool.{Bool, true, false, not, ◌&&◌, beq, and-false}
use mathlib.Core.List.{List, []}
use lib.Dec.{eqb}
use borrow.Author.Tests.{eqb-true, eq-eqb}
use Rattle.machine.specs.Monitor.{Place, idle, waiting, due, Monitor, Config, Frame, threads, on_guard}
use Rattle.logic.specs.Tests.{any}
use Rattle.machine.specs.Decide.Step.{is_due, is_waiting, may_be_at, may, first_notified}
use Rattle.waiters.specs.Slices.{slices}
use Rattle.stepper.specs.Parts.{verdict, verdict_of}

-- a look-up asks nothing of the other slices
pub begins_alone : (hs as' gs bs os : List ℕ) (n : ℕ) (q : Place) (r : ℕ)
    → may_be_at (slices hs as' gs bs os n) q r ≡ may_be_at (slices [] [] [] bs [] n) q r
unfolding may_be_at
begins_alone hs as' gs bs os n idle r = refl
begins_alone hs as' gs bs os n (waiting w) r = refl
begins_alone hs as' gs bs os n (due w) r = refl

-- a waiter that may be at a region waits on that region's guard
pub waits_there : (m : Monitor) (q : Place) (r : ℕ) → may_be_at m q r ≡ true → is_waiting q ≡ true
    → on_guard m (m.guard_of r) q ≡ true
unfolding may_be_at is_waiting on_guard
waits_there m idle r a w = w
waits_there m (waiting w) r a _ = eq-eqb (m.guard_of w) (m.guard_of r) (ap m.guard_of (eqb-true w r a))
waits_there m (due w) r a e = e

as_is : (b : Bool) → b ≡ b
as_is b = refl

pub same_verdict : {a a' b b' w w' f f' n n' k k' : Bool} → a ≡ a' → b ≡ b' → w ≡ w' → f ≡ f' → n ≡ n' → k ≡ k'
    → verdict a b w f n k ≡ verdict a' b' w' f' n' k'
same_verdict p q r s t u = cc

module _ (m : Monitor) (c : Config) (f : Frame) where
  abbrev there : Bool
  there = may m c.threads f

  abbrev same : Bool
  same = beq f.flag (m.holds (m.guard_of f.region) c.state)

  abbrev waits : Bool
  waits = is_waiting (c.threads.place f.thread)

  abbrev notice : Bool
  notice = c.notified f.thread

  abbrev first : Bool
  first = first_notified m c.threads c.notified (m.guard_of f.region) f.thread

  abbrev others : Bool
  others = any 16 (λ u. not (eqb u f.thread) && is_due (c.threads.place u))

  -- the thread may be at the region
  pub may_be : others ≡ false → may_be_at m (c.threads.place f.thread) f.region ≡ true → there ≡ true
  unfolding may threads
  may_be o b = ap₂ (λ (x y : Bool). not x && y) o b

  pub absent : there ≡ false → verdict_of m c f ≡ 13
  unfolding verdict_of verdict
  absent t = same_verdict t (as_is same) (as_is waits) (as_is f.flag) (as_is notice) (as_is first)

  pub other_is_due : others ≡ true → verdict_of m c f ≡ 13
  unfolding may threads
  other_is_due o = absent (ap (λ (x : Bool). not x && may_be_at m (c.threads.place f.thread) f.region) o)

  pub not_there : may_be_at m (c.threads.place f.thread) f.region ≡ false → verdict_of m c f ≡ 13
  unfolding may threads
  not_there b = absent (ap (λ (x : Bool). not others && x) b ∙ and-false (not others))

  pub other_flag : there ≡ true → same ≡ false → verdict_of m c f ≡ 14
  unfolding verdict_of verdict
  other_flag t s = same_verdict t s (as_is waits) (as_is f.flag) (as_is notice) (as_is first)

  pub not_waiting : there ≡ true → same ≡ true → waits ≡ false → verdict_of m c f ≡ 0
  unfolding verdict_of verdict
  not_waiting t s w = same_verdict t s w (as_is f.flag) (as_is notice) (as_is first)

  -- what is left to ask of a waiting thread: its notice, and with 01 those ahead of it
  pub waits_here : there ≡ true → same ≡ true → waits ≡ true → verdict_of m c f ≡ verdict true true true f.flag notice first
  unfolding verdict_of
  waits_here t s w = same_verdict t s w (as_is f.flag) (as_is notice) (as_is first)

-- of a recheck nobody asks who stands ahead
pub none_ahead : (notice first : Bool) → verdict true true true false notice true ≡ verdict true true true false notice first
unfolding verdict
none_ahead true first = refl
none_ahead false first = refl
