-- `allowed::choose` meets its contract: the frame of a thread that is due, none, or the one at the draw's place among those of
-- all threads.
use Prim.Native.Nat.{ℕ, ◌%◌, ◌<◌}
use native.Mathlib.Omega.{arith}
use native.Mathlib.Nat.{mod-eq_of_lt, mod-lt}
use mathlib.Core.Path.{◌≡◌, sym, ap, ◌∙◌, subst}
use mathlib.Core.Bool.{false}
use Rattle.std.specs.Prelude.{Some, None}
use Rattle.logic.proofs.Bools.{different}
use Rattle.machine.specs.Decide.Step.{is_due}
use Rattle.threads.specs.Held.{places_of, idle_thread}
use Rattle.stepper.proofs.ByHeld.{shows_queued}
use Rattle.allowed.specs.Offered.{sum_each, offered_at, region_by, PickedAt}
use Rattle.stepper.specs.declared.Run.{Run}
use Rattle.allowed.specs.declared.Methods.{Methods}
use Rattle.allowed.specs.declared.Spot.{Spot}
use Rattle.allowed.proofs.Taking.{taken_due, taken_none, taken_picked}
use Rattle.allowed.proofs.choose.Goals as goal
use Rattle.allowed.proofs.choose.Goals.{After-is_due}

-- whether the thread of the last frame is due
due_now : (c : After-is_due) → c.args.last < 16
    → c.is_due.result ≡ is_due (places_of c.args.run.threads.each c.args.last)
unfolding places_of idle_thread
due_now c h = rw c.from.ensures at c.is_due.ensures ∙ ap (λ (t : ℕ). is_due (places_of c.args.run.threads.each t)) (mod-eq_of_lt h)

pub returns-then-is_due : goal.returns-then-is_due
unfolding places_of idle_thread
returns-then-is_due c m d kept after held methods none few at =
    let a = c.args in
    let b = at.below in
    let low : a.last < 16 = omega arith in
    let f = c.frame_at.ensures in
    taken_due m d kept a.holds.now after a.guard_of.now held a.n a.last a.run few at
    (sym (due_now (goal.at.returns-then-is_due c).After-is_due low) ∙ c.if-is_due.true) a.methods.first c.region_at.result
    (rw c.from.ensures at c.region_at.ensures
    ∙ ap (λ (k : ℕ). region_by (places_of a.run.threads.each k) 0 a.methods.first) (mod-eq_of_lt low)) a.draw c.frame_at.result f.0 f.1 f.2

pub count-all-requires : goal.count-all-requires
count-all-requires c = omega (arith, c.min-known.ensures)

pub returns-then-all-eq0 : goal.returns-then-all-eq0
returns-then-all-eq0 c m d kept after held methods none few at =
    let a = c.args in
    let b = at.below in
    let low : a.last < 16 = omega arith in
    let same : c.min-known.result ≡ a.n = omega (arith, c.min-known.ensures) in
    let counts = offered_at a.run.threads.each a.methods.count c.fronts_of-fronts.result in
    taken_none m d kept a.holds.now after a.guard_of.now held a.n a.last a.run few at a.methods methods
    c.fronts_of-fronts.result
    (c.fronts_of-fronts.ensures (shows_queued m false a.run d at.reached.lined at.shows) none)
    (sym (due_now (goal.at.returns-then-all-eq0 c).After-is_due low) ∙ c.if-is_due.false)
    (ap (λ (t : ℕ). sum_each t counts) (sym same) ∙ sym c.count-all.ensures ∙ c.if-all-eq0.true) a.draw

-- what is picked, by what was handed in
abbrev Picked : Run → Methods → ℕ → ℕ → ℕ → Spot → Type 0
Picked run methods n fronts i spot = PickedAt run.threads.each n methods.count methods.first fronts i spot

pub pick-requires : goal.pick-requires
pick-requires c = omega (arith, c.min-known.ensures)

pub returns : goal.returns
returns c m d kept after held methods none few at =
    let a = c.args in
    let b = at.below in
    let low : a.last < 16 = omega arith in
    let same : c.min-known.result ≡ a.n = omega (arith, c.min-known.ensures) in
    let fronts = c.fronts_of-fronts.result in
    let counts = offered_at a.run.threads.each a.methods.count fronts in
    let all : sum_each a.n counts ≡ c.count-all.result = ap (λ (t : ℕ). sum_each t counts) (sym same) ∙ sym c.count-all.ensures in
    let found = c.pick.ensures (subst (λ (j : ℕ). a.draw % c.count-all.result < j) c.count-all.ensures
    (mod-lt a.draw {m = c.count-all.result} (omega (arith, c.if-all-eq0.false)))) in
    let picked : Some c.in_ok-spot.spot ≡ Some found.spot = sym c.in_ok-spot.was ∙ found.found in
    let same_spot : c.in_ok-spot.spot ≡ found.spot = cc (picked) in
    let f = c.frame_at-2.ensures in
    taken_picked m d kept a.holds.now after a.guard_of.now held a.n a.last a.run few at a.methods methods
    c.fronts_of-fronts.result
    (c.fronts_of-fronts.ensures (shows_queued m false a.run d at.reached.lined at.shows) none)
    (sym (due_now (goal.at.returns c).After-is_due low) ∙ c.if-is_due.false) a.draw c.in_ok-spot.spot
    c.frame_at-2.result (λ z. c.if-all-eq0.false (sym all ∙ z))
    (subst (λ (j : ℕ). Picked a.run a.methods a.n fronts j c.in_ok-spot.spot) (ap (λ (j : ℕ). a.draw % j) (sym all))
    (subst (λ (t : ℕ). Picked a.run a.methods t fronts (a.draw % c.count-all.result) c.in_ok-spot.spot) same
    (subst (λ (s : Spot). Picked a.run a.methods c.min-known.result fronts (a.draw % c.count-all.result) s) (sym same_spot) found.picked)))
    f.0 f.1 f.2

-- a frame is found at a place among all
pub returns-in_err-spot : goal.returns-in_err-spot
returns-in_err-spot c m d kept after held methods none few at =
    let found = c.pick.ensures (subst (λ (j : ℕ). c.args.draw % c.count-all.result < j) c.count-all.ensures
    (mod-lt c.args.draw {m = c.count-all.result} (omega (arith, c.if-all-eq0.false)))) in
    let no_spot : None ≡ Some found.spot = sym c.in_err-spot.was ∙ found.found in
    different (cc (no_spot))
