-- `stepper::resumes` meets its contract: a notice, and no lowest one among those ahead that have one, so none at all.
use Prim.Native.Nat.{ℕ, ◌<◌}
use mathlib.Core.Path.{◌≡◌, refl, sym, ap₂, ◌∙◌}
use mathlib.Core.Bool.{Bool, true, false, ◌&&◌}
use mathlib.Core.List.{List}
use native.Mathlib.Omega.{arith}
use lib.Dec.{eqb}
use borrow.Author.Tests.{eqb-true, eqb-false}
use Rattle.sets.specs.Set.{member}
use Rattle.logic.proofs.Bools.{both, and}
use Rattle.machine.specs.Decide.Step.{first_in}
use Rattle.stepper.specs.Parts.{verdict, AheadOf}
use Rattle.stepper.proofs.Front.{first_free, first_taken}
use Rattle.stepper.proofs.resumes.Goals as goal
use Rattle.stepper.proofs.resumes.Goals.{After-taken_if}

-- a notice and the first place are asked together
asked_together : (n f : Bool) → verdict true true true false (n && f) true ≡ verdict true true true true n f
unfolding verdict
asked_together true true = refl
asked_together true false = refl
asked_together false true = refl
asked_together false false = refl

-- the lowest of those ahead that have one tells whether there is one
first_is : (c : After-taken_if) (line : List ℕ) → let a = c.args in AheadOf line a.t a.ahead → (b : Bool) → eqb c.lowest.result 16 ≡ b
    → b ≡ first_in line (member a.notified) a.t
first_is c line ahead true e =
    let a = c.args in
    let low = eqb-true c.lowest.result 16 e in
    sym (first_free ahead (member a.notified) (λ u h k t. c.lowest.ensures.least u (omega arith) (c.both.ensures u ∙ and k t)))
first_is c line ahead false e =
    let a = c.args in
    let low = c.lowest.result in
    let other = eqb-false low 16 e in
    let small : low < 16 = omega (arith, c.lowest.ensures.within) in
    let x = both (member a.ahead low) (member a.notified low) (sym (c.both.ensures low) ∙ c.lowest.ensures.found small) in
    sym (first_taken ahead (member a.notified) low small x.0 x.1)

pub returns : goal.returns
returns c line ahead =
    let a = c.args in
    c.taken_if.ensures
    ∙ ap₂ (λ (n f : Bool). verdict true true true false (n && f) true) c.has.ensures
    (first_is (goal.at.returns c).After-taken_if line ahead (eqb c.lowest.result 16) refl)
    ∙ asked_together (member a.notified a.t) (first_in line (member a.notified) a.t)
