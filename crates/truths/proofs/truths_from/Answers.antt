-- `truths::truths_from` meets its contract. The loop's invariant: the truths of the conditions below g are known, and the
-- others are as they were.
use Prim.Native.Nat.{ℕ, ◌+◌, ◌<◌}
use native.Mathlib.Omega.{arith}
use mathlib.Core.Path.{◌≡◌, refl, ◌∙◌}
use mathlib.Core.List.{List}
use lib.ListN.{length, get_or}
use Rattle.sets.specs.Set.{member}
use Rattle.syntax.specs.Tree.{Var, Cond}
use Rattle.meaning.specs.Value.{truth}
use Rattle.meaning.specs.State.{count, state_at}
use Rattle.meaning.specs.Model.{no_guard}
use Rattle.variables.specs.declared.Bounds.{Bounds}
use Rattle.states.specs.Rows.{ConditionsAt}
use Rattle.lanes.specs.Promises.{Sixteen, Values}
use Rattle.logic.proofs.Lists.{passed}
use Rattle.truths.specs.Carried.{Conditions, CarriedAll}
use Rattle.truths.proofs.truths_from.Goals as goal
use Rattle.truths.proofs.truths_from.Goals.{then-anew, else-anew, Joined-anew}

pub loop-g-init : goal.loop-g-init
loop-g-init c = (omega arith, refl, λ j u h low. refl, λ vs cs bounds from given l k u h. absurd (omega arith))

-- what a turn leaves
others : (c : Joined-anew) →
    let i = c.loop-g in
    (j u : ℕ) → j < 16 → (u ≡ i.g → ⊥) → member (get_or c.if-anew.sets j 0) u ≡ member (get_or i.sets j 0) u
others c j u h n = elim c.if-anew.branch [
  | then-anew w ↦ rw w.sets-is (w.spread.ensures.others j u h n)
  | else-anew w ↦ rw w.sets-is refl
]

-- and what it makes of condition g
here : (c : Joined-anew) →
    let i = c.loop-g in
    let a = c.args in
    (vs : List Var) (cs : List Cond) (bounds : Bounds) (from : ℕ)
    → Conditions vs cs a.kinds.now a.values.now bounds a.texts.ats a.texts.named a.texts.count
    → Sixteen vs (Values vs a.lanes.now) from
    → CarriedAll vs cs a.texts.named a.changed a.sets.now from
    → (j : ℕ) → j < 16 → from + j < count vs
    → member (get_or c.if-anew.sets j 0) i.g ≡ truth (get_or cs i.g no_guard) vs (state_at vs (from + j))
unfolding ConditionsAt CarriedAll
here c vs cs bounds from given lanes carried j h low =
    let i = c.loop-g in
    let below : i.g < length cs = omega (arith, given.counted) in
    let t = given.places i.g below in
    elim c.if-anew.branch [
      | then-anew w ↦ rw w.sets-is (w.spread.ensures.here j h
          ∙ w.holds.ensures vs (state_at vs (from + j)) given.ls t.0 (get_or cs i.g no_guard) j h given.codes
          (lanes.each j h low) (rw w.from-at.ensures t.1) t.2 (omega (arith, given.few)))
      | else-anew w ↦ let e = c.anew.ensures w.if-anew.false in
          rw w.sets-is (i.invariant.2 j i.g h (omega arith) ∙ (carried i.g below).each e j h low)
    ]

pub loop-g-preserved : goal.loop-g-preserved
loop-g-preserved c =
    let i = c.loop-g in (
      omega arith,
      elim c.if-anew.branch [
        | then-anew w ↦ rw w.sets-is (w.spread.auto.sets ∙ i.invariant.1)
        | else-anew w ↦ rw w.sets-is i.invariant.1
      ],
      λ j u h low. others (goal.at.loop-g-preserved c).Joined-anew j u h (λ e. omega arith) ∙ i.invariant.2 j u h (omega arith),
      λ vs cs bounds from given lanes carried.
          passed (λ u. (j : ℕ) → j < 16 → from + j < count vs
          → member (get_or c.if-anew.sets j 0) u ≡ truth (get_or cs u no_guard) vs (state_at vs (from + j))) i.g
          (λ u below j h low. others (goal.at.loop-g-preserved c).Joined-anew j u h (λ e. omega arith)
          ∙ i.invariant.3 vs cs bounds from given lanes carried u below j h low)
          (here (goal.at.loop-g-preserved c).Joined-anew vs cs bounds from given lanes carried),
    )

pub shape_of-sets : goal.shape_of-sets
shape_of-sets c = c.loop-g.invariant.1

pub returns : goal.returns
returns c vs cs bounds from given lanes carried =
    record {
      each = λ j h low u below. c.loop-g.invariant.3 vs cs bounds from given lanes carried u
          (omega (arith, given.counted)) j h low;
    }
