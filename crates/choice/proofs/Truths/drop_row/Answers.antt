-- `choice::Truths::drop_row` meets its contract. The loop's invariant: each try's slot is as the states below s leave it.
use Prim.Native.Nat.{ℕ}
use native.Mathlib.Omega.{arith}
use mathlib.Core.Path.{refl, sym, ap, ◌∙◌}
use mathlib.Core.Bool.{false}
use Rattle.sets.specs.Set.{member}
use Rattle.sets.proofs.SetLaws.{member_none}
use Rattle.choice.specs.Slots.{slot_of}
use Rattle.choice.proofs.Binding.{row_none, next_slot, row_same, broken_bit, unbroken_bit, mark_off}
use Rattle.choice.proofs.Truths.drop_row.Goals as goal
use Rattle.choice.proofs.Truths.drop_row.Goals.{then-binds+then-lost-ne0, then-binds+else-lost-ne0, else-binds}

pub loop-s-init : goal.loop-s-init
loop-s-init c = (omega arith, λ u low. sym (row_none _ _ _ _))

pub loop-s-preserved : goal.loop-s-preserved
unfolding slot_of
loop-s-preserved c =
    let i = c.loop-s in
    let a = c.args in
    let to = c.at-to in (
      omega arith,
      λ u low. elim c.if-binds.branch [
        | then-binds+then-lost-ne0 w ↦
            next_slot i.s _ a.pass a.region _ (slot_of i.choice u) _ (member w.minus-lost.result u) (i.invariant.1 u low)
            (broken_bit a.row.now a.self.keep.now a.self.holds.now a.self.tried.now a.guard a.set u i.s
            to.result to.ensures i.choice.chosen w.at.result w.minus-lost.result
            (sym c.binds.ensures ∙ w.if-binds.true) w.at.ensures (w.minus-lost.ensures u))
            (rw w.choice-is (w.drop_all-choice.ensures u low))
        | then-binds+else-lost-ne0 w ↦
            next_slot i.s _ a.pass a.region _ (slot_of i.choice u) _ false (i.invariant.1 u low)
            (broken_bit a.row.now a.self.keep.now a.self.holds.now a.self.tried.now a.guard a.set u i.s
            to.result to.ensures i.choice.chosen w.at.result w.minus-lost.result
            (sym c.binds.ensures ∙ w.if-binds.true) w.at.ensures (w.minus-lost.ensures u)
            ∙ ap (λ (x : ℕ). member x u) w.if-lost-ne0.false ∙ member_none u)
            (rw w.choice-is (sym (mark_off _ _ _ _ refl)))
        | else-binds w ↦
            next_slot i.s _ a.pass a.region _ (slot_of i.choice u) _ false (i.invariant.1 u low)
            (unbroken_bit a.row.now a.self.keep.now a.self.holds.now a.self.tried.now a.guard a.set u i.s
            to.result to.ensures (member i.choice.chosen u) (sym c.binds.ensures ∙ w.if-binds.false))
            (rw w.choice-is (sym (mark_off _ _ _ _ refl)))
      ],
    )

pub returns : goal.returns
returns c u low = c.loop-s.invariant.1 u low ∙ row_same _ _ _ _ (omega arith)
