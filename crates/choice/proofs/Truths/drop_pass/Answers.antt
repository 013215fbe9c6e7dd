-- `choice::Truths::drop_pass` meets its contract. The loop's invariant: each try's slot is as the regions below r leave it.
use Prim.Native.Nat.{◌+◌, ◌-◌, ◌*◌}
use native.Mathlib.Omega.{arith}
use mathlib.Core.Path.{sym, ◌∙◌}
use Rattle.choice.specs.Slots.{slot_of}
use Rattle.choice.proofs.Binding.{rows_none, rows_next, rows_same}
use Rattle.choice.proofs.Truths.drop_pass.Goals as goal

pub loop-r-init : goal.loop-r-init
loop-r-init c = (omega arith, λ u low. sym (rows_none _ _ _ _))

pub loop-r-preserved : goal.loop-r-preserved
loop-r-preserved c =
    let i = c.loop-r in
    let a = c.args in (
      omega arith,
      λ u low. rows_next a.after.now a.guard_of a.self.keep.now a.self.holds.now a.self.tried.now a.set u i.r
          a.states (i.r * 4096 + 4096 - i.r * 4096) a.pass (slot_of a.before u) (slot_of i.choice u) _
          (i.invariant.1 u low) (c.drop_row-choice.ensures u low) (omega arith) (omega arith),
    )

pub returns : goal.returns
returns c u low = c.loop-r.invariant.1 u low ∙ rows_same _ _ _ _ (omega arith)
