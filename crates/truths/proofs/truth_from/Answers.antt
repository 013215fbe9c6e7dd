-- `truths::truth_from` meets its contract.
use native.Mathlib.Omega.{arith}
use Rattle.meaning.specs.State.{state_at}
use Rattle.truths.proofs.truth_from.Goals as goal

pub returns-then-anew : goal.returns-then-anew
returns-then-anew c vs d bounds from given lanes carried =
    record {
      each =
          λ j h low.
          c.holds.ensures vs (state_at vs _) given.ls given.us d j h given.codes (lanes.each j h low)
          given.spelled given.ends (omega (arith, given.few));
    }

pub returns : goal.returns
returns c vs d bounds from given lanes carried =
    let t = c.anew.ensures c.if-anew.false in
    record { each = λ j h low. carried.each t j h low }
