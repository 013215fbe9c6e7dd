-- `points::write_point` meets its contract: the look-ups and the calls are the parts of the point.
use native.Mathlib.Omega.{arith}
use mathlib.Core.Path.{sym, ap, ◌∙◌}
use lib.ListN.{length}
use Rattle.meaning.specs.Model.{vars, model}
use Rattle.digits.proofs.Writing.{written_same}
use Rattle.point.proofs.Lengths.{point_length}
use Rattle.points.proofs.Shown.{state_below, point_absent, point_there}
use Rattle.run.specs.Way.{stop_number}
use Rattle.run.proofs.FrameByFrame.{some_number}
use Rattle.points.proofs.write_point.Goals as goal
use Rattle.points.proofs.write_point.Goals.{in-Some, in-None}

pub returns : goal.returns
unfolding model stop_number
returns c m s fs k x room =
    let low = state_below x in
    let written = c.put_point.ensures.written room in
    elim c.match-lost.branch [
      | in-Some w ↦ let e = point_absent x c.values_of-values.result c.place_bytes-places.result c.turn_bytes-turns.result
          c.below-holding.result c.minus-told.result
          (c.values_of-values.ensures.are (vars m) x.bounded low) c.place_bytes-places.ensures
          c.turn_bytes-turns.ensures (omega arith)
          c.below-holding.ensures (omega arith) (omega arith) c.minus-told.ensures
          (λ z. some_number _ (sym (ap stop_number w.in-Some.is) ∙ z)) in
          (written_same e (rw w.there-is at written), sym (ap length e) ∙ point_length _ _ _ _ _ _ _ _ _)
      | in-None w ↦ let e = point_there x c.values_of-values.result c.place_bytes-places.result c.turn_bytes-turns.result
          c.below-holding.result c.minus-told.result
          (c.values_of-values.ensures.are (vars m) x.bounded low) c.place_bytes-places.ensures
          c.turn_bytes-turns.ensures (omega arith)
          c.below-holding.ensures (omega arith) (omega arith) c.minus-told.ensures (ap stop_number w.in-None.is)
          w.minus-told-in-None.result (omega arith) (omega arith) w.minus-told-in-None.ensures in
          (written_same e (rw w.there-is at written), sym (ap length e) ∙ point_length _ _ _ _ _ _ _ _ _)
    ]
