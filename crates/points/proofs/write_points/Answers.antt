-- `points::write_points` meets its contract: the first point, with all idle, and the rest.
use native.Mathlib.Omega.{arith}
use mathlib.Core.Path.{refl}
use mathlib.Core.Bool.{true, false}
use Rattle.meaning.specs.Model.{model}
use Rattle.run.specs.Way.{Way, goes_on, stop_number, stop_frame}
use Rattle.run.proofs.FrameByFrame.{at_start}
use Rattle.points.proofs.Listed.{stands_first, room, listed_first}
use Rattle.points.proofs.write_points.Goals as goal

pub returns : goal.returns
unfolding stop_number stop_frame
returns c m kept fs a =
    let g = a.asked.start in
    let way : Way (model m) _ fs _ 0 = record {
      below = omega arith;
      plain = at_start (model m) false _ fs _ (c.start.ensures false) g;
      table = goes_on refl refl (at_start (model m) true _ fs _ (c.start.ensures true) g);
    } in
    let fits = room a 0 (omega arith) in
    let put = c.write_point-next.ensures m _ fs 0
    (rw (c.alike-none.ensures.0, c.alike-none.ensures.1) (stands_first a way)) (omega arith) in
    c.write_rest.ensures m kept fs _ _ a (omega arith) way
    (listed_first a put.1 put.0)
