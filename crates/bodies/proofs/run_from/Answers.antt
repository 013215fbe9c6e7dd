-- `bodies::run_from` meets its contract: what the run leaves in a lane is the body's outcome there.
use native.Mathlib.Omega.{arith}
use Rattle.meaning.specs.Decide.Bodies.{outcome}
use Rattle.meaning.specs.State.{state_at}
use Rattle.bodies.proofs.Stretches.{stretch_map}
use Rattle.bodies.proofs.run_from.Goals as goal

pub returns : goal.returns
unfolding outcome
returns c =
    let ran = c.run_body-ran in
    stretch_map (λ j x l h. record {
      tells = λ vs q b low v.
          h.tells vs q b.bounded low
          (ran.ensures vs (state_at vs _) b.ls b.us q.body j l b.codes v b.bounded.ranges b.spelled
          (omega (arith, b.few)));
    }) c.note.ensures
