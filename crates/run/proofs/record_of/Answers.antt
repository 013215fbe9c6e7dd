-- `run::record_of` meets its contract: the values of the state, the places thread by thread, and the set by its
-- members.
use native.Mathlib.Omega.{arith}
use Rattle.meaning.specs.Model.{vars}
use Rattle.run.proofs.Records.{recorded}
use Rattle.run.proofs.record_of.Goals as goal

pub returns : goal.returns
returns c m w d b own s l =
    let long = c.well_formed.1.0.1.1.1.0.1.1.0.1.0.1 in
    let same = s.state in
    recorded m w d _ _ _ _ _ own s long (omega arith) b.counted
    (c.values_of.ensures.are (vars m) b (omega arith))
    c.count.ensures
