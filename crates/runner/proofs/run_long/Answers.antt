use Rattle.std.proofs.Common.{rules}
use mathlib.Core.Logic.{inr}
use Rattle.runner.proofs.Traces.{two_parts}
use Rattle.runner.proofs.run_long.Goals as goal

pub returns-clause-prints : goal.returns-clause-prints
returns-clause-prints g c handed behind file rest =
    let r = c.in_ok-end.ensures in
    let e = c.copy-front.ensures in
    c.runner_read.ensures.prints handed _ file
    (two_parts _ _ c.args.short.now _ c.copy-front.new.to c.read_on.new.buf behind c.copy-front.result c.in_ok-end.end e.pasted
    (search rules) (search rules) e.count r.keeps r.prefix_len.0 r.bytes (search rules) rest)
    (inr (search rules))
