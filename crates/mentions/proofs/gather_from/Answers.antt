-- `mentions::gather_from` meets its contract: as many tokens as stand before the one that closes.
use Prim.Native.Nat.{◌-◌}
use native.Mathlib.Omega.{arith}
use mathlib.Core.Path.{◌≡◌}
use lib.ListN.{drop}
use Rattle.layout.specs.Closing.{close_from}
use Rattle.mentions.proofs.gather_from.Goals as goal

pub returns : goal.returns
returns c =
    let a = c.args in
    let end = c.closing-to in
    let e : end.result - a.at ≡ close_from a.ends.opener a.ends.closer 0 (drop a.at a.kinds.now) =
    omega (arith, end.ensures) in
    record { members = λ k. rw e at (c.gather.ensures k) }
