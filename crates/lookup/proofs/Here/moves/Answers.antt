-- `lookup::Here::moves` meets its contract: each region's move is what the closure gives.
use native.Mathlib.Omega.{arith}
use borrow.Author.Rules.{rules}
use mathlib.Core.Path.{◌≡◌}
use Rattle.lookup.specs.Slices.{move_in}
use Rattle.lookup.proofs.FromFn.{each_from}
use Rattle.lookup.proofs.Here.moves.Goals as goal

pub returns : goal.returns
returns c r h =
    let a = c.args.self in
    each_from _ _ _ 0 (λ u y. y ≡ move_in a.layout.now.regions a.layout.now.guard_of a.kept a.holds a.after.now a.number u)
    (λ x y q k. search rules) 0 16
    c.from_fn.ensures.items.each r (omega arith) (omega arith)
