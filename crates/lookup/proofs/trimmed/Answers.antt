-- `lookup::trimmed` meets its contract: each slot is what the closure gives.
use native.Mathlib.Omega.{arith}
use borrow.Author.Rules.{rules}
use mathlib.Core.Path.{◌≡◌}
use Rattle.lookup.specs.Slices.{slot_of}
use Rattle.lookup.proofs.FromFn.{each_from}
use Rattle.lookup.proofs.trimmed.Goals as goal

pub returns : goal.returns
returns c =
    record {
      slots = c.from_fn.ensures.items.long;
      each = λ k h. each_from _ _ _ 0 (λ u y. y ≡ slot_of c.args.n c.args.values u) (λ x y q r. search rules) 0 6 c.from_fn.ensures.items.each k (omega arith) (omega arith);
    }
