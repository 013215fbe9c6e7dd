-- `sets::without` meets its contract: a member's bit is turned off; where t is no member nothing changes.
use Prim.Native.Nat.{◌<◌}
use mathlib.Core.Path.{◌≡◌, sym, ◌∙◌}
use mathlib.Core.Bool.{true}
use native.Mathlib.Omega.{arith}
use Rattle.sets.specs.Set.{member}
use Rattle.sets.proofs.SetLaws.{member_within, member_without, member_unchanged}
use Rattle.sets.proofs.without.Goals as goal

held : (c : goal.Then-has) → member c.args.set c.args.t ≡ true
held c = sym c.has.ensures ∙ c.if-has.true

below : (c : goal.Then-has) → c.args.t < 16
below c =
    member_within c.args.set c.args.t c.ranges.set.fits
    (held c)

pub overflow_cast-result : goal.overflow_cast-result
overflow_cast-result c = record { fits = omega (arith, below c) }

pub overflow_shl-result : goal.overflow_shl-result
overflow_shl-result c = below c

pub returns-then-has : goal.returns-then-has
returns-then-has c u = member_without c.args.set c.args.t u (below c) (held c)

pub returns-else-has : goal.returns-else-has
returns-else-has c u =
    member_unchanged c.args.set c.args.t u
    (sym c.has.ensures ∙ c.if-has.false)
