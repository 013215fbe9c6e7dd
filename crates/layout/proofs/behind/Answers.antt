-- `layout::behind` meets its contract: what closes is in the list, or behind its end.
use Prim.Native.Nat.{ℕ, ◌+◌, ◌≤◌}
use native.Mathlib.Omega.{arith}
use mathlib.Core.Path.{ap}
use lib.ListN.{length}
use Rattle.syntax.specs.Decide.Lexeme.{mark_number}
use Rattle.syntax.specs.Held.Kind.{kind_of, no_kind}
use Rattle.layout.specs.Places.{to_condition, past, behind_at}
use Rattle.layout.proofs.Closes.{close_within, semicolon_kind}
use Rattle.layout.proofs.behind.Goals as goal
use Rattle.layout.proofs.behind.Goals.{After-closing}

within : (c : After-closing) → c.closing.result ≤ length c.args.kinds.now + to_condition
unfolding kind_of mark_number
within c =
    let a = c.args in
    let ks = a.kinds.now in
    let n = length ks + to_condition in
    let low = close_within no_kind semicolon_kind (a.at + to_condition) ks n (omega arith) (omega arith) in
    omega (arith, c.closing.ensures, low)

pub overflow_add-result : goal.overflow_add-result
overflow_add-result c = omega (arith, within (goal.at.overflow_add-result c).After-closing)

pub returns : goal.returns
unfolding behind_at kind_of mark_number
returns c = (ap (λ (n : ℕ). n + past) c.closing.ensures, omega (arith, within (goal.at.returns c).After-closing))
