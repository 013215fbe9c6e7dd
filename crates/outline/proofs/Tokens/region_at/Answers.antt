-- `outline::Tokens::region_at` meets its contract.
use Prim.Native.Nat.{◌+◌, ◌≤◌}
use native.Mathlib.Omega.{arith}
use lib.ListN.{length}
use Rattle.syntax.specs.Token.{mark, lparen, rparen}
use Rattle.syntax.specs.Decide.Lexeme.{mark_number, keyword_number}
use Rattle.syntax.specs.Held.Kind.{kind_of}
use Rattle.layout.proofs.Closes.{close_within}
use Rattle.outline.proofs.Formed.{region_formed}
use Rattle.outline.proofs.Tokens.region_at.Goals as goal
use Rattle.outline.proofs.Tokens.region_at.Goals.{After-closing-closer}

-- the bracket that closes the guard is in the list, or not far behind it
low : (c : After-closing-closer) → c.closing-closer.result ≤ length c.args.self.kinds.now + 2
unfolding kind_of mark_number
low c =
    let ks = c.args.self.kinds.now in
    rw c.closing-closer.ensures (close_within (kind_of (mark lparen)) (kind_of (mark rparen))
    (c.nth-opener.result + 1 + 1) ks (length ks + 2) (omega (arith, c.nth-opener.ensures.1)) (omega arith))

pub returns : goal.returns
unfolding kind_of mark_number keyword_number
returns c =
    let a = c.args in
    let q = c in
    rw c.from.ensures (region_formed a.self.kinds.now a.self.places.now a.number a.k _ _ _ _ _ q.nth-opener.ensures.0
    q.closing-closer.ensures c.closing-end.ensures c.between.ensures c.between-2.ensures)

pub overflow_add-brace : goal.overflow_add-brace
overflow_add-brace = λ c. omega (arith, low (goal.at.overflow_add-brace c).After-closing-closer)

pub overflow_add-brace-2 : goal.overflow_add-brace-2
overflow_add-brace-2 = λ c. omega (arith, low (goal.at.overflow_add-brace-2 c).After-closing-closer)
