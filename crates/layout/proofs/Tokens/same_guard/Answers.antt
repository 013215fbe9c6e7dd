-- `layout::Tokens::same_guard` meets its contract: two guards are one where they are equally long and their tokens agree.
use Prim.Native.Nat.{◌-◌}
use native.Mathlib.Omega.{arith}
use mathlib.Core.Path.{◌≡◌, sym, ◌∙◌}
use lib.ListN.{length, drop}
use Rattle.syntax.specs.Decide.Lexeme.{mark_number}
use Rattle.syntax.specs.Held.Kind.{kind_of}
use borrow.Author.Tests.{ne_eqb}
use Rattle.layout.proofs.Closes.{close_within}
use Rattle.layout.proofs.Closes.{open_bracket, shut_bracket, bracket_end}
use Rattle.layout.proofs.Guards.{guard_below, lengths_differ, guards_agree}
use Rattle.layout.proofs.Tokens.same_guard.Goals as goal
use Rattle.layout.proofs.Tokens.same_guard.Goals.{After-closing-2}

-- how many tokens the two guards have
lengths :
    (q : After-closing-2)
    → (let a = q.args in
    (q.closing.result - a.a ≡ bracket_end (drop a.a a.self.kinds.now))
    × (q.closing-2.result - a.b ≡ bracket_end (drop a.b a.self.kinds.now)))
unfolding kind_of mark_number
lengths q = (omega (arith, q.closing.ensures), omega (arith, q.closing-2.ensures))

pub returns-then-self-a : goal.returns-then-self-a
returns-then-self-a c =
    let a = c.args in
    λ ts g h w at_a at_b. absurd (omega (arith, c.if-self-a.true, guard_below w a.a g at_a))

pub returns-then-self-b : goal.returns-then-self-b
returns-then-self-b c =
    let a = c.args in
    λ ts g h w at_a at_b. absurd (omega (arith, c.if-self-b.true, guard_below w a.b h at_b))

pub returns-else-m-n : goal.returns-else-m-n
returns-else-m-n c =
    let a = c.args in
    let e = lengths (goal.at.returns-else-m-n c).After-closing-2 in
    λ ts g h w at_a at_b. rw (ne_eqb _ _ c.if-m-n.false) (lengths_differ w a.a a.b g h at_a at_b
    (λ same. c.if-m-n.false (e.0 ∙ same ∙ sym e.1)))

pub same_tokens-requires : goal.same_tokens-requires
same_tokens-requires c =
    let a = c.args in
    let p = close_within open_bracket shut_bracket a.a a.self.kinds.now (length a.self.kinds.now)
    c.if-self-a.false (omega arith) in
    let q = close_within open_bracket shut_bracket a.b a.self.kinds.now (length a.self.kinds.now)
    c.if-self-b.false
    (omega arith) in
    let e = lengths (goal.at.same_tokens-requires c).After-closing-2 in (
      omega (arith, c.if-m-n.true, e.0, e.1),
      omega (arith, e.1),
    )

pub returns-then-m-n : goal.returns-then-m-n
returns-then-m-n c =
    let a = c.args in
    let e = lengths (goal.at.returns-then-m-n c).After-closing-2 in
    λ ts g h w at_a at_b. c.same_tokens.ensures ts w
    ∙ rw e.1 (guards_agree w a.a a.b g h at_a at_b (sym e.0 ∙ c.if-m-n.true ∙ e.1))
