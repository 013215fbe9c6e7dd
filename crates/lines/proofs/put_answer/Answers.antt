-- `lines::put_answer` meets its contract: where there is room the line is four parts, one written behind the other.
use native.Mathlib.Omega.{arith}
use Rattle.meaning.specs.Hex.{hex2}
use Rattle.meaning.specs.Lines.{hex4, refusal_line}
use Rattle.digits.proofs.Writing.{written_four}
use Rattle.lines.proofs.Writing.{put, not_put}
use Rattle.lines.proofs.put_answer.Goals as goal

pub returns-then-not-has_room : goal.returns-then-not-has_room
returns-then-not-has_room c = let few = c.has_room.ensures.too_little c.if-not-has_room.true in not_put (λ room. omega arith)

pub put4-two-requires : goal.put4-two-requires
unfolding hex2
put4-two-requires c = omega (arith, c.has_room.ensures.room c.if-not-has_room.false)

pub put4-three-requires : goal.put4-three-requires
unfolding hex2 hex4
put4-three-requires c = omega (arith, c.has_room.ensures.room c.if-not-has_room.false)

pub put_end-requires : goal.put_end-requires
unfolding hex2 hex4
put_end-requires c = omega (arith, c.has_room.ensures.room c.if-not-has_room.false)

pub returns : goal.returns
unfolding refusal_line hex4 hex2
returns c =
    put (omega (arith, c.has_room.ensures.room c.if-not-has_room.false))
    (written_four c.put2-one.ensures c.put4-two.ensures c.put4-three.ensures c.put_end.ensures (omega (arith, c.has_room.ensures.room c.if-not-has_room.false)))
