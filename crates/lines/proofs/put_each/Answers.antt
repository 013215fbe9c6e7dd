-- `lines::put_each` meets its contract. The invariant: the digits of the bytes passed are written.
use Prim.Native.Nat.{ℕ, ◌+◌, ◌*◌, ◌≤◌}
use native.Mathlib.Omega.{arith}
use mathlib.Core.List.{List}
use lib.ListN.{length, get_or}
use Rattle.meaning.specs.Hex.{hex2}
use Rattle.meaning.specs.Decide.Table.{for_each}
use Rattle.lines.specs.Written.{each_at}
use Rattle.lines.proofs.Writing.{each_length}
use Rattle.digits.proofs.Writing.{written_none, turn_room, turn}
use Rattle.lines.proofs.put_each.Goals as goal

-- the digits of a byte
pair : List ℕ → ℕ → List ℕ
pair bytes k = hex2 (get_or bytes k 0)

-- the bytes fit
room : (bytes : List ℕ) (at k : ℕ) → at + 2 * length bytes ≤ k → at + length (for_each (length bytes) 0 (pair bytes)) ≤ k
unfolding each_at pair
room bytes at k h = let l = each_length bytes (length bytes) in omega arith

pub loop-b-init : goal.loop-b-init
unfolding each_at for_each
loop-b-init c = written_none _ _

pub put2-to-requires : goal.put2-to-requires
unfolding each_at pair hex2
put2-to-requires c =
    let a = c.args in
    turn_room (length a.bytes.now) (pair a.bytes.now) (room a.bytes.now a.at _ c.requires) c.loop-b.b-index c.loop-b.invariant (omega arith)

pub loop-b-preserved : goal.loop-b-preserved
unfolding each_at pair
loop-b-preserved c =
    let a = c.args in
    turn (length a.bytes.now) (pair a.bytes.now) (room a.bytes.now a.at _ c.requires) c.loop-b.b-index c.loop-b.invariant (omega arith) c.put2-to.ensures
