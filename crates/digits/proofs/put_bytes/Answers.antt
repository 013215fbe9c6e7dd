-- `digits::put_bytes` meets its contract: the part that is written is the bytes.
use Prim.Native.Nat.{◌+◌, ◌-◌}
use mathlib.Core.Path.{◌≡◌, refl}
use native.Mathlib.Omega.{arith}
use lib.ListN.{length}
use Rattle.digits.proofs.Writing.{part_over}
use Rattle.digits.proofs.put_bytes.Goals as goal

pub returns-then-not-has_room : goal.returns-then-not-has_room
returns-then-not-has_room c =
    let few = c.has_room.ensures.too_little c.if-not-has_room.true in
    record { written = λ room. absurd (omega (arith, few)); kept = λ few. (refl, refl) }

pub returns : goal.returns
returns c =
    let a = c.args in
    let room = c.has_room.ensures.room c.if-not-has_room.false in
    let n : a.at + length a.bytes.now - a.at ≡ length a.bytes.now = omega arith in
    record {
      written = λ room. record {
        bytes = rw (n, c.copy_from_slice.ensures.after) (part_over _ _ _ _ refl);
        behind = refl;
      };
      kept = λ few. absurd (omega (arith, room));
    }
