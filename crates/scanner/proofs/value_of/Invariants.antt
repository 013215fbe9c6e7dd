use Prim.Native.Nat.{◌+◌, ◌^◌, ◌<◌}
use mathlib.Core.Path.{◌≡◌}
use lib.ListN.{length, drop}
use Rattle.syntax.specs.Bytes.{decimal, digit}
use Rattle.syntax.specs.Decide.Leading.{leading}
use Rattle.scanner.proofs.value_of.Given as goal

abbrev pub invariant-loop-digit : goal.invariant-loop-digit
invariant-loop-digit l =
    (decimal l.n (drop l.digit-index l.part) ≡ decimal 0 l.part) × (l.digit-index + leading digit (drop l.digit-index l.part) ≡ length l.part) × (l.n < 10 ^ l.digit-index)
