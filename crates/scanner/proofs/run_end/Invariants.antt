use Prim.Native.Nat.{ℕ, ◌+◌}
use mathlib.Core.Path.{◌≡◌}
use mathlib.Core.Bool.{Bool}
use lib.ListN.{drop}
use Rattle.syntax.specs.Decide.Leading.{leading}
use Rattle.scanner.proofs.run_end.Given as goal

abbrev pub invariant-loop-i : goal.invariant-loop-i
invariant-loop-i g l =
    (p : ℕ → Bool) → ((b : ℕ) (r : Bool) → goal.P-post g l.passes b r → r ≡ p b)
    → l.i + leading p (drop l.i l.file) ≡ l.at + leading p (drop l.at l.file)
