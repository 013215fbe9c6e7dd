-- Answers, and the verdict of a file ("The refusals").
use Rattle.std.specs.Prelude.{ℕ}
use Rattle.syntax.specs.Tree.{Monitor}

-- "An answer is the number (0 for accepted) and two places, 0 where unused" (R 10.1, 10.2, 10.4)
pub record Answer : Type 0 where
  pub number : ℕ
  pub first : ℕ
  pub second : ℕ

abbrev pub answer : ℕ → ℕ → ℕ → Answer
answer n a b = record { number = n; first = a; second = b }

-- accepted, or a refusal with its places (R 6.1)
pub data Verdict : Type 0 where
  accepted : Monitor → Verdict
  refused : Answer → Verdict
