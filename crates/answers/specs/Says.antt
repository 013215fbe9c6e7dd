-- What an answer of the code says: document 01's number and places.
use Rattle.std.specs.Prelude.{◌≡◌}
use Rattle.meaning.specs.Answer.{Answer, answer, Verdict, accepted, refused}
use Rattle.answers.specs.declared.Answer as code

pub record Says (r : code.Answer) (a : Answer) : Type 0 where
  pub number : r.number ≡ a.number
  pub first : r.first ≡ a.first
  pub second : r.second ≡ a.second

-- the answer of a verdict: 0 for accepted
unfoldable pub answer_of : Verdict → Answer
answer_of (accepted m) = answer 0 0 0
answer_of (refused a) = a

unfoldable pub Is : code.Answer → Verdict → Type 0
Is r v = Says r (answer_of v)
