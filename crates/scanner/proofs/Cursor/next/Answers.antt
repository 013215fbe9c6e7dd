-- `scanner::Cursor::next` meets its contract: the token at the first byte that is no blank.
use Rattle.syntax.specs.Bytes.{blank}
use Rattle.scanner.specs.Step.{step_at}
use Rattle.scanner.proofs.Cursor.next.Goals as goal

pub returns : goal.returns
unfolding step_at
returns c = rw (← c.run_end.ensures.leads blank (λ b r e. e)) c.token_at.ensures
