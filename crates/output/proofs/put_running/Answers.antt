-- `output::put_running` meets its contract: a number that is not 0 is a refusal, else there is a record.
use Rattle.output.proofs.Printing.{refusal_written, record_written}
use Rattle.output.proofs.put_running.Goals as goal

pub returns-then-answer-ne0 : goal.returns-then-answer-ne0
returns-then-answer-ne0 c x runs fits room =
    let p = c in
    refusal_written p.args.running room
    p.if-answer-ne0.true p.put_answer.ensures x runs fits

pub returns : goal.returns
returns c x runs fits room =
    let p = c in
    record_written p.args.running room
    p.if-answer-ne0.false p.put_record.ensures x runs fits
