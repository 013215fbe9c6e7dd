-- `output::put_table` meets its contract: 0 comes with the table, and any other number with the buffer as it was.
use Rattle.output.proofs.Printing.{table_printed, refusal_printed}
use Rattle.output.proofs.put_table.Goals as goal

pub returns-then-answer-eq0 : goal.returns-then-answer-eq0
returns-then-answer-eq0 c = table_printed _ _ c.place-placing.ensures c.if-answer-eq0.true

pub returns : goal.returns
returns c =
    let a = c in
    refusal_printed _ _ a.place-placing.ensures
    a.requires
    a.if-answer-eq0.false a.put_answer.ensures
