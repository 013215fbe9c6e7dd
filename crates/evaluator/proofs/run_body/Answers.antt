-- `evaluator::run_body` meets its contract: too many tokens and a place past them are none of a file's, and else it is
-- the block run there in all lanes.
use native.Mathlib.Omega.{arith}
use mathlib.Core.Bool.{true, false}
use lib.ListN.{get_or-replicate}
use Rattle.syntax.specs.Token.{mark, rbrace}
use Rattle.syntax.specs.Tree.{spell_block}
use Rattle.evaluator.proofs.Places.{same_length, not_past}
use Rattle.evaluator.proofs.run_body.Goals as goal

pub returns-then-kinds-gt-FILE_BYTES : goal.returns-then-kinds-gt-FILE_BYTES
returns-then-kinds-gt-FILE_BYTES c = λ vs as' ls us b j l codes biased ranges e short. absurd (omega (arith, same_length codes, c.if-kinds-gt-FILE_BYTES.true))

pub returns-then-kinds-at : goal.returns-then-kinds-at
returns-then-kinds-at c = λ vs as' ls us b j l codes biased ranges e short.
    let here = not_past ls (spell_block b) us (mark rbrace) c.args.at e in
    absurd (omega (arith, same_length codes, here, c.if-kinds-at.true))

pub returns : goal.returns
returns c = λ vs as' ls us b j l codes biased ranges e short.
    let ran = c.run_block-lanes.ensures.runs j l vs as' ls us b codes biased ranges e in
    rw (c.mask.ensures j l) (rw (get_or-replicate 16 j true false l) at ran)
