-- `mentions::survey` meets its contract: each set is gathered where its text stands.
use Rattle.syntax.specs.Decide.Lexeme.{mark_number}
use Rattle.syntax.specs.Held.Kind.{kind_of}
use Rattle.mentions.specs.declared.Mentions.{Mentions}
use Rattle.mentions.specs.Gathered.{only_left}
use Rattle.mentions.proofs.Surveyed.{mentioned}
use Rattle.mentions.proofs.survey.Goals as goal

pub returns : goal.returns
unfolding kind_of mark_number only_left
returns c m ls known =
    let lefts = c.gather_all-assigned in
    let bodies = c.gather_all-2 in
    let guards = c.gather_all-guards in
    let tries = c.gather_all in
    let keep = c.gather_from in
    let sets : Mentions =
    record {
      keep = keep.result;
      guards = guards.result;
      tries = tries.result;
      bodies = bodies.result;
      touched = c.touched_all.result;
    } in
    mentioned known sets lefts.result keep.ensures tries.ensures
    (λ g low few. rw (c.guards_at-guards_at.ensures g few) at (guards.ensures g low few)) bodies.ensures
    lefts.ensures c.touched_all.ensures
