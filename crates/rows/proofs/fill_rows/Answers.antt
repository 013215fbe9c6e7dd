-- `rows::fill_rows` meets its contract: what each call fills, of the texts that it is handed.
use native.Mathlib.Omega.{arith}
use Rattle.meaning.specs.Model.{vars, guards}
use Rattle.rows.proofs.Texts.{keeping, guarding, trying, bodies_of, holds_of}
use Rattle.rows.proofs.fill_rows.Goals as goal

pub returns : goal.returns
returns c m ls f named l₁ l₂ l₃ l₄ =
    record {
      by_keep = c.fill_row.ensures (vars m) m.keep (keeping f named) l₁;
      by_holds =
          holds_of m _
          (c.fill_sets.ensures (vars m) (guards m) (guarding f named c.guard_texts.ensures) (λ _. l₂));
      by_tries =
          c.fill_sets-2.ensures (vars m) m.tries (trying f named c.try_texts.ensures)
          (λ some. l₃ (omega (arith, c.try_texts.ensures.counted)));
      outcomes =
          c.fill_after.ensures m ls f.codes f.bounded f.few f.laid.region_count
          (omega (arith, f.laid.region_count, f.few_regions)) (bodies_of f named) named.bodies l₄;
    }

pub shape_of-kept : goal.shape_of-kept
shape_of-kept = λ c. c.fill_row.auto.row

pub shape_of-holds : goal.shape_of-holds
shape_of-holds = λ c. c.fill_sets.auto.row

pub shape_of-tried : goal.shape_of-tried
shape_of-tried = λ c. c.fill_sets-2.auto.row

pub shape_of-after : goal.shape_of-after
shape_of-after = λ c. c.fill_after.auto.after
