-- `lookup::number_in` meets its contract: by the test of the ranges, and the number of the values that are held.
use native.Mathlib.Omega.{arith}
use mathlib.Core.Path.{refl, ◌∙◌}
use Rattle.logic.proofs.Bools.{clash}
use Rattle.lookup.specs.Slices.{Within}
use Rattle.lookup.proofs.Ranges.{trimmed_biased}
use Rattle.lookup.proofs.number_in.Goals as goal

pub returns-then-not-within : goal.returns-then-not-within
unfolding Within
returns-then-not-within c =
    let w = c in record {
      verdict = c.no_number.ensures.0;
      number_is = λ vs b. record {
        told = λ s. clash ((w.within.ensures vs b).1 s) c.if-not-within.true;
        untold = λ n. c.no_number.ensures.1;
      };
    }

pub returns : goal.returns
unfolding Within
returns c =
    let t = c in
    let w = t in record {
      verdict = refl;
      number_is = λ vs b.
          let s = (w.within.ensures vs b).0 t.if-not-within.false in
          record {
            told = λ _. (
              refl,
              c.from.ensures ∙ c.number_of.ensures.is vs _ b
                  (trimmed_biased vs _ b _ (omega arith) _ (rw b.counted at t.trimmed-held.ensures) s) s,
            );
            untold = λ n. absurd (n s);
          };
    }
