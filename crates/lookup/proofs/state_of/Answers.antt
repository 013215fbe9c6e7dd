-- `lookup::state_of` meets its contract: of a number that is no state's nothing, and of a state what the slices hold.
use native.Mathlib.Omega.{arith}
use mathlib.Core.Path.{refl, ap, ◌∙◌}
use mathlib.Core.Bool.{Bool}
use Rattle.meaning.specs.Model.{vars}
use Rattle.lookup.specs.Slices.{move_in}
use Rattle.lookup.proofs.Moving.{kept_is, guards_are, moved}
use Rattle.lookup.proofs.state_of.Goals as goal
use Rattle.lookup.proofs.state_of.Goals.{then-number-ge-STATES-via-then-number-ge-STATES, then-number-ge-STATES-via-else-number-ge-STATES+then-number-from}

pub returns-then-number-ge-STATES : goal.returns-then-number-ge-STATES
returns-then-number-ge-STATES c =
    record {
      verdict = c.no_state.ensures.0;
      state_is = λ m k. record {
        told = λ h. elim c.then-number-ge-STATES.branch [
          | then-number-ge-STATES-via-then-number-ge-STATES w ↦ absurd (omega (arith, k.bounded.few_states, w.if-number-ge-STATES.true))
          | then-number-ge-STATES-via-else-number-ge-STATES+then-number-from w ↦ absurd (omega (arith, k.bounded.states, w.if-number-from.true))
        ];
        untold = λ h. c.no_state.ensures.1;
      };
    }

pub returns : goal.returns
returns c =
    let v = c in
    let b = v in
    let a = b.args in record {
      verdict = refl;
      state_is = λ m k. record {
        told = λ low.
            let on = kept_is k a.number low in
            let holding = guards_are k a.number low _ b.below-holding.ensures in
            record {
              known = refl;
              is_kept = on;
              var_count = k.bounded.counted;
              values = v.values_of.ensures.are (vars m) k.bounded low;
              guards = holding;
              after = λ q h. c.moves.ensures q h
                  ∙ ap (λ (x : Bool). move_in a.layout.regions a.layout.guard_of x b.below-holding.result a.after.now a.number q) on
                  ∙ moved k a.number low b.below-holding.result holding q;
            };
        untold = λ h. absurd (omega (arith, k.bounded.states, b.if-number-from.false));
      };
    }
