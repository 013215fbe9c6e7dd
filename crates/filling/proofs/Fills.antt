-- What filling the slices says, by its answer.
use Prim.Native.Nat.{ℕ, ◌≤◌, ◌<◌}
use mathlib.Core.Path.{◌≡◌, refl, sym, ap, subst, ◌∙◌}
use mathlib.Core.Bool.{Bool, true, false, not, ◌&&◌}
use mathlib.Core.List.{List}
use mathlib.Core.Option.{Option, none, some}
use lib.ListN.{length, get_or}
use Rattle.std.specs.Prelude as prelude
use Rattle.std.specs.Prelude.{Some, None}
use Rattle.syntax.specs.Token.{Lexeme}
use Rattle.syntax.specs.Tree.{Monitor}
use Rattle.logic.specs.Tests.{bit}
use Rattle.logic.proofs.Bools.{clash, different}
use Rattle.meaning.specs.Value.{truth}
use Rattle.meaning.specs.State.{count, starts, state_at}
use Rattle.meaning.specs.Kept.{kept_at}
use Rattle.meaning.specs.Decide.Check.{broken}
use Rattle.meaning.specs.Decide.Choice.{chosen_tries, chosen_bits}
use Rattle.meaning.specs.Model.{vars}
use Rattle.meaning.proofs.Choosing.{start_kept}
use Rattle.variables.specs.declared.Bounds.{Bounds}
use Rattle.layout.specs.declared.Layout.{Layout}
use Rattle.layout.specs.declared.Tries.{Tries}
use Rattle.states.specs.Rows.{TruthRow, TruthSets, GuardNumbers, KeptAll}
use Rattle.breaking.specs.Broken.{BrokenAs}
use Rattle.states.proofs.Holding.{kept_of_row}
use Rattle.breaking.proofs.Breaking.{after_all}
use Rattle.choice.specs.Slots.{lacks}
use Rattle.choice.specs.Chosen.{Chooses}
use Rattle.choice.proofs.Passing.{all_there, chosen_set}
use Rattle.meaning.specs.Answer.{answer}
use Rattle.answers.specs.Says.{Says}
use Rattle.rows.specs.Filling.{Filling}
use Rattle.filling.specs.Filling.{Settles, Filled, Rows, Leaves}
use Rattle.filling.specs.declared.Settled.{Settled}

-- the numbers of the guards stand where the layout says
pub numbers_of : {m : Monitor} {ls : List Lexeme} {kinds values : List ℕ} {b : Bounds} {l : Layout} {t : Tries}
    → Filling m ls kinds values b l t → GuardNumbers m l.guard_of
unfolding GuardNumbers
numbers_of f = f.laid.guard_numbers

-- the answer for refusal 9, read backwards
stopped : (o : Option (ℕ × ℕ)) {x : prelude.Option (ℕ × ℕ)} {k n : ℕ} → BrokenAs x o → x ≡ Some (k, n) → o ≡ some (k, n)
unfolding BrokenAs
stopped none a e = different (cc)
stopped (some (i, j)) a e = cc

passed : (o : Option (ℕ × ℕ)) {x : prelude.Option (ℕ × ℕ)} → BrokenAs x o → x ≡ None → o ≡ none
unfolding BrokenAs
passed none a e = refl
passed (some q) a e = different (cc)

-- the row of keep, with the chosen tries: that of the kept condition
pub kept_strong : (m : Monitor) (tried kept₀ kept : List ℕ) (chosen : ℕ) → length m.tries ≤ 16
    → chosen ≡ chosen_bits m
    → TruthRow (vars m) (truth m.keep (vars m)) kept₀ → TruthSets (vars m) m.tries tried
    → ((s : ℕ) (b : Bool) → s < count (vars m) → get_or kept₀ s 0 ≡ bit b
    → get_or kept s 0 ≡ bit (b && not (lacks (get_or tried s 0) chosen)))
    → KeptAll m kept
unfolding TruthRow kept_at
kept_strong m tried kept₀ kept chosen few is row sets strong =
    kept_of_row m kept (λ s low.
    strong s (truth m.keep (vars m) (state_at (vars m) s)) low (row s low)
    ∙ ap (λ (b : Bool). bit (truth m.keep (vars m) (state_at (vars m) s) && b))
    (ap (λ (n : ℕ). not (lacks (get_or tried s 0) n)) is
    ∙ all_there m tried sets few (chosen_bits m) (chosen_tries m) (chosen_set m) s low))

module _ (m : Monitor) (place : ℕ) (r : Settled) (kept holds after : List ℕ) {t : Bool}
    (is : t ≡ truth m.keep (vars m) (starts (vars m))) where
  -- 8: at the start values the chosen tries hold, so keep alone decides
  pub filled_8 : t ≡ false → Says r.answer (answer 8 place 0) → Filled m place r kept holds after
  filled_8 off eight =
      record {
        fails = λ _. eight;
        settles = λ on. clash on (start_kept m ∙ sym is ∙ off);
      }

  pub filled_on : t ≡ true → Settles m r kept holds after → Filled m place r kept holds after
  filled_on on s = record { fails = λ off. clash (start_kept m ∙ sym is ∙ on) off; settles = λ _. s }

module _ (m : Monitor) (r : Settled) (kept holds after : List ℕ) {x : prelude.Option (ℕ × ℕ)} (a : BrokenAs x (broken m))
    (full : Rows m kept holds after) (choice : Chooses m r.choice) where
  -- 9
  pub settled_9 : (k n : ℕ) → x ≡ Some (k, n) → Says r.answer (answer 9 k n) → Settles m r kept holds after
  settled_9 k n e nine =
      let stops = stopped (broken m) a e in
      record {
        breaks = λ i j h.
            let same : ◌≡◌ {A = ℕ × ℕ} (k, n) (i, j) = cc in
            record {
              number = nine.number;
              first = nine.first ∙ ap (λ (x : ℕ × ℕ). x.0) same;
              second = nine.second ∙ ap (λ (x : ℕ × ℕ). x.1) same;
            };
        passes = λ h. different (cc);
        rows = full;
        choice = choice;
      }

  -- 0
  pub settled_0 : x ≡ None → (r.answer.number ≡ 0) × (r.answer.first ≡ 0) × (r.answer.second ≡ 0)
      → Settles m r kept holds after
  settled_0 e (p, q, s) =
      let none_stops = passed (broken m) a e in
      record {
        breaks = λ i j h. different (cc);
        passes = λ h. (record { number = p; first = q; second = s }, after_all m after full.outcomes h);
        rows = full;
        choice = choice;
      }

-- nothing was lent on
pub left_all : (n : ℕ) (kept holds after : List ℕ) → Leaves n kept holds after kept holds after
left_all n kept holds after = record { untouched = λ _ _. (refl, refl, refl); as_long = (refl, refl, refl) }
