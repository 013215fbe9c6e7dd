-- The slices hold the monitor of an accepted file: what they hold is what `Held` asks.
use Prim.Native.Nat.{ℕ, ◌≤◌, ◌<◌}
use native.Mathlib.Omega.{arith}
use mathlib.Core.Path.{◌≡◌, sym, ap, ◌∙◌}
use mathlib.Core.Bool.{true}
use mathlib.Core.List.{List, []}
use lib.ListN.{length}
use lib.Dec.{ltb}
use borrow.Author.Tests.{ltb-true, lt-ltb}
use Rattle.syntax.specs.Tree.{Monitor}
use Rattle.syntax.proofs.Grammar.{one_cond}
use Rattle.logic.specs.Tests.{bit}
use Rattle.machine.specs.Held.{Held}
use Rattle.machine.specs.Decide.Table.{runs}
use Rattle.meaning.specs.State.{count, state_at}
use Rattle.meaning.specs.Kept.{kept_at}
use Rattle.meaning.specs.Model.{vars, regions, guards, guard_of, kept, holds, after, model}
use Rattle.meaning.proofs.ModelLaws.{guard_below, kept_below, keeps}
use Rattle.meaning.proofs.Sizes as sizes
use Rattle.meaning.specs.Accepted.{Sound}
use Rattle.logic.proofs.Bools.{both}
use Rattle.states.specs.Rows.{TruthRow, GuardNumbers, KeptAll, HoldsAll, AfterAll}

module _ (m : Monitor) where
  -- a file has at most as many guards as regions
  pub guards_few : length (guards m) ≤ length (regions m)
  unfolding guards
  guards_few = omega (arith, sizes.guards_few [] (regions m))

  pub kept_truth : (s : ℕ) → kept m s ≡ true → (s < count (vars m)) × (kept_at m (state_at (vars m) s) ≡ true)
  unfolding kept
  kept_truth s h =
      let t = both (ltb s (count (vars m))) (kept_at m (state_at (vars m) s)) h in
      (ltb-true s (count (vars m)) t.0, t.1)

  kept_is : (s : ℕ) → s < count (vars m) → kept m s ≡ kept_at m (state_at (vars m) s)
  unfolding kept
  kept_is s h = rw (lt-ltb s (count (vars m)) h)

  -- the row of the kept condition is that of its truth
  pub row_of_kept : (row : List ℕ) → KeptAll m row → TruthRow (vars m) (kept_at m) row
  unfolding KeptAll TruthRow
  row_of_kept row k s h = k s h ∙ ap bit (kept_is s h)

  pub kept_of_row : (row : List ℕ) → TruthRow (vars m) (kept_at m) row → KeptAll m row
  unfolding KeptAll TruthRow
  kept_of_row row k s h = k s h ∙ ap bit (sym (kept_is s h))

  pub held : {kept' holds' after' guard_of' : List ℕ} → Sound m → length (regions m) ≤ 16 → KeptAll m kept'
      → HoldsAll m holds'
      → AfterAll m after' → GuardNumbers m guard_of' → Held (model m) kept' holds' after' guard_of'
  unfolding model KeptAll HoldsAll AfterAll GuardNumbers runs
  held ok few k h a g =
      record {
        few_states = ok.few;
        few_regions = few;
        few_guards = omega (arith, guards_few);
        guard_below = guard_below m;
        kept_below = kept_below m;
        after_below =
            λ r s low t.
            let u = both (kept m s) (holds m (guard_of m r) s) t in
            kept_below m (after m r s) (keeps m one_cond ok r s u.0 u.1);
        by_kept = k;
        by_holds = h;
        by_after = a;
        by_guard = g;
      }
