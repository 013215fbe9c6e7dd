-- What each region's body does from a state, as the slices hold it, is what `move` says.
use Prim.Native.Nat.{ℕ, ◌+◌, ◌*◌, ◌<◌, ◌≤◌}
use native.Mathlib.Omega.{arith}
use mathlib.Core.Path.{◌≡◌, refl, sym, ap, ap₂, ◌∙◌}
use mathlib.Core.Bool.{Bool, true, false, ◌&&◌}
use mathlib.Core.List.{List}
use mathlib.Core.Option.{Option, none, some}
use lib.ListN.{length, get_or}
use lib.Dec.{eqb, ltb}
use lib.IntN.{ℤ}
use borrow.Author.Tests.{ltb-true, ltb-false, lt-ltb, le-ltb, eq-eqb, ne_eqb}
use Rattle.syntax.specs.Tree.{Monitor}
use Rattle.sets.specs.Set.{member}
use Rattle.logic.specs.Tests.{bit}
use Rattle.logic.proofs.Bools.{split, is_false}
use Rattle.meaning.specs.State.{count, state_at}
use Rattle.meaning.specs.Runs.{State}
use Rattle.meaning.specs.Decide.Bodies.{outcome}
use Rattle.meaning.specs.Model.{vars, regions, guards, region, guard_of, holds, kept}
use Rattle.meaning.specs.Outline.{move_of, move}
use Rattle.meaning.proofs.ModelLaws.{guard_below, holds_below}
use Rattle.meaning.proofs.StateLaws.{number_below}
use Rattle.variables.specs.declared.Bounds.{Bounds}
use Rattle.layout.specs.declared.Layout.{Layout}
use Rattle.states.specs.Rows.{GuardNumbers, KeptAll, HoldsAll, Outcomes, outcome_number}
use Rattle.states.proofs.Holding.{guards_few}
use Rattle.states.proofs.Held.{outcome_state}
use Rattle.lookup.specs.Slices.{move_by, move_in}
use Rattle.lookup.specs.Looked.{Looked, faults_mark, never_mark, move_number}

-- by cases of the code

pub move_not_kept : (k g : Bool) (to : ℕ) → k ≡ false → never_mark ≡ move_by k g to
unfolding move_by
move_not_kept false g to h = refl
move_not_kept true g to h = absurd (let z : ◌≡◌ {A = ℕ} 0 1 = cc in omega arith)

pub move_no_guard : (k g : Bool) (to : ℕ) → g ≡ false → never_mark ≡ move_by k g to
unfolding move_by
move_no_guard false g to h = refl
move_no_guard true false to h = refl
move_no_guard true true to h = absurd (let z : ◌≡◌ {A = ℕ} 0 1 = cc in omega arith)

pub move_faults : (k g : Bool) (to : ℕ) → k ≡ true → g ≡ true → to ≡ 4096 → faults_mark ≡ move_by k g to
unfolding move_by
move_faults k g to a b e = rw (a, b, move_by, eq-eqb to 4096 e)

pub move_ends : (k g : Bool) (to : ℕ) → k ≡ true → g ≡ true → (to ≡ 4096 → ⊥) → to ≡ move_by k g to
unfolding move_by
move_ends k g to a b n = rw (a, b, move_by, ne_eqb to 4096 n)

pub move_behind : (n : ℕ) (guard-of : List ℕ) (k : Bool) (h : ℕ) (after : List ℕ) (s r : ℕ) → n ≤ r
    → never_mark ≡ move_in n guard-of k h after s r
unfolding move_in
move_behind n guard-of k h after s r l = rw (move_in, le-ltb r n l)

pub move_inside : (n : ℕ) (guard-of : List ℕ) (k : Bool) (h : ℕ) (after : List ℕ) (s r : ℕ) → r < n
    → move_by k (member h (get_or guard-of r 0)) (get_or after (r * 4096 + s) 0) ≡ move_in n guard-of k h after s r
unfolding move_in
move_inside n guard-of k h after s r l = rw (move_in, lt-ltb r n l)

-- what the slices hold is what the body does

bit_is : (b : Bool) → eqb (bit b) 1 ≡ b
unfolding bit
bit_is true = refl
bit_is false = refl

module _ {m : Monitor} {b : Bounds} {l : Layout} {kept' holds' after' : List ℕ} (k : Looked m b l kept' holds' after')
    (n : ℕ) (low : n < count (vars m)) where
  pub kept_is : eqb (get_or kept' n 0) 1 ≡ kept m n
  unfolding KeptAll
  kept_is = ap (λ (x : ℕ). eqb x 1) (k.by_kept n low) ∙ bit_is (kept m n)

  few_guards : length (guards m) ≤ 16
  few_guards = omega (arith, guards_few m, k.few_regions)

  -- the guards that hold, and none behind the file's
  pub guards_are : (set : ℕ) → ((u : ℕ) → u < 16 → member set u ≡ member (get_or holds' n 0) u && ltb u l.guards)
      → (g : ℕ) → g < 16 → member set g ≡ holds m g n
  unfolding HoldsAll
  guards_are set is g h =
      split (ltb g (length (guards m)))
      (λ t. let inside = ltb-true g (length (guards m)) t in
      is g h ∙ ap (λ (x : ℕ). member (get_or holds' n 0) g && ltb g x) k.guard_count
      ∙ ap₂ (λ (x y : Bool). x && y) (k.by_holds g n inside low) t ∙ and_true (holds m g n))
      (λ t. is g h ∙ ap (λ (x : ℕ). member (get_or holds' n 0) g && ltb g x) k.guard_count
      ∙ ap (λ (x : Bool). member (get_or holds' n 0) g && x) t ∙ and_false (member (get_or holds' n 0) g)
      ∙ sym (is_false (λ on. let inside = holds_below m g n on in absurd (omega (arith, ltb-false g (length (guards m)) t)))))
    where
      and_true : (x : Bool) → x && true ≡ x
      and_true true = refl
      and_true false = refl

      and_false : (x : Bool) → x && false ≡ false
      and_false true = refl
      and_false false = refl

  ended : (to : ℕ) (o : Option (List ℤ)) → ((bs : List ℤ) → o ≡ some bs → State (vars m) bs)
      → to ≡ outcome_number (vars m) o → move_by true true to ≡ move_number (move_of (vars m) o)
  unfolding move_by move_number move_of outcome_number
  ended to none stays e = rw (move_by, eq-eqb to 4096 e)
  ended to (some bs) stays e =
      let under = number_below k.bounded.good (stays bs refl) in
      rw (move_by, ne_eqb to 4096 (λ z. omega (arith, k.bounded.few_states))) e

  pub moved : (set : ℕ) → ((g : ℕ) → g < 16 → member set g ≡ holds m g n) → (q : ℕ)
      → move_in l.regions l.guard_of (kept m n) set after' n q ≡ move_number (move m q n)
  unfolding move_in move move_by move_number GuardNumbers Outcomes
  moved set holding q =
      split (ltb q (length (regions m))) inside
      (λ t. let behind : ltb q l.regions ≡ false = ap (ltb q) k.region_count ∙ t in rw (move_in, move, behind, t))
    where
      inside : ltb q (length (regions m)) ≡ true
          → move_in l.regions l.guard_of (kept m n) set after' n q ≡ move_number (move m q n)
      inside t =
          let within = ltb-true q (length (regions m)) t in
          let below : ltb q l.regions ≡ true = ap (ltb q) k.region_count ∙ t in
          let number : member set (get_or l.guard_of q 0) ≡ holds m (guard_of m q) n =
          ap (member set) (k.guard_numbers q within)
          ∙ holding (guard_of m q) (omega (arith, guard_below m q within, few_guards)) in
          split (kept m n)
          (λ on. split (holds m (guard_of m q) n)
          (λ h. rw (move_in, move, below, t, number, on, h)
          (ended _ (outcome (region m q) (vars m) (state_at (vars m) n))
          (outcome_state k.bounded.good (region m q) n low) (k.outcomes q n within low)))
          (λ h. rw (move_in, move, below, t, number, on, h)))
          (λ off. rw (move_in, move, below, t, off))
