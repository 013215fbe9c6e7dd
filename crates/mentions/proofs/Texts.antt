-- The slots that the scan of a text gathers are those of its names: what a token's kind and operand say of the lexeme
-- that stands there, both ways.
use Prim.Native.Nat.{ℕ, suc, ◌+◌, ◌<◌}
use native.Mathlib.Omega.{arith}
use mathlib.Core.Path.{◌≡◌, refl, sym, ap, ◌∙◌}
use mathlib.Core.Bool.{Bool, true, false}
use mathlib.Core.Logic.Iff
use mathlib.Core.Logic.{◌↔◌}
use mathlib.Core.List.{List, [], ◌∷◌, ◌++◌, append_assoc}
use lib.ListN.{length, drop, take, get_or, length-append}
use lib.Seq.{drop-append_seam, split_at, length-take-le}
use borrow.Author.Tests.{eqb-true, eq-eqb, ltb-true, lt-ltb}
use Rattle.logic.proofs.Bools.{both, and, clash}
use Rattle.logic.proofs.Any.{any_iff}
use Rattle.syntax.specs.Token.{Lexeme, name, mark, becomes}
use Rattle.syntax.specs.Held.Kind.{kind_of, name_kind, no_kind}
use Rattle.syntax.specs.Tree.{Var}
use Rattle.syntax.proofs.ByKind.{is_name_lem, is_mark_lem}
use Rattle.evaluator.specs.Coding.{Codes, slot_of}
use Rattle.evaluator.specs.Promises.{front_kind}
use Rattle.evaluator.proofs.Places.{front_is, name_at}
use Rattle.layout.proofs.Spelled.{later}
use Rattle.mentions.specs.Gathered.{counts_at, mentions_at, gathered}

-- a name stands in a text, and where only left sides count, `:=` behind it
pub record Occurs (left : Bool) (x : List ℕ) (w : List Lexeme) : Type 0 where
  pub before : List Lexeme
  pub behind : List Lexeme
  pub stands : w ≡ before ++ (name x ∷ behind)
  pub next : left ≡ true → (rest : List Lexeme) × (behind ≡ mark becomes ∷ rest)

-- A token that counts, by its kind and the next

module _ (kinds : List ℕ) (i : ℕ) where
  counts_of : (left : Bool) → counts_at kinds left i ≡ true
      → (get_or kinds i no_kind ≡ name_kind) × (left ≡ true → get_or kinds (i + 1) no_kind ≡ kind_of (mark becomes))
  unfolding counts_at
  counts_of true h = let p = both _ _ h in (eqb-true _ _ p.0, λ _. eqb-true _ _ p.1)
  counts_of false h = let p = both _ _ h in (eqb-true _ _ p.0, λ e. clash e refl)

  counts_by : (left : Bool) → get_or kinds i no_kind ≡ name_kind
      → (left ≡ true → get_or kinds (i + 1) no_kind ≡ kind_of (mark becomes)) → counts_at kinds left i ≡ true
  unfolding counts_at
  counts_by true h k = and (eq-eqb _ _ h) (eq-eqb _ _ (k refl))
  counts_by false h k = and (eq-eqb _ _ h) refl

-- a mark at the front stands in the text, where what is behind it is another
front_in : (w : List Lexeme) (z : Lexeme) (us : List Lexeme) → (kind_of z ≡ kind_of (mark becomes) → ⊥)
    → front_kind (w ++ (z ∷ us)) ≡ kind_of (mark becomes) → (rest : List Lexeme) × (w ≡ mark becomes ∷ rest)
unfolding front_kind
front_in [] z us n e = absurd (n e)
front_in (l ∷ w) z us n e = (w, ap (λ (k : Lexeme). k ∷ w) (is_mark_lem becomes l e))

module _ {vs : List Var} {ls : List Lexeme} {kinds values : List ℕ} (codes : Codes vs ls kinds values) (left : Bool)
    (at : ℕ) (w us : List Lexeme) (z : Lexeme) (other : kind_of z ≡ kind_of (mark becomes) → ⊥)
    (stands : drop at ls ≡ w ++ (z ∷ us)) where
  -- what stands behind a part of the text
  behind_part : (before rest : List Lexeme) → w ≡ before ++ rest → drop (at + length before) ls ≡ rest ++ (z ∷ us)
  behind_part before rest e =
      later (length before) at ls _ stands
      ∙ ap (λ (v : List Lexeme). drop (length before) (v ++ (z ∷ us))) e
      ∙ ap (drop (length before)) (append_assoc before rest (z ∷ us))
      ∙ drop-append_seam before (rest ++ (z ∷ us))

  module _ (before rest : List Lexeme) (l : Lexeme) (e : w ≡ before ++ (l ∷ rest)) where
    here : drop (at + length before) ls ≡ l ∷ (rest ++ (z ∷ us))
    here = behind_part before (l ∷ rest) e

    kind_here : get_or kinds (at + length before) no_kind ≡ kind_of l
    unfolding front_kind
    kind_here = sym (front_is codes (at + length before) refl here)

    kind_next : get_or kinds (at + length before + 1) no_kind ≡ front_kind (rest ++ (z ∷ us))
    kind_next = sym (front_is codes (at + length before + 1) refl (later 1 (at + length before) ls _ here))

    -- a slot that is gathered here is that of a name
    counted_here : (k : ℕ) → mentions_at kinds left values (at + length before) k ≡ true
        → (x : List ℕ) × Occurs left x w × (slot_of vs x ≡ k)
    unfolding mentions_at
    counted_here k h =
        let p = both _ _ h in
        let counted = counts_of kinds (at + length before) left p.0 in
        let (x, is) = is_name_lem l (sym kind_here ∙ counted.0) in (
          x,
          record {
            before = before;
            behind = rest;
            stands = e ∙ ap (λ (m : Lexeme). before ++ (m ∷ rest)) is;
            next = λ on. front_in rest z us other (sym kind_next ∙ counted.1 on);
          },
          sym (name_at codes (at + length before) x (here ∙ ap (λ (m : Lexeme). m ∷ (rest ++ (z ∷ us))) is))
              ∙ sym (eqb-true k _ p.1),
        )

  -- a name of the text has its slot gathered
  occurs_counts : (x : List ℕ) (o : Occurs left x w)
      → mentions_at kinds left values (at + length o.before) (slot_of vs x) ≡ true
  unfolding mentions_at kind_of front_kind
  occurs_counts x o =
      let place = at + length o.before in
      and
      (counts_by kinds place left (kind_here o.before o.behind (name x) o.stands)
      (λ on. kind_next o.before o.behind (name x) o.stands
      ∙ ap (λ (v : List Lexeme). front_kind (v ++ (z ∷ us))) (o.next on).1))
      (eq-eqb _ _ (sym (name_at codes place x (here o.before o.behind (name x) o.stands))))

  counted_occurs : (i k : ℕ) → i < length w → mentions_at kinds left values (at + i) k ≡ true
      → (x : List ℕ) × Occurs left x w × (slot_of vs x ≡ k)
  counted_occurs i k low h =
      let n : length (take i w) ≡ i = length-take-le i w (omega arith) in
      counted_here (take i w) (drop (suc i) w) (get_or w i z) (split_at w i z low) k (rw n h)

  occurs_within : (x : List ℕ) (o : Occurs left x w) → length o.before < length w
  occurs_within x o = let e = ap length o.stands ∙ length-append o.before (name x ∷ o.behind) in omega arith

  -- what is gathered from the text: the slots of its names
  pub gathered_iff : (k : ℕ) → (gathered kinds left values at (length w) k ≡ true)
      ↔ ((k < 16) × ((x : List ℕ) × Occurs left x w × (slot_of vs x ≡ k)))
  unfolding gathered
  gathered_iff k =
      let some = any_iff (length w) (λ i. mentions_at kinds left values (at + i) k) (λ i. Iff.rfl) in (
        λ h.
            let p = both _ _ h in
            let (i, low, counted) = some.0 p.1 in
            (ltb-true k 16 p.0, counted_occurs i k low counted),
        λ t.
            let (few, (x, o, is)) = t in
            and (lt-ltb k 16 few)
            (some.1 (length o.before, occurs_within x o, rw (← is) (occurs_counts x o))),
      )
