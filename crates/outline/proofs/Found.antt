-- The k-th token of a kind, and how many there are: the definitions at their first kind, their turns for the loops of
-- the code, and what they are among the lexemes of a file, by counting its keywords.
use Prim.Native.Nat.{ℕ, zero, suc, ◌+◌, ◌-◌, ◌≤◌, ◌<◌}
use native.Mathlib.Omega.{arith}
use native.Mathlib.Numerals.{add-one}
use mathlib.Core.Path.{◌≡◌, refl, sym, ap, ◌∙◌}
use mathlib.Core.List.{List, [], ◌∷◌, ◌++◌, map}
use Rattle.std.specs.List.{filter}
use lib.ListN.{length, drop, get_or, drop_of_length-le}
use lib.Seq.{drop-cons}
use lib.Dec.{eqb}
use borrow.Author.Tests.{eqb-true, eqb-false, eq-eqb, ne_eqb}
use Rattle.logic.proofs.Bools.{split}
use Rattle.syntax.specs.Token.{Lexeme, key, Keyword}
use Rattle.syntax.specs.Decide.Lexeme.{is_key}
use Rattle.syntax.specs.Held.Kind.{kind_of}
use Rattle.syntax.proofs.ByKind.{kind_key}
use Rattle.meaning.proofs.KeywordPlaces.{times}
use Rattle.outline.specs.Found.{nth_of, count_of}

module _ (o : ℕ) where
  nth_here : (x : ℕ) (xs : List ℕ) → x ≡ o → nth_of o 0 (x ∷ xs) ≡ 0
  unfolding nth_of
  nth_here x xs h = rw (eq-eqb x o h, nth_of)

  nth_counts : (k x : ℕ) (xs : List ℕ) → x ≡ o → nth_of o (suc k) (x ∷ xs) ≡ suc (nth_of o k xs)
  unfolding nth_of
  nth_counts k x xs h = rw (eq-eqb x o h, nth_of)

  nth_passes : (k x : ℕ) (xs : List ℕ) → (x ≡ o → ⊥) → nth_of o k (x ∷ xs) ≡ suc (nth_of o k xs)
  unfolding nth_of
  nth_passes zero x xs n = rw (ne_eqb x o n, nth_of)
  nth_passes (suc k) x xs n = rw (ne_eqb x o n, nth_of)

  count_counts : (x : ℕ) (xs : List ℕ) → x ≡ o → count_of o (x ∷ xs) ≡ suc (count_of o xs)
  unfolding count_of
  count_counts x xs h = rw (eq-eqb x o h, count_of)

  count_passes : (x : ℕ) (xs : List ℕ) → (x ≡ o → ⊥) → count_of o (x ∷ xs) ≡ count_of o xs
  unfolding count_of
  count_passes x xs n = rw (ne_eqb x o n, count_of)

  -- at a place of a list
  pub turn_here : (ks : List ℕ) (i : ℕ) → i < length ks → get_or ks i 0 ≡ o → i ≡ i + nth_of o 0 (drop i ks)
  turn_here ks i h e = rw (drop-cons ks i 0 h, nth_here _ _ e) (omega arith)

  pub turn_counts : (ks : List ℕ) (i k : ℕ) → i < length ks → get_or ks i 0 ≡ o → (k ≡ 0 → ⊥)
      → i + 1 + nth_of o (k - 1) (drop (i + 1) ks) ≡ i + nth_of o k (drop i ks)
  turn_counts ks i zero h e z = absurd (z refl)
  turn_counts ks i (suc k) h e z =
      let p : suc k - 1 ≡ k = omega arith in rw (p, add-one, drop-cons ks i 0 h, nth_counts k _ _ e) (omega arith)

  pub turn_passes : (ks : List ℕ) (i k : ℕ) → i < length ks → (get_or ks i 0 ≡ o → ⊥)
      → i + 1 + nth_of o k (drop (i + 1) ks) ≡ i + nth_of o k (drop i ks)
  turn_passes ks i k h n = rw (add-one, drop-cons ks i 0 h, nth_passes k _ _ n) (omega arith)

  pub turns_over : (ks : List ℕ) (i k : ℕ) → length ks ≤ i → i ≡ i + nth_of o k (drop i ks)
  unfolding nth_of
  turns_over ks i k h = rw (drop_of_length-le ks h) (omega arith)

  -- how many a filter lets through
  pub counted : (xs : List ℕ) → length (filter (λ x. eqb x o) xs) ≡ count_of o xs
  unfolding count_of
  counted [] = refl
  counted (x ∷ xs) = split (eqb x o)
      (λ h. rw (h, count_counts x xs (eqb-true x o h)) (ap suc (counted xs)))
      (λ h. rw (h, count_passes x xs (eqb-false x o h)) (counted xs))

-- Among lexemes

-- the keyword behind some lexemes is the one that comes after as many as they have
pub nth_stands : (k : Keyword) (pre ls : List Lexeme)
    → nth_of (kind_of (key k)) (times k pre) (map kind_of (pre ++ (key k ∷ ls))) ≡ length pre
unfolding times
nth_stands k [] ls = nth_here (kind_of (key k)) (kind_of (key k)) (map kind_of ls) refl
nth_stands k (l ∷ pre) ls = split (is_key k l)
    (λ h. rw (h, times) (nth_counts (kind_of (key k)) (times k pre) (kind_of l) (map kind_of (pre ++ (key k ∷ ls)))
    (eqb-true (kind_of l) (kind_of (key k)) (sym (kind_key k l) ∙ h)) ∙ ap suc (nth_stands k pre ls)))
    (λ h. rw (h, times) (nth_passes (kind_of (key k)) (times k pre) (kind_of l) (map kind_of (pre ++ (key k ∷ ls)))
    (eqb-false (kind_of l) (kind_of (key k)) (sym (kind_key k l) ∙ h)) ∙ ap suc (nth_stands k pre ls)))

pub count_times : (k : Keyword) (ls : List Lexeme) → count_of (kind_of (key k)) (map kind_of ls) ≡ times k ls
unfolding times count_of
count_times k [] = refl
count_times k (l ∷ ls) =
    split (is_key k l) (λ h. cc (count_times k ls, kind_key k l)) (λ h. cc (count_times k ls, kind_key k l))
