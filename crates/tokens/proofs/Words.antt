-- The number of a reserved word, by its place among words.
use Prim.Native.Nat.{ℕ, ◌+◌}
use Prim.Native.String.{String}
use mathlib.Core.Path.{◌≡◌, refl, sym, ap, ◌∙◌}
use mathlib.Core.Bool.{Bool, true, not, ◌&&◌}
use mathlib.Core.List.{List, [], ◌∷◌, map}
use lib.ListN.{length-map}
use lib.Dec.{eqb}
use borrow.Author.Tests.{eqb-true}
use Rattle.std.specs.Prelude.{Some}
use Rattle.std.specs.List.{position, position_from, prefix_len}
use Rattle.std.specs.Str.{bytes_eq}
use Rattle.std.proofs.lemmas.Iterator.Adapters.{position_from-zero}
use Rattle.syntax.specs.Bytes.{bytes, same_bytes}
use Rattle.syntax.specs.Token.{Keyword, keywords}
use Rattle.syntax.specs.Decide.Lexeme.{keyword_number}
use Rattle.syntax.specs.Decide.Scan.{word_of}
use Rattle.scanner.proofs.FirstElement.{by_cases, and_true}
use Rattle.scanner.proofs.Scanning.{word_hit, word_miss}
use Rattle.tokens.specs.Coded.{key_of}

-- the first that passes among the values of a function
module _ {A B : Type 0} (p : B → Bool) (f : A → B) where
  prefix_map : (xs : List A) → prefix_len (λ x. not (p (f x))) xs ≡ prefix_len (λ y. not (p y)) (map f xs)
  prefix_map [] = refl
  prefix_map (x ∷ xs) = rw (prefix_map xs)

  pub position_map : (xs : List A) → position (λ x. p (f x)) xs ≡ position p (map f xs)
  position_map xs = rw (prefix_map xs, length-map)

-- equal bytes are those of the kit
bytes_same : (xs ys : List ℕ) → bytes_eq xs ys ≡ same_bytes xs ys
unfolding same_bytes
bytes_same [] [] = refl
bytes_same [] (y ∷ ys) = refl
bytes_same (x ∷ xs) [] = refl
bytes_same (x ∷ xs) (y ∷ ys) = ap (λ (b : Bool). eqb x y && b) (bytes_same xs ys)

-- the texts of reserved words; and whether these stand in the order of their numbers
unfoldable pub texts : List (String × Keyword) → List (List ℕ)
texts [] = []
texts (k ∷ ks) = bytes k.0 ∷ texts ks

ordered : ℕ → List (String × Keyword) → Bool
ordered n [] = true
ordered n (k ∷ ks) = eqb (keyword_number k.1) n && ordered (n + 1) ks

in_texts : (w : List ℕ) (n : ℕ) (xs : List (List ℕ)) → position_from (λ k. bytes_eq k w) n xs
    ≡ position_from (λ k. same_bytes k w) n xs
in_texts w n [] = refl
in_texts w n (x ∷ xs) = rw (bytes_same x w, in_texts w (n + 1) xs)

key_from : (w : List ℕ) (n : ℕ) (ks : List (String × Keyword)) → ordered n ks ≡ true
    → position_from (λ k. same_bytes k w) n (texts ks) ≡ key_of (word_of ks w)
unfolding ordered texts key_of word_of
key_from w n [] o = refl
key_from w n (k ∷ ks) o =
    let h = and_true (eqb (keyword_number k.1) n) (ordered (n + 1) ks) o in
    by_cases (same_bytes (bytes k.0) w)
    (λ e. rw (word_hit k ks w e, e) (ap Some (sym (eqb-true (keyword_number k.1) n h.0))))
    (λ e. rw (word_miss k ks w e, e) (key_from w (n + 1) ks h.1))

-- the place of a text among the reserved words is its keyword's number
module _ (w : List ℕ) where
  pub keyword_place : position (λ k. bytes_eq k w) (texts keywords) ≡ key_of (word_of keywords w)
  unfolding ordered keywords keyword_number
  keyword_place =
      position_from-zero (λ k. bytes_eq k w) (texts keywords) ∙ in_texts w 0 (texts keywords) ∙ key_from w 0 keywords refl
