-- The token at a place of a file: what `scan` finds there, by the class of the byte that stands there.
use Prim.Native.Nat.{ℕ, ◌+◌, ◌≤◌, ◌<◌}
use Prim.Native.String.{String}
use mathlib.Core.Path.{◌≡◌, refl, sym, ◌∙◌}
use mathlib.Core.Bool.{Bool, true, false}
use mathlib.Core.List.{List, [], ◌∷◌}
use lib.ListN.{length, take, drop, get_or, drop_of_length-le}
use lib.Seq.{drop-cons, length-take-le}
use borrow.Author.Tests.{le-leb, lt-leb}
use Rattle.syntax.specs.Bytes.{bytes, letter, digit, same_bytes}
use Rattle.syntax.specs.Decide.Leading.{leading}
use Rattle.syntax.specs.Token.{Lexeme, Keyword, name, key, marks}
use Rattle.syntax.specs.Decide.Scan.{nothing, found, scan, at_most, word_of, mark_of}
use Rattle.scanner.specs.Step.{token_of, step_of, step_to, word_at, number_at}
use Rattle.scanner.specs.declared.Token.TheVariants as token
use Rattle.scanner.proofs.FirstElement.{by_cases, leading_take, leading_le}

module _ (limit n : ℕ) (l : Lexeme) where
  pub over : limit < n → at_most limit n l ≡ nothing
  unfolding at_most
  over h = rw (at_most, lt-leb n limit h)

  pub within : n ≤ limit → at_most limit n l ≡ found l n
  unfolding at_most
  within h = rw (at_most, le-leb n limit h)

module _ (k : String × Keyword) (ks : List (String × Keyword)) (w : List ℕ) where
  pub word_hit : same_bytes (bytes k.0) w ≡ true → word_of (k ∷ ks) w ≡ key k.1
  unfolding word_of
  word_hit e = rw (word_of, e)

  pub word_miss : same_bytes (bytes k.0) w ≡ false → word_of (k ∷ ks) w ≡ word_of ks w
  unfolding word_of
  word_miss e = rw (word_of, e)

-- a word of the list, or the name that it is
pub data WordOr (w : List ℕ) : Lexeme → Type 0 where
  a_name : WordOr w (name w)
  a_key : (k : Keyword) → WordOr w (key k)

pub word_or : (ks : List (String × Keyword)) (w : List ℕ) → WordOr w (word_of ks w)
unfolding word_of
word_or [] w = a_name
word_or (k ∷ ks) w =
    by_cases (same_bytes (bytes k.0) w)
    (λ t. rw (word_hit k ks w t) (a_key k.1))
    (λ f. rw (word_miss k ks w f) (word_or ks w))

pub word_step : (s n : ℕ) {w : List ℕ} {l : Lexeme} → WordOr w l → step_of s (found l n)
    ≡ step_to (token.Word s (s + n)) s (s + n)
unfolding step_of token_of
word_step s n a_name = refl
word_step s n (a_key k) = refl

-- the part that leads is whole
pub part_leads : (p : ℕ → Bool) (bs : List ℕ) → leading p (take (leading p bs) bs) ≡ length (take (leading p bs) bs)
part_leads p bs = leading_take p bs ∙ sym (length-take-le (leading p bs) bs (leading_le p bs))

module _ (file : List ℕ) (i : ℕ) where
  pub scan_end : length file ≤ i → scan (drop i file) ≡ nothing
  unfolding scan
  scan_end h = rw drop_of_length-le

  module _ (h : i < length file) where
    pub scan_word : letter (get_or file i 0) ≡ true → scan (drop i file) ≡ word_at (drop i file)
    unfolding scan
    scan_word e = rw (drop-cons file i 0) (rw (scan, e))

    pub scan_number : letter (get_or file i 0) ≡ false → digit (get_or file i 0) ≡ true → scan (drop i file)
        ≡ number_at (drop i file)
    unfolding scan
    scan_number e d = rw (drop-cons file i 0) (rw (scan, e, d))

    pub scan_mark : letter (get_or file i 0) ≡ false → digit (get_or file i 0) ≡ false → scan (drop i file)
        ≡ mark_of marks (drop i file)
    unfolding scan
    scan_mark e d = rw (drop-cons file i 0) (rw (scan, e, d))
