-- What a scan's answer says of a file: refusals 1 and 2, or its tokens and how they are held.
use Prim.Native.Nat.{ℕ, zero, suc, ◌+◌, ◌≤◌, ◌<◌}
use native.Mathlib.Omega.{arith}
use mathlib.Core.Path.{◌≡◌, refl, sym, subst, ◌∙◌}
use mathlib.Core.List.{List, [], ◌∷◌, map, Memᴰ}
use lib.ListN.{length, take, length-map}
use lib.Dec.{ltb}
use borrow.Author.Tests.{ltb-true, ltb-false, le-ltb}
use Rattle.syntax.specs.Token.{Token}
use Rattle.syntax.specs.Decide.Scan.{Tokens, tokens, none_at, tokenize}
use Rattle.syntax.proofs.Scanning.{Rising}
use Rattle.syntax.proofs.Scanning.{token_stands, tokens_rise}
use Rattle.syntax.specs.Held.Kind.{kind_of, value_of, Words}
use Rattle.meaning.specs.Answer.{answer, refused}
use Rattle.meaning.specs.Decide.Check.{check}
use Rattle.meaning.proofs.Stages.{check_1, check_2}
use Rattle.logic.proofs.Bools.{split}
use Rattle.tokens.specs.Coded.{Coded, Scans, scanned_as, scanned_of}
use Rattle.std.specs.Prelude.{Result, Ok, Err}
use Rattle.tokens.specs.declared.ScanError.{ScanError}
use Rattle.tokens.specs.declared.ScanError.TheVariants.{TooLong, NoToken}

-- the slices of a scan, as far as it filled them, hold the tokens of the file
words : {file : List ℕ} {ts : List Token} {kinds values places : List ℕ} → length file ≤ 8192
    → tokenize file ≡ tokens ts
    → Coded ts kinds values places → Words file ts (take (length ts) kinds) (take (length ts) values)
    (take (length ts) places)
words short cut c = record {
  short = short;
  cut = cut;
  by_kind = c.by_kind;
  by_value = c.by_value;
  by_place =
      c.by_place;
}

-- there are at most as many tokens as bytes
rising_few : (from end : ℕ) (ts : List Token) → Rising from ts → ((t : Token) → Memᴰ t ts → t.at < end)
    → from ≤ end
    → from + length ts ≤ end
rising_few from end [] r inside h = omega arith
rising_few from end (t ∷ ts) r inside h =
    let here = inside t (Memᴰ.head refl) in
    omega (arith, r.0, rising_few (suc t.at) end ts r.1 (λ u has. inside u (Memᴰ.tail has)) here)

pub tokens_few : (file : List ℕ) (ts : List Token) → tokenize file ≡ tokens ts → length ts ≤ length file
tokens_few file ts cut =
    omega (
      arith,
      rising_few 0 (length file) ts (tokens_rise file ts cut) (λ t has. (token_stands file ts t cut has).1)
          (omega arith),
    )

-- the answers and their grounds
data Outcome (file : List ℕ) : Result ℕ ScanError → Type 0 where
  long : 8192 < length file → Outcome file (Err TooLong)
  bad : {k : ℕ} → length file ≤ 8192 → tokenize file ≡ none_at k → Outcome file (Err (NoToken k))
  cut : (ts : List Token) → length file ≤ 8192 → tokenize file ≡ tokens ts → Outcome file (Ok (length ts))

outcome : (file : List ℕ) → Outcome file (scanned_of file)
unfolding scanned_of scanned_as
outcome file =
    split (ltb 8192 (length file)) (λ h. rw (h, scanned_of) (long (ltb-true 8192 (length file) h)))
    (λ h. rw (h, scanned_of) (go (ltb-false 8192 (length file) h) (tokenize file) refl))
  where
    go : length file ≤ 8192 → (t : Tokens) → tokenize file ≡ t → Outcome file (scanned_as t)
    go h (tokens ts) e = cut ts h e
    go h (none_at k) e = bad h e

-- a part from the front, by how many elements it has
pub record Part (n : ℕ) (xs : List ℕ) : Type 0 where
  pub room : n ≤ length xs
  pub long : n ≡ length (take n xs)

short : (n : ℕ) (xs : List ℕ) → length (take n xs) ≤ length xs
short zero xs = omega arith
short (suc n) [] = omega arith
short (suc n) (x ∷ xs) = omega (arith, short n xs)

part : (f : Token → ℕ) (ts : List Token) (n : ℕ) (xs : List ℕ) → n ≡ length ts → take n xs ≡ map f ts → Part n xs
part f ts n xs e t =
    let long : n ≡ length (take n xs) = rw (t, length-map) e in
    record { room = omega (arith, short n xs); long = long }

pub record Counted (n : ℕ) (kinds values places : List ℕ) : Type 0 where
  pub few : n ≤ 8192
  pub in_kinds : Part n kinds
  pub in_values : Part n values
  pub in_places : Part n places

module _ {file : List ℕ} {r : Result ℕ ScanError} {kinds₀ values₀ places₀ kinds values places : List ℕ}
    (s : Scans file r kinds₀ values₀ places₀ kinds values places) where
  outcome_of : {q : Result ℕ ScanError} → r ≡ q → Outcome file q
  outcome_of e = subst (Outcome file) (sym s.answer ∙ e) (outcome file)

  -- 1
  pub scanned_long : r ≡ Err TooLong → check file ≡ refused (answer 1 0 0)
  scanned_long e = go (outcome_of e)
    where
      go : Outcome file (Err TooLong) → check file ≡ refused (answer 1 0 0)
      go (long h) = check_1 file h

  -- 2
  pub scanned_bad : (k : ℕ) → r ≡ Err (NoToken k) → check file ≡ refused (answer 2 k 0)
  scanned_bad k e = go (outcome_of e)
    where
      go : {j : ℕ} → Outcome file (Err (NoToken j)) → check file ≡ refused (answer 2 j 0)
      go (bad h c) = check_2 file h c

  pub scanned_tokens : (n : ℕ) → r ≡ Ok n
      → (ts : List Token) × (n ≡ length ts) × (n ≤ 8192) × Words file ts (take n kinds) (take n values) (take n places)
  unfolding scanned_of scanned_as
  scanned_tokens n e = go (outcome_of e)
    where
      go : {j : ℕ} → Outcome file (Ok j)
          → (ts : List Token) × (j ≡ length ts) × (j ≤ 8192)
          × Words file ts (take j kinds) (take j values) (take j places)
      go (cut ts h c) =
          let answered : scanned_of file ≡ Ok (length ts) = cc (le-ltb 8192 (length file) h) in
          (ts, refl, omega (arith, tokens_few file ts c), words h c (s.coded ts answered c))

  -- each slice has as many elements as there are tokens
  pub scanned_counted : (n : ℕ) → r ≡ Ok n → Counted n kinds values places
  scanned_counted n e =
      let (ts, same, few, w) = scanned_tokens n e in
      record {
        few = few;
        in_kinds = part (λ t. kind_of t.lexeme) ts n kinds same w.by_kind;
        in_values = part (λ t. value_of t.lexeme) ts n values same w.by_value;
        in_places = part (λ t. t.at) ts n places same w.by_place;
      }
