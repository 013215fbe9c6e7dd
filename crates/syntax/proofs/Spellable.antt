-- Which lexemes bytes spell: the reserved words, the marks, some name and some number, and those of a file's tokens.
use Prim.Native.Nat.{ℕ, suc, ◌+◌, ◌-◌, ◌<◌}
use native.Mathlib.Omega.{arith}
use mathlib.Core.Bool.{Bool, true, false, not, ◌&&◌, and-false, false≢true}
use mathlib.Core.Logic.{◌↔◌}
use mathlib.Core.Path.{◌≡◌, refl, sym, ap, subst, ◌∙◌}
use mathlib.Core.List.{List, [], ◌∷◌, ◌++◌}
use lib.ListN.{length, take, drop, length-append}
use lib.Seq.{take-append_seam, drop-append_seam, take-append-add}
use Rattle.syntax.specs.Bytes.{bytes, between, blank, letter, digit, word_byte, decimal, same_bytes}
use Rattle.syntax.specs.Decide.Leading.{leading, starts_with}
use Rattle.syntax.specs.Token.{Lexeme, name, key, number, mark, Mark, Keyword, lbrace, rbrace, lparen, rparen}
use Rattle.syntax.specs.Token.{semicolon, equals, dots, becomes, same, differs, below, at_most_mark, above, at_least_mark}
use Rattle.syntax.specs.Token.{plus, minus, bang, and_and, or_or, k_monitor, k_var, k_in, k_keep, k_method}
use Rattle.syntax.specs.Token.{k_waituntil, k_if, k_else, k_true, k_false, k_try, k_mod, keywords, marks, Token}
use Rattle.syntax.specs.Token.{lexemes}
use Rattle.syntax.specs.Decide.Scan.{found, scan, word_of, at_most, mark_of}
use Rattle.syntax.specs.Spelling.{Every, TokenShape, a_word, a_number, a_mark, Spells, reserved, named, valued}
use Rattle.syntax.specs.Spelling.{marked, Spellable, AllSpellable, Longest, Cover, done, skip, token}
use Rattle.syntax.proofs.Scanning.{passes, passes_at, scan_found}
use Rattle.logic.proofs.Bools.{clash}

-- what is scanned is spelled
scanned : (bs : List ℕ) (l : Lexeme) (n : ℕ) → scan bs ≡ found l n → Spellable l
unfolding Spellable
scanned bs l n e = (take n bs, ((scan_found bs l n).0 e).1)

pub key_spellable : (k : Keyword) → Spellable (key k)
unfolding scan letter between leading word_byte digit word_of at_most bytes same_bytes keywords
key_spellable = elim [
  | k_monitor ↦ scanned (bytes "monitor") _ 7 refl
  | k_var ↦ scanned (bytes "var") _ 3 refl
  | k_in ↦ scanned (bytes "in") _ 2 refl
  | k_keep ↦ scanned (bytes "keep") _ 4 refl
  | k_method ↦ scanned (bytes "method") _ 6 refl
  | k_waituntil ↦ scanned (bytes "waituntil") _ 9 refl
  | k_if ↦ scanned (bytes "if") _ 2 refl
  | k_else ↦ scanned (bytes "else") _ 4 refl
  | k_true ↦ scanned (bytes "true") _ 4 refl
  | k_false ↦ scanned (bytes "false") _ 5 refl
  | k_try ↦ scanned (bytes "try") _ 3 refl
  | k_mod ↦ scanned (bytes "mod") _ 3 refl
]

pub mark_spellable : (m : Mark) → Spellable (mark m)
unfolding scan letter between digit mark_of bytes starts_with marks
mark_spellable = elim [
  | lbrace ↦ scanned (bytes "{") _ 1 refl
  | rbrace ↦ scanned (bytes "}") _ 1 refl
  | lparen ↦ scanned (bytes "(") _ 1 refl
  | rparen ↦ scanned (bytes ")") _ 1 refl
  | semicolon ↦ scanned (bytes ";") _ 1 refl
  | equals ↦ scanned (bytes "=") _ 1 refl
  | dots ↦ scanned (bytes "..") _ 2 refl
  | becomes ↦ scanned (bytes ":=") _ 2 refl
  | same ↦ scanned (bytes "==") _ 2 refl
  | differs ↦ scanned (bytes "!=") _ 2 refl
  | below ↦ scanned (bytes "<") _ 1 refl
  | at_most_mark ↦ scanned (bytes "<=") _ 2 refl
  | above ↦ scanned (bytes ">") _ 1 refl
  | at_least_mark ↦ scanned (bytes ">=") _ 2 refl
  | plus ↦ scanned (bytes "+") _ 1 refl
  | minus ↦ scanned (bytes "-") _ 1 refl
  | bang ↦ scanned (bytes "!") _ 1 refl
  | and_and ↦ scanned (bytes "&&") _ 2 refl
  | or_or ↦ scanned (bytes "||") _ 2 refl
]

pub name_spellable : Spellable (name (bytes "a"))
unfolding scan letter between leading word_byte digit word_of at_most bytes same_bytes keywords
name_spellable = scanned (bytes "a") _ 1 refl

pub number_spellable : Spellable (number 0)
unfolding scan letter between leading digit at_most bytes decimal
number_spellable = scanned (bytes "0") _ 1 refl

-- lists
pub both_spellable : (a b : List Lexeme) → AllSpellable a → AllSpellable b → AllSpellable (a ++ b)
both_spellable [] b h i = i
both_spellable (l ∷ a) b h i = (h.0, both_spellable a b h.1 i)

pub front_spellable : (a b : List Lexeme) → AllSpellable (a ++ b) → AllSpellable a
front_spellable [] b h = tt
front_spellable (l ∷ a) b h = (h.0, front_spellable a b h.1)

-- the lexemes of a file's tokens are spelled by its bytes
pub cover_spellable : {at : ℕ} {bs : List ℕ} {ts : List Token} → Cover at bs ts → AllSpellable (lexemes ts)
unfolding lexemes Spellable
cover_spellable done = tt
cover_spellable (skip h c) = cover_spellable c
cover_spellable (token {n = n} {bs = bs} p s c) = ((take n bs, s), cover_spellable c)

-- A file of given lexemes: their bytes, with a blank behind each

every_at : (p : ℕ → Bool) (w v : List ℕ) (b : ℕ) → Every p (w ++ (b ∷ v)) → p b ≡ true
every_at p [] v b h = h.0
every_at p (a ∷ w) v b h = every_at p w v b h.1

blankless : List ℕ → Bool
blankless [] = true
blankless (b ∷ w) = not (blank b) && blankless w

marks_blankless : passes (λ e. blankless (bytes e.0)) marks ≡ true
unfolding passes blankless marks bytes blank
marks_blankless = refl

has_blank : (w v : List ℕ) → blankless (w ++ (32 ∷ v)) ≡ false
unfolding blankless blank
has_blank [] v = refl
has_blank (b ∷ w) v = rw (has_blank w v) (and-false (not (blank b)))

-- no token has a blank in it
no_blank : (w v : List ℕ) → TokenShape (w ++ (32 ∷ v)) → ⊥
unfolding letter word_byte digit between
no_blank [] v (a_word h) = false≢true h.0
no_blank (b ∷ w) v (a_word h) = false≢true (every_at word_byte w v 32 h.1)
no_blank [] v (a_number h) = false≢true h.0
no_blank (b ∷ w) v (a_number h) = false≢true (every_at digit w v 32 h.1)
no_blank w v (a_mark i) =
    clash (ap blankless (sym i.2) ∙ passes_at (λ e. blankless (bytes e.0)) marks marks_blankless i.1)
    (has_blank w v)

shape_of : {w : List ℕ} {l : Lexeme} → Spells w l → TokenShape w
shape_of (reserved h n i) = a_word h
shape_of (named h n i) = a_word h
shape_of (valued h n) = a_number h
shape_of (marked i) = a_mark i

longest_before : (w v : List ℕ) → TokenShape w → Longest (w ++ (32 ∷ v)) (length w)
longest_before w v s = record {
  within = simp length-append (omega arith);
  shape = rw take-append_seam s;
  longest = λ k h i t. no_blank w (take (k - suc (length w)) v) (subst TokenShape (cut k h) t);
}
  where
    cut : (k : ℕ) → length w < k → take k (w ++ (32 ∷ v)) ≡ w ++ (32 ∷ take (k - suc (length w)) v)
    cut k h =
        let e : k ≡ length w + suc (k - suc (length w)) = omega arith in
        ap (λ (j : ℕ). take j (w ++ (32 ∷ v))) e ∙ take-append-add w (32 ∷ v) (suc (k - suc (length w)))

-- a token with a blank behind it, in front of the tokens of other bytes
one_more : (at : ℕ) (w bs : List ℕ) {l : Lexeme} {ts : List Token} → Spells w l → Cover (at + length w + 1) bs ts
    → Cover at (w ++ (32 ∷ bs)) (record { at = at; lexeme = l } ∷ ts)
unfolding blank
one_more at w bs {l} {ts} s c =
    let spelt : Spells (take (length w) (w ++ (32 ∷ bs))) l = rw take-append_seam s in
    let rest : Cover (at + length w) (drop (length w) (w ++ (32 ∷ bs))) ts = rw drop-append_seam (skip refl c) in
    token (longest_before w bs (shape_of s)) spelt rest

file_of : (at : ℕ) (ls : List Lexeme) → AllSpellable ls
    → (bs : List ℕ) × (ts : List Token) × Cover at bs ts × (lexemes ts ≡ ls)
unfolding Spellable lexemes
file_of at [] a = ([], [], done, refl)
file_of at (l ∷ ls) ((w, s), a) =
    let r = file_of (at + length w + 1) ls a in
    (w ++ (32 ∷ r.0), record { at = at; lexeme = l } ∷ r.1, one_more at w r.0 s r.2, rw r.3)

-- bytes spell each of some lexemes exactly when these are the lexemes of a file
pub spellable_iff : (ls : List Lexeme) → AllSpellable ls
    ↔ ((file : List ℕ) × (ts : List Token) × Cover 0 file ts × (lexemes ts ≡ ls))
spellable_iff ls = (file_of 0 ls, λ f. subst AllSpellable f.3 (cover_spellable f.2))
