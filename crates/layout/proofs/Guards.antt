-- Guards among the tokens: how long one is, and when two are one.
use Prim.Native.Nat.{ℕ, ◌<◌}
use native.Mathlib.Omega.{arith}
use mathlib.Core.Path.{◌≡◌, refl, sym, ap, ◌∙◌}
use mathlib.Core.Bool.{false}
use mathlib.Core.List.{List, ◌∷◌}
use lib.ListN.{length, drop, take}
use lib.Seq.{take-append_seam}
use Rattle.syntax.specs.Token.{Token, lexemes, mark, rparen}
use Rattle.syntax.specs.Decide.Lexeme.{mark_number}
use Rattle.syntax.specs.Held.Kind.{kind_of, Words}
use Rattle.syntax.specs.Tree.{Cond, spell_cond}
use Rattle.meaning.specs.Model.{same_lexemes, same_guard}
use Rattle.logic.proofs.Bools.{is_false}
use Rattle.meaning.proofs.SameGuards.{decides_lexemes}
use Rattle.layout.specs.Promises.{GuardAt}
use Rattle.layout.proofs.Closes.{close_length, stands_below}
use Rattle.layout.proofs.Closes.{open_bracket, shut_bracket, bracket_end}
use Rattle.layout.proofs.Same.{kinds_are, kinds_length}
use Rattle.layout.proofs.Trees.{brackets_balanced}

module _ {file : List ℕ} {ts : List Token} {kinds values places : List ℕ}
    (words : Words file ts kinds values places) where
  module _ (at : ℕ) (c : Cond) (g : GuardAt (lexemes ts) at c) where
    pub guard_long : bracket_end (drop at kinds) ≡ length (spell_cond c)
    unfolding kind_of mark_number
    guard_long =
        rw (kinds_are words)
        (close_length open_bracket shut_bracket at (lexemes ts) (spell_cond c) g.0 (mark rparen) (brackets_balanced c)
        (λ e. omega arith) refl g.1)

    pub guard_run : take (length (spell_cond c)) (drop at (lexemes ts)) ≡ spell_cond c
    guard_run = rw g.1 (take-append_seam (spell_cond c) (mark rparen ∷ g.0))

    pub guard_below : at < length kinds
    guard_below =
        let l = stands_below at (lexemes ts) (spell_cond c) g.0 (mark rparen) g.1 in
        let k = kinds_length words in
        omega arith

  module _ (a b : ℕ) (c d : Cond) (g : GuardAt (lexemes ts) a c) (h : GuardAt (lexemes ts) b d) where
    pub lengths_differ : (bracket_end (drop a kinds) ≡ bracket_end (drop b kinds) → ⊥) → false ≡ same_guard c d
    unfolding same_guard
    lengths_differ n =
        sym (is_false (λ e. n
        (guard_long a c g ∙ ap length ((decides_lexemes (spell_cond c) (spell_cond d)).0 e) ∙ sym (guard_long b d h))))

    pub guards_agree : bracket_end (drop a kinds) ≡ bracket_end (drop b kinds)
        → same_lexemes (take (bracket_end (drop b kinds)) (drop a (lexemes ts)))
        (take (bracket_end (drop b kinds)) (drop b (lexemes ts)))
        ≡ same_guard c d
    unfolding same_guard
    guards_agree e =
        let p : take (bracket_end (drop b kinds)) (drop a (lexemes ts)) ≡ spell_cond c =
        rw (sym e ∙ guard_long a c g) (guard_run a c g) in
        let q : take (bracket_end (drop b kinds)) (drop b (lexemes ts)) ≡ spell_cond d = rw (guard_long b d h)
        (guard_run b d h) in
        rw (p, q)
