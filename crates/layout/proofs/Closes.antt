-- The token that closes: the definition at its first kind, its bound, and lists of lexemes over which it passes.
use Prim.Native.Nat.{ℕ, zero, suc, ◌+◌, ◌-◌, ◌≤◌, ◌<◌}
use native.Mathlib.Omega.{arith}
use mathlib.Core.Path.{◌≡◌, refl, sym, ap, ◌∙◌}
use mathlib.Core.Bool.{true, false}
use mathlib.Core.List.{List, [], ◌∷◌, ◌++◌, map, append_assoc}
use lib.ListN.{length, drop, get_or, length-append, length-drop, drop_of_length-le}
use native.Mathlib.Numerals.{add-one}
use lib.Seq.{drop-drop, drop-cons, drop-append_seam}
use lib.Dec.{eqb}
use borrow.Author.Tests.{eqb-true, eqb-false, eq-eqb, ne_eqb}
use Rattle.syntax.specs.Token.{Lexeme, mark, lbrace, rbrace, lparen, rparen, semicolon}
use Rattle.syntax.specs.Held.Kind.{kind_of, no_kind}
use Rattle.logic.proofs.Bools.{split}
use Rattle.layout.specs.Closing.{close_from}

-- The kinds that open and close, and what stands before the one that closes

abbrev pub open_bracket : ℕ
open_bracket = kind_of (mark lparen)

abbrev pub shut_bracket : ℕ
shut_bracket = kind_of (mark rparen)

abbrev pub open_brace : ℕ
open_brace = kind_of (mark lbrace)

abbrev pub shut_brace : ℕ
shut_brace = kind_of (mark rbrace)

abbrev pub semicolon_kind : ℕ
semicolon_kind = kind_of (mark semicolon)

abbrev pub bracket_end : List ℕ → ℕ
bracket_end = close_from open_bracket shut_bracket 0

abbrev pub brace_end : List ℕ → ℕ
brace_end = close_from open_brace shut_brace 0

abbrev pub semicolon_end : List ℕ → ℕ
semicolon_end = close_from no_kind semicolon_kind 0

module _ (o c : ℕ) where
  pub close_opens : (d k : ℕ) (ks : List ℕ) → k ≡ o → close_from o c d (k ∷ ks) ≡ suc (close_from o c (suc d) ks)
  unfolding close_from
  close_opens zero k ks h = rw (eq-eqb k o h, close_from)
  close_opens (suc d) k ks h = rw (eq-eqb k o h, close_from)

  pub close_ends : (k : ℕ) (ks : List ℕ) → (k ≡ o → ⊥) → k ≡ c → close_from o c 0 (k ∷ ks) ≡ 0
  unfolding close_from
  close_ends k ks n h = rw (ne_eqb k o n, close_from, eq-eqb k c h, close_from)

  pub close_closes : (d k : ℕ) (ks : List ℕ) → (k ≡ o → ⊥) → k ≡ c → close_from o c (suc d) (k ∷ ks)
      ≡ suc (close_from o c d ks)
  unfolding close_from
  close_closes d k ks n h = rw (ne_eqb k o n, close_from, eq-eqb k c h, close_from)

  pub close_passes : (d k : ℕ) (ks : List ℕ) → (k ≡ o → ⊥) → (k ≡ c → ⊥) → close_from o c d (k ∷ ks)
      ≡ suc (close_from o c d ks)
  unfolding close_from
  close_passes zero k ks n h = rw (ne_eqb k o n, close_from, ne_eqb k c h, close_from)
  close_passes (suc d) k ks n h = rw (ne_eqb k o n, close_from, ne_eqb k c h, close_from)

  -- the same at a place of a list
  pub turn_opens : (ks : List ℕ) (i d : ℕ) → i < length ks → get_or ks i 0 ≡ o
      → i + 1 + close_from o c (d + 1) (drop (i + 1) ks) ≡ i + close_from o c d (drop i ks)
  turn_opens ks i d h k = rw (add-one, add-one, drop-cons ks i 0 h, close_opens d _ _ k) (omega arith)

  pub turn_ends : (ks : List ℕ) (i : ℕ) → i < length ks → (get_or ks i 0 ≡ o → ⊥) → get_or ks i 0 ≡ c
      → i ≡ i + close_from o c 0 (drop i ks)
  turn_ends ks i h n k = rw (drop-cons ks i 0 h, close_ends _ _ n k) (omega arith)

  pub turn_closes : (ks : List ℕ) (i d : ℕ) → i < length ks → (get_or ks i 0 ≡ o → ⊥) → get_or ks i 0 ≡ c → (d ≡ 0 → ⊥)
      → i + 1 + close_from o c (d - 1) (drop (i + 1) ks) ≡ i + close_from o c d (drop i ks)
  turn_closes ks i zero h n k z = absurd (z refl)
  turn_closes ks i (suc d) h n k z =
      let e : suc d - 1 ≡ d = omega arith in rw (e, add-one, drop-cons ks i 0 h, close_closes d _ _ n k) (omega arith)

  pub turn_passes : (ks : List ℕ) (i d : ℕ) → i < length ks → (get_or ks i 0 ≡ o → ⊥) → (get_or ks i 0 ≡ c → ⊥)
      → i + 1 + close_from o c d (drop (i + 1) ks) ≡ i + close_from o c d (drop i ks)
  turn_passes ks i d h n k = rw (add-one, drop-cons ks i 0 h, close_passes d _ _ n k) (omega arith)

  pub turns_over : (ks : List ℕ) (i d : ℕ) → length ks ≤ i → i ≡ i + close_from o c d (drop i ks)
  unfolding close_from
  turns_over ks i d h = rw (drop_of_length-le ks h) (omega arith)

  close_bound : (d : ℕ) (ks : List ℕ) → close_from o c d ks ≤ length ks
  unfolding close_from
  close_bound d [] = omega arith
  close_bound d (k ∷ ks) =
      split (eqb k o)
      (λ h. let e = close_opens d k ks (eqb-true k o h) in let r = close_bound (suc d) ks in omega arith)
      (λ n. split (eqb k c) (λ h. at_closer d n h (λ e. close_bound e ks))
      (λ h. let e = close_passes d k ks (eqb-false k o n) (eqb-false k c h) in let r = close_bound d ks in omega arith))
    where
      at_closer : (e : ℕ) → eqb k o ≡ false → eqb k c ≡ true → ((f : ℕ) → close_from o c f ks ≤ length ks)
          → close_from o c e (k ∷ ks) ≤ suc (length ks)
      at_closer zero n h r = let e = close_ends k ks (eqb-false k o n) (eqb-true k c h) in omega arith
      at_closer (suc f) n h r = let e = close_closes f k ks (eqb-false k o n) (eqb-true k c h) in omega (arith, r f)

  -- the closing token is in the list, or behind its end
  pub close_within : (at : ℕ) (ks : List ℕ) (n : ℕ) → at ≤ n → length ks ≤ n → at + close_from o c 0 (drop at ks) ≤ n
  unfolding close_from
  close_within at ks n h b = let r = close_bound 0 (drop at ks) in let l = length-drop at ks in omega arith

  -- from any depth, what closes is behind these lexemes, and the depth there is the same
  pub record Balanced (w : List Lexeme) : Type 0 where
    pub over : (d : ℕ) (us : List Lexeme) → close_from o c d (map kind_of (w ++ us))
        ≡ length w + close_from o c d (map kind_of us)

  pub balanced_nil : Balanced []
  balanced_nil = record { over = λ d us. omega arith }

  pub balanced_join : {v w : List Lexeme} → Balanced v → Balanced w → Balanced (v ++ w)
  balanced_join {v} {w} p q =
      record {
        over = λ d us. rw (append_assoc v w us, p.over d (w ++ us), q.over d us, length-append v w)
            (omega arith);
      }

  pub balanced_one : (l : Lexeme) → (kind_of l ≡ o → ⊥) → (kind_of l ≡ c → ⊥) → Balanced (l ∷ [])
  balanced_one l p q = record { over = λ d us. close_passes d (kind_of l) (map kind_of us) p q ∙ omega arith }

  pub balanced_wrap : (l r : Lexeme) {w : List Lexeme} → kind_of l ≡ o → (kind_of r ≡ o → ⊥) → kind_of r ≡ c → Balanced w
      → Balanced (l ∷ (w ++ (r ∷ [])))
  balanced_wrap l r {w} p n q h = record {
    over = λ d us.
        let opened = close_opens d (kind_of l) (map kind_of ((w ++ (r ∷ [])) ++ us)) p in
        let inside : close_from o c (suc d) (map kind_of ((w ++ (r ∷ [])) ++ us))
        ≡ length w + close_from o c (suc d) (map kind_of (r ∷ us)) =
        ap (λ (x : List Lexeme). close_from o c (suc d) (map kind_of x)) (append_assoc w (r ∷ []) us)
        ∙ h.over (suc d) (r ∷ us) in
        let closed = close_closes d (kind_of r) (map kind_of us) n q in
        let sum = length-append w (r ∷ []) in
        omega arith;
  }

-- a list's kinds from a token on
pub kinds_from : (at : ℕ) (ls : List Lexeme) → drop at (map kind_of ls) ≡ map kind_of (drop at ls)
kinds_from zero ls = refl
kinds_from (suc at) [] = refl
kinds_from (suc at) (l ∷ ls) = kinds_from at ls

module _ (o c : ℕ) (at : ℕ) (ls w us : List Lexeme) (z : Lexeme) (balanced : Balanced o c w) (other : kind_of z ≡ o → ⊥)
    (closer : kind_of z ≡ c) (stands : drop at ls ≡ w ++ (z ∷ us)) where
  -- what closes stands behind balanced lexemes
  pub close_length : close_from o c 0 (drop at (map kind_of ls)) ≡ length w
  close_length =
      let ends = close_ends o c (kind_of z) (map kind_of us) other closer in
      ap (close_from o c 0) (kinds_from at ls ∙ ap (map kind_of) stands) ∙ balanced.over 0 (z ∷ us) ∙ omega arith

  pub close_stands : drop (at + close_from o c 0 (drop at (map kind_of ls))) ls ≡ z ∷ us
  close_stands =
      rw (close_length, ← drop-drop (length w) at ls, stands) (drop-append_seam w (z ∷ us))

-- what stands at a token is in the list
pub stands_below : (at : ℕ) (ls w us : List Lexeme) (z : Lexeme) → drop at ls ≡ w ++ (z ∷ us)
    → at + length w < length ls
stands_below at ls w us z h =
    let e = sym (length-drop at ls) ∙ ap length h ∙ length-append w (z ∷ us) in omega arith
