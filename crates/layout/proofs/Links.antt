-- Braces that are linked: what a turn of the loop stores and leaves, and what that says of the tokens.
use Prim.Native.Nat.{ℕ, zero, suc, ◌+◌, ◌%◌, ◌≤◌, ◌<◌}
use native.Mathlib.Omega.{arith}
use native.Mathlib.Nat.{add-zero}
use mathlib.Core.Path.{◌≡◌, refl, sym, ap, ◌∙◌}
use mathlib.Core.List.{List, [], ◌∷◌, ◌++◌}
use mathlib.Core.Option.{some}
use lib.ListN.{length, drop, get_or, set, get_elem?, length-set, length-map}
use lib.Seq.{drop-drop, get_or-drop, get_or-set_same, get_or-set_other}
use lib.Dec.{eqb}
use borrow.Author.Tests.{eqb-true, eqb-false}
use Rattle.syntax.specs.Token.{Lexeme, mark, lbrace, rbrace}
use Rattle.syntax.specs.Decide.Lexeme.{mark_number}
use Rattle.syntax.specs.Held.Kind.{kind_of}
use Rattle.syntax.specs.Tree.{Block, spell_block}
use Rattle.logic.proofs.Bools.{split}
use Rattle.layout.specs.Places.{past}
use Rattle.layout.specs.Laid.{Linked}
use Rattle.syntax.specs.Held.Kind.{Kinds}
use Rattle.layout.proofs.Closes.{close_stands, stands_below}
use Rattle.layout.proofs.Closes.{open_brace, shut_brace, brace_end}
use Rattle.syntax.proofs.ByKind.{is_mark_lem}
use Rattle.layout.proofs.Same.{get_d_map}
use Rattle.layout.proofs.Trees.{braces_balanced}

-- the token of the brace that closes what is opened at k
abbrev pub link_of : List ℕ → ℕ → ℕ
link_of kinds k = (k + past + brace_end (drop (k + past) kinds)) % 65536

-- the braces below i are linked, and all else is as before
pub record Links (kinds before after : List ℕ) (i : ℕ) : Type 0 where
  pub as_long : length after ≡ length before
  pub done : (k : ℕ) → k < i → get_or kinds k 0 ≡ open_brace → get_or after k 0 ≡ link_of kinds k
  pub kept : (k : ℕ) → (k < i → get_or kinds k 0 ≡ open_brace → ⊥) → get_or after k 0 ≡ get_or before k 0

pub links_none : (kinds before : List ℕ) → Links kinds before before 0
links_none kinds before = record { as_long = refl; done = λ k h z. absurd (omega arith); kept = λ k n. refl }

module _ (kinds before after : List ℕ) (i : ℕ) (links : Links kinds before after i) where
  pub links_pass : (get_or kinds i 0 ≡ open_brace → ⊥) → Links kinds before after (i + 1)
  links_pass other =
      record {
        as_long = links.as_long;
        done = λ k h z. split (eqb k i) (λ e. absurd (other (rw (eqb-true k i e) at z)))
            (λ e. let n = eqb-false k i e in links.done k (below k h n) z);
        kept = λ k n. links.kept k (λ h z. n (omega arith) z);
      }
    where
      below : (k : ℕ) → k < i + 1 → (k ≡ i → ⊥) → k < i
      below k h n = omega arith

  pub links_store : i < length before → get_or kinds i 0 ≡ open_brace
      → Links kinds before (set after i (link_of kinds i)) (i + 1)
  links_store low brace =
      record {
        as_long = length-set after i (link_of kinds i) ∙ links.as_long;
        done = λ k h z. split (eqb k i)
            (λ e. let same : k ≡ i = eqb-true k i e in rw same (get_or-set_same after i (link_of kinds i) 0 in_after))
            (λ e. let n = eqb-false k i e in get_or-set_other after i k (link_of kinds i) 0 n
            ∙ links.done k (below k h n) z);
        kept = λ k n. get_or-set_other after i k (link_of kinds i) 0 (λ e. n (omega arith) (rw e brace))
            ∙ links.kept k (λ h z. n (omega arith) z);
      }
    where
      below : (k : ℕ) → k < i + 1 → (k ≡ i → ⊥) → k < i
      below k h n = omega arith

      in_after : i < length after
      in_after = let e = links.as_long in omega arith

element : (ls : List Lexeme) (i : ℕ) (d : Lexeme) → i < length ls → get_elem? ls i ≡ some (get_or ls i d)
element [] i d h = absurd (omega arith)
element (l ∷ ls) zero d h = refl
element (l ∷ ls) (suc i) d h = element ls i d (omega arith)

module _ (ls : List Lexeme) (kinds before after : List ℕ) (are : Kinds ls kinds) (few : length ls ≤ 1024)
    (links : Links kinds before after (length kinds)) where
  long : length kinds ≡ length ls
  unfolding Kinds
  long = ap length (sym are) ∙ length-map ls kind_of

  kind_at : (i : ℕ) → i < length kinds → get_or kinds i 0 ≡ kind_of (get_or ls i (mark rbrace))
  unfolding Kinds
  kind_at i h =
      let l = long in ap (λ (ks : List ℕ). get_or ks i 0) (sym are) ∙ get_d_map kind_of ls i (mark rbrace) (omega arith)

  others : (i : ℕ) → (get_elem? ls i ≡ some (mark lbrace) → ⊥) → get_or after i 0 ≡ get_or before i 0
  others i n =
      links.kept i (λ h z. let l = long in
      n (element ls i (mark rbrace) (omega arith)
      ∙ ap some (is_mark_lem lbrace (get_or ls i (mark rbrace)) (sym (kind_at i h) ∙ z))))

  linked : (i : ℕ) (b : Block) (us : List Lexeme) → drop i ls ≡ mark lbrace ∷ (spell_block b ++ (mark rbrace ∷ us))
      → drop (get_or after i 0) ls ≡ mark rbrace ∷ us
  unfolding Kinds kind_of mark_number
  linked i b us stands =
      let inside : drop (i + 1) ls ≡ spell_block b ++ (mark rbrace ∷ us) = sym (drop-drop 1 i ls) ∙ ap (drop 1) stands in
      let first : get_or ls i (mark rbrace) ≡ mark lbrace =
      ap (λ (k : ℕ). get_or ls k (mark rbrace)) (sym (add-zero i)) ∙ sym (get_or-drop i ls 0 (mark rbrace))
      ∙ ap (λ (x : List Lexeme). get_or x 0 (mark rbrace)) stands in
      let low = stands_below i ls [] (spell_block b ++ (mark rbrace ∷ us)) (mark lbrace) stands in
      let l = long in
      let in_kinds : i < length kinds = omega arith in
      let closes : drop (i + 1 + brace_end (drop (i + 1) kinds)) ls ≡ mark rbrace ∷ us =
      rw (sym are)
      (close_stands open_brace shut_brace (i + 1) ls (spell_block b) us (mark rbrace) (braces_balanced b)
      (λ e. omega arith) refl inside) in
      let end = stands_below (i + 1 + brace_end (drop (i + 1) kinds)) ls [] us (mark rbrace) closes in
      let whole : link_of kinds i ≡ i + 1 + brace_end (drop (i + 1) kinds) = omega arith in
      rw (links.done i in_kinds (kind_at i in_kinds ∙ ap kind_of first), whole) closes

  pub links_linked : Linked ls before after
  links_linked = record { as_long = links.as_long; others = others; linked = linked }
