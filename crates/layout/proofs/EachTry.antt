-- The loop over the tries: those passed stand where the code holds them, and those left, with the methods behind them,
-- stand ahead.
use Prim.Native.Nat.{ℕ, suc, ◌+◌, ◌%◌, ◌≤◌, ◌<◌}
use native.Mathlib.Omega.{arith}
use native.Mathlib.Numerals.{add-one}
use mathlib.Core.Path.{◌≡◌, refl, sym, ap, ◌∙◌}
use mathlib.Core.List.{List, [], ◌∷◌, ◌++◌, map, append_assoc}
use lib.ListN.{length, drop, get_or, set, drop_of_length-le}
use lib.Seq.{drop-cons, get_or-set_same, get_or-set_other}
use lib.Dec.{eqb, ltb}
use borrow.Author.Tests.{eqb-true, eqb-false, ltb-true, ltb-false}
use Rattle.syntax.specs.Token.{Lexeme, key, mark, semicolon, k_keep, k_try}
use Rattle.syntax.specs.Decide.Lexeme.{mark_number, keyword_number}
use Rattle.syntax.specs.Held.Kind.{kind_of, no_kind, Kinds}
use Rattle.syntax.specs.Tree.{Cond, Monitor, all, each, spell_cond, spell_try, spell_method}
use Rattle.logic.proofs.Bools.{split}
use Rattle.meaning.specs.Held.{behind_keep}
use Rattle.meaning.specs.Decide.Choice.{no_try, try_at}
use Rattle.layout.specs.Places.{to_condition, past, behind_at}
use Rattle.layout.specs.Laid.{IsKeep, TriesLaid}
use Rattle.layout.proofs.Closes.{close_stands, stands_below, semicolon_kind, semicolon_end}
use Rattle.layout.proofs.Methods.{methods_ahead}
use Rattle.layout.proofs.Spelled.{later, kind_stands}
use Rattle.layout.proofs.Trees.{semicolons_balanced}

-- a condition and its semicolon stand at a token
abbrev CondAt : List Lexeme → Cond → ℕ → Type 0
CondAt ls c at = (us : List Lexeme) × (drop at ls ≡ spell_cond c ++ (mark semicolon ∷ us))

-- what is ahead where some tries are left
abbrev tries_ahead : Monitor → List Cond → List Lexeme
tries_ahead m cs = each spell_try cs ++ methods_ahead (all m.methods)

pub record TriesAhead (m : Monitor) (ls : List Lexeme) (ats : List ℕ) (count i : ℕ) : Type 0 where
  pub few : count ≤ length m.tries
  pub stand : (k : ℕ) → k < count → CondAt ls (try_at m k) (get_or ats k 0)
  pub ahead : drop i ls ≡ tries_ahead m (drop count m.tries)

first_try : (m : Monitor) (c : Cond) (cs : List Cond)
    → tries_ahead m (c ∷ cs) ≡ key k_try ∷ (spell_cond c ++ (mark semicolon ∷ tries_ahead m cs))
unfolding each spell_try
first_try m c cs =
    ap (λ (x : List Lexeme). key k_try ∷ x)
    (append_assoc (spell_cond c ++ (mark semicolon ∷ [])) (each spell_try cs) (methods_ahead (all m.methods))
    ∙ append_assoc (spell_cond c) (mark semicolon ∷ []) (tries_ahead m cs))

no_try_ahead : (m : Monitor) → get_or (map kind_of (tries_ahead m [])) 0 no_kind ≡ kind_of (key k_try) → ⊥
unfolding each spell_method kind_of keyword_number
no_try_ahead m e = omega arith

module _ (m : Monitor) (ls : List Lexeme) (kinds : List ℕ) (are : Kinds ls kinds) where
  kind_here : (i : ℕ) {us : List Lexeme} → drop i ls ≡ us → get_or kinds i no_kind ≡ get_or (map kind_of us) 0 no_kind
  unfolding Kinds
  kind_here i {us} h = rw (sym are) (kind_stands i ls us h)

  -- what stands behind the condition of a `keep` or a `try`
  behind_stands : (at : ℕ) (word : Lexeme) (c : Cond) (us : List Lexeme)
      → drop at ls ≡ word ∷ (spell_cond c ++ (mark semicolon ∷ us)) → drop (behind_at kinds at) ls ≡ us
  unfolding Kinds behind_at kind_of mark_number
  behind_stands at word c us stands =
      let semi = close_stands no_kind semicolon_kind (at + to_condition) ls (spell_cond c) us (mark semicolon)
      (semicolons_balanced c) (λ e. omega arith) refl (later to_condition at ls _ stands) in
      rw (sym are)
      (later past (at + to_condition + semicolon_end (drop (at + to_condition) (map kind_of ls))) ls _ semi)

  pub tries_start : (keep i : ℕ) (ats : List ℕ) → IsKeep m ls keep → i ≡ behind_at kinds keep → TriesAhead m ls ats 0 i
  unfolding IsKeep behind_keep
  tries_start keep i ats is next =
      record {
        few = omega arith;
        stand = λ k h. absurd (omega arith);
        ahead = rw next (behind_stands keep (key k_keep) m.keep _ is);
      }

  module _ (ats : List ℕ) (count i : ℕ) (a : TriesAhead m ls ats count i) where
    -- where one is left, `try` stands ahead
    one_left : count < length m.tries
        → drop i ls
        ≡ key k_try ∷ (spell_cond (try_at m count) ++ (mark semicolon ∷ tries_ahead m (drop (count + 1) m.tries)))
    unfolding try_at
    one_left h =
        rw add-one
        (a.ahead ∙ ap (tries_ahead m) (drop-cons m.tries count no_try h)
        ∙ first_try m (get_or m.tries count no_try) (drop (suc count) m.tries))

    -- and only there
    pub left_at_try : get_or kinds i no_kind ≡ kind_of (key k_try) → count < length m.tries
    left_at_try kind =
        split (ltb count (length m.tries)) (λ h. ltb-true count (length m.tries) h)
        (λ h. absurd (no_try_ahead m (sym (ap (λ (cs : List Cond). get_or (map kind_of (tries_ahead m cs)) 0 no_kind)
        (drop_of_length-le m.tries (ltb-false count (length m.tries) h))) ∙ sym (kind_here i a.ahead)
        ∙ kind)))

    pub tries_turn : (at next : ℕ) → count < length ats → length ls ≤ 1024 → at ≡ (i + to_condition) % 65536
        → next ≡ behind_at kinds i → get_or kinds i no_kind ≡ kind_of (key k_try)
        → TriesAhead m ls (set ats count at) (count + 1) next
    tries_turn at next room small is behind kind =
        let left = left_at_try kind in
        let here = one_left left in
        let low = stands_below i ls [] _ (key k_try) here in
        let whole : at ≡ i + to_condition = omega arith in
        record {
          few = omega arith;
          stand = λ k h. split (eqb k count)
              (λ e. rw (eqb-true k count e, get_or-set_same ats count at 0 room, whole)
              (_, later to_condition i ls _ here))
              (λ e. let n = eqb-false k count e in rw (get_or-set_other ats count k at 0 n) (a.stand k (below k h n)));
          ahead = rw behind (behind_stands i (key k_try) (try_at m count) _ here);
        }
      where
        below : (k : ℕ) → k < count + 1 → (k ≡ count → ⊥) → k < count
        below k h n = omega arith

    pub tries_over : (get_or kinds i no_kind ≡ kind_of (key k_try) → ⊥)
        → TriesLaid m ls record { count = count; ats = ats; next = i }
    unfolding each
    tries_over other =
        let all_passed = passed in
        record {
          count = all_passed;
          stand = λ k h. a.stand k (omega arith);
          next = a.ahead ∙ ap (tries_ahead m) (drop_of_length-le m.tries {i = count} (omega arith));
        }
      where
        passed : count ≡ length m.tries
        passed =
            split (ltb count (length m.tries))
            (λ h. absurd (other (kind_here i (one_left (ltb-true count (length m.tries) h)))))
            (λ h. let p = ltb-false count (length m.tries) h in let q = a.few in omega arith)
