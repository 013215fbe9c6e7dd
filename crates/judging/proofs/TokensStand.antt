-- Where the parts of a file stand among its tokens, as the code finds them: the variables, `keep`, and the places of
-- refusals 4, 7 and 8.
use Prim.Native.Nat.{ℕ, zero, suc, ◌+◌, ◌-◌, ◌≤◌}
use native.Mathlib.Omega.{arith}
use mathlib.Core.Path.{◌≡◌, refl, sym, ap, ◌∙◌}
use mathlib.Core.Option.{Option, some}
use mathlib.Core.List.{List, [], ◌∷◌, ◌++◌, map, append-nil}
use lib.ListN.{length, take, drop, get_or, length-append, length-drop}
use lib.Seq.{take_at}
use Rattle.syntax.specs.Token.{Lexeme, key, Keyword, k_var, k_keep, Token, lexemes}
use Rattle.syntax.specs.Tree.{Monitor, all, each, spell_var, spell}
use Rattle.syntax.specs.Held.Kind.{Words}
use Rattle.meaning.specs.Decide.Check.{places_of, place_of, left_of, ill_ranged}
use Rattle.meaning.specs.Refusal.{FirstIllRanged}
use Rattle.meaning.proofs.RangeLaws.{ill_ranged_first}
use Rattle.logic.proofs.Bools.{different}
use Rattle.meaning.specs.Refusal.{KeywordAt}
use Rattle.meaning.specs.Held.{behind_keep}
use Rattle.meaning.proofs.KeywordPlaces.{spell_from, var_place, keep_place}
use Rattle.variables.specs.Bounded.{EndsVars}
use Rattle.variables.specs.Places.{first_var}
use Rattle.layout.proofs.Same.{lexemes_length}
use Rattle.meaning.specs.Before.{up_to}

place_at : (front : List Token) (t : Token) (back : List Token)
    → get_or (map (λ u. u.at) (front ++ (t ∷ back))) (length front) 0 ≡ t.at
place_at [] t back = refl
place_at (u ∷ front) t back = place_at front t back

-- the token behind some lexemes, by how many they are
stands_at : {ts : List Token} {pre : List Lexeme} {k : Keyword} {byte : ℕ} → KeywordAt ts pre k byte
    → get_or (map (λ t. t.at) ts) (length pre) 0 ≡ byte
stands_at s =
    rw (s.whole, ← s.passed, lexemes_length) (place_at s.front s.token s.back ∙ s.place)

module _ (ts : List Token) (m : Monitor) (spelt : spell m ≡ lexemes ts) where
  -- the variables begin at the fourth token, behind `monitor NAME {`, and `keep` is behind them
  pub vars_stand : drop first_var (lexemes ts) ≡ each spell_var (all m.vars) ++ (key k_keep ∷ behind_keep m)
  unfolding spell behind_keep
  vars_stand = ap (drop first_var) (sym spelt)

  pub vars_end : EndsVars (key k_keep ∷ behind_keep m)
  unfolding EndsVars
  vars_end = (key k_keep, behind_keep m, refl, λ e. different (cc))

  module _ (k : ℕ) (behind : drop k (lexemes ts) ≡ key k_keep ∷ behind_keep m) where
    keep_counted : k ≡ length (up_to m (all m.vars))
    unfolding each
    keep_counted =
        let whole : length (lexemes ts) ≡ length (up_to m (all m.vars)) + suc (length (behind_keep m)) =
        ap length (sym spelt ∙ spell_from m (all m.vars) [] (sym (append-nil (all m.vars))))
        ∙ length-append (up_to m (all m.vars)) (key k_keep ∷ behind_keep m) in
        omega (arith, length-drop k (lexemes ts), ap length behind)

    -- 8: "byte of `keep`"
    pub keep_byte : {file kinds values places : List ℕ} → Words file ts kinds values places
        → get_or places k 0 ≡ get_or (places_of k_keep ts) 0 0
    keep_byte w = rw (w.by_place, keep_counted) (stands_at (keep_place ts m (sym spelt)))

  -- 7: "byte of `var`"
  pub ill_ranged_byte : {file kinds values places : List ℕ} {i : ℕ} → Words file ts kinds values places
      → FirstIllRanged (all m.vars) i
      → ill_ranged 1 (all m.vars) (places_of k_var ts)
      ≡ some (get_or places (first_var + length (each spell_var (take i (all m.vars)))) 0)
  unfolding up_to
  ill_ranged_byte {i = i} w t =
      let vs = all m.vars in
      let front : take i vs ≡ t.before =
      ap (take i) t.parts ∙ take_at t.before (t.var ∷ t.after) i t.place in
      let counted : first_var + length (each spell_var (take i vs)) ≡ length (up_to m t.before) =
      rw front (omega arith) in
      ill_ranged_first (places_of k_var ts) t
      ∙ ap {B = Option ℕ} some (sym (rw (w.by_place, counted, ← t.place)
      (stands_at (var_place ts m (sym spelt) t.before t.var t.after t.parts))))

-- 4

left_from : (ts : List Token) (i : ℕ) → i ≤ length ts → left_of ts (drop i (lexemes ts)) ≡ drop i ts
unfolding left_of
left_from ts i h =
    let counted : length ts - length (drop i (lexemes ts)) ≡ i =
    omega (arith, length-drop i (lexemes ts), lexemes_length ts) in
    ap (λ (k : ℕ). drop k ts) counted

first_place : (end : ℕ) (ts : List Token) (i : ℕ)
    → place_of end (drop i ts) ≡ get_or (map (λ t. t.at) ts) i end
unfolding place_of
first_place end [] zero = refl
first_place end [] (suc i) = refl
first_place end (t ∷ ts) zero = refl
first_place end (t ∷ ts) (suc i) = first_place end ts i

-- the byte of the token at which the reading stops, or the end behind the last one
pub stuck_place : {file : List ℕ} {ts : List Token} {kinds values places : List ℕ} (end i : ℕ)
    → Words file ts kinds values places → i ≤ length ts
    → place_of end (left_of ts (drop i (lexemes ts))) ≡ get_or places i end
stuck_place {ts = ts} end i w h = rw (left_from ts i h, w.by_place) (first_place end ts i)
