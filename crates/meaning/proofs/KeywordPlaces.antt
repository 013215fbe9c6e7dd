-- The places of 7 and 8: in a file that spells a tree, the i-th `var` is that of variable i, and the one `keep` that of
-- the kept condition. By counting a keyword in what stands before it.
use Prim.Native.Nat.{ℕ, suc, ◌+◌}
use native.Mathlib.Omega.{arith}
use native.Mathlib.Nat.{zero-add, suc-add}
use mathlib.Core.Path.{◌≡◌, refl, sym, ap, ◌∙◌}
use mathlib.Core.Bool.{true, false}
use mathlib.Core.List.{List, [], ◌∷◌, ◌++◌, append_assoc, append-nil}
use lib.ListN.{length, get_or, drop}
use lib.Seq.{get_or_at}
use Rattle.syntax.specs.Token.{Lexeme, name, key, mark, lbrace, Keyword, k_monitor, k_var, k_keep}
use Rattle.syntax.specs.Token.{Token, lexemes}
use Rattle.syntax.specs.Decide.Lexeme.{is_key, keyword_number}
use Rattle.syntax.specs.Tree.{Int, plain, negated, Var, Monitor, all, spell_int, each, spell_var}
use Rattle.syntax.specs.Tree.{spell}
use Rattle.meaning.specs.Decide.Check.{places_of}
use Rattle.logic.proofs.Bools.{split}
use Rattle.logic.proofs.Bools.{different}
use Rattle.syntax.proofs.Lexemes.{decides_key}
use Rattle.meaning.proofs.GrammarPlace.{cut}
use Rattle.meaning.specs.Refusal.{KeywordAt}
use Rattle.meaning.specs.Held.{behind_keep}
use Rattle.meaning.specs.Before.{up_to}

-- How often a keyword stands among some lexemes

unfoldable pub times : Keyword → List Lexeme → ℕ
times k [] = 0
times k (l ∷ ls) = elim (is_key k l) [ true ↦ suc (times k ls) | false ↦ times k ls ]

pub times_append : (k : Keyword) (as' bs : List Lexeme) → times k (as' ++ bs) ≡ times k as' + times k bs
unfolding times
times_append k [] bs = sym (zero-add (times k bs))
times_append k (l ∷ as') bs =
    split (is_key k l) (λ h. cc (times_append k as' bs, suc-add (times k as') (times k bs)))
    (λ h. cc (times_append k as' bs))

places_times : (k : Keyword) (ts : List Token) → length (places_of k ts) ≡ times k (lexemes ts)
unfolding times places_of lexemes
places_times k [] = refl
places_times k (t ∷ ts) = split (is_key k t.lexeme) (λ h. cc (places_times k ts)) (λ h. cc (places_times k ts))

places_append : (k : Keyword) (as' bs : List Token) → places_of k (as' ++ bs) ≡ places_of k as' ++ places_of k bs
unfolding places_of
places_append k [] bs = refl
places_append k (t ∷ as') bs =
    split (is_key k t.lexeme) (λ h. cc (places_append k as' bs)) (λ h. cc (places_append k as' bs))

-- the keyword behind some lexemes is the one that comes after as many as they have
stands : (k : Keyword) (ts : List Token) (pre ls : List Lexeme) → lexemes ts ≡ pre ++ (key k ∷ ls)
    → KeywordAt ts pre k (get_or (places_of k ts) (times k pre) 0)
unfolding lexemes places_of
stands k ts pre ls e =
    let c = cut ts pre (key k ∷ ls) e in
    go c.front c.back c.whole c.passed c.left
  where
    go : (front back : List Token) → ts ≡ front ++ back → lexemes front ≡ pre → lexemes back ≡ key k ∷ ls
        → KeywordAt ts pre k (get_or (places_of k ts) (times k pre) 0)
    go front [] w p q = different (cc)
    go front (t ∷ back) w p q =
        let is : t.lexeme ≡ key k = cc in
        let first : places_of k (t ∷ back) ≡ t.at ∷ places_of k back = cc ((decides_key k t.lexeme).1 is) in
        record {
          front = front;
          back = back;
          token = t;
          whole = w;
          passed = p;
          keyword = is;
          place =
              rw (w, places_append k front (t ∷ back), first)
              (sym (get_or_at (places_of k front) t.at (places_of k back) 0 (times k pre)
              (places_times k front ∙ ap (times k) p)));
        }

-- In what a variable spells

times_int : (k : Keyword) (i : Int) → times k (spell_int i) ≡ 0
unfolding times spell_int is_key
times_int k (plain n) = refl
times_int k (negated n) = refl

var_once : (v : Var) → times k_var (spell_var v) ≡ 1
unfolding spell_var times is_key keyword_number
var_once v = simp (times_append, times_int)

keep_never : (v : Var) → times k_keep (spell_var v) ≡ 0
unfolding spell_var times is_key keyword_number
keep_never v = simp (times_append, times_int)

pub vars_times : (vs : List Var) → times k_var (each spell_var vs) ≡ length vs
unfolding each times
vars_times [] = refl
vars_times (v ∷ vs) =
    let a = times_append k_var (spell_var v) (each spell_var vs) in
    let b = var_once v in
    let c = vars_times vs in
    omega arith

keeps_times : (vs : List Var) → times k_keep (each spell_var vs) ≡ 0
unfolding each times
keeps_times [] = refl
keeps_times (v ∷ vs) =
    let a = times_append k_keep (spell_var v) (each spell_var vs) in
    let b = keep_never v in
    let c = keeps_times vs in
    omega arith

pub each_append : {A : Type 0} (f : A → List Lexeme) (as' bs : List A) → each f (as' ++ bs) ≡ each f as' ++ each f bs
unfolding each
each_append f [] bs = refl
each_append f (a ∷ as') bs = rw (each_append f as' bs) (sym (append_assoc (f a) (each f as') (each f bs)))

pub up_to_var : (m : Monitor) (before : List Var) → times k_var (up_to m before) ≡ length before
unfolding up_to times is_key keyword_number
up_to_var m before = vars_times before

pub up_to_keep : (m : Monitor) (before : List Var) → times k_keep (up_to m before) ≡ 0
unfolding up_to times is_key keyword_number
up_to_keep m before = keeps_times before

-- variables begin with `var`
begins : (v : Var) (after : List Var) (rest : List Lexeme)
    → each spell_var (v ∷ after) ++ rest ≡ key k_var ∷ drop 1 (each spell_var (v ∷ after) ++ rest)
unfolding each spell_var
begins v after rest = refl

-- a file up to some variables, and what is behind
pub spell_from : (m : Monitor) (before after : List Var) → all m.vars ≡ before ++ after
    → spell m ≡ up_to m before ++ (each spell_var after ++ (key k_keep ∷ behind_keep m))
unfolding up_to spell behind_keep
spell_from m before after e =
    ap {B = List Lexeme} (λ ls. key k_monitor ∷ name m.title ∷ mark lbrace ∷ (ls ++ (key k_keep ∷ behind_keep m)))
    (ap (each spell_var) e ∙ each_append spell_var before after)
    ∙ ap {B = List Lexeme} (λ ls. key k_monitor ∷ name m.title ∷ mark lbrace ∷ ls)
    (append_assoc (each spell_var before) (each spell_var after) (key k_keep ∷ behind_keep m))

module _ (ts : List Token) (m : Monitor) (spelt : lexemes ts ≡ spell m) where
  -- 7: "byte of `var`"
  pub var_place : (before : List Var) (v : Var) (after : List Var) → all m.vars ≡ before ++ (v ∷ after)
      → KeywordAt ts (up_to m before) k_var (get_or (places_of k_var ts) (length before) 0)
  var_place before v after e =
      rw (up_to_var m before) at
      (stands k_var ts (up_to m before) (drop 1 (each spell_var (v ∷ after) ++ (key k_keep ∷ behind_keep m)))
      (spelt ∙ spell_from m before (v ∷ after) e ∙ ap (λ ls. up_to m before ++ ls)
      (begins v after (key k_keep ∷ behind_keep m))))

  -- 8: "byte of `keep`"
  pub keep_place : KeywordAt ts (up_to m (all m.vars)) k_keep (get_or (places_of k_keep ts) 0 0)
  unfolding each
  keep_place =
      rw (up_to_keep m (all m.vars)) at (stands k_keep ts (up_to m (all m.vars)) (behind_keep m)
      (spelt ∙ spell_from m (all m.vars) [] (sym (append-nil (all m.vars)))))
