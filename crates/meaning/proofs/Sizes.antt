-- How much an accepted file holds: at most 6 variables, 16 tries, 8 methods, 16 regions and 16 guards, by counting the keywords
-- that begin them; and no two variables of one name.
use Prim.Native.Nat.{ℕ, zero, suc, ◌+◌, ◌≤◌}
use native.Mathlib.Omega.{arith}
use mathlib.Core.Path.{◌≡◌, refl, ap, ◌∙◌}
use mathlib.Core.Logic.{inl, inr}
use mathlib.Core.List.{List, [], ◌∷◌, ◌++◌, append_assoc}
use lib.ListN.{length, drop, length-append}
use lib.Dec.{ltb}
use Rattle.syntax.specs.Token.{Lexeme, name, key, mark, lbrace, rbrace, semicolon, Keyword, k_monitor, k_var, k_keep}
use Rattle.syntax.specs.Token.{k_method, k_waituntil, k_try, Token, lexemes}
use Rattle.syntax.specs.Decide.Lexeme.{is_key}
use Rattle.syntax.specs.Tree.{Cond, Region, Var, Monitor, all, each, spell_method, spell_try, spell_var}
use Rattle.syntax.specs.Tree.{spell_cond, spell}
use Rattle.meaning.specs.Accepted.{NoneOffends, how_many, PastLimit, Declared, Accepted}
use Rattle.meaning.specs.Runs.{regions_of}
use Rattle.meaning.specs.Model.{place_in, guards_of, regions, guards}
use Rattle.logic.proofs.Bools.{split, different}
use Rattle.syntax.proofs.Lexemes.{decides_key}
use Rattle.meaning.proofs.GrammarPlace.{cut}
use Rattle.meaning.proofs.KeywordPlaces.{times, times_append, vars_times, each_append}
use Rattle.meaning.proofs.KeywordCounts.{methods_once, methods_wait, try_count}
use Rattle.meaning.specs.Held.{behind_keep}
use Rattle.meaning.specs.Before.{up_to}

pub record Sizes (m : Monitor) : Type 0 where
  pub vars : length (all m.vars) ≤ 6
  pub tries : length m.tries ≤ 16
  pub methods : length (all m.methods) ≤ 8
  pub regions : length (regions m) ≤ 16
  pub guards : length (guards m) ≤ 16

-- Keywords among tokens

-- one that never stands behind n of its kind stands at most n times
few : (k : Keyword) (n : ℕ) (ts : List Token)
    → ((b a : List Token) (t : Token) → ts ≡ b ++ (t ∷ a) → t.lexeme ≡ key k → n ≤ how_many (is_key k) b → ⊥)
    → times k (lexemes ts) ≤ n
unfolding times lexemes how_many
few k n [] none = omega arith
few k zero (t ∷ ts) none = split (is_key k t.lexeme)
    (λ h. absurd (none [] ts t refl ((decides_key k t.lexeme).0 h) (omega arith)))
    (λ h. rw (h, times) (few k zero ts (λ b a u e l p. none (t ∷ b) a u (cc) l (omega arith))))
few k (suc n) (t ∷ ts) none = split (is_key k t.lexeme)
    (λ h. let rest = few k n ts (λ b a u e l p. none (t ∷ b) a u (cc) l (rw (h, how_many) (omega arith))) in
    rw (h, times) (omega arith))
    (λ h. rw (h, times) (few k (suc n) ts (λ b a u e l p. none (t ∷ b) a u (cc) l (rw (h, how_many) p))))

-- Keywords in what a tree spells

times_front : (k : Keyword) (as' bs : List Lexeme) → times k as' ≤ times k (as' ++ bs)
times_front k as' bs = let e = times_append k as' bs in omega arith

times_behind : (k : Keyword) (as' bs : List Lexeme) → times k bs ≤ times k (as' ++ bs)
times_behind k as' bs = let e = times_append k as' bs in omega arith

-- of the variables, and of the methods, in a file
in_vars : (k : Keyword) (m : Monitor) → times k (each spell_var (all m.vars)) ≤ times k (spell m)
unfolding spell behind_keep
in_vars k m =
    let a = times_behind k (key k_monitor ∷ name m.title ∷ mark lbrace ∷ [])
    (each spell_var (all m.vars) ++ (key k_keep ∷ behind_keep m)) in
    let b = times_front k (each spell_var (all m.vars)) (key k_keep ∷ behind_keep m) in
    omega arith

in_methods : (k : Keyword) (m : Monitor) → times k (each spell_method (all m.methods)) ≤ times k (spell m)
unfolding spell
in_methods k m =
    let ms = each spell_method (all m.methods) in
    let tail = ms ++ (mark rbrace ∷ []) in
    let tries = each spell_try m.tries in
    let kept = spell_cond m.keep ++ (mark semicolon ∷ (tries ++ tail)) in
    let a = times_behind k (key k_monitor ∷ name m.title ∷ mark lbrace ∷ each spell_var (all m.vars))
    (key k_keep ∷ kept) in
    let b = times_behind k (key k_keep ∷ spell_cond m.keep) (mark semicolon ∷ (tries ++ tail)) in
    let c = times_behind k (mark semicolon ∷ tries) tail in
    let d = times_front k ms (mark rbrace ∷ []) in
    omega arith

-- guards are at most as many as regions
pub guards_few : (found : List Cond) (rs : List Region) → length (guards_of found rs) ≤ length found + length rs
unfolding guards_of
guards_few found [] = omega arith
guards_few found (r ∷ rs) = split (ltb (place_in r.guard found) (length found))
    (λ h. let k = guards_few found rs in rw (h, guards_of) (omega arith))
    (λ h.
    let k = guards_few (found ++ (r.guard ∷ [])) rs in
    let l = length-append found (r.guard ∷ []) in
    rw (h, guards_of) (omega arith))

pub sizes_of : (ts : List Token) (m : Monitor) → spell m ≡ lexemes ts → NoneOffends PastLimit ts → Sizes m
unfolding NoneOffends PastLimit regions guards
sizes_of ts m grammar counts =
    let at : (k : Keyword) → times k (spell m) ≡ times k (lexemes ts) = λ k. ap (times k) grammar in
    let vs = few k_var 6 ts (λ b c t e l h. counts b c t e (inl (l, h))) in
    let ms = few k_method 8 ts (λ b c t e l h. counts b c t e (inr (inl (l, h)))) in
    let ws = few k_waituntil 16 ts (λ b c t e l h. counts b c t e (inr (inr (inl (l, h))))) in
    let cs = few k_try 16 ts (λ b c t e l h. counts b c t e (inr (inr (inr (l, h))))) in
    let few_regions : length (regions_of (all m.methods)) ≤ 16 =
    omega (arith, at k_waituntil, in_methods k_waituntil m, methods_wait (all m.methods)) in
    record {
      vars = omega (arith, at k_var, in_vars k_var m, vars_times (all m.vars));
      tries = omega (arith, at k_try, try_count m);
      methods = omega (arith, at k_method, in_methods k_method m, methods_once (all m.methods));
      regions = few_regions;
      guards = omega (arith, guards_few [] (regions_of (all m.methods)));
    }

pub sizes : {file : List ℕ} {m : Monitor} → Accepted file m → Sizes m
sizes {m = m} a = sizes_of a.ts m a.grammar a.counts

-- No two variables have one name

-- the token of a lexeme
record At (ts : List Token) (pre : List Lexeme) (l : Lexeme) (ls : List Lexeme) : Type 0 where
  front : List Token
  token : Token
  back : List Token
  whole : ts ≡ front ++ (token ∷ back)
  passed : lexemes front ≡ pre
  here : token.lexeme ≡ l
  left : lexemes back ≡ ls

token_at : (ts : List Token) (pre : List Lexeme) (l : Lexeme) (ls : List Lexeme) → lexemes ts ≡ pre ++ (l ∷ ls)
    → At ts pre l ls
unfolding lexemes
token_at ts pre l ls e = let c = cut ts pre (l ∷ ls) e in go c.front c.back c.whole c.passed c.left
  where
    go : (front back : List Token) → ts ≡ front ++ back → lexemes front ≡ pre → lexemes back ≡ l ∷ ls → At ts pre l ls
    go front [] w p q = different (cc)
    go front (t ∷ back) w p q = record {
      front = front;
      token = t;
      back = back;
      whole = w;
      passed = p;
      here = cc;
      left =
          cc;
    }

first_token : (ts : List Token) (l : Lexeme) (ls : List Lexeme) → lexemes ts ≡ l ∷ ls
    → (t : Token) × (back : List Token) × (ts ≡ t ∷ back) × (t.lexeme ≡ l)
unfolding lexemes
first_token [] l ls e = different (cc)
first_token (t ∷ ts) l ls e = (t, ts, refl, cc)

-- what stands behind `var` and the name of the first of some variables
abbrev behind_name : Var → List Var → List Lexeme → List Lexeme
behind_name v vs rest = drop 2 (each spell_var (v ∷ vs) ++ rest)

var_begins : (v : Var) (vs : List Var) (rest : List Lexeme)
    → each spell_var (v ∷ vs) ++ rest ≡ key k_var ∷ name v.title ∷ behind_name v vs rest
unfolding each spell_var
var_begins v vs rest = refl

up_to_more : (m : Monitor) (a b : List Var) → up_to m (a ++ b) ≡ up_to m a ++ each spell_var b
unfolding up_to
up_to_more m a b = ap {B = List Lexeme} (λ ls. key k_monitor ∷ name m.title ∷ mark lbrace ∷ ls)
    (each_append spell_var a b)

-- a variable declared among tokens, and `var` last among them
two_tokens : {ts : List Token} {pre ls : List Lexeme} {k : Keyword} {x : List ℕ} → At ts pre (key k) (name x ∷ ls)
    → Declared k x ts
unfolding Declared
two_tokens {ls = ls} {x = x} r =
    let s = first_token r.back (name x) ls r.left in
    (r.front, s.1, r.token, s.0, rw s.2 at r.whole, r.here, s.3)

declares : (m : Monitor) (front : List Token) (a : List Var) (u : Var) (b : List Var)
    → lexemes front ≡ up_to m (a ++ (u ∷ b)) ++ (key k_var ∷ []) → Declared k_var u.title front
declares m front a u b e =
    two_tokens (token_at front (up_to m a) (key k_var) (name u.title ∷ behind_name u b (key k_var ∷ []))
    (e ∙ rw (up_to_more m a (u ∷ b), append_assoc, var_begins u b (key k_var ∷ []))))
