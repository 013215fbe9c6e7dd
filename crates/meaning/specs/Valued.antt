-- The remainders that 15 asks for, those of keep, the tries and the guards, and when one of them lacks a value.
use Rattle.std.specs.Prelude.{◌≡◌, List, [], ◌∷◌, ◌++◌, ℤ}
use Rattle.std.proofs.Math.Option.{none}
use Rattle.syntax.specs.Token.{Lexeme, key, mark, lparen, k_keep, k_try, k_waituntil, k_mod}
use Rattle.syntax.specs.Tree.{Atom, remainder, Cond, Region, Method, Var, Monitor, all, spell_atom, spell_cond}
use Rattle.meaning.specs.Value.{term_value}
use Rattle.meaning.specs.Runs.{State}
use Rattle.meaning.specs.Before.{up_to, up_to_try, up_to_region}

-- the conditions of "keep, a try or a guard", each behind the lexemes that stand before it in the file (R 6.36, 6.38, 6.39)
pub data Asked (m : Monitor) : List Lexeme → Cond → Type 0 where
  of_keep : Asked m (up_to m (all m.vars) ++ (key k_keep ∷ [])) m.keep
  of_try : (before after : List Cond) (c : Cond) → m.tries ≡ before ++ (c ∷ after)
      → Asked m (up_to_try m before ++ (key k_try ∷ [])) c
  of_guard :
      (methods others : List Method) (x : Method) (before after : List Region) (r : Region)
      → all m.methods ≡ methods ++ (x ∷ others) → all x.regions ≡ before ++ (r ∷ after)
      → Asked m (up_to_region m methods x before ++ (key k_waituntil ∷ mark lparen ∷ [])) r.guard

-- `left mod right` stands in a condition, behind some lexemes of it and before others. (Of `x - 7 mod 3` the left side may be
-- read as 7 or as -7: the place of `mod` is the same, and whether a value is there is a matter of the right side alone.)
pub record RemainderIn (c : Cond) (left right : Atom) (front : List Lexeme) : Type 0 where
  pub back : List Lexeme
  pub stands : spell_cond c ≡ front ++ (spell_atom left ++ (key k_mod ∷ (spell_atom right ++ back)))

-- a remainder of a condition that has no value in a state
pub record Missing (c : Cond) (vs : List Var) (as' : List ℤ) : Type 0 where
  pub left : Atom
  pub right : Atom
  pub front : List Lexeme
  pub stands : RemainderIn c left right front
  pub missing : term_value vs as' (remainder left right) ≡ none

-- behind some lexemes of the file stands a "`mod` in keep, a try or a guard that has no value in some state of the ranges":
-- the state need not be kept, and nothing else of the condition matters (R 6.36). 15 names the first
pub record Lacking (m : Monitor) (before : List Lexeme) : Type 0 where
  pub pre : List Lexeme
  pub condition : Cond
  pub asked : Asked m pre condition
  pub left : Atom
  pub right : Atom
  pub front : List Lexeme
  pub stands : RemainderIn condition left right front
  pub place : before ≡ pre ++ (front ++ spell_atom left)
  pub values : List ℤ
  pub state : State (all m.vars) values
  pub missing : term_value (all m.vars) values (remainder left right) ≡ none
