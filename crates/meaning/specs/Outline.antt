-- What a file has and where it stands among the file's bytes, of every file that the checks 1 to 7 and 15 pass: what the call
-- `outline` gives, in the order of the file. And a state by its number, and back: what `state_at` and `number_of` give.
use Rattle.std.specs.Prelude.{ℕ, ◌+◌, ◌≡◌, true, false, ◌&&◌, List, [], ◌∷◌, ◌++◌, map, length, take, ℤ, pos, ◌-ℤ◌, ltb}
use Rattle.std.proofs.Math.Option.{Option, none, some}
use Rattle.syntax.specs.Token.{Lexeme, name, key, mark, lbrace, rbrace, lparen, rparen, semicolon, Token, lexemes}
use Rattle.syntax.specs.Token.{k_monitor, k_var, k_keep, k_method, k_waituntil, k_try}
use Rattle.syntax.specs.Tree.{Cond, Region, Method, Var, Monitor, all, spell_cond, spell_block}
use Rattle.meaning.specs.Decide.Bodies.{outcome}
use Rattle.meaning.specs.State.{state_at, number_of}
use Rattle.meaning.specs.Before.{up_to, up_to_try, up_to_method, up_to_region}
use Rattle.meaning.specs.Model.{vars, regions, region, guard_of, holds, kept}

-- Where something stands

-- a token stands behind some lexemes, and begins at a byte (R 16.4)
pub record TokenAt (ts : List Token) (pre : List Lexeme) (l : Lexeme) (byte : ℕ) : Type 0 where
  pub front : List Token
  pub back : List Token
  pub token : Token
  pub whole : ts ≡ front ++ (token ∷ back)
  pub passed : lexemes front ≡ pre
  pub is : token.lexeme ≡ l
  pub place : token.at ≡ byte

-- a name stands there: its first byte, and the one behind its last (R 16.5)
pub record NameAt (ts : List Token) (pre : List Lexeme) (x : List ℕ) (from to : ℕ) : Type 0 where
  pub stands : TokenAt ts pre (name x) from
  pub behind : to ≡ from + length x

-- some lexemes stand between two tokens: from the byte behind the first, of so many bytes, up to the second's (R 16.6)
pub record Between (ts : List Token) (pre : List Lexeme) (opener : Lexeme) (size : ℕ) (part : List Lexeme)
    (closer : Lexeme) (from to : ℕ) : Type 0 where
  pub opened : ℕ
  pub opens : TokenAt ts pre opener opened
  pub begins : from ≡ opened + size
  pub closes : TokenAt ts (pre ++ (opener ∷ part)) closer to

module _ (ts : List Token) (m : Monitor) where
  -- the monitor's name (R 16.5), and the condition behind `keep`: what stands between `keep` and its semicolon (R 16.7)
  unfoldable pub TitleAt : ℕ → ℕ → Type 0
  TitleAt = NameAt ts (key k_monitor ∷ []) m.title

  unfoldable pub KeepAt : ℕ → ℕ → Type 0
  KeepAt = Between ts (up_to m (all m.vars)) (key k_keep) 4 (spell_cond m.keep) (mark semicolon)

  -- the condition of the try behind some: what stands between `try` and its semicolon (R 16.7)
  unfoldable pub TryAt : List Cond → Cond → ℕ → ℕ → Type 0
  TryAt before c = Between ts (up_to_try m before) (key k_try) 3 (spell_cond c) (mark semicolon)

  -- the name of the variable behind some (R 16.5)
  unfoldable pub VariableAt : List Var → Var → ℕ → ℕ → Type 0
  VariableAt before v = NameAt ts (up_to m before ++ (key k_var ∷ [])) v.title

  -- of the method behind some (R 16.5)
  unfoldable pub MethodAt : List Method → Method → ℕ → ℕ → Type 0
  MethodAt before x = NameAt ts (up_to_method m before ++ (key k_method ∷ [])) x.title

  -- the guard and the body of the region behind some of a method: what stands between the brackets behind `waituntil`,
  -- and between the braces behind these (R 16.8, 16.9)
  unfoldable pub GuardAt : List Method → Method → List Region → Region → ℕ → ℕ → Type 0
  GuardAt methods x before q =
      Between ts (up_to_region m methods x before ++ (key k_waituntil ∷ [])) (mark lparen) 1 (spell_cond q.guard)
      (mark rparen)

  unfoldable pub BodyAt : List Method → Method → List Region → Region → ℕ → ℕ → Type 0
  BodyAt methods x before q =
      Between ts
      (up_to_region m methods x before ++ (key k_waituntil ∷ mark lparen ∷ (spell_cond q.guard ++ (mark rparen ∷ []))))
      (mark lbrace) 1 (spell_block q.body) (mark rbrace)

-- A state

-- what a region's body does from a state: it does not run, or it faults, or it ends at a state (R 16.14)
pub data Move : Type 0 where
  never : Move
  faults : Move
  ends : ℕ → Move

-- a body's outcome as a move (R 4.19, 4.20)
unfoldable pub move_of : List Var → Option (List ℤ) → Move
move_of vs none = faults
move_of vs (some as') = ends (number_of vs as')

-- a body runs where the kept condition and its guard hold (R 5.2, 16.14)
unfoldable pub move : Monitor → ℕ → ℕ → Move
move m r n =
    elim (ltb r (length (regions m)) && kept m n && holds m (guard_of m r) n)
    [ true ↦ move_of (vars m) (outcome (region m r) (vars m) (state_at (vars m) n)) | false ↦ never ]

-- the values that the first n of some numbers hold, each with 128 added (R 16.15)
unfoldable pub held_values : ℕ → List ℕ → List ℤ
held_values n held = map (λ x. pos x -ℤ pos 128) (take n held)
