-- How a file's lexemes, its variables' values and their ranges are held as numbers for the evaluator.
use Rattle.std.specs.Prelude.{ℕ, suc, ◌+◌, ◌≡◌, Bool, true, false, ◌⊎◌, length, get_or, drop, ℤ}
use mathlib.Core.List.{List, [], ◌∷◌, ◌++◌, Memᴰ}
use Rattle.std.proofs.Math.Option.{Option, none, some}
use Rattle.std.proofs.Math.ListN.{get_elem?}
use Rattle.sets.specs.Set.{member}
use Rattle.syntax.specs.Bytes.{same_bytes}
use Rattle.syntax.specs.Token.{Lexeme, name, number, mark, lbrace, rbrace, rparen, semicolon}
use Rattle.syntax.specs.Held.Kind.{kind_of}
use Rattle.syntax.specs.Tree.{Var, Block, spell_block}
use Rattle.meaning.specs.Held.{Biased}
use Rattle.syntax.specs.Held.Kind.{Kinds}

-- the place of the first variable of a name, and their count where there is none
unfoldable pub slot_of : List Var → List ℕ → ℕ
slot_of [] x = 0
slot_of (v ∷ vs) x = elim (same_bytes v.title x) [ true ↦ 0 | false ↦ suc (slot_of vs x) ]

-- a set has the slot of every name of a text
unfoldable pub Covers : List Var → List Lexeme → ℕ → Type 0
Covers vs ls set = (x : List ℕ) → Memᴰ (name x) ls → member set (slot_of vs x) ≡ true

-- kinds, and the operands of a loaded file, which the evaluator has as `values`: at its place each number's value, each
-- name's slot, and for each brace that opens a block the place of the one that closes it
pub record Codes (vs : List Var) (ls : List Lexeme) (kinds values : List ℕ) : Type 0 where
  pub by_kind : Kinds ls kinds
  pub as_long : length values ≡ length kinds
  pub by_number : (i n : ℕ) → get_elem? ls i ≡ some (number n) → get_or values i 0 ≡ n
  pub by_name : (i : ℕ) (x : List ℕ) → get_elem? ls i ≡ some (name x) → get_or values i 0 ≡ slot_of vs x
  pub by_brace :
      (i : ℕ) (b : Block) (us : List Lexeme) → drop i ls ≡ mark lbrace ∷ (spell_block b ++ (mark rbrace ∷ us))
      → drop (get_or values i 0) ls ≡ mark rbrace ∷ us

-- what stands behind a condition in a file: a closing bracket or a semicolon
unfoldable pub EndsCond : List Lexeme → Type 0
EndsCond us =
    (rest : List Lexeme) × (l : Lexeme) × (us ≡ l ∷ rest)
    × ((kind_of l ≡ kind_of (mark rparen)) ⊎ (kind_of l ≡ kind_of (mark semicolon)))

-- the six values of a lane: that of variable v in lane j stands at v * 16 + j
unfoldable pub lane : List ℕ → ℕ → List ℕ
lane xs j =
    get_or xs j 0 ∷ get_or xs (16 + j) 0 ∷ get_or xs (32 + j) 0
    ∷ get_or xs (48 + j) 0 ∷ get_or xs (64 + j) 0 ∷ get_or xs (80 + j) 0 ∷ []

-- a body's run, as the code answers it: whether it stayed in its ranges, and the values held after it
unfoldable pub RunAs : List Var → Bool → List ℕ → Option (List ℤ) → Type 0
RunAs vs ok held none = ok ≡ false
RunAs vs ok held (some bs) = (ok ≡ true) × Biased vs bs held
