-- What the parts of the outline's code say of the slices alone; `proofs/` ties it to the tree that the tokens spell.
use Rattle.std.specs.Prelude.{ℕ, ◌+◌, ◌<◌, ◌≤◌, ◌≡◌, List, length, get_or, take, drop}
use Rattle.syntax.specs.Token.{key, mark, lbrace, rbrace, lparen, rparen, semicolon, k_var, k_method}
use Rattle.syntax.specs.Token.{k_waituntil}
use Rattle.syntax.specs.Held.Kind.{kind_of, no_kind}
use Rattle.layout.specs.Closing.{close_from}
use Rattle.variables.specs.declared.Bounds.{Bounds}
use Rattle.outline.specs.Found.{nth_of, count_of}
use Rattle.outline.specs.declared.Span.{Span}
use Rattle.outline.specs.declared.Variable.{Variable}
use Rattle.outline.specs.declared.Method.{Method}
use Rattle.outline.specs.declared.Region.{Region}

-- where the name at a token stands
unfoldable pub name_in : List ℕ → List ℕ → ℕ → Span
name_in values places at = record { from = get_or places at 0; to = get_or places at 0 + get_or values at 0 }

-- what stands between two tokens
unfoldable pub between_in : List ℕ → ℕ → ℕ → ℕ → Span
between_in places opener size closer = record { from = get_or places opener 0 + size; to = get_or places closer 0 }

module _ (kinds : List ℕ) where
  -- what closes, of what was opened before a token
  abbrev pub bracket_at : ℕ → ℕ
  bracket_at at = at + close_from (kind_of (mark lparen)) (kind_of (mark rparen)) 0 (drop at kinds)

  abbrev pub brace_at : ℕ → ℕ
  brace_at at = at + close_from (kind_of (mark lbrace)) (kind_of (mark rbrace)) 0 (drop at kinds)

  abbrev pub semicolon_at : ℕ → ℕ
  semicolon_at at = at + close_from no_kind (kind_of (mark semicolon)) 0 (drop at kinds)

  -- the condition behind the k-th word of a kind and of so many bytes, up to its semicolon
  unfoldable pub condition_in : List ℕ → ℕ → ℕ → ℕ → Span
  condition_in places kind k size =
      let at = nth_of kind k kinds in between_in places at size (semicolon_at (at + 1))

  unfoldable pub variable_in : List ℕ → List ℕ → Bounds → ℕ → Variable
  variable_in values places b k =
      record {
        name = name_in values places (nth_of (kind_of (key k_var)) k kinds + 1);
        start = get_or b.starts k 0;
        low = get_or b.lows k 0;
        high = get_or b.highs k 0;
      }

  unfoldable pub method_in : List ℕ → List ℕ → ℕ → Method
  method_in values places k =
      let at = nth_of (kind_of (key k_method)) k kinds in
      record { name = name_in values places (at + 1); first = count_of (kind_of (key k_waituntil)) (take at kinds) }

  unfoldable pub region_in : List ℕ → ℕ → ℕ → Region
  region_in places number k =
      let opener = nth_of (kind_of (key k_waituntil)) k kinds + 1 in
      let closer = bracket_at (opener + 1) in
      record {
        guard = between_in places opener 1 closer;
        body = between_in places (closer + 1) 1 (brace_at (closer + 1 + 1));
        number = number;
      }

-- the first n of so many slots are filled, and the others are empty
pub record Listed {A : Type 0} (size n : ℕ) (empty : A) (f : ℕ → A) (found : List A) : Type 0 where
  pub whole : length found ≡ size
  pub filled : (k : ℕ) → k < size → k < n → get_or found k empty ≡ f k
  pub behind : (k : ℕ) → n ≤ k → get_or found k empty ≡ empty

-- the first n of so many slots hold what a relation of their numbers allows, and the others are empty
pub record Slots {A : Type 0} (size n : ℕ) (empty : A) (allowed : ℕ → A → Type 0) (found : List A) : Type 0 where
  pub whole : length found ≡ size
  pub filled : (k : ℕ) → k < size → k < n → allowed k (get_or found k empty)
  pub behind : (k : ℕ) → n ≤ k → get_or found k empty ≡ empty
