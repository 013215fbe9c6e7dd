-- The names that a file declares, where they stand, their slots, and which names are wrong.
use Rattle.std.specs.Prelude.{ℕ, suc, ◌+◌, ◌≤◌, ◌<◌, ◌≡◌, Bool, true, false, not, ◌||◌, List, [], ◌∷◌, ◌++◌, map, length, take, drop, get_or}
use Rattle.syntax.specs.Bytes.{same_bytes}
use Rattle.syntax.specs.Limits.{most_methods}
use Rattle.syntax.specs.Token.{Lexeme, name, key, number, mark, k_monitor, k_var, k_method, Token}
use Rattle.syntax.specs.Decide.Lexeme.{is_key}
use Rattle.syntax.specs.Held.Kind.{kind_of}
use Rattle.meaning.specs.Decide.Check.{member}
use Rattle.names.specs.declared.Name.{Name}
use Rattle.names.specs.declared.Names.{Names}

-- the names that stand behind `var`, in order; the lexeme before comes first
unfoldable pub titles_from : Lexeme → List Token → List (List ℕ)
titles_from before [] = []
titles_from before (t ∷ ts) =
    elim t.lexeme [
      | name x ↦ elim (is_key k_var before) [ true ↦ x ∷ titles_from (name x) ts | false ↦ titles_from (name x) ts ]
      | key k ↦ titles_from (key k) ts
      | number n ↦ titles_from (number n) ts
      | mark m ↦ titles_from (mark m) ts
    ]

unfoldable pub titles_of : List Token → List (List ℕ)
titles_of ts = titles_from (number 0) ts

-- the place of a name in a list, and the list's length where it is not there
unfoldable pub slot_in : List (List ℕ) → List ℕ → ℕ
slot_in [] x = 0
slot_in (y ∷ ys) x = elim (same_bytes y x) [ true ↦ 0 | false ↦ suc (slot_in ys x) ]

-- a name's slot, and any other lexeme's value
unfoldable pub slot_or_value : List (List ℕ) → Lexeme → ℕ
slot_or_value titles (name x) = slot_in titles x
slot_or_value titles (key k) = 0
slot_or_value titles (number n) = n
slot_or_value titles (mark m) = 0

unfoldable pub Resolved : List Token → List ℕ → Type 0
Resolved ts values = values ≡ map (λ t. slot_or_value (titles_of ts) t.lexeme) ts

-- a name stands in the file at a start, with a length
pub record NameAt (file x : List ℕ) (start len : ℕ) : Type 0 where
  pub long : len ≡ length x
  pub inside : start + len ≤ length file
  pub bytes : take len (drop start file) ≡ x

abbrev pub no_name : Name
no_name = record { start = 0; len = 0 }

-- names, no more than methods may be, each by where it stands in the file
pub record Titles (file : List ℕ) (titles : List (List ℕ)) (names : Names) : Type 0 where
  pub counted : names.count ≡ length titles
  pub room : length titles ≤ most_methods
  pub held : (k : ℕ) → k < length titles
      → NameAt file (get_or titles k []) (get_or names.list k no_name).start (get_or names.list k no_name).len

-- the names as they were, or with a name that stands at a start behind them
abbrev pub Grows : Names → Bool → ℕ → ℕ → Names → Type 0
Grows names adds start len after =
    (file : List ℕ) (titles : List (List ℕ)) → Titles file titles names
    → (adds ≡ false → Titles file titles after)
    × ((x : List ℕ) → adds ≡ true → length titles < most_methods → NameAt file x start len
    → Titles file (titles ++ (x ∷ [])) after)

-- is a name wrong: does it follow `var`, `method` or `monitor`, and is it declared as a variable and as a method
unfoldable pub wrong_by : Bool → Bool → Bool → Bool → Bool → Bool
wrong_by true m o a b = a
wrong_by false true o a b = b
wrong_by false false o a b = not (o || a)

-- does a lexeme offend 6, behind another, where these variables and methods are declared
unfoldable pub wrongly : Lexeme → List (List ℕ) → List (List ℕ) → Lexeme → Bool
wrongly last vs ms (name x) =
    wrong_by (is_key k_var last) (is_key k_method last) (is_key k_monitor last) (member x vs) (member x ms)
wrongly last vs ms (key k) = false
wrongly last vs ms (number n) = false
wrongly last vs ms (mark m) = false

-- a test of a token, by its kind and the kind before it, where it stands if it is a name: whether it offends 6
abbrev pub Judges : List ℕ → Names → Names → ℕ → ℕ → ℕ → ℕ → Bool → Type 0
Judges file vars methods kind before start len r =
    (vs ms : List (List ℕ)) (l last : Lexeme) → Titles file vs vars → Titles file ms methods → kind ≡ kind_of l
    → before ≡ kind_of last
    → ((x : List ℕ) → l ≡ name x → NameAt file x start len) → r ≡ wrongly last vs ms l
