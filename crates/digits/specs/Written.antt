-- What writing does to a lent buffer.
use Rattle.std.specs.Prelude.{ℕ, ◌+◌, ◌≡◌, List, ◌++◌, length, take, drop}

-- a list with another written over it from a place on
unfoldable pub over : List ℕ → ℕ → List ℕ → List ℕ
over d at s = take at d ++ (s ++ drop (at + length s) d)

-- a line stands at a place, the bytes before and behind are as they were, and the next place is behind it
pub record Writes (line before : List ℕ) (at next : ℕ) (after : List ℕ) : Type 0 where
  pub bytes : after ≡ over before at line
  pub behind : next ≡ at + length line
