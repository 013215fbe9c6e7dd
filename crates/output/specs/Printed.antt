-- What printing into a lent buffer says.
use Rattle.std.specs.Prelude.{ℕ, ◌≤◌, ◌≡◌, List, ◌++◌, length, take, drop}

-- the bytes of a buffer that has room for all that the programs print
abbrev pub output_bytes : ℕ
output_bytes = 4096

-- so many bytes at a buffer's start are what was handed in: all of it, or as many as the buffer has
pub record Read (handed : List ℕ) (count : ℕ) (buffer : List ℕ) : Type 0 where
  pub bytes : take (length buffer) handed ≡ take count buffer

-- the lines stand from byte 0 on, the bytes behind them are as they were, and the count is theirs
pub record Prints (lines before : List ℕ) (n : ℕ) (after : List ℕ) : Type 0 where
  pub bytes : after ≡ lines ++ drop (length lines) before
  pub count : n ≡ length lines
  -- so the first n bytes are in the buffer, as writing them out asks it
  pub within : n ≤ length after
  pub part : n ≡ length (take n after)
