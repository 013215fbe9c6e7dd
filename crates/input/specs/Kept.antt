-- What reading on behind the first bytes of a buffer leaves of it.
use Rattle.std.specs.Prelude.{ℕ, ◌≤◌, min, ◌≡◌, List, length, take}

-- the buffer is as long as it was, its first bytes are kept, and they are counted
pub record Keeps (from : ℕ) (before : List ℕ) (count : ℕ) (after : List ℕ) : Type 0 where
  pub size : length after ≡ length before
  pub first : take from after ≡ take from before
  pub counted : min from (length before) ≤ count
