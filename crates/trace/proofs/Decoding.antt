-- Laws of the numbers of a line by arithmetic.
use Prim.Native.Nat.{ℕ, ◌+◌, ◌*◌, ◌<◌, ◌≤◌}
use mathlib.Core.Path.{◌≡◌}
use mathlib.Core.Bool.{false}
use mathlib.Core.List.{List}
use lib.ListN.{length, get_or}
use lib.Dec.{eqb}
use borrow.Author.Tests.{le-leb, lt-leb}
use Rattle.trace.specs.Decoded.{value_of, numbers_at}

module _ (trace : List ℕ) (at : ℕ) where
  pub numbers_none : length trace < at + 7 → record { thread = 0; region = 0; flag = false } ≡ numbers_at trace at
  unfolding numbers_at
  numbers_none h = rw (numbers_at, lt-leb (at + 7) (length trace) h)

  pub numbers_there : at + 7 ≤ length trace
      → record {
        thread = value_of (get_or trace (at + 1) 0);
        region = value_of (get_or trace (at + 2) 0) * 16 + value_of (get_or trace (at + 3) 0);
        flag = eqb (get_or trace (at + 5) 0) 49;
      } ≡ numbers_at trace at
  unfolding numbers_at
  numbers_there h = rw (numbers_at, le-leb (at + 7) (length trace) h)
