-- What is written of a table into a buffer: nothing where it is too short, else the table, and the bytes behind are kept.
use Prim.Native.Nat.{ℕ, ◌<◌, ◌≤◌}
use mathlib.Core.Path.{◌≡◌}
use mathlib.Core.List.{List, ◌++◌}
use lib.ListN.{length, drop}
use borrow.Author.Tests.{lt-ltb, le-ltb}
use Rattle.meaning.specs.Answer.{answer}
use Rattle.meaning.specs.Calls.{not_placed}
use Rattle.meaning.specs.Decide.Calls.{written}

pub written_short : (table : List ℕ) (tries pairs : ℕ) (buffer : List ℕ) → length buffer < length table
    → written table tries pairs buffer ≡ not_placed (answer 10 0 0) buffer
unfolding written
written_short table tries pairs buffer h = rw (lt-ltb (length buffer) (length table) h, written)

pub written_fits : (table : List ℕ) (tries pairs : ℕ) (buffer : List ℕ) → length table ≤ length buffer
    → written table tries pairs buffer
    ≡ record {
      answer = answer 0 0 0;
      length = length table;
      chosen = tries;
      pairs = pairs;
      buffer = table ++ drop (length table) buffer;
    }
unfolding written
written_fits table tries pairs buffer h = rw (le-ltb (length buffer) (length table) h, written)
