use Prim.Native.Nat.{ℕ, ◌+◌}
use mathlib.Core.Path.{◌≡◌}
use mathlib.Core.List.{List}
use lib.ListN.{drop}
use Rattle.names.specs.Slots.{slot_in, NameAt, Titles}
use Rattle.names.proofs.Names.slot_of.Given as goal

abbrev pub invariant-loop-i : goal.invariant-loop-i
invariant-loop-i l =
    ((titles : List (List ℕ)) (x : List ℕ) → Titles l.file titles l.self → NameAt l.file x l.name.start l.name.len → slot_in titles x
    ≡ l.i + slot_in (drop l.i titles) x)
