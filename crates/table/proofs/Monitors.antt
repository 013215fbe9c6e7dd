-- The lines of entries that a slice holds are those of the monitor's table.
use Prim.Native.Nat.{ℕ}
use mathlib.Core.Path.{◌≡◌, refl}
use mathlib.Core.Bool.{true, false}
use mathlib.Core.List.{List}
use native.Mathlib.Omega.{arith}
use Rattle.machine.specs.Monitor.{Monitor}
use Rattle.machine.specs.Algorithm1.{Entry, none, entry}
use Rattle.machine.specs.Decide.Table.{entry_of}
use Rattle.machine.specs.Held.{code_of, HeldEntries}
use Rattle.logic.specs.Tests.{bit}
use Rattle.meaning.specs.Decide.Table.{table_of}
use Rattle.table.specs.Slices.{entry_by, line_at, lines_at, table_at}
use Rattle.digits.proofs.ForEach.{for_each_same}

-- an entry from its number
decoded : (e : Entry) → entry_by (code_of e) ≡ e
unfolding entry_by code_of bit
decoded none = refl
decoded (entry true true) = refl
decoded (entry true false) = refl
decoded (entry false true) = refl
decoded (entry false false) = refl

-- the lines of entries that a slice holds are the table's
pub table_is :
    (m : Monitor) (es : List ℕ) (regions guards : ℕ) → m.regions ≡ regions → m.guards ≡ guards → HeldEntries m es
    → table_of m ≡ table_at es regions guards
unfolding table_of table_at lines_at line_at HeldEntries
table_is m es regions guards er eg held =
    rw (← er, ← eg)
    (for_each_same m.regions 0 _ _ (λ r hr.
    for_each_same m.guards 0 _ _ (λ g hg.
    rw (held r g (omega arith) (omega arith), decoded (entry_of m r g)))))
