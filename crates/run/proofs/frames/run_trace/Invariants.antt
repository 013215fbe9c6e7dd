use Prim.Native.Nat.{ℕ}
use mathlib.Core.List.{List}
use Rattle.machine.specs.Monitor.{Monitor, Frame}
use Rattle.run.specs.Way.{Asked, Way}
use Rattle.run.proofs.frames.run_trace.Given as goal

abbrev pub invariant-loop-k : goal.invariant-loop-k
invariant-loop-k l =
    (m : Monitor) (kept : List ℕ) (fs : List Frame)
    → Asked l.bytes l.state l.slices.holds.now l.slices.after.now l.slices.guard_of.now l.slices.begins.now l.slices.goes_on.now l.slices.entries.now l.slices.regions m kept fs → Way m l.state fs l.going l.k
