-- `table::count_region` meets its contract: nine times the count is the length of the lines.
use Prim.Native.Nat.{ℕ, ◌*◌, ◌+◌, ◌-◌}
use mathlib.Core.Path.{◌≡◌}
use mathlib.Core.Bool.{not}
use native.Mathlib.Omega.{arith}
use lib.ListN.{length, take, drop, length-drop}
use lib.Seq.{length-take-le}
use lib.Dec.{eqb}
use borrow.Author.Rules.{rules}
use Rattle.std.proofs.Common.{tests}
use Rattle.std.specs.List.{filter}
use Rattle.std.proofs.lemmas.List.Sums.{length-filter, count_by-le-length}
use Rattle.std.proofs.lemmas.Iterator.{YieldsList-from_slice}
use Rattle.std.proofs.lemmas.Iterator.Consumers.{count_from_yields_List, YieldsList-from_filter}
use Rattle.table.specs.Slices.{lines_at}
use Rattle.table.proofs.Lines.{count_lines}
use Rattle.table.proofs.count_region.Goals as goal

pub returns : goal.returns
unfolding lines_at
returns c =
    let a = c.args in
    let stands = λ (code : ℕ). not (eqb code 0) in
    let codes = take a.guards (drop (a.r * 16) a.entries.now) in
    let cut : a.r * 16 + a.guards - a.r * 16 ≡ a.guards = omega arith in
    let rest = rw cut at c.iter.ensures.rest in
    let n : c.count.result ≡ length (filter stands codes) =
    count_from_yields_List c.filter.result _ c.count.ensures.ran
    (YieldsList-from_filter _ stands (YieldsList-from_slice codes (rw c.filter.ensures.source rest)) c.filter.ensures.closure (λ x b q k. search (rules, tests))) in
    let lines = count_lines a.entries.now a.r a.guards (omega (arith, c.told-entries)) in
    let few = count_by-le-length stands codes in
    let all = length-take-le a.guards (drop (a.r * 16) a.entries.now) (omega (arith, length-drop (a.r * 16) a.entries.now)) in
    rw (n, length-filter) (lines, omega arith)
