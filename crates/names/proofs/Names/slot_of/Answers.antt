-- `names::Names::slot_of` answers `slot_in`: at each turn the slot among all names is the number passed and the slot among
-- those that are left.
use Prim.Native.Nat.{◌<◌}
use native.Mathlib.Omega.{arith}
use mathlib.Core.Path.{sym, ◌∙◌}
use mathlib.Core.List.{[]}
use lib.ListN.{length, get_or}
use Rattle.names.proofs.Naming.{slot_hit, slot_miss, slot_end}
use Rattle.names.proofs.Names.slot_of.Goals as goal

pub returns-then-is_same-clause-slot : goal.returns-then-is_same-clause-slot
returns-then-is_same-clause-slot c titles x t s =
    let a = c.loop-i in
    let l : a.i < length titles = omega (arith, t.counted) in
    let e = slot_hit titles x a.i l
    (sym (c.is_same.ensures (get_or titles a.i []) x (t.held a.i l) s) ∙ c.if-is_same.true) in
    omega (arith, a.invariant titles x t s)

pub loop-i-preserved : goal.loop-i-preserved
loop-i-preserved c titles x t s =
    let a = c.loop-i in
    let l : a.i < length titles = omega (arith, t.counted) in
    let e = slot_miss titles x a.i l
    (sym (c.is_same.ensures (get_or titles a.i []) x (t.held a.i l) s) ∙ c.if-is_same.false) in
    omega (arith, a.invariant titles x t s)

pub returns-clause-slot : goal.returns-clause-slot
returns-clause-slot c titles x t s =
    let a = c.loop-i in
    let e = slot_end titles x a.i (omega (arith, t.counted, t.room)) in
    omega (arith, a.invariant titles x t s, t.counted, t.room)
