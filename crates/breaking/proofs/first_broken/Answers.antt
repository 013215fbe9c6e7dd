-- `breaking::first_broken` meets its contract. The loop's invariant: no region below r breaks, by the slices.
use Prim.Native.Nat.{ℕ, ◌+◌, ◌-◌, ◌*◌, ◌<◌}
use native.Mathlib.Omega.{arith}
use mathlib.Core.Path.{◌≡◌, sym, ap, ◌∙◌}
use lib.ListN.{get_or, take, drop}
use Rattle.breaking.specs.Broken.{breaks_by}
use Rattle.logic.proofs.Lists.{passed}
use Rattle.states.proofs.Regions.{part_at}
use Rattle.breaking.proofs.Breaking.{found, nowhere, never, stops}
use Rattle.breaking.proofs.first_broken.Goals as goal
use Rattle.breaking.proofs.first_broken.Goals.{After-first_in_row}
use Rattle.breaking.proofs.first_broken.Invariants.{Quiet}

pub loop-r-init : goal.loop-r-init
loop-r-init c = λ j h. absurd (omega arith)

-- region r at a state, by the slices and by the row that was lent
at_row : (c : After-first_in_row) (s : ℕ) → s < 4096 →
    let r = c.loop-r.r in
    let a = c.args in
    breaks_by a.kept.now a.holds.now (get_or a.guard_of r 0) s (get_or a.after.now (r * 4096 + s) 0)
    ≡ breaks_by a.kept.now a.holds.now (get_or a.guard_of r 0) s
    (get_or (take (r * 4096 + 4096 - r * 4096) (drop (r * 4096) a.after.now)) s 0)
at_row c s h =
    let r = c.loop-r.r in
    let a = c.args in
    ap (breaks_by a.kept.now a.holds.now (get_or a.guard_of r 0) s)
    (sym (part_at a.after.now r (r * 4096 + 4096 - r * 4096) s (omega arith) h))

pub returns-in-Some : goal.returns-in-Some
returns-in-Some c m b counted small numbers l₁ l₂ l₃ k h o =
    let i = c.loop-r in
    let s = c.in-Some.s in
    let low = found c.in-Some.is c.first_in_row.ensures in
    let row = at_row (goal.at.returns-in-Some c).After-first_in_row in
    stops m _ o _ _ _ b.good b.few_states k h numbers i.r s (omega arith) (omega (arith, b.states, low.within))
    (row _ (omega (arith, b.few_states, b.states, low.within)) ∙ low.passes)
    (λ t l. row t (omega (arith, b.few_states, b.states, low.within)) ∙ low.lower t l)
    (λ j l t below. i.invariant j l t (omega (arith, b.states)) (omega (arith, b.few_states)))

pub loop-r-preserved : goal.loop-r-preserved
loop-r-preserved c =
    let i = c.loop-r in
    let a = c.args in
    passed (Quiet a.kept.now a.holds.now a.after.now a.guard_of a.bounds.states) i.r i.invariant
    (λ s below h. at_row (goal.at.loop-r-preserved c).After-first_in_row s h
    ∙ nowhere _ _ c.in_default.is c.first_in_row.ensures s below)

pub returns : goal.returns
returns c m b counted small numbers l₁ l₂ l₃ k h o =
    never m _ o _ _ _ b.good b.few_states k h numbers
    (λ j low s below.
    c.loop-r.invariant j (omega arith) s (omega (arith, b.states)) (omega (arith, b.few_states)))

pub returns-then-kept-lt-STATES : goal.returns-then-kept-lt-STATES
returns-then-kept-lt-STATES = λ c m b counted small numbers l₁ l₂ l₃ k h o. absurd (omega arith)

pub returns-then-holds-lt-STATES : goal.returns-then-holds-lt-STATES
returns-then-holds-lt-STATES = λ c m b counted small numbers l₁ l₂ l₃ k h o. absurd (omega arith)

pub returns-then-after-lt-AFTER : goal.returns-then-after-lt-AFTER
returns-then-after-lt-AFTER = λ c m b counted small numbers l₁ l₂ l₃ k h o. absurd (omega arith)

pub returns-then-count-gt-REGIONS : goal.returns-then-count-gt-REGIONS
returns-then-count-gt-REGIONS = λ c m b counted small numbers l₁ l₂ l₃ k h o. absurd (omega arith)

pub returns-then-states-gt-STATE_END : goal.returns-then-states-gt-STATE_END
returns-then-states-gt-STATE_END = λ c m b counted small numbers l₁ l₂ l₃ k h o. absurd (omega (arith, b.states, b.few_states))
