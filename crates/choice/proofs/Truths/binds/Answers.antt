-- `choice::Truths::binds` meets its contract: four look-ups, one behind the other.
use Prim.Native.Nat.{ℕ}
use mathlib.Core.Path.{◌≡◌, sym, ap, ◌∙◌}
use lib.ListN.{get_or}
use borrow.Author.Tests.{eq-eqb, ne_eqb, lt-ltb, le-ltb}
use Rattle.sets.specs.Set.{member}
use Rattle.choice.specs.Slots.{lacks}
use Rattle.choice.proofs.Binding.{unbound_set, unbound_keep, unbound_range, bound}
use Rattle.choice.proofs.Truths.binds.Goals as goal
use Rattle.choice.proofs.Truths.binds.Goals.{After-misses}

-- what the state's tries lack of the set
missing : (c : After-misses) →
    let a = c.args in
    c.misses.result ≡ lacks (get_or a.self.tried.now a.s 0) a.set
missing c =
    let a = c.args in
    c.misses.ensures ∙ ap (λ (x : ℕ). lacks x a.set) c.at.ensures

pub returns-then-misses : goal.returns-then-misses
returns-then-misses c =
    let a = c.args in
    sym (unbound_set a.self.keep.now a.self.holds.now a.self.tried.now a.guard a.set a.s a.to
    (sym (missing (goal.at.returns-then-misses c).After-misses) ∙ c.if-misses.true))

pub returns-then-at-ne1 : goal.returns-then-at-ne1
returns-then-at-ne1 c =
    let a = c.args in
    sym (unbound_keep a.self.keep.now a.self.holds.now a.self.tried.now a.guard a.set a.s a.to
    (ne_eqb _ 1 (λ e. c.if-at-ne1.true (c.at-2.ensures ∙ e))))

pub returns-then-to-ge-STATE_END : goal.returns-then-to-ge-STATE_END
returns-then-to-ge-STATE_END c =
    let a = c.args in
    sym (unbound_range a.self.keep.now a.self.holds.now a.self.tried.now a.guard a.set a.s a.to
    (le-ltb a.to 4096 c.if-to-ge-STATE_END.true))

pub returns : goal.returns
returns c =
    let a = c.args in
    c.has.ensures ∙ ap (λ (x : ℕ). member x a.guard) c.at-3.ensures
    ∙ sym (bound a.self.keep.now a.self.holds.now a.self.tried.now a.guard a.set a.s a.to
    (sym (missing (goal.at.returns c).After-misses) ∙ c.if-misses.false)
    (eq-eqb _ 1 (sym c.at-2.ensures ∙ c.if-at-ne1.false)) (lt-ltb a.to 4096 c.if-to-ge-STATE_END.false))
