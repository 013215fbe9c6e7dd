-- `choice::Choice::mark` meets its contract: try i's bit goes, and its three numbers are written.
use native.Mathlib.Omega.{arith}
use mathlib.Core.Path.{◌≡◌, sym, ◌∙◌}
use lib.Seq.{get_or-set_other}
use borrow.Author.Rules.{rules}
use borrow.Author.Tests.{ne_eqb, eq-eqb}
use Rattle.logic.proofs.Bools.{split_eq}
use Rattle.choice.specs.Slots.{slot_of}
use Rattle.choice.proofs.Binding.{set_here, same_slot, mark_on, mark_off}
use Rattle.choice.proofs.Choice.mark.Goals as goal

pub returns-then-i-ge-TRIES : goal.returns-then-i-ge-TRIES
returns-then-i-ge-TRIES c u low = sym (mark_off _ _ _ _ (ne_eqb u c.args.i (λ e. omega arith)))

pub returns : goal.returns
unfolding slot_of
returns c u low =
    let a = c.args in
    split_eq u a.i
    (λ (e : u ≡ a.i).
    same_slot (c.without.ensures u ∙ rw (eq-eqb u a.i e)) (set_here a.self.passes a.i u a.pass e (search rules))
    (set_here a.self.regions a.i u a.region e (search rules))
    (set_here a.self.states a.i u a.state e (search rules)) ∙ sym (mark_on _ _ _ _ (eq-eqb u a.i e)))
    (λ (n : u ≡ a.i → ⊥).
    same_slot (c.without.ensures u ∙ rw (ne_eqb u a.i n)) (get_or-set_other a.self.passes a.i u a.pass 0 n)
    (get_or-set_other a.self.regions a.i u a.region 0 n)
    (get_or-set_other a.self.states a.i u a.state 0 n)
    ∙ sym (mark_off _ _ _ _ (ne_eqb u a.i n)))
