-- `choice::Choice::drop_all` meets its contract. The loop's invariant: those of the set below i are dropped, and no other.
use Prim.Native.Nat.{ℕ, ◌<◌}
use native.Mathlib.Omega.{arith}
use mathlib.Core.Path.{◌≡◌, refl, sym, ◌∙◌}
use borrow.Author.Tests.{eq-eqb, ne_eqb}
use Rattle.logic.proofs.Bools.{split_eq}
use Rattle.sets.specs.Set.{member}
use Rattle.choice.specs.Slots.{slot_of, mark_if}
use Rattle.choice.proofs.Binding.{mark_on, mark_off}
use Rattle.choice.proofs.Choice.drop_all.Goals as goal
use Rattle.choice.proofs.Choice.drop_all.Goals.{then-has, else-has, Joined-has}

pub loop-i-init : goal.loop-i-init
loop-i-init c = (omega arith, λ u h. absurd (omega arith), λ u h low. refl)

-- a turn changes try i alone
others_stay : (c : Joined-has) →
    let i = c.loop-i in
    (u : ℕ) → u < 16 → (u ≡ i.i → ⊥) → slot_of c.if-has.next u ≡ slot_of i.next u
others_stay c u low n =
    elim c.if-has.branch [
      | then-has w ↦ rw w.next-is (w.mark-next.ensures u low ∙ mark_off _ _ _ _ (ne_eqb u _ n))
      | else-has w ↦ rw w.next-is refl
    ]

here_done : (c : Joined-has) →
    let i = c.loop-i in
    let a = c.args in
    slot_of c.if-has.next i.i ≡ mark_if (member a.lost i.i) a.pass a.region a.state (slot_of a.self i.i)
here_done c =
    let i = c.loop-i in
    let has = c.has in
    elim c.if-has.branch [
      | then-has w ↦ rw w.next-is (w.mark-next.ensures i.i (omega arith) ∙ mark_on _ _ _ _ (eq-eqb i.i i.i refl)
          ∙ sym (mark_on _ _ _ _ (sym has.ensures ∙ w.if-has.true)))
      | else-has w ↦ rw w.next-is (i.invariant.2 i.i (omega arith) (omega arith)
          ∙ sym (mark_off _ _ _ _ (sym has.ensures ∙ w.if-has.false)))
    ]

pub loop-i-preserved : goal.loop-i-preserved
loop-i-preserved c =
    let i = c.loop-i in
    let others = others_stay (goal.at.loop-i-preserved c).Joined-has in (
      omega arith,
      λ u low. split_eq u i.i (λ (e : u ≡ i.i). rw e (here_done (goal.at.loop-i-preserved c).Joined-has))
          (λ (n : u ≡ i.i → ⊥). others u (omega arith) n ∙ i.invariant.1 u (omega arith)),
      λ u high low. others u low (λ (e : u ≡ i.i). omega arith) ∙ i.invariant.2 u (omega arith) low,
    )

pub returns : goal.returns
returns c u low = c.loop-i.invariant.1 u (omega arith)
