-- `choice::strengthen` meets its contract. The loop's invariant: below s a state that lacks a chosen try holds 0, and all
-- else is as it was.
use Prim.Native.Nat.{ℕ}
use native.Mathlib.Omega.{arith}
use mathlib.Core.Path.{◌≡◌, refl, sym, ap, ◌∙◌}
use mathlib.Core.Bool.{Bool, true, false, not, ◌&&◌, and-true, and-false}
use lib.ListN.{get_or, length-set}
use lib.Seq.{get_or-set_other}
use Rattle.logic.specs.Tests.{bit}
use Rattle.logic.proofs.Bools.{split_eq}
use Rattle.choice.specs.Slots.{lacks}
use Rattle.choice.proofs.Members.{lacks_none}
use Rattle.choice.proofs.Binding.{set_here}
use Rattle.choice.proofs.strengthen.Goals as goal
use Rattle.choice.proofs.strengthen.Goals.{then-misses, else-misses, Joined-misses, After-misses}

strong : (b : Bool) {l : Bool} → l ≡ false → b && not l ≡ b
strong b e = rw e (and-true b)

weak : (b : Bool) {l : Bool} → l ≡ true → b && not l ≡ false
weak b e = rw e (and-false b)

-- the empty set is never lacked
pub returns-then-chosen-eq0 : goal.returns-then-chosen-eq0
returns-then-chosen-eq0 c s b low long e =
    e ∙ ap bit (sym (strong b (ap (lacks _) c.if-chosen-eq0.true ∙ lacks_none _)))

pub returns-then-kept-states : goal.returns-then-kept-states
returns-then-kept-states c s b low long e = absurd (omega arith)

pub loop-s-init : goal.loop-s-init
loop-s-init c = (omega arith, refl, λ u h. absurd (omega arith), λ u h. refl)

-- what the state lacks
lacking : (m : After-misses) →
    let i = m.loop-s in
    let a = m.args in
    m.misses.result ≡ lacks (get_or a.tried.now i.s 0) a.chosen
lacking m =
    let a = m.args in
    m.misses.ensures ∙ ap (λ (x : ℕ). lacks x a.chosen) m.at.ensures

-- a turn changes state s alone
others : (c : Joined-misses) →
    let i = c.loop-s in
    (u : ℕ) → (u ≡ i.s → ⊥) → get_or c.if-misses.kept u 0 ≡ get_or i.kept u 0
others c u n =
    let i = c.loop-s in
    elim c.if-misses.branch [
      | then-misses w ↦ rw w.kept-is (get_or-set_other i.kept i.s u 0 0 n)
      | else-misses w ↦ rw w.kept-is refl
    ]

pub loop-s-preserved : goal.loop-s-preserved
unfolding bit
loop-s-preserved c =
    let i = c.loop-s in
    let a = c.args in (
      omega arith,
      elim c.if-misses.branch [
        | then-misses w ↦ rw w.kept-is (simp length-set i.invariant.1)
        | else-misses w ↦ rw w.kept-is i.invariant.1
      ],
      λ u low b e. split_eq u i.s
          (λ (is : u ≡ i.s).
          elim c.if-misses.branch [
            | then-misses w ↦ rw w.kept-is (set_here i.kept i.s u 0 is (omega arith)
                ∙ sym (ap bit (weak b (ap (λ (x : ℕ). lacks (get_or a.tried.now x 0) a.chosen) is ∙ sym (lacking (goal.at.loop-s-preserved c).After-misses) ∙ w.if-misses.true))))
            | else-misses w ↦ rw w.kept-is (i.invariant.3 u (omega arith) ∙ e
                ∙ sym (ap bit (strong b (ap (λ (x : ℕ). lacks (get_or a.tried.now x 0) a.chosen) is ∙ sym (lacking (goal.at.loop-s-preserved c).After-misses) ∙ w.if-misses.false))))
          ])
          (λ (n : u ≡ i.s → ⊥). others (goal.at.loop-s-preserved c).Joined-misses u n ∙ i.invariant.2 u (omega arith) b e),
      λ u high. others (goal.at.loop-s-preserved c).Joined-misses u (λ (e : u ≡ i.s). omega arith) ∙ i.invariant.3 u (omega arith),
    )

pub shape_of-kept : goal.shape_of-kept
shape_of-kept c = c.loop-s.invariant.1

pub returns : goal.returns
returns c s b low long e = c.loop-s.invariant.2 s (omega arith) b e
