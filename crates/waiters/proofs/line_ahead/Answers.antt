-- `waiters::line_ahead` meets its contract. The invariant: of the first k of the queue the set has the waiters on the guard.
use Prim.Native.Nat.{ℕ, ◌+◌, ◌/◌, ◌%◌, ◌≤◌}
use mathlib.Core.Path.{◌≡◌, refl, ◌∙◌, ap, sym, subst}
use mathlib.Core.Bool.{Bool, ◌&&◌}
use mathlib.Core.Logic.{inl, inr}
use mathlib.Core.List.{List}
use native.Mathlib.Numerals.{add-one}
use native.Mathlib.Omega.{arith}
use Rattle.sets.specs.Set.{member}
use Rattle.machine.specs.Monitor.{on_guard, waits_on}
use Rattle.machine.specs.Queue.{has, joined}
use Rattle.machine.proofs.Queue.{has_those}
use Rattle.queue.specs.Packed.{queue_of, behind_of}
use Rattle.queue.proofs.Lists.{queue_next, behind_next}
use Rattle.threads.specs.Held.{places_of, threads_of, idle_thread}
use Rattle.waiters.specs.Slices.{guards_only}
use Rattle.waiters.proofs.Loops.{Gathered, gather_none, gather_turn}
use Rattle.waiters.proofs.line_ahead.Goals as goal
use Rattle.waiters.proofs.line_ahead.Goals.{then-waits_on, else-waits_on}

pub loop-init : goal.loop-init
unfolding behind_of queue_of
loop-init c = (refl, gather_none)

pub loop-preserved : goal.loop-preserved
unfolding places_of idle_thread
loop-preserved c =
    let loop = c.loop in
    let a = c.args in
    let o = a.threads.order in
    let u = c.first-u.result in
    let on : ℕ → Bool = λ v. on_guard (guards_only a.guard_of.now) a.guard (places_of a.threads.each v) in
    let who : u ≡ behind_of o loop.counter % 16 =
    c.first-u.ensures ∙ ap (λ (n : ℕ). n % 16) loop.invariant.0 in
    let seen : joined (queue_of o loop.counter) u ≡ queue_of o (loop.counter + 1) =
    ap (joined (queue_of o loop.counter)) who ∙ sym (queue_next o loop.counter) ∙ ap (queue_of o) (sym (add-one loop.counter)) in (
      ap (λ (n : ℕ). n / 16) loop.invariant.0 ∙ sym (behind_next o loop.counter) ∙ ap (behind_of o) (sym (add-one loop.counter)),
      subst (λ (l : List ℕ). Gathered c.if-waits_on.set l on) seen
          (gather_turn loop.invariant.1 (omega arith) c.waits_on.ensures
          (elim c.if-waits_on.branch [
            | then-waits_on w ↦ inl (w.if-waits_on.true, λ v. ap (λ (n : ℕ). member n v) w.set-is ∙ w.with-set.ensures v)
            | else-waits_on w ↦ inr (w.if-waits_on.false, w.set-is)
          ])),
    )

pub returns : goal.returns
unfolding waits_on
returns c u h =
    let l = c.loop in
    let a = c.args in
    let end : l.counter ≡ a.turn = let z : a.turn ≤ l.counter = c.loop-test.false in omega arith in
    let on = waits_on (guards_only a.guard_of.now) (threads_of a.threads) a.guard in
    l.invariant.1.each u h ∙ ap (λ (k : ℕ). has (queue_of a.threads.order k) u && on u) end
    ∙ sym (has_those on (queue_of a.threads.order a.turn) u)

pub overflow_cast-u : goal.overflow_cast-u
overflow_cast-u = λ c. record { fits = omega arith }
