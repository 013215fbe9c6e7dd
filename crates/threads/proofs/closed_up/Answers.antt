-- `threads::closed_up` meets its contract. The invariant: the places are as they were, the turns of those in the queue from the
-- first place to k are written anew, and `rest` is what stands behind the first k.
use Prim.Native.Nat.{ℕ, ◌+◌, ◌/◌, ◌%◌, ◌≤◌, ◌<◌}
use mathlib.Core.Path.{◌≡◌, refl, sym, ap, ◌∙◌}
use mathlib.Core.Logic.{inl, inr, ⊎_elim}
use native.Mathlib.Numerals.{add-one}
use native.Mathlib.Omega.{arith}
use lib.ListN.{get_or, set, length-set}
use Rattle.machine.specs.Queue.{place_in}
use Rattle.logic.proofs.Bools.{split_eq}
use Rattle.queue.specs.Packed.{queue_of, behind_of}
use Rattle.queue.proofs.Lists.{behind_next, place_at, at_place}
use Rattle.threads.specs.Held.{places_of, turns_of, idle_thread, between}
use Rattle.threads.proofs.Replaced.{puts_set, puts_own, puts_other}
use Rattle.threads.proofs.Between.{between_in, between_out, between_next}
use Rattle.threads.proofs.closed_up.Goals as goal

pub loop-k-init : goal.loop-k-init
loop-k-init c = (
  λ u h. refl,
  inl refl,
  c.behind-rest.ensures,
  λ h o u l. sym (between_out _ _ _ _ (λ x y. omega arith)),
  omega arith,
)

pub loop-k-preserved : goal.loop-k-preserved
unfolding places_of idle_thread
loop-k-preserved c =
    let loop = c.loop-k in
    let a = c.args in
    let u = c.from-u.result in
    let q = queue_of a.order a.waiting in
    let puts = puts_set loop.next u (get_or loop.next u idle_thread).place loop.k (omega arith) in
    let next_rest : a.from < 16 → loop.rest / 16 ≡ behind_of a.order (loop.k + 1) =
    λ h. ap (λ (n : ℕ). n / 16) (loop.invariant.2 h) ∙ sym (behind_next a.order loop.k)
    ∙ ap (behind_of a.order) (sym (add-one loop.k)) in
    let who : a.from < 16 → u ≡ behind_of a.order loop.k % 16 =
    λ h. c.from-u.ensures ∙ c.first.ensures ∙ ap (λ (n : ℕ). n % 16) (loop.invariant.2 h) in (
      λ v h. split_eq v u
          (λ e. ap (places_of (set loop.next u (record { place = (get_or loop.next u idle_thread).place; turn = loop.k }))) e
          ∙ (puts_own puts (omega arith)).0 ∙ ap (places_of loop.next) (sym e) ∙ loop.invariant.0 v h)
          (λ e. (puts_other puts v h e).0 ∙ loop.invariant.0 v h),
      inr (omega arith),
      next_rest,
      λ h o v l. split_eq v u
          (λ e. ap (turns_of (set loop.next u (record { place = (get_or loop.next u idle_thread).place; turn = loop.k }))) e
          ∙ (puts_own puts (omega arith)).1
          ∙ sym (ap (λ (n : ℕ). between a.from (loop.k + 1) n (turns_of a.each v))
          (ap (place_in q) (e ∙ who h) ∙ place_at a.order a.waiting loop.k (omega arith) o)
          ∙ between_in a.from (loop.k + 1) loop.k (turns_of a.each v) (omega arith) (omega arith)))
          (λ e. (puts_other puts v l e).1 ∙ loop.invariant.3 h o v l
          ∙ sym (between_next a.from loop.k (place_in q v) (turns_of a.each v)
          (λ z. e (at_place a.order a.waiting loop.k v (omega arith) o z ∙ sym (who h))))),
      length-set loop.next u (record { place = (get_or loop.next u idle_thread).place; turn = loop.k }) ∙ loop.invariant.4,
    )

-- where the first place is past the last, nothing is written anew
pub returns : goal.returns
returns c =
    let loop = c.loop-k in
    let a = c.args in
    let q = queue_of a.order a.waiting in
    let past : a.waiting ≤ loop.k = c.loop-k-test.false in record {
      places = loop.invariant.0;
      turns = λ h o u l. loop.invariant.3 h o u l ∙ ⊎_elim
          (λ e. between_out a.from loop.k (place_in q u) (turns_of a.each u) (λ x y. omega arith)
          ∙ sym (between_out a.from a.waiting (place_in q u) (turns_of a.each u) (λ x y. omega arith)))
          (λ e. let end : loop.k ≡ a.waiting = omega arith in
          ap (λ (k : ℕ). between a.from k (place_in q u) (turns_of a.each u)) end)
          loop.invariant.1;
    }
