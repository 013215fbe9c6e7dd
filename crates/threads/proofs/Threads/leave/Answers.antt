-- `Threads::leave` meets its contract: the thread's place, and of a waiter the queue without it, with those behind closed up.
use mathlib.Core.Path.{◌≡◌, refl, sym, ap, subst, ◌∙◌}
use mathlib.Core.Bool.{true, false}
use Prim.Native.Nat.{ℕ, ◌<◌}
use native.Mathlib.Nat.{mod-eq_of_lt}
use Rattle.machine.specs.Queue.{place_in}
use Rattle.machine.specs.Arrival.{Once}
use Rattle.machine.specs.Decide.Step.{is_waiting}
use Rattle.queue.specs.Packed.{queue_of, left_by}
use Rattle.threads.specs.declared.Threads.{Threads}
use Rattle.threads.specs.Held.{place_of, places_of, turns_of, idle_thread, between}
use Rattle.threads.proofs.Replaced.{puts_known}
use Rattle.threads.proofs.Changed.{passed_shows, passed_turned, passed_queued}
use Rattle.threads.proofs.Changed.{left_shows, left_turned, left_queued}
use Rattle.threads.proofs.Threads.leave.Goals as goal

pub returns-then-not-is_waiting : goal.returns-then-not-is_waiting
unfolding places_of idle_thread
returns-then-not-is_waiting c h lined turned goes_on =
    let a = c.args in
    let at = c.from-at.ensures ∙ mod-eq_of_lt h in
    let puts = puts_known at c.put-each.ensures in
    let idle : is_waiting (places_of a.self.each a.t) ≡ false =
    ap (λ (t : ℕ). is_waiting (places_of a.self.each t)) (sym at)
    ∙ sym c.is_waiting.ensures ∙ c.if-not-is_waiting.true in (
      passed_shows a.self lined turned a.t h (place_of a.place) goes_on _ puts _ idle refl refl refl,
      passed_turned a.self lined turned a.t h (place_of a.place) goes_on _ puts _ idle refl refl refl,
      passed_queued a.self lined turned a.t h (place_of a.place) goes_on _ puts _ idle refl refl refl,
    )

pub returns : goal.returns
unfolding places_of idle_thread turns_of
returns c h lined turned goes_on =
    let d = c in
    let a = d.args in
    let at = d.from-at.ensures ∙ mod-eq_of_lt h in
    let puts = puts_known at d.put-each.ensures in
    let waits : is_waiting (places_of a.self.each a.t) ≡ true =
    ap (λ (t : ℕ). is_waiting (places_of a.self.each t)) (sym at)
    ∙ sym d.is_waiting.ensures ∙ d.if-not-is_waiting.false in
    let same : turns_of a.self.each c.from-at.result ≡ turns_of a.self.each a.t =
    ap (turns_of a.self.each) at in
    let order : turns_of a.self.each a.t < 16 → c.left-order.result
    ≡ left_by a.self.order (turns_of a.self.each a.t) =
    λ l. c.left-order.ensures (subst (λ (n : ℕ). n < 16) (sym same) l) ∙ ap (left_by a.self.order) same in
    let turns : turns_of a.self.each a.t < 16
    → Once (queue_of c.left-order.result c.saturating_sub-waiting.result) → (u : ℕ) → u < 16
    → turns_of c.closed_up.result u ≡ between (turns_of a.self.each a.t) c.saturating_sub-waiting.result
    (place_in (queue_of c.left-order.result c.saturating_sub-waiting.result) u)
    (turns_of d.put-each.result u) =
    λ l o u k. c.closed_up.ensures.turns (subst (λ (n : ℕ). n < 16) (sym same) l) o u k
    ∙ ap (λ (n : ℕ). between n c.saturating_sub-waiting.result
    (place_in (queue_of c.left-order.result c.saturating_sub-waiting.result) u)
    (turns_of d.put-each.result u)) same in
    let after : Threads = record {
      each = c.closed_up.result;
      order = c.left-order.result;
      waiting = c.saturating_sub-waiting.result;
    } in (
      left_shows a.self lined turned a.t h (place_of a.place) goes_on d.put-each.result puts after
          waits order c.saturating_sub-waiting.ensures c.closed_up.ensures.places turns,
      left_turned a.self lined turned a.t h (place_of a.place) goes_on d.put-each.result puts after
          waits order c.saturating_sub-waiting.ensures c.closed_up.ensures.places turns,
      left_queued a.self lined turned a.t h (place_of a.place) goes_on d.put-each.result puts after
          waits order c.saturating_sub-waiting.ensures c.closed_up.ensures.places turns,
    )
