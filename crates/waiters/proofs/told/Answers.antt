-- `waiters::told` meets its contract. The invariant: of the first k of the queue each set has those whom its machine notifies
-- anew, and `met` has the guards made true that one of them waits on, so a waiter whose guard is not met is next in line.
use Prim.Native.Nat.{ℕ, ◌+◌, ◌/◌, ◌%◌, ◌≤◌, ◌<◌}
use mathlib.Core.Path.{◌≡◌, refl, ◌∙◌, sym, ap, ap₂, subst}
use mathlib.Core.Bool.{Bool, true, false, ◌&&◌, ◌||◌}
use mathlib.Core.Logic.{inl, inr}
use mathlib.Core.List.{List}
use native.Mathlib.Numerals.{add-one}
use native.Mathlib.Omega.{arith}
use Rattle.sets.specs.Set.{member}
use Rattle.sets.proofs.SetLaws.{member_none}
use Rattle.logic.proofs.Bools.{is_false, clash, and}
use Rattle.machine.specs.Monitor.{Threads, waits_on, threads}
use Rattle.machine.specs.Queue.{has, those, joined}
use Rattle.machine.specs.Arrival.{Once}
use Rattle.machine.specs.Decide.Step.{is_waiting}
use Rattle.queue.specs.Packed.{queue_of, behind_of}
use Rattle.queue.proofs.Lists.{queue_next, behind_next}
use Rattle.threads.specs.Held.{places_of, threads_of, idle_thread}
use Rattle.waiters.specs.Slices.{guards_only}
use Rattle.waiters.specs.Told.{on_one, told_behind, new_first}
use Rattle.waiters.proofs.Loops.{Gathered, gather_none, gather_turn}
use Rattle.waiters.proofs.Front.{some, told_met, seen_more, other_guard, on_one_waits, new_first_waits, none_on}
use Rattle.waiters.proofs.told.Goals as goal
use Rattle.waiters.proofs.told.Goals.{then-waits_on_one, else-waits_on_one, then-is_told, else-is_told}

pub loop-init : goal.loop-init
unfolding behind_of queue_of those some
loop-init c = (refl, gather_none, λ o. gather_none, λ g h. member_none g)

pub loop-preserved : goal.loop-preserved
unfolding places_of idle_thread waits_on
loop-preserved c =
    let d = c in
    let loop = d.loop in
    let a = d.args in
    let gs = a.guard_of.now in
    let es = a.entries.now in
    let asked : ℕ → Bool = member a.newly in
    let o = a.threads.order in
    let p : Threads = threads_of a.threads in
    let u = d.first-u.result in
    let new : ℕ → Bool = λ v. new_first gs es asked p a.region v (p.place v) in
    let who : u ≡ behind_of o loop.counter % 16 =
    d.first-u.ensures ∙ ap (λ (n : ℕ). n % 16) loop.invariant.0 in
    let seen : joined (queue_of o loop.counter) u ≡ queue_of o (loop.counter + 1) =
    ap (joined (queue_of o loop.counter)) who ∙ sym (queue_next o loop.counter) ∙ ap (queue_of o) (sym (add-one loop.counter)) in
    let met_new : Once (queue_of o a.threads.waiting)
    → on_one gs asked (p.place u) && told_behind gs es a.region loop.met (p.place u) ≡ new u =
    λ once. told_met gs es asked a.region loop.met p o a.threads.waiting loop.counter u (omega arith) who refl once
    loop.invariant.3 in (
      ap (λ (n : ℕ). n / 16) loop.invariant.0 ∙ sym (behind_next o loop.counter) ∙ ap (behind_of o) (sym (add-one loop.counter)),
      subst (λ (l : List ℕ). Gathered c.if-waits_on_one.plain l (λ v. on_one gs asked (p.place v))) seen
          (gather_turn loop.invariant.1 (omega arith) d.waits_on_one.ensures
          (elim c.if-waits_on_one.branch [
            | then-waits_on_one w ↦ inl (w.if-waits_on_one.true, λ v. ap (λ (n : ℕ). member n v) w.plain-is ∙ w.with-plain.ensures v)
            | else-waits_on_one w ↦ inr (w.if-waits_on_one.false, w.plain-is)
          ])),
      λ once. subst (λ (l : List ℕ). Gathered c.if-waits_on_one.table l new) seen
          (gather_turn (loop.invariant.2 once) (omega arith) refl
          (elim c.if-waits_on_one.branch [
            | then-waits_on_one w ↦ let on : on_one gs asked (p.place u) ≡ true = sym d.waits_on_one.ensures ∙ w.if-waits_on_one.true in
                elim w.if-is_told.branch [
                  | then-is_told x ↦ inl (
                    sym (met_new once) ∙ and on (sym w.is_told.ensures ∙ x.if-is_told.true),
                    λ v. ap (λ (n : ℕ). member n v) (w.table-is ∙ x.table-is) ∙ x.with-table.ensures v,
                  )
                  | else-is_told x ↦ inr (
                    sym (met_new once) ∙ ap₂ (λ (y z : Bool). y && z) on (sym w.is_told.ensures ∙ x.if-is_told.false),
                    w.table-is ∙ x.table-is,
                  )
                ]
            | else-waits_on_one w ↦ inr (
              sym (met_new once) ∙ ap (λ (y : Bool). y && told_behind gs es a.region loop.met (p.place u))
                  (sym d.waits_on_one.ensures ∙ w.if-waits_on_one.false),
              w.table-is,
            )
          ])),
      λ g h. elim c.if-waits_on_one.branch [
        | then-waits_on_one w ↦ ap (λ (n : ℕ). member n g) w.met-is ∙ w.met_with-met.ensures g
            ∙ ap (λ (y : Bool). waits_on (guards_only gs) p g u || y) (loop.invariant.3 g h)
        | else-waits_on_one w ↦ ap (λ (n : ℕ). member n g) w.met-is ∙ loop.invariant.3 g h
            ∙ ap (λ (y : Bool). y || some (those (waits_on (guards_only gs) p g) (queue_of o loop.counter)))
            (sym (other_guard gs asked g (p.place u) h (sym d.waits_on_one.ensures ∙ w.if-waits_on_one.false)))
      ]
          ∙ sym (seen_more (waits_on (guards_only gs) p g) (queue_of o loop.counter) u)
          ∙ ap (λ (l : List ℕ). some (those (waits_on (guards_only gs) p g) l)) seen,
    )

-- no guard is made true, so nobody is told
pub returns-then-newly-eq0 : goal.returns-then-newly-eq0
returns-then-newly-eq0 c queued =
    let a = c.args in
    let none : (u : ℕ) →
    let q = places_of a.threads.each u in
    (on_one a.guard_of.now (member a.newly) q ≡ false)
    × (new_first a.guard_of.now a.entries.now (member a.newly) (threads_of a.threads) a.region u q ≡ false) =
    λ u. none_on a.guard_of.now a.entries.now (member a.newly) (threads_of a.threads) a.region u
    (places_of a.threads.each u) (λ g. ap (λ (n : ℕ). member n g) c.if-newly-eq0.true ∙ member_none g) in
    λ u h. (member_none u ∙ sym (none u).0, member_none u ∙ sym (none u).1)

-- who is told waits, so all of them are in the queue
all_seen : (a b : Bool) → (b ≡ true → a ≡ true) → a && b ≡ b
all_seen true b h = refl
all_seen false b h = sym (is_false (λ q. clash (h q) refl))

pub returns : goal.returns
unfolding threads
returns c queued =
    let l = c.loop in
    let a = c.args in
    let gs = a.guard_of.now in
    let es = a.entries.now in
    let asked : ℕ → Bool = member a.newly in
    let p : Threads = threads_of a.threads in
    let end : l.counter ≡ a.threads.waiting = let z : a.threads.waiting ≤ l.counter = c.loop-test.false in omega arith in
    let whole : (f : Bool) (u : ℕ) → u < 16 → (f ≡ true → is_waiting (p.place u) ≡ true)
    → has (queue_of a.threads.order l.counter) u && f ≡ f =
    λ f u h w. ap (λ (k : ℕ). has (queue_of a.threads.order k) u && f) end
    ∙ all_seen (has p.queue u) f (λ q. queued.waits u h ∙ w q) in
    λ u h. (
      l.invariant.1.each u h ∙ whole (on_one gs asked (p.place u)) u h (on_one_waits gs asked (p.place u)),
      (l.invariant.2 queued.once).each u h
          ∙ whole (new_first gs es asked p a.region u (p.place u)) u h
          (new_first_waits gs es asked p a.region u (p.place u)),
    )
