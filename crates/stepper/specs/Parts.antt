-- The machine's step in two parts, as the code takes it: the number that answers a frame, 0 where it is taken, and the
-- point after it. `step_parts` shows that the two make the step.
use Rattle.std.specs.Prelude.{ℕ, zero, suc, ◌<◌, ◌≡◌, Bool, ◌&&◌, List, ◌∷◌, ◌++◌}
use Rattle.std.proofs.Math.Path.{refl}
use Rattle.std.proofs.Math.Bool.{true, false}
use Rattle.std.specs.Bool.{beq}
use Rattle.sets.specs.Set.{member}
use Rattle.machine.specs.Queue.{has}
use Rattle.machine.specs.Monitor.{Monitor, Config, Frame}
use Rattle.machine.specs.Decide.Step.{Outcome, moved, refused, Told, may, is_waiting, first_notified, ran, waited}
use Rattle.machine.specs.Decide.Step.{rechecked, allowed, act, judged, step}

-- may the thread be there, is the flag the guard's truth, does the thread wait, the flag, has it a notice, is it the
-- first with one
unfoldable pub verdict : Bool → Bool → Bool → Bool → Bool → Bool → ℕ
verdict false same waits flag notice first = 13
verdict true false waits flag notice first = 14
verdict true true false flag notice first = 0
verdict true true true flag false first = 14
verdict true true true false true first = 0
verdict true true true true true false = 14
verdict true true true true true true = 0

unfoldable pub verdict_of : Monitor → Config → Frame → ℕ
verdict_of m c f =
    verdict (may m c.threads f) (beq f.flag (m.holds (m.guard_of f.region) c.state))
    (is_waiting (c.threads.place f.thread)) f.flag (c.notified f.thread)
    (first_notified m c.threads c.notified (m.guard_of f.region) f.thread)

-- t stands in a line, and a set has those ahead of it there
pub record AheadOf (line : List ℕ) (t set : ℕ) : Type 0 where
  pub ahead : List ℕ
  pub behind : List ℕ
  pub splits : line ≡ ahead ++ (t ∷ behind)
  pub others : has ahead t ≡ false
  pub below : (u : ℕ) → has ahead u ≡ true → u < 16
  pub each : (u : ℕ) → u < 16 → member set u ≡ has ahead u

-- the point after a frame that is taken: by the flag, and does the thread wait
unfoldable pub next_by : Monitor → Told → Config → Frame → Bool → Bool → Config
next_by m told c f true waits = ran m told c f
next_by m told c f false true = rechecked m told c f
next_by m told c f false false = waited m told c f

unfoldable pub next_of : Monitor → Told → Config → Frame → Config
next_of m told c f = next_by m told c f f.flag (is_waiting (c.threads.place f.thread))

unfoldable pub outcome : ℕ → Config → Outcome
outcome zero c = moved c
outcome (suc n) c = refused (suc n)

module _ (m : Monitor) (told : Told) (c : Config) (f : Frame) where
  allowed_parts : (notice first : Bool) → allowed m told (notice && first) (ran m told c f)
      ≡ outcome (verdict true true true true notice first) (ran m told c f)
  unfolding allowed outcome verdict
  allowed_parts true true = refl
  allowed_parts true false = refl
  allowed_parts false first = refl

  rechecked_parts : (notice first : Bool) → allowed m told notice (rechecked m told c f)
      ≡ outcome (verdict true true true false notice first) (rechecked m told c f)
  unfolding allowed outcome verdict
  rechecked_parts true first = refl
  rechecked_parts false first = refl

  act_parts : (waits flag : Bool) →
      let first = first_notified m c.threads c.notified (m.guard_of f.region) f.thread in
      act m told c f waits flag ≡ outcome (verdict true true waits flag (c.notified f.thread) first)
      (next_by m told c f flag waits)
  unfolding act outcome verdict next_by
  act_parts false false = refl
  act_parts false true = refl
  act_parts true false = rechecked_parts (c.notified f.thread)
      (first_notified m c.threads c.notified (m.guard_of f.region) f.thread)
  act_parts true true = allowed_parts (c.notified f.thread)
      (first_notified m c.threads c.notified (m.guard_of f.region) f.thread)

  judged_parts : (there same : Bool) →
      let first = first_notified m c.threads c.notified (m.guard_of f.region) f.thread in
      let waits = is_waiting (c.threads.place f.thread) in
      judged m told c f there same ≡ outcome (verdict there same waits f.flag (c.notified f.thread) first)
      (next_of m told c f)
  unfolding judged outcome verdict next_of
  judged_parts false same = refl
  judged_parts true false = refl
  judged_parts true true = act_parts (is_waiting (c.threads.place f.thread)) f.flag

  pub step_parts : step m told c f ≡ outcome (verdict_of m c f) (next_of m told c f)
  unfolding step verdict_of
  step_parts = judged_parts (may m c.threads f) (beq f.flag (m.holds (m.guard_of f.region) c.state))
