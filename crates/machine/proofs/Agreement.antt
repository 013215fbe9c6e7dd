-- The two machines agree on every list of frames: from the simulation, whose relation holds where all threads are idle
-- and none is notified.
use Prim.Native.Nat.{ℕ}
use native.Mathlib.Omega.{arith}
use mathlib.Core.Path.{◌≡◌, refl, sym, subst, ap, ◌∙◌}
use mathlib.Core.Bool.{Bool, true, false}
use mathlib.Core.Logic.Iff
use mathlib.Core.Logic.{◌⊎◌, inl, inr, ◌↔◌, ⊎_elim}
use mathlib.Core.List.{List, ◌∷◌, ◌++◌}
use lib.ListN.{length, take}
use lib.Seq.{take-length}
use Rattle.machine.specs.Monitor.{Threads, idle_threads, Monitor, Frame, Config, all_idle, Run, accepted, stopped}
use Rattle.machine.specs.Decide.Step.{Told, is_waiting, plain_told, run}
use Rattle.machine.specs.Algorithm1.{Entry}
use Rattle.machine.specs.Decide.Table.{table_told, entry_of, broadcast}
use Rattle.machine.specs.Rules.{Notices}
use Rattle.machine.proofs.RulesDecided.{Decides}
use Rattle.machine.specs.Recheck.{Recheck, RecheckFrom}
use Rattle.machine.proofs.Rechecks.{recheck_iff, waiters, recheck_waits}
use Rattle.machine.specs.Agreement.{Checked}
use Rattle.machine.proofs.Points.{Placed, entries_placed, PlainPoint, TablePoint, Agree, idle_plain, idle_agree}
use Rattle.machine.proofs.Simulation.{Result, same_refusal, at_recheck, same_point, run_plain, run_agree, at}
use Rattle.machine.specs.Agreement.{AgreeOn, Agrees, SamePoint, answer, plain_run, table_run}

agree_point :
    {m : Monitor} {bc : ℕ → Bool} {s : ℕ} {p : Threads} {nP n_t : ℕ → Bool} → Agree m bc s p nP n_t
    → SamePoint m (at s p nP) (at s p n_t)
agree_point {m} {bc} {s} {p} {nP} {n_t} ag = record {
  same_state = refl;
  same_threads = refl;
  is_kept = ag.plain.is_kept;
  all_notified = λ g u h w. ag.plain.all g u w h;
  next_notified = λ g u h f. ag.table.first g u h f;
}

result_answer :
    {m : Monitor} {bc began : ℕ → Bool} {fs : List Frame} {x y : Run} → Result m bc began fs 0 x y
    → (answer x ≡ answer y) ⊎ ((k : ℕ) × (y ≡ stopped 14 k) × RecheckFrom began fs k)
unfolding answer
result_answer same_refusal = inl refl
result_answer (at_recheck {j} i z r) = inr (i, ap (stopped 14) (omega arith), r)
result_answer (same_point ag) = inl refl

result_point :
    {m : Monitor} {bc began : ℕ → Bool} {fs : List Frame} {x y : Run} → Result m bc began fs 0 x y
    → (c : Config) → y ≡ accepted c → (d : Config) × (x ≡ accepted d) × SamePoint m d c
result_point same_refusal c e = let z : ◌≡◌ {A = ℕ} 0 1 = cc in absurd (omega arith)
result_point (at_recheck i z r) c e = let z : ◌≡◌ {A = ℕ} 0 1 = cc in absurd (omega arith)
result_point {m} (same_point {s} {p} {nP} {n_t} ag) c e =
    let z : at s p n_t ≡ c = cc in (at s p nP, refl, subst (SamePoint m (at s p nP)) z (agree_point ag))

result_table :
    {m : Monitor} {bc began : ℕ → Bool} {fs : List Frame} {x y : Run} → Result m bc began fs 0 x y
    → (c : Config) → y ≡ accepted c → TablePoint m bc c.state c.threads c.notified
result_table same_refusal c e = let z : ◌≡◌ {A = ℕ} 0 1 = cc in absurd (omega arith)
result_table (at_recheck i z r) c e = let z : ◌≡◌ {A = ℕ} 0 1 = cc in absurd (omega arith)
result_table {m} {bc} (same_point {s} {p} {nP} {n_t} ag) c e =
    let z : at s p n_t ≡ c = cc in
    subst (λ (d : Config). TablePoint m bc d.state d.threads d.notified) z ag.table

-- from any two points in the relation, and for any table that is so placed
pub agree_from :
    (m : Monitor) → Checked m → (e : ℕ → ℕ → Entry) (bc : ℕ → Bool) → Placed m e bc
    → (s : ℕ) (p : Threads) (nP n_t : ℕ → Bool) → Agree m bc s p nP n_t → (fs : List Frame)
    → AgreeOn m (run m (plain_told m) 0 (at s p nP)) (run m (table_told m e) 0 (at s p n_t))
    (RecheckFrom (waiters (at s p n_t))) fs
agree_from m ok e bc placed s p nP n_t ag fs = record {
  same_answer = result_answer (run_agree m ok e bc placed fs 0 s p nP n_t ag);
  every_point = λ n _ c h. result_point (run_agree m ok e bc placed (take n fs) 0 s p nP n_t ag) c h;
}

pub agrees : (m : Monitor) → Checked m → Agrees m
unfolding Agrees plain_run table_run all_idle is_waiting
agrees m ok s k fs =
    let start = idle_agree m (broadcast m) s k in
    let placed = entries_placed m ok in
    let a = agree_from m ok (entry_of m) (broadcast m) placed s idle_threads (λ _. false) (λ _. false) start fs in
    record {
      same_answer = ⊎_elim inl (λ x. inr (x.0, x.1, (recheck_iff fs x.0).0 x.2)) a.same_answer;
      every_point = a.every_point;
    }

-- What follows

module _ (m : Monitor) (ok : Checked m) (s : ℕ) (k : m.kept s ≡ true) (fs : List Frame) where
  -- without rechecks the answers are always equal
  pub same_without_rechecks : ((j : ℕ) → Recheck fs j → ⊥) → answer (plain_run m s fs) ≡ answer (table_run m s fs)
  unfolding Agrees
  same_without_rechecks h = ⊎_elim (λ x. x) (λ x. absurd (h x.0 x.2)) (agrees m ok s k fs).same_answer

  -- what the table's machine accepts the plain one accepts, with the same values, places and turns
  pub table_accepts :
      (c : Config) → table_run m s fs ≡ accepted c → (d : Config) × (plain_run m s fs ≡ accepted d) × SamePoint m d c
  unfolding Agrees
  table_accepts c h =
      let x = (agrees m ok s k fs).every_point (length fs) (omega arith) c (ap (table_run m s) (take-length fs) ∙ h) in
      (x.0, ap (plain_run m s) (sym (take-length fs)) ∙ x.1, x.2)

  -- the plain machine at each of its points, also past a recheck that the table's refuses
  pub plain_every_point :
      (d : Config) → plain_run m s fs ≡ accepted d → PlainPoint m d.state d.threads d.notified
  unfolding plain_run all_idle
  plain_every_point = run_plain m ok fs 0 s idle_threads (λ _. false) (idle_plain m s k)

  -- and the table's at each of its points
  pub table_every_point :
      (c : Config) → table_run m s fs ≡ accepted c → TablePoint m (broadcast m) c.state c.threads c.notified
  unfolding table_run all_idle
  table_every_point c h = result_table (run_agree m ok (entry_of m) (broadcast m) (entries_placed m ok) fs 0 s idle_threads
      (λ _. false) (λ _. false) (idle_agree m (broadcast m) s k)) c h

-- A recheck told from the frames alone is a waiting thread's frame with 00, after frames that a machine accepts
pub recheck_is_waiting :
    (m : Monitor) → Checked m → (told : Told) (notices : Notices) → Decides m told notices
    → (s : ℕ) (front : List Frame) (c : Config) → run m told 0 (all_idle s) front ≡ accepted c
    → (f : Frame) (more : List Frame)
    → Recheck (front ++ (f ∷ more)) (length front)
    ↔ ((f.flag ≡ false) × (is_waiting (c.threads.place f.thread) ≡ true))
unfolding all_idle is_waiting
recheck_is_waiting m ok told notices decides s front c h f more =
    Iff.trans (Iff.symm (recheck_iff (front ++ (f ∷ more)) (length front)))
    (recheck_waits m ok.leaves notices ((decides.accepts 0 (all_idle s) front c).0 h) f more)
