-- What the points of a list are, as data: by the rules of the plain machine, and by demand 3 of the table's.
use Prim.Native.Nat.{ℕ, zero, suc, ◌+◌, ◌-◌, ◌*◌, ◌≤◌, ◌<◌}
use native.Mathlib.Omega.{arith}
use native.Mathlib.Nat.{zero-add}
use mathlib.Core.Path.{◌≡◌, refl, sym, ap, ap₂, ◌∙◌}
use mathlib.Core.Logic.{◌↔◌}
use mathlib.Core.Bool.{Bool, true, not, ◌&&◌}
use mathlib.Core.List.{List, [], ◌∷◌, ◌++◌, append_assoc}
use lib.ListN.{length, take, drop, length-append}
use lib.Seq.{take_at, drop_at, drop-append-add}
use Rattle.syntax.specs.Tree.{Monitor}
use Rattle.machine.specs.Monitor.{Frame, Threads, Config, Run, stopped, all_idle, threads, turn}
use Rattle.machine.specs.Monitor as machine
use Rattle.machine.specs.Agreement.{SamePoint}
use Rattle.machine.specs.Decide.Step.{run}
use Rattle.machine.specs.Rules.{Rules}
use Rattle.meaning.specs.State.{state_at}
use Rattle.meaning.specs.Decide.Table.{for_each}
use Rattle.meaning.specs.Decide.Calls.{run_list, told_by}
use Rattle.meaning.specs.Model.{vars, kept, model, holds}
use Rattle.meaning.specs.Calls.{Machine, notices_of, plain_machine, table_machine}
use Rattle.meaning.specs.Bits.{each_from, bits}
use Rattle.meaning.specs.Points.{point_size, value_bytes, place_bytes, turn_bytes, set_bytes, shared_bytes, notice_bytes}
use Rattle.meaning.specs.Points.{notices_at, plain_part, table_part, turn_part, point_at, point_count, list_points}
use Rattle.meaning.specs.Answer.{accepted}
use Rattle.meaning.specs.Decide.Check.{check}
use Rattle.demands.specs.Points.{DemandPoints, ToldFrom}
use Rattle.demands.proofs.Prefixes.{front_taken, front_taken_iff}
use Rattle.demands.proofs.Demand2.{follows_rules, run_stops}
use Rattle.demands.proofs.Demand3.{demand_3}
use Rattle.meaning.proofs.Each.{each_length}

-- Pieces of one size, joined

joined_length : (n j : ℕ) (f : ℕ → List ℕ) → ((k : ℕ) → k < n → length (f (j + k)) ≡ point_size)
    → length (for_each n j f) ≡ point_size * n
unfolding for_each
joined_length zero j f h = refl
joined_length (suc n) j f h =
    let a : length (f j) ≡ point_size = ap (λ (i : ℕ). length (f i)) (omega arith) ∙ h 0 (omega arith) in
    let r = joined_length n (j + 1) f
    (λ k l. ap (λ (i : ℕ). length (f i)) (omega arith) ∙ h (suc k) (omega arith)) in
    length-append (f j) (for_each n (j + 1) f) ∙ omega arith

joined_at : (n j : ℕ) (f : ℕ → List ℕ) (rest : List ℕ) → ((k : ℕ) → k < n → length (f (j + k)) ≡ point_size)
    → (k : ℕ) → k < n → take point_size (drop (point_size * k) (for_each n j f ++ rest)) ≡ f (j + k)
unfolding for_each
joined_at zero j f rest h k l = absurd (omega arith)
joined_at (suc n) j f rest h zero l =
    let here : j + 0 ≡ j = omega arith in
    rw (append_assoc, here) (take_at (f j) _ point_size (ap (λ (i : ℕ). length (f i)) (sym here) ∙ h 0 l))
joined_at (suc n) j f rest h (suc k) l =
    let here : j + 0 ≡ j = omega arith in
    let next : (i : ℕ) → j + 1 + i ≡ j + suc i = λ i. omega arith in
    let a : length (f j) ≡ point_size = ap (λ (i : ℕ). length (f i)) (sym here) ∙ h 0 (omega arith) in
    let size : point_size * suc k ≡ length (f j) + point_size * k = omega arith in
    rw (append_assoc, size, drop-append-add)
    (joined_at n (j + 1) f rest (λ i b. ap (λ (y : ℕ). length (f y)) (next i) ∙ h (suc i) (omega arith)) k (omega arith)
    ∙ ap f (next k))

-- The bytes of a point

shared_length : (m : Monitor) (c : Config) → length (shared_bytes m c) ≡ 24
unfolding shared_bytes value_bytes place_bytes set_bytes threads
shared_length m c = simp (length-append, each_length)

table_length : (x y : Run) → length (table_part x y) ≡ 5
unfolding table_part notice_bytes set_bytes
table_length x (machine.accepted c) = refl
table_length x (stopped a k) = refl

turn_length : (p : Threads) → length (turn_bytes p) ≡ 16
unfolding turn_bytes threads
turn_length p = each_length 16 0 (turn p)

same_shared : (m : Monitor) (c d : Config) → SamePoint (model m) c d → shared_bytes m c ≡ shared_bytes m d
unfolding shared_bytes
same_shared m c d p =
    ap₂ (λ (a : ℕ) (q : Threads). value_bytes (state_at (vars m) a) ++ (place_bytes q ++ set_bytes (λ g. holds m g a)))
    p.same_state p.same_threads

drop_shared : (m : Monitor) (c : Config) (n : ℕ) (l : List ℕ) → drop (24 + n) (shared_bytes m c ++ l) ≡ drop n l
drop_shared m c n l =
    ap (λ (i : ℕ). drop (i + n) (shared_bytes m c ++ l)) (sym (shared_length m c)) ∙ drop-append-add (shared_bytes m c) l n

module _ (m : Monitor) (s : ℕ) (fs : List Frame) where
  module _ (k : ℕ) (c : Config) (e : run_list m plain_machine s (take k fs) ≡ machine.accepted c) where
    abbrev behind_shared : List ℕ
    behind_shared =
        notice_bytes (notices_at (run_list m plain_machine s (take (k - 1) fs))) c.notified
        ++ (table_part (run_list m table_machine s (take (k - 1) fs)) (run_list m table_machine s (take k fs))
        ++ turn_bytes c.threads)

    point_as : point_at m s fs k ≡ shared_bytes m c ++ behind_shared
    unfolding point_at plain_part turn_part
    point_as =
        ap (λ (y : Run). plain_part m (run_list m plain_machine s (take (k - 1) fs)) y
        ++ (table_part (run_list m table_machine s (take (k - 1) fs)) (run_list m table_machine s (take k fs))
        ++ turn_part y)) e
        ∙ simp append_assoc

    point_length : length (point_at m s fs k) ≡ point_size
    unfolding notice_bytes set_bytes
    point_length =
        let a = shared_length m c in
        let t =
        table_length (run_list m table_machine s (take (k - 1) fs)) (run_list m table_machine s (take k fs)) in
        let n = turn_length c.threads in
        let l = length-append (table_part (run_list m table_machine s (take (k - 1) fs)) (run_list m table_machine s (take k fs)))
        (turn_bytes c.threads) in
        ap length point_as ∙ length-append (shared_bytes m c) behind_shared ∙ omega arith

    -- the plain machine's notices come first
    notices_first : shared_bytes m c ++ behind_shared
        ≡ shared_bytes m c
        ++ (set_bytes c.notified
        ++ (set_bytes (λ u. c.notified u && not (notices_at (run_list m plain_machine s (take (k - 1) fs)) u))
        ++ (table_part (run_list m table_machine s (take (k - 1) fs)) (run_list m table_machine s (take k fs))
        ++ turn_bytes c.threads)))
    unfolding notice_bytes
    notices_first = ap (λ (l : List ℕ). shared_bytes m c ++ l) (append_assoc (set_bytes c.notified) _ _)

    abbrev own : List ℕ
    own = notice_bytes (notices_at (run_list m plain_machine s (take (k - 1) fs))) c.notified

    own_length : length own ≡ 4
    unfolding notice_bytes set_bytes
    own_length = refl

    -- the table's part, by its run of the same frames
    with_table : (y : Run) → run_list m table_machine s (take k fs) ≡ y
        → point_at m s fs k
        ≡ shared_bytes m c ++ (own ++ (table_part (run_list m table_machine s (take (k - 1) fs)) y ++ turn_bytes c.threads))
    with_table y q =
        point_as
        ∙ ap (λ (z : Run). shared_bytes m c
        ++ (own ++ (table_part (run_list m table_machine s (take (k - 1) fs)) z ++ turn_bytes c.threads))) q

    table_there : (d : Config) → run_list m table_machine s (take k fs) ≡ machine.accepted d → SamePoint (model m) c d
        → (four told : List ℕ) × (length four ≡ 4)
        × (point_at m s fs k ≡ shared_bytes m d ++ (four ++ (1 ∷ (set_bytes d.notified ++ told))))
    unfolding table_part notice_bytes set_bytes
    table_there d q same = (
      own,
      set_bytes (λ u. d.notified u && not (notices_at (run_list m table_machine s (take (k - 1) fs)) u))
          ++ turn_bytes c.threads,
      own_length,
      with_table (machine.accepted d) q
          ∙ ap (λ (l : List ℕ). l
          ++ (own ++ (table_part (run_list m table_machine s (take (k - 1) fs)) (machine.accepted d) ++ turn_bytes c.threads)))
          (same_shared m c d same),
    )

    own_told : take 2 (drop 26 (point_at m s fs k))
        ≡ set_bytes (λ u. c.notified u && not (notices_at (run_list m plain_machine s (take (k - 1) fs)) u))
    unfolding notice_bytes set_bytes
    own_told =
        ap (λ (l : List ℕ). take 2 (drop 26 l)) point_as
        ∙ ap (take 2) (drop_shared m c 2 behind_shared)

    table_told : (d : Config) → run_list m table_machine s (take k fs) ≡ machine.accepted d
        → take 2 (drop 31 (point_at m s fs k))
        ≡ set_bytes (λ u. d.notified u && not (notices_at (run_list m table_machine s (take (k - 1) fs)) u))
    unfolding table_part notice_bytes set_bytes
    table_told d q =
        ap (λ (l : List ℕ). take 2 (drop 31 l)) (with_table (machine.accepted d) q)
        ∙ ap (take 2)
        (drop_shared m c 7 (own ++ (table_part (run_list m table_machine s (take (k - 1) fs)) (machine.accepted d)
        ++ turn_bytes c.threads)))

    table_absent : ((d : Config) → run_list m table_machine s (take k fs) ≡ machine.accepted d → ⊥)
        → (four : List ℕ) × (length four ≡ 4)
        × (point_at m s fs k ≡ shared_bytes m c ++ (four ++ (0 ∷ 0 ∷ 0 ∷ 0 ∷ 0 ∷ turn_bytes c.threads)))
    unfolding table_part
    table_absent no_point = go (run_list m table_machine s (take k fs)) refl
      where
        go : (y : Run) → run_list m table_machine s (take k fs) ≡ y
            → (four : List ℕ) × (length four ≡ 4)
            × (point_at m s fs k ≡ shared_bytes m c ++ (four ++ (0 ∷ 0 ∷ 0 ∷ 0 ∷ 0 ∷ turn_bytes c.threads)))
        go (machine.accepted d) q = absurd (no_point d q)
        go (stopped a i) q = (own, own_length, with_table (stopped a i) q)

    -- the turns stand at the end
    turns_last : drop 33 (point_at m s fs k) ≡ turn_bytes c.threads
    unfolding table_part notice_bytes set_bytes
    turns_last = go (run_list m table_machine s (take k fs)) refl
      where
        go : (y : Run) → run_list m table_machine s (take k fs) ≡ y → drop 33 (point_at m s fs k) ≡ turn_bytes c.threads
        go (machine.accepted d) q =
            ap (drop 33) (with_table (machine.accepted d) q)
            ∙ drop_shared m c 9 (own ++ (table_part (run_list m table_machine s (take (k - 1) fs)) (machine.accepted d)
            ++ turn_bytes c.threads))
        go (stopped a i) q =
            ap (drop 33) (with_table (stopped a i) q)
            ∙ drop_shared m c 9 (own ++ (table_part (run_list m table_machine s (take (k - 1) fs)) (stopped a i)
            ++ turn_bytes c.threads))

  -- up to which point there is one
  taken_iff : (k : ℕ) → (k < point_count (run_list m plain_machine s fs) fs) ↔ ((k ≤ length fs)
      × ((c : Config) × (run_list m plain_machine s (take k fs) ≡ machine.accepted c)))
  unfolding point_count run_list
  taken_iff k = go (run_list m plain_machine s fs) refl
    where
      go : (x : Run) → run_list m plain_machine s fs ≡ x → (k < point_count x fs) ↔ ((k ≤ length fs)
          × ((c : Config) × (run_list m plain_machine s (take k fs) ≡ machine.accepted c)))
      go (machine.accepted p) e = (
        λ h. (omega arith, front_taken (model m) (told_by (model m) plain_machine) 0 (all_idle s) fs k p e),
        λ h. let b = h.0 in omega arith,
      )
      go (stopped a i) e =
          let b = (run_stops m plain_machine s fs a i e).frame in
          let t = front_taken_iff (model m) (told_by (model m) plain_machine) 0 (all_idle s) fs k a i e in (
            λ h. (omega arith, (t (omega arith)).1 (omega arith)),
            λ h. let l = (t h.0).0 h.1 in omega arith,
          )

  lengths : (k : ℕ) → k < point_count (run_list m plain_machine s fs) fs → length (point_at m s fs (0 + k)) ≡ point_size
  lengths k h =
      let t = (taken_iff k).0 h in
      rw zero-add (point_length k t.1.0 t.1.1)

  -- the notices before frame k
  told_behind : (w : Machine) (k : ℕ) (b c : Config) → run_list m w s (take k fs) ≡ machine.accepted b
      → set_bytes (λ u. c.notified u && not (notices_at (run_list m w s (take (k + 1 - 1) fs)) u))
      ≡ set_bytes (λ u. c.notified u && not (b.notified u))
  unfolding notices_at
  told_behind w k b c e =
      let here : k + 1 - 1 ≡ k = omega arith in
      ap (λ (x : Run). set_bytes (λ u. c.notified u && not (notices_at x u)))
      (ap (λ (i : ℕ). run_list m w s (take i fs)) here ∙ e)

  -- at the start nobody is notified
  start_tells : (f : ℕ → Bool) → set_bytes (λ u. (all_idle s).notified u && f u) ≡ 0 ∷ 0 ∷ []
  unfolding set_bytes all_idle threads each_from bits
  start_tells f = refl

  idle_first : (w : Machine) → run_list m w s (take 0 fs) ≡ machine.accepted (all_idle s)
  unfolding run_list run
  idle_first w = refl

-- on either machine, by demand 3
turns_of :
    (file : List ℕ) (m : Monitor) → check file ≡ accepted m → (s : ℕ) → kept m s ≡ true → (fs : List Frame)
    → (j : ℕ) (c : Config) (w : Machine) → j ≤ length fs
    → Rules (model m) (notices_of m w) (all_idle s) (take j fs) c → drop 33 (point_at m s fs j) ≡ turn_bytes c.threads
turns_of file m e s k fs j c plain_machine h r =
    turns_last m s fs j c (((follows_rules m plain_machine).accepts s (take j fs) c).1 r)
turns_of file m e s k fs j c table_machine h r =
    let x = (demand_3.agree file m e s k fs).every_point j h c
    (((follows_rules m table_machine).accepts s (take j fs) c).1 r) in
    turns_last m s fs j x.0 x.1 ∙ ap turn_bytes x.2.same_threads

pub every_point : DemandPoints
unfolding list_points ToldFrom
every_point = record {
  points = λ file m e s k fs buffer.
      let rules = follows_rules m plain_machine in
      let n = point_count (run_list m plain_machine s fs) fs in
      let each = lengths m s fs in
      record {
        count = λ j.
            let t = taken_iff m s fs j in (
              λ h. let x = t.0 h in (x.0, (x.1.0, (rules.accepts s (take j fs) x.1.0).0 x.1.1)),
              λ h. t.1 (h.0, (h.1.0, (rules.accepts s (take j fs) h.1.0).1 h.1.1)),
            );
        each = λ j h.
            joined_at n 0 (point_at m s fs) (drop (point_size * n) buffer) each j h ∙ ap (point_at m s fs) (zero-add j);
        plain = λ j c h r.
            let e = (rules.accepts s (take j fs) c).1 r in
            (_, point_as m s fs j c e ∙ notices_first m s fs j c e);
        table = λ j d h r.
            let q = ((follows_rules m table_machine).accepts s (take j fs) d).1 r in
            let x = (demand_3.agree file m e s k fs).every_point j h d q in
            table_there m s fs j x.0 x.1 d q x.2;
        absent = λ j c h r none.
            table_absent m s fs j c ((rules.accepts s (take j fs) c).1 r)
            (λ d q. none d (((follows_rules m table_machine).accepts s (take j fs) d).0 q));
        turns = λ j c w h r. turns_of file m e s k fs j c w h r;
        told = λ j h. (
          λ b c r q.
              own_told m s fs (j + 1) c ((rules.accepts s (take (j + 1) fs) c).1 q)
              ∙ told_behind m s fs plain_machine j b c ((rules.accepts s (take j fs) b).1 r),
          λ b d r q.
              let there = (follows_rules m table_machine).accepts in
              let e_d = (there s (take (j + 1) fs) d).1 q in
              let x = (demand_3.agree file m e s k fs).every_point (j + 1) (omega arith) d e_d in
              table_told m s fs (j + 1) x.0 x.1 d e_d
              ∙ told_behind m s fs table_machine j b d ((there s (take j fs) b).1 r),
        );
        none_told = (
          own_told m s fs 0 (all_idle s) (idle_first m s fs plain_machine) ∙ start_tells m s fs _,
          table_told m s fs 0 (all_idle s) (idle_first m s fs plain_machine) (all_idle s) (idle_first m s fs table_machine)
              ∙ start_tells m s fs _,
        );
        behind = drop_at (for_each n 0 (point_at m s fs)) (drop (point_size * n) buffer) (point_size * n)
            (joined_length n 0 (point_at m s fs) each);
      };
}
