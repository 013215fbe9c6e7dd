-- What the code works out from slices, of a monitor that they hold: its entries. The cases are those of `runs`, and of
-- whether a region touches a guard. Where an entry stands, its guard holds in a kept state, from which a region that
-- has this guard and does not touch it may run.
use Prim.Native.Nat.{ℕ, ◌+◌, ◌*◌, ◌%◌, ◌<◌, ◌≤◌}
use mathlib.Core.Path.{◌≡◌, refl, sym, ap, ◌∙◌}
use mathlib.Core.Bool.{Bool, true, false, not, ◌&&◌, ◌||◌, and-false, and_comm, and-not_self}
use mathlib.Core.List.{List}
use mathlib.Core.Logic.Iff
use native.Mathlib.Nat.{mod-eq_of_lt}
use native.Mathlib.Omega.{arith}
use lib.ListN.{get_or}
use lib.Dec.{eqb}
use borrow.Author.Tests.{eqb-true}
use Rattle.sets.specs.Set.{member}
use Rattle.sets.proofs.SetLaws.{eqb_sym}
use Rattle.machine.specs.Monitor.{Monitor}
use Rattle.machine.specs.Algorithm1.{none, entry}
use Rattle.machine.specs.Decide.Table.{runs, some_move, every_move, stands, unconditional, broadcast, entry_of}
use Rattle.machine.specs.Held.{Held, HeldTouched, code_of, HeldEntries}
use Rattle.logic.specs.Tests.{bit}
use Rattle.entries.specs.Slices.{runs_at, some_at, rises, neither, holds_then, leaves_at, wide_at, made}
use Rattle.entries.specs.Slices.{code_at, Counts, FillsEntries}
use Rattle.entries.proofs.Sweeps.{and_when}
use Rattle.logic.proofs.Any.{any_same, any_false, any_intro, any_iff}
use Rattle.logic.proofs.Bools.{both, and}

-- `mod-eq_of_lt`, with the numbers written
mod_small : (n k : ℕ) → n < k → n % k ≡ n
mod_small n k h = mod-eq_of_lt h

bit_is : (b : Bool) → eqb (bit b) 1 ≡ b
unfolding bit
bit_is true = refl
bit_is false = refl

-- a first half that is false only where the second is adds nothing
and_drop : (a b : Bool) → (a ≡ false → b ≡ false) → (a && b) ≡ b
and_drop true b e = refl
and_drop false b e = sym (e refl)

module _ (m : Monitor) (kept holds after guard_of touched : List ℕ) (states regions guards : ℕ)
    (held : Held m kept holds after guard_of) (leaves : HeldTouched m touched)
    (keeps : (r s : ℕ) → m.kept s ≡ true → m.holds (m.guard_of r) s ≡ true → m.kept (m.after r s) ≡ true)
    (es : m.states ≡ states) (er : m.regions ≡ regions) (eg : m.guards ≡ guards) where
  guard_is : (r : ℕ) → r < m.regions → get_or guard_of r 0 % 16 ≡ m.guard_of r
  guard_is r hr =
      let few : m.guards ≤ 16 = held.few_guards in
      let below : m.guard_of r < m.guards = held.guard_below r hr in
      rw (held.by_guard r hr) (mod_small (m.guard_of r) 16 (omega arith))

  run_is : (r s : ℕ) → r < m.regions → s < m.states → runs_at kept holds (m.guard_of r) s ≡ runs m r s
  unfolding runs_at runs
  run_is r s hr hs =
      rw (held.by_kept s hs, bit_is (m.kept s), held.by_holds (m.guard_of r) s (held.guard_below r hr) hs)

  -- a test of sets of guards that is a test of states
  some_is :
      (r : ℕ) (test on : ℕ → ℕ → Bool) → r < m.regions
      → ((s t : ℕ) → s < m.states → t < m.states → test (get_or holds s 0) (get_or holds t 0) ≡ on s t)
      → some_at kept holds after m.states (m.guard_of r) r test ≡ some_move m r on
  unfolding some_at some_move
  some_is r test on hr e = any_same m.states _ _ (λ s hs. rw (run_is r s hr hs) (and_when _ _ _ (go s hs)))
    where
      go : (s : ℕ) → s < m.states → runs m r s ≡ true
          → test (get_or holds s 0) (get_or holds (get_or after (r * 4096 + s) 0 % 4096) 0) ≡ on s (m.after r s)
      go s hs run =
          let small : m.after r s < m.states = held.after_below r s hr run in
          let few : m.states ≤ 4096 = held.few_states in
          rw (held.by_after r s hr run, mod_small (m.after r s) 4096 (omega arith)) (e s (m.after r s) hs small)

  stands_is :
      (r g : ℕ) → r < m.regions → g < m.guards → some_at kept holds after m.states (m.guard_of r) r (rises g)
      ≡ stands m r g
  unfolding stands rises
  stands_is r g hr hg = some_is r _ _ hr (λ s t hs ht. rw (held.by_holds g s hg hs, held.by_holds g t hg ht))

  always_is :
      (r g : ℕ) → r < m.regions → g < m.guards
      → not (some_at kept holds after m.states (m.guard_of r) r (neither g)) ≡ unconditional m r g
  unfolding unconditional every_move neither
  always_is r g hr hg = ap not (some_is r _ _ hr (λ s t hs ht. rw (held.by_holds g s hg hs, held.by_holds g t hg ht)))

  -- an untouched pair has no entry
  untouched : (r g : ℕ) → r < m.regions → g < m.guards → member (get_or touched r 0) g ≡ false → stands m r g ≡ false
  unfolding HeldTouched stands some_move
  untouched r g hr hg e = any_false m.states _ (λ s hs. and_when _ _ false (go s) ∙ and-false (runs m r s))
    where
      go : (s : ℕ) → runs m r s ≡ true → (not (m.holds g s) && m.holds g (m.after r s)) ≡ false
      go s run = rw (leaves r g s hr hg e run, and_comm) (and-not_self (m.holds g s))

  -- where an entry stands, its guard holds in a kept state: one to which the entry's region leads
  open_at : (r g : ℕ) → stands m r g ≡ true → (t : ℕ) × (m.kept t ≡ true) × (m.holds g t ≡ true)
  unfolding stands some_move runs
  open_at r g e =
      let x = (any_iff m.states _ (λ s. Iff.rfl)).0 e in
      let s = x.0 in
      let y = both (runs m r s) _ x.2 in
      let run = both (m.kept s) _ y.0 in
      (m.after r s, keeps r s run.0 run.1, (both (not (m.holds g s)) _ y.1).1)

  -- there a region that has this guard and does not touch it leaves it true
  leaves_is :
      (r t : ℕ) → r < m.regions → m.kept t ≡ true → m.holds (m.guard_of r) t ≡ true
      → leaves_at kept holds after m.states (m.guard_of r) r (get_or touched r 0)
      ≡ some_move m r (λ s s'. m.holds (m.guard_of r) s')
  unfolding leaves_at HeldTouched some_move runs holds_then
  leaves_is r t hr k h = go (member (get_or touched r 0) own) refl
    where
      own : ℕ
      own = m.guard_of r

      go : (b : Bool) → member (get_or touched r 0) own ≡ b
          → (not b || some_at kept holds after m.states own r (holds_then own))
          ≡ some_move m r (λ s s'. m.holds own s')
      go true e = some_is r _ _ hr (λ s s' hs hs'. held.by_holds own s' (held.guard_below r hr) hs')
      go false e =
          sym (any_intro m.states _ t (held.kept_below t k)
          (and (and k h) (leaves r own t hr (held.guard_below r hr) e (and k h) ∙ h)))

  -- the guards whose entries are broadcasts, of those that have an entry
  wide_is :
      (r g : ℕ) → stands m r g ≡ true
      → wide_at kept holds after guard_of touched m.states m.regions g ≡ broadcast m g
  unfolding wide_at broadcast
  wide_is r g e =
      any_same m.regions _ _
      (λ w hw. rw (guard_is w hw, eqb_sym g (m.guard_of w))
      (and_when _ _ _ (λ q. go w hw (eqb-true (m.guard_of w) g q))))
    where
      go : (w : ℕ) → w < m.regions → m.guard_of w ≡ g
          → leaves_at kept holds after m.states (m.guard_of w) w (get_or touched w 0)
          ≡ some_move m w (λ s s'. m.holds g s')
      go w hw q =
          let x = open_at r g e in
          leaves_is w x.0 hw x.1 (rw q x.2) ∙ ap (λ (k : ℕ). some_move m w (λ s s'. m.holds k s')) q

  -- an entry that does not stand is none, whether broadcast or not
  made_is :
      (r g : ℕ) (wide : Bool) → (stands m r g ≡ true → wide ≡ broadcast m g)
      → made (stands m r g) (unconditional m r g) wide ≡ entry_of m r g
  unfolding made entry_of
  made_is r g wide = pick (stands m r g)
    where
      pick : (b : Bool) → (b ≡ true → wide ≡ broadcast m g) → made b (unconditional m r g) wide
          ≡ elim b [ true ↦ entry (unconditional m r g) (broadcast m g) | false ↦ none ]
      pick true e = ap (entry (unconditional m r g)) (e refl)
      pick false e = refl

  -- what the code works out is the entry's number
  code_is :
      (r g : ℕ) → r < m.regions → g < m.guards
      → code_at kept holds after guard_of touched states regions r g ≡ code_of (entry_of m r g)
  unfolding code_at
  code_is r g hr hg = rw (
    ← es,
    ← er,
    guard_is r hr,
    stands_is r g hr hg,
    and_drop _ _ (untouched r g hr hg),
    always_is r g hr hg,
  ) (ap code_of (made_is r g _ (wide_is r g)))

  -- the entries that are filled are the monitor's
  pub entries_held : {before entries : List ℕ}
      → FillsEntries kept holds after guard_of touched states regions guards before entries → HeldEntries m entries
  unfolding HeldEntries
  entries_held fills r g hr hg =
      let few_s = held.few_states in
      let few_r = held.few_regions in
      let few_g = held.few_guards in
      let counts : Counts states regions guards =
      record { few_states = omega arith; few_regions = omega arith; few_guards = omega arith } in
      (fills.filled counts).standing r g (omega arith) (omega arith) ∙ code_is r g hr hg
