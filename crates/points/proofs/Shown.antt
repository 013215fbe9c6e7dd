-- What the code writes of a point as it holds it is the point of the list.
use Prim.Native.Nat.{ℕ, zero, suc, ◌+◌, ◌-◌, ◌%◌, ◌/◌, ◌^◌, ◌<◌}
use native.Mathlib.Omega.{arith}
use native.Mathlib.Nat.{mod-eq_of_lt, zero-add}
use mathlib.Core.Path.{◌≡◌, refl, sym, ap, ap₂, ◌∙◌}
use mathlib.Core.Bool.{Bool, true, false, not, ◌&&◌, and-true, and-false}
use mathlib.Core.List.{List, [], ◌∷◌, ◌++◌}
use lib.ListN.{length, get_or, take, get_or-eq_default}
use lib.IntN.{ℤ, pos, ◌+ℤ◌, nat_abs}
use lib.Dec.{ltb}
use lib.Bits.{bit_or, or_zero_l, or_zero_r, or_shifted_r}
use borrow.Author.Tests.{ltb-true, ltb-false}
use Rattle.logic.proofs.Bools.{split}
use Rattle.sets.specs.Set.{member}
use Rattle.syntax.specs.Limits.{most_vars}
use Rattle.syntax.specs.Tree.{Monitor, Var}
use Rattle.machine.specs.Monitor.{Place, idle, waiting, due, Threads, SameThreads, Config, Frame, Run}
use Rattle.machine.specs.Monitor.{threads, turn}
use Rattle.machine.proofs.Order.{same_turn}
use Rattle.machine.specs.Monitor as machine
use Rattle.machine.proofs.Reached.{PlaceWithin}
use Rattle.meaning.specs.Held.{Biased}
use Rattle.meaning.specs.Model.{vars, guards, model, holds}
use Rattle.meaning.specs.State.{state_at}
use Rattle.meaning.specs.Bits.{each_from}
use Rattle.meaning.specs.Decide.Table.{for_each}
use Rattle.meaning.specs.Lines.{place_byte}
use Rattle.meaning.specs.Points.{value_bytes, place_bytes, turn_bytes, set_bytes, shared_bytes, notice_bytes, notices_at}
use Rattle.meaning.specs.Points.{plain_part, table_part, turn_part, point_at}
use Rattle.meaning.proofs.ModelLaws.{holds_below}
use Rattle.digits.proofs.ForEach.{for_each_same}
use Rattle.lines.proofs.Writing.{offset_abs}
use Rattle.threads.specs.Held.{places_of, turns_of, threads_of, Turned}
use Rattle.stepper.specs.Shown.{of_machine, notices_in}
use Rattle.threads.specs.declared.Threads as held
use Rattle.stepper.specs.declared.Run as code
use Rattle.run.specs.Results.{machine_of}
use Rattle.run.specs.Way.{stop_number, run_of, At, TableAt, goes_on, has_stopped}
use Rattle.run.specs.declared.frames.Going.{Going}
use Rattle.run.proofs.Records.{set_shown, list_run}
use Rattle.variables.specs.declared.Bounds.{Bounds}
use Rattle.point.specs.Held.{region_part, due_part, idle_part, held_byte, held_set, held_value, held_each}
use Rattle.point.specs.Held.{held_shared, held_notices, held_table, held_point}
use Rattle.points.specs.Written.{PointStands}

-- ---- each part

each_byte : (n k : ℕ) (f : ℕ → ℕ) → for_each n k (λ j. f j ∷ []) ≡ each_from n k f
unfolding for_each each_from
each_byte zero k f = refl
each_byte (suc n) k f = ap (λ (l : List ℕ). f k ∷ l) (each_byte n (k + 1) f)

value_is : (vs : List Var) (as' : List ℤ) (values : List ℕ) → Biased vs as' values → (j : ℕ) → j < most_vars
    → get_or values j 0 % 256 ≡ nat_abs (get_or as' j (pos 0) +ℤ pos 128)
value_is vs as' values b j h =
    let small = b.small j in
    mod-eq_of_lt (omega arith)
    ∙ split (ltb j (length vs))
    (λ l. sym (offset_abs (get_or as' j (pos 0)) (get_or values j 0) (b.held j (ltb-true j (length vs) l))))
    (λ l.
    let high = ltb-false j (length vs) l in
    let n = b.each_value in
    b.unused j h high
    ∙ sym (ap (λ (a : ℤ). nat_abs (a +ℤ pos 128)) (get_or-eq_default as' (pos 0) (omega arith))))

values_are : (vs : List Var) (as' : List ℤ) (values : List ℕ) → Biased vs as' values
    → for_each most_vars 0 (held_value values) ≡ value_bytes as'
unfolding held_value value_bytes
values_are vs as' values b =
    for_each_same most_vars 0 (held_value values) (λ k. nat_abs (get_or as' k (pos 0) +ℤ pos 128) ∷ [])
    (λ j h. ap (λ (n : ℕ). n ∷ []) (value_is vs as' values b j (omega arith)))
    ∙ each_byte most_vars 0 (λ k. nat_abs (get_or as' k (pos 0) +ℤ pos 128))

pub byte_is : (p : Place) → ((r : ℕ) → p ≡ due r → r < 16) → held_byte p ≡ place_byte p
unfolding held_byte region_part due_part idle_part place_byte
byte_is idle h = ap (λ (x : ℕ). bit_or x 255) (or_zero_l 0) ∙ or_zero_l 255
byte_is (waiting r) h = or_zero_r (bit_or r 0) ∙ or_zero_r r
byte_is (due r) h =
    let e : bit_or r 16 ≡ 16 + r = or_shifted_r 1 4 r (h r refl) in or_zero_r (bit_or r 16) ∙ e ∙ omega arith

places_are : (ts : held.Threads) (p : Threads) (bytes : List ℕ) → SameThreads (threads_of ts) p
    → ((t r : ℕ) → p.place t ≡ due r → r < 16)
    → ((t : ℕ) → t < 16 → get_or bytes t 0 ≡ held_byte (places_of ts.each t))
    → for_each 16 0 (held_each bytes) ≡ place_bytes p
unfolding held_each place_bytes threads
places_are ts p bytes same low each =
    for_each_same 16 0 (held_each bytes) (λ t. place_byte (p.place t) ∷ [])
    (λ j h.
    let l : j < 16 = omega arith in
    ap (λ (n : ℕ). n ∷ []) (each j l ∙ ap held_byte (same.same_place j l) ∙ byte_is (p.place j) (low j)))
    ∙ each_byte 16 0 (λ t. place_byte (p.place t))

turns_are : (ts : held.Threads) (p : Threads) (turns : List ℕ) → SameThreads (threads_of ts) p → Turned ts
    → ((t : ℕ) → t < 16 → get_or turns t 0 ≡ turns_of ts.each t) → for_each 16 0 (held_each turns) ≡ turn_bytes p
unfolding held_each turn_bytes threads
turns_are ts p turns same turned each =
    for_each_same 16 0 (held_each turns) (λ t. turn p t ∷ [])
    (λ j h.
    let l : j < 16 = omega arith in
    ap (λ (n : ℕ). n ∷ []) (each j l ∙ turned.turns j l ∙ same_turn same j l))
    ∙ each_byte 16 0 (turn p)

set_is : (n : ℕ) (f : ℕ → Bool) → n < 2 ^ 16 → ((u : ℕ) → u < 16 → member n u ≡ f u) → held_set n ≡ set_bytes f
unfolding held_set set_bytes threads
set_is n f h e =
    ap (λ (x : ℕ). x % 256 ∷ x / 256 ∷ []) (set_shown 16 0 n f h (λ u l. e u l ∙ ap f (sym (zero-add u)))).0

-- a machine's notices at a point
pub at_notices : {m : machine.Monitor} {w : Bool} {s : ℕ} {fs : List Frame} {r : code.Run} {k : ℕ} → At m w s fs r k
    → (u : ℕ) → u < 16 → member (notices_in w r) u ≡ notices_at (run_of m w s (take k fs)) u
unfolding notices_at
at_notices x u h = x.shows.notices u h ∙ rw (x.taken, notices_at) refl

-- what is told is what is there and was not there before
told_is : (told now before : ℕ) (n b : ℕ → Bool) → ((u : ℕ) → member told u ≡ member now u && not (member before u))
    → ((u : ℕ) → u < 16 → member now u ≡ n u) → ((u : ℕ) → u < 16 → member before u ≡ b u)
    → (u : ℕ) → u < 16 → member told u ≡ n u && not (b u)
told_is told now before n b e p q u h = e u ∙ ap₂ (λ (x y : Bool). x && not y) (p u h) (q u h)

-- ---- the point

module _ {m : Monitor} {s : ℕ} {fs : List Frame} {k : ℕ} {bounds : Bounds} {count : ℕ} {hs : List ℕ} {g : Going}
    {before table_before : ℕ} (x : PointStands m s fs k bounds count hs g before table_before) where
  abbrev here : Config
  here = x.way.plain.point

  same_state : g.run.state ≡ here.state
  same_state = x.way.plain.shows.state

  pub state_below : g.run.state < (model m).states
  state_below =
      let e = same_state in
      let l = x.held.kept_below here.state x.way.plain.reached.is_kept in
      omega arith

  guards_are : (holding : ℕ)
      → ((u : ℕ) → u < 16 → member holding u ≡ member (get_or hs (g.run.state % 4096) 0) u && ltb u count)
      → (u : ℕ) → u < 16 → member holding u ≡ holds m u here.state
  unfolding model
  guards_are holding e u h =
      let few = x.held.few_states in
      let below = state_below in
      let low : g.run.state % 4096 ≡ g.run.state = mod-eq_of_lt (omega arith) in
      e u h
      ∙ split (ltb u (length (guards m)))
      (λ l.
      ap₂ (λ (a : ℕ) (b : Bool). member (get_or hs a 0) u && b) low (ap (ltb u) x.guard_count ∙ l)
      ∙ and-true (member (get_or hs g.run.state 0) u)
      ∙ x.held.by_holds u g.run.state (ltb-true u (length (guards m)) l) below ∙ ap (holds m u) same_state)
      (λ l.
      ap (λ (b : Bool). member (get_or hs (g.run.state % 4096) 0) u && b) (ap (ltb u) x.guard_count ∙ l)
      ∙ and-false (member (get_or hs (g.run.state % 4096) 0) u)
      ∙ sym
      (split (holds m u here.state)
      (λ q. let b = holds_below m u here.state q in let z = ltb-false u (length (guards m)) l in absurd (omega arith))
      (λ q. q)))

  due_below : (t r : ℕ) → here.threads.place t ≡ due r → r < 16
  unfolding PlaceWithin
  due_below t r e =
      let l = (x.way.plain.reached.within t).1 r e in
      let few = x.held.few_regions in
      omega arith

  module _ (values bytes turns : List ℕ) (holding told : ℕ)
      (valued : Biased (vars m) (state_at (vars m) g.run.state) values)
      (placed : (t : ℕ) → t < 16 → get_or bytes t 0 ≡ held_byte (places_of g.run.threads.each t))
      (turned : (t : ℕ) → t < 16 → get_or turns t 0 ≡ turns_of g.run.threads.each t)
      (held_small : holding < 2 ^ 16)
      (held_are : (u : ℕ) → u < 16 → member holding u ≡ member (get_or hs (g.run.state % 4096) 0) u && ltb u count)
      (plain_small : g.run.plain < 2 ^ 16) (told_small : told < 2 ^ 16)
      (told_are : (u : ℕ) → member told u ≡ member g.run.plain u && not (member before u)) where
    shared_is : held_shared values bytes holding ≡ shared_bytes m here
    unfolding held_shared shared_bytes
    shared_is =
        ap₂ (λ (a b : List ℕ). a ++ b)
        (values_are (vars m) (state_at (vars m) g.run.state) values valued
        ∙ ap (λ (n : ℕ). value_bytes (state_at (vars m) n)) same_state)
        (ap₂ (λ (a b : List ℕ). a ++ b)
        (places_are g.run.threads here.threads bytes x.way.plain.shows.threads due_below placed)
        (set_is holding (λ u. holds m u here.state) held_small (guards_are holding held_are)))

    plain_is : held_shared values bytes holding ++ held_notices g.run.plain told
        ≡ plain_part m (run_of (model m) false s (take (k - 1) fs)) (run_of (model m) false s (take k fs))
    unfolding held_notices notice_bytes plain_part of_machine
    plain_is =
        let b = notices_at (run_of (model m) false s (take (k - 1) fs)) in
        ap₂ (λ (p q : List ℕ). p ++ q) shared_is
        (ap₂ (λ (p q : List ℕ). p ++ q)
        (set_is g.run.plain here.notified plain_small x.way.plain.shows.notices)
        (set_is told (λ u. here.notified u && not (b u)) told_small
        (told_is told g.run.plain before here.notified b told_are x.way.plain.shows.notices
        x.plain_before)))
        ∙ sym (ap (plain_part m (run_of (model m) false s (take (k - 1) fs))) x.way.plain.taken)

    turns_last : for_each 16 0 (held_each turns) ≡ turn_part (run_of (model m) false s (take k fs))
    unfolding turn_part
    turns_last =
        turns_are g.run.threads here.threads turns x.way.plain.shows.threads x.way.plain.shows.turns turned
        ∙ sym (ap turn_part x.way.plain.taken)

    joined : (there table woken : ℕ)
        → held_table there table woken
        ≡ table_part (run_of (model m) true s (take (k - 1) fs)) (run_of (model m) true s (take k fs))
        → held_point values bytes holding g.run.plain told there table woken turns ≡ point_at m s fs k
    unfolding held_point point_at machine_of
    joined there table woken e =
        ap₂ (λ (p q : List ℕ). p ++ q)
        (plain_is
        ∙ ap₂ (λ (p q : Run). plain_part m p q) (sym (list_run m false s (take (k - 1) fs)))
        (sym (list_run m false s (take k fs))))
        (ap₂ (λ (p q : List ℕ). p ++ q)
        (e
        ∙ ap₂ (λ (p q : Run). table_part p q) (sym (list_run m true s (take (k - 1) fs)))
        (sym (list_run m true s (take k fs))))
        (turns_last ∙ ap turn_part (sym (list_run m false s (take k fs)))))

    -- the table's machine has stopped
    pub point_absent : (stop_number g.lost ≡ 0 → ⊥)
        → held_point values bytes holding g.run.plain told 0 0 0 turns ≡ point_at m s fs k
    unfolding held_table held_notices held_set table_part
    point_absent other = joined 0 0 0 (go x.way.table)
      where
        go : TableAt (model m) s fs g.run g.lost k
            → 0 ∷ 0 ∷ 0 ∷ 0 ∷ 0 ∷ []
            ≡ table_part (run_of (model m) true s (take (k - 1) fs)) (run_of (model m) true s (take k fs))
        go (goes_on z i y) = absurd (other z)
        go (has_stopped n e) = sym (ap (table_part (run_of (model m) true s (take (k - 1) fs))) e)

    -- it is there
    pub point_there : stop_number g.lost ≡ 0 → (woken : ℕ) → g.run.table < 2 ^ 16 → woken < 2 ^ 16
        → ((u : ℕ) → member woken u ≡ member g.run.table u && not (member table_before u))
        → held_point values bytes holding g.run.plain told 1 g.run.table woken turns ≡ point_at m s fs k
    unfolding held_table held_notices notice_bytes table_part of_machine
    point_there zero_number woken table_small woken_small woken_are = joined 1 g.run.table woken (go x.way.table)
      where
        b : ℕ → Bool
        b = notices_at (run_of (model m) true s (take (k - 1) fs))

        go : TableAt (model m) s fs g.run g.lost k
            → 1 ∷ (held_set g.run.table ++ held_set woken)
            ≡ table_part (run_of (model m) true s (take (k - 1) fs)) (run_of (model m) true s (take k fs))
        go (has_stopped n e) = absurd (n zero_number)
        go (goes_on z i y) =
            ap₂ (λ (p q : List ℕ). 1 ∷ (p ++ q))
            (set_is g.run.table y.point.notified table_small y.shows.notices)
            (set_is woken (λ u. y.point.notified u && not (b u)) woken_small
            (told_is woken g.run.table table_before y.point.notified b woken_are y.shows.notices
            (x.table_before zero_number)))
            ∙ sym (ap (table_part (run_of (model m) true s (take (k - 1) fs))) y.taken)
