-- Demand 2 holds. The numbers of states and guards: from their laws. The table: from the entries' words and the lines'
-- laws, and over values by the numbers of states. The machines: from the step that decides the rules, and over values
-- since a state's number stands for its values.
use Rattle.machine.specs.Monitor as machine
use Prim.Native.Nat.{ℕ, suc, ◌≤◌, ◌<◌}
use native.Mathlib.Omega.{arith}
use mathlib.Core.Path.{◌≡◌, refl, sym, ap, ap₂, subst, ◌∙◌}
use mathlib.Core.Bool.{Bool, true, false}
use mathlib.Core.Logic.Iff
use mathlib.Core.Logic.{◌↔◌}
use mathlib.Core.Option.{some-injective}
use mathlib.Core.List.{List, ◌∷◌, Memᴰ}
use lib.ListN.{length, length-append}
use Rattle.syntax.specs.Tree.{Monitor, Var}
use Rattle.syntax.proofs.Grammar.{one_cond}
use Rattle.machine.specs.Monitor.{Threads, Frame, Config, stopped, all_idle}
use Rattle.machine.specs.Algorithm1.{entry, Holds, Fails, Triple, Stands, Signals, MayRun}
use Rattle.machine.specs.Decide.Table.{entry_of}
use Rattle.machine.specs.Rules.{Notices, Stops, PlainNoticesBy, TableNoticesBy}
use Rattle.machine.specs.Limits.{most_lines}
use Rattle.machine.proofs.RulesDecided.{refuses_number, Decides, plain_decides, table_decides}
use Rattle.machine.proofs.Entries.{entry_stands, entry_unconditional, entry_signal}
use Rattle.logic.proofs.Bools.{tests_equal, is_false, different}
use Rattle.machine.specs.Agreement.{Checked}
use Rattle.machine.proofs.Reached.{Reached, start_reached, rules_reached}
use Rattle.machine.proofs.Views.{Views, rules_viewed, stops_viewed}
use Rattle.meaning.specs.State.{state_at, number_of}
use Rattle.meaning.specs.Answer.{accepted}
use Rattle.meaning.specs.Decide.Check.{check}
use Rattle.meaning.specs.Model.{vars, kept, model, number_after, region, holds, after}
use Rattle.meaning.specs.Calls.{Machine, plain_machine, table_machine, Startable, notices_of}
use Rattle.meaning.specs.Decide.Calls.{told_by, run_list}
use Rattle.meaning.specs.Accepted.{Keeps, Meets, Sound, GoodRanges, Accepted}
use Rattle.meaning.specs.Runs.{State, BlockRuns}
use Rattle.meaning.specs.Held.{Offset, Biased}
use Rattle.meaning.specs.SixteenBits.{wrapped, unlimited, weight_in, number_in}
use Rattle.meaning.proofs.SixteenBits.{Weighing, Standing, weight_is, below, sum_so_far, share_kept, number_kept}
use Rattle.meaning.proofs.SixteenBits.{held_up, product_is, product_kept, value_is, wrapped_keeps, unlimited_keeps}
use Rattle.meaning.proofs.StateLaws.{state_at_lem, number_below, state_at_number, number_of_state_at, earlier_iff}
use Rattle.meaning.proofs.ModelLaws.{kept_below, keeps, outside, leaves, follows_below, region_numbered, holds_guard}
use Rattle.meaning.proofs.ModelLaws.{startable_iff, holds_region, holds_below, guard_below, each_guard}
use Rattle.meaning.proofs.ModelLaws.{guard_of_region, one_guard_iff, first_appearance}
use Rattle.meaning.specs.Table.{Row, Small}
use Rattle.meaning.proofs.TableLines.{rows_of, table_lines, row_stands, rows_increasing, rows_decoded, rows_few}
use Rattle.meaning.proofs.Verdicts.{accepted_iff, refused_iff}
use Rattle.meaning.specs.Decide.Choice.{in_set, chosen_tries}
use Rattle.meaning.proofs.Choosing.{chosen_largest, one_largest, fates, chosen_members, chosen_small, kept_iff}
use Rattle.meaning.proofs.Choosing.{no_tries, none_chosen}
use Rattle.meaning.proofs.Remainders.{modulo_iff, one_remainder, modulo_none}
use Rattle.meaning.proofs.Lacking.{lacks_iff}
use Rattle.meaning.proofs.Unvalued.{keep_valued, try_valued, guard_valued, missing_iff}
use Rattle.meaning.proofs.Faults.{not_keeps_iff}
use Rattle.meaning.proofs.Sizes.{sizes}
use Rattle.meaning.specs.Touch.{Touched}
use Rattle.meaning.specs.Decide.Touch.{touched}
use Rattle.meaning.proofs.Touching.{touched_iff, leaves_guard, no_entry, pairs}
use lib.IntN.{ℤ}
use Rattle.meaning.proofs.BodyLaws.{outcome_of_runs, block_runs_state}
use Rattle.demands.specs.Demand2.{IsEntry, IsTable, FollowsRules, Demand2, Moves, truth_of, Makes, ByValues}
use Rattle.demands.specs.Demand2.{valued, notices_by_values, FollowsByValues, StatesNumbered, NumberHeld}
use Rattle.demands.specs.Demand2.{StatesHeld, GuardsNumbered, Untouched}

states_numbered : {vs : List Var} → GoodRanges vs → StatesNumbered vs
states_numbered {vs} g =
    record {
      below = λ as' s. number_below g s;
      state = state_at_lem g;
      number_back = number_of_state_at vs;
      state_back = λ as' s. state_at_number g s;
      rising = λ as' bs s t. earlier_iff g s t;
    }

-- by laws over what keeps all that is below 65,536, as sixteen bits do and no limit does
module _ {vs : List Var} {lows highs weights : List ℕ} (w : Weighing vs lows highs weights) where
  standing : {as' : List ℤ} {values : List ℕ} → State vs as' → Biased vs as' values → Standing vs as' values
  standing s b = record { state = s; biased = b }

  number_is : {as' : List ℤ} {values : List ℕ} → Standing vs as' values
      → number_in wrapped lows weights values (length vs) ≡ number_of vs as'
  number_is s = number_kept w s wrapped wrapped_keeps

  number_held : {as' : List ℤ} {values : List ℕ} → Standing vs as' values → NumberHeld vs lows weights as' values
  number_held s =
      record {
        number = number_is s;
        below = rw (number_is s) (below w s);
        products = λ k l. share_kept w s wrapped wrapped_keeps k l ∙ sym (share_kept w s unlimited unlimited_keeps k l);
        sums = λ k l.
            omega (arith, sum_so_far w s wrapped wrapped_keeps k l, sum_so_far w s unlimited unlimited_keeps k l);
      }

  states_held : StatesHeld vs lows highs weights
  unfolding Offset
  states_held =
      record {
        counted = product_is w.ranges w.good w.few wrapped wrapped_keeps;
        products = product_kept w.ranges w.good w.few wrapped wrapped_keeps;
        weight = w.weigh;
        held = λ as' xs s b. number_held (standing s b);
        rising = λ as' bs xs ys s t b c.
            rw (number_is (standing s b), number_is (standing t c)) (earlier_iff w.good s t);
        value = λ n k h l.
            rw (value_is w n h wrapped wrapped_keeps k l) (held_up w.ranges w.good n h k l).is;
        value_sums = λ n k h l.
            value_is w n h wrapped wrapped_keeps k l ∙ sym (value_is w n h unlimited unlimited_keeps k l);
      }

guards_numbered : (m : Monitor) → GuardsNumbered m
guards_numbered m =
    record {
      below = guard_below m;
      each = each_guard m;
      stands_for = λ r h. guard_of_region m one_cond r;
      one = one_guard_iff m;
      first = first_appearance m;
    }

-- What an accepted file's monitor, freed from its syntax, is known for
pub checked : (file : List ℕ) (m : Monitor) → check file ≡ accepted m → Checked (model m)
unfolding model
checked file m e =
    record {
      below = kept_below m;
      keeps = keeps m one_cond ((accepted_iff file m).0 e).sound;
      outside = outside m one_cond;
      leaves = leaves m;
      onward = follows_below m;
    }

-- Booleans that are false together
same_false : (a b : Bool) → (a ≡ false → b ≡ false) → (b ≡ false → a ≡ false) → a ≡ b
same_false true true f g = refl
same_false true false f g = g refl
same_false false b f g = sym (f refl)

row_algorithm : (m : machine.Monitor) → Checked m → (w : Row)
    → ((w.region < m.regions) × (w.guard < m.guards)
    × (entry_of m w.region w.guard ≡ entry w.unconditional w.broadcast))
    ↔ IsEntry m w
row_algorithm m ok w = (
  λ h. record {
    region = h.0;
    guard = h.1;
    stands = (entry_stands m ok.below w.region w.guard).0 (w.unconditional, w.broadcast, h.2);
    unconditional = entry_unconditional m ok.below w.region w.guard w.unconditional w.broadcast h.2;
    signal = entry_signal m ok.below w.region w.guard w.unconditional w.broadcast h.2;
  },
  λ h.
      let r = w.region in
      let g = w.guard in
      let (a, b, e) = (entry_stands m ok.below r g).1 h.stands in
      let u = entry_unconditional m ok.below r g a b e in
      let s = entry_signal m ok.below r g a b e in
      let p : a ≡ w.unconditional = tests_equal a w.unconditional (λ x. h.unconditional.1 (u.0 x))
      (λ x. u.1 (h.unconditional.0 x)) in
      let q : b ≡ w.broadcast = same_false b w.broadcast (λ x. h.signal.1 (s.0 x)) (λ x. s.1 (h.signal.0 x))
      in
      (h.region, h.guard, cc),
)

rows_small : (file : List ℕ) (m : Monitor) → check file ≡ accepted m → (w : Row) → Memᴰ w (rows_of (model m))
    → Small w
unfolding Small model
rows_small file m e w h =
    let n = sizes ((accepted_iff file m).0 e) in
    let s = (row_stands (model m) w).0 h in
    (omega arith, omega arith)

rows_few_of : {file : List ℕ} {m : Monitor} → Accepted file m → length (rows_of (model m)) ≤ most_lines
unfolding model
rows_few_of {m = m} a =
    let n = sizes a in
    rows_few (model m) (kept_below m) (guard_below m) n.regions n.guards

pub is_table : (file : List ℕ) (m : Monitor) → check file ≡ accepted m → IsTable (model m) (rows_of (model m))
is_table file m e =
    record {
      lines = table_lines (model m);
      exactly = λ w.
          let s = row_stands (model m) w in
          let a = row_algorithm (model m) (checked file m e) w in
          (λ h. a.0 (s.0 h), λ h. s.1 (a.1 h));
      order = rows_increasing (model m);
      few = rows_few_of ((accepted_iff file m).0 e);
      only = λ ws h t. rows_decoded ws (rows_of (model m)) h (rows_small file m e) (sym t ∙ table_lines (model m));
    }

decided : (m : Monitor) (w : Machine) → Decides (model m) (told_by (model m) w) (notices_of m w)
unfolding told_by notices_of
decided m plain_machine = plain_decides (model m)
decided m table_machine = table_decides (model m) (entry_of (model m))

-- for every tree, also one that is not accepted
pub follows_rules : (m : Monitor) (w : Machine) → FollowsRules m w
unfolding run_list
follows_rules m w =
    record { accepts = λ s. (decided m w).accepts 0 (all_idle s); stops = λ s. (decided m w).stops 0 (all_idle s) }

-- a frame of the list is refused, with 13 or 14
pub record StopsWithin (fs : List Frame) (a k : ℕ) : Type 0 where
  pub low : 13 ≤ a
  pub high : a ≤ 14
  pub frame : k < length fs

pub stops_within : {m : machine.Monitor} {n : Notices} {c : Config} {fs : List Frame} {a k : ℕ} → Stops m n 0 c fs a k
    → StopsWithin fs a k
stops_within t =
    let n = refuses_number t.refuse in
    let l = length-append t.front (t.frame ∷ t.more) in
    let p = t.place in
    record { low = n.0; high = n.1; frame = rw t.splits (omega arith) }

pub run_stops : (m : Monitor) (w : Machine) (s : ℕ) (fs : List Frame) (a k : ℕ) → run_list m w s fs ≡ stopped a k
    → StopsWithin fs a k
run_stops m w s fs a k h = stops_within (((follows_rules m w).stops s fs a k).0 h)

-- a run from a kept state ends in one, with each waiting or due thread at a region of the file
pub run_reached : (m : Monitor) → Checked (model m) → (s : ℕ) → kept m s ≡ true
    → (fs : List Frame) (w : Machine) (c : Config)
    → run_list m w s fs ≡ machine.accepted c → Reached (model m) c
unfolding model
run_reached m ok s k fs w c h =
    rules_reached (model m) ok (notices_of m w) (((follows_rules m w).accepts s fs c).0 h) (start_reached (model m) s k)

-- a run from a state that counts ends in one, in which each value is in its range
pub runs_keep : (file : List ℕ) (m : Monitor) → check file ≡ accepted m → (s : ℕ) → Startable m s
    → (fs : List Frame) (w : Machine) (c : Config)
    → run_list m w s fs ≡ machine.accepted c → Startable m c.state × State (vars m) (state_at (vars m) c.state)
unfolding model
runs_keep file m e s k fs w c h =
    let t =
    (startable_iff m c.state).0 (run_reached m (checked file m e) s ((startable_iff m s).1 k) fs w c h).is_kept in
    (t, state_at_lem ((accepted_iff file m).0 e).sound.ranges c.state t.below)

-- The table by values

module _ (m : Monitor) where
  module _ (ok : Sound m) where
    -- a body that may run from a state by its number runs by values, to the values of the state after it
    pub to_values : (r s : ℕ) → MayRun (model m) r s
        → (bs : List ℤ) × Moves m (region m r) (state_at (vars m) s) bs × (state_at (vars m) (after m r s) ≡ bs)
    unfolding model Holds Keeps after number_after
    to_values r s h =
        let k = (startable_iff m s).0 h.is_kept in
        let low = holds_region m one_cond r s h.guard in
        let meets : Meets m (region m r) (state_at (vars m) s) =
        record {
          state = state_at_lem ok.ranges s k.below;
          kept = k.keeps;
          guard = sym (holds_guard m one_cond r s) ∙ h.guard;
        } in
        let t = ok.keeps r (region m r) (state_at (vars m) s) (region_numbered m r low) meets in (
          t.0,
          record { meets = meets; runs = t.1 },
          rw (outcome_of_runs (region m r) t.1)
              (state_at_number ok.ranges (block_runs_state t.1 meets.state)),
        )

    -- and a body that runs by values may run from its state's number, and leads to the number of the values after it
    pub from_values : (r : ℕ) (as' bs : List ℤ) → Moves m (region m r) as' bs
        → (s : ℕ) × MayRun (model m) r s × (state_at (vars m) s ≡ as') × (state_at (vars m) (after m r s) ≡ bs)
    unfolding model Holds after number_after
    from_values r as' bs h =
        let q = h.meets in
        let s = number_of (vars m) as' in
        let e : state_at (vars m) s ≡ as' = state_at_number ok.ranges q.state in (
          s,
          record {
            is_kept =
                (startable_iff m s).1 (record { below = number_below ok.ranges q.state; keeps = rw e q.kept });
            guard = holds_guard m one_cond r s ∙ rw e q.guard;
          },
          e,
          rw (e, outcome_of_runs (region m r) h.runs)
              (state_at_number ok.ranges (block_runs_state h.runs q.state)),
        )

    stands_iff : (r g : ℕ)
        → Stands (model m) r g
        ↔ ((as' bs : List ℤ) × Moves m (region m r) as' bs × (truth_of m g as' ≡ false) × (truth_of m g bs ≡ true))
    unfolding Holds Fails model holds truth_of
    stands_iff r g = (
      λ h. let t = to_values r h.from h.may_run in
          (state_at (vars m) h.from, t.0, t.1, h.before, rw t.2 at h.after),
      λ h. let t = from_values r h.0 h.1 h.2 in
          record { from = t.0; may_run = t.1; before = rw t.2 h.3; after = rw t.3 h.4 },
    )

    makes_iff : (r g : ℕ) (p q : Bool) → Triple (model m) r (λ s. holds m g s ≡ p) (λ s. holds m g s ≡ q)
        ↔ Makes m r g p q
    unfolding Triple model holds truth_of Makes
    makes_iff r g p q = (
      λ h as' bs v a. let t = from_values r as' bs v in rw t.3 at (h t.0 t.1 (rw t.2 a)),
      λ h s v a. let t = to_values r s v in rw t.2 (h (state_at (vars m) s) t.0 t.1 a),
    )

    by_values : (w : Row) → IsEntry (model m) w ↔ ByValues m w
    unfolding Signals Holds Fails model
    by_values w =
        let r = w.region in
        let g = w.guard in
        let u = makes_iff r g false true in (
          λ h. record {
            has_region = h.region;
            has_guard = h.guard;
            stands = (stands_iff r g).0 h.stands;
            unconditional = Iff.trans h.unconditional u;
            signal = Iff.trans h.signal (
              λ x k l e. (makes_iff k g true false).0 (x k l e),
              λ x k l e. (makes_iff k g true false).1 (x k l e),
            );
          },
          λ h. record {
            region = h.has_region;
            guard = h.has_guard;
            stands = (stands_iff r g).1 h.stands;
            unconditional = Iff.trans h.unconditional (u.1, u.0);
            signal = Iff.trans h.signal (
              λ x k l e. (makes_iff k g true false).1 (x k l e),
              λ x k l e. (makes_iff k g true false).0 (x k l e),
            );
          },
        )

  -- what the file's text rules out
  untouched_pair : GoodRanges (vars m) → (r g : ℕ) → (Touched m r g → ⊥) → Untouched m r g
  unfolding truth_of model
  untouched_pair good r g h =
      let free : touched m r g ≡ false = is_false (λ t. h ((touched_iff m r g).0 t)) in
      record {
        as_it_was = leaves_guard m r g free;
        no_entry = λ w p q e.
            let t = (entry_stands (model m) (kept_below m) w.region w.guard).1 e.stands in
            different (cc (t.2, ap₂ (entry_of (model m)) p q, no_entry m good r g free));
      }

-- The machines by values

module _ (file : List ℕ) (m : Monitor) (e : check file ≡ accepted m) where
  ok : Sound m
  ok = ((accepted_iff file m).0 e).sound

  -- an entry of the table, by values
  entry_by_values : (r g : ℕ) (a b : Bool)
      → (entry_of (model m) r g ≡ entry a b)
      ↔ ByValues m (record { region = r; guard = g; unconditional = a; broadcast = b })
  unfolding model Holds
  entry_by_values r g a b =
      let w : Row = record { region = r; guard = g; unconditional = a; broadcast = b } in
      let rows = row_algorithm (model m) (checked file m e) w in (
        λ h.
            let t = (entry_stands (model m) (kept_below m) r g).0 (a, b, h) in
            (by_values m ok w).0 (rows.0 (
              holds_region m one_cond r t.from t.may_run.guard,
              holds_below m g (after m r t.from) t.after,
              h,
            )),
        λ h. (rows.1 ((by_values m ok w).1 h)).2,
      )

  -- whom a body notifies is the same
  same_notices : (w : Machine) (s : ℕ) (p : Threads) (r u : ℕ)
      → notices_by_values m w (state_at (vars m) s) p r u ↔ notices_of m w s p r u
  unfolding notices_by_values notices_of PlainNoticesBy TableNoticesBy model holds truth_of
  same_notices plain_machine s p r u = Iff.rfl
  same_notices table_machine s p r u = (
    λ (g, w, a, b, h, k, l). (g, w, a, b, (entry_by_values r g a b).1 h, k, l),
    λ (g, w, a, b, h, k, l). (g, w, a, b, (entry_by_values r g a b).0 h, k, l),
  )

  -- a state's number stands for its values
  values_viewed : (w : Machine) → Views (model m) (valued m) (state_at (vars m)) (notices_of m w) (notices_by_values m w)
  unfolding model holds truth_of
  values_viewed w = record {
    same_truth = λ g s. refl;
    same_runs = λ r s h bs.
        let t = to_values m ok r s h in (
          λ b.
              let x = outcome_of_runs (region m r) b in
              let y = outcome_of_runs (region m r) t.1.runs in
              some-injective _ _ (sym x ∙ y) ∙ sym t.2,
          λ q. subst (BlockRuns (vars m) (region m r).body (state_at (vars m) s)) (sym (q ∙ t.2)) t.1.runs,
        );
    same_notices = same_notices w;
  }

  -- the machines follow the rules by values, as those by numbers
  pub follows_by_values : (w : Machine) (s : ℕ) → Startable m s → FollowsByValues m w s
  unfolding all_idle model
  follows_by_values w s k =
      let rules = follows_rules m w in
      let from = start_reached (model m) s ((startable_iff m s).1 k) in
      let v = values_viewed w in
      record {
        accepts = λ fs d. Iff.trans (
          λ t. (t.0, (rules.accepts s fs t.0).0 t.1, t.2),
          λ t. (t.0, (rules.accepts s fs t.0).1 t.1, t.2),
        ) (rules_viewed (model m) (checked file m e) v from fs d);
        stops = λ fs a j. Iff.trans (rules.stops s fs a j) (stops_viewed (model m) (checked file m e) v from 0 fs a j);
      }

pub demand_2 : Demand2
demand_2 = record {
  accepts = accepted_iff;
  refuses = refused_iff;
  remainders = record { value = modulo_iff; only = one_remainder; missing = modulo_none };
  both_sides = λ c vs as'. lacks_iff vs as' c;
  have_values = λ m h. record {
    keep = λ as' s. keep_valued m h s;
    tries = λ i c e as' s. try_valued m h s i c e;
    guards = λ k r e as' s. guard_valued m h s k r e;
  };
  divisors = λ m good. missing_iff good;
  faults = not_keeps_iff;
  choice = λ m good. record {
    largest = chosen_largest m good;
    only = λ X p i. one_largest m X (in_set (chosen_tries m)) p (chosen_largest m good) i;
    fates = fates m good;
    bits = chosen_members m;
    small = chosen_small m;
    kept = kept_iff m;
  };
  no_tries = λ m e. record { kept = no_tries m e; bits = none_chosen m e };
  state_numbers = λ file m e. states_numbered ((accepted_iff file m).0 e).sound.ranges;
  numbers_held = λ file m e lows highs weights r h.
      let s = ((accepted_iff file m).0 e).sound in
      states_held
      (record {
        ranges = r;
        good = s.ranges;
        few = s.few;
        weigh = λ k l.
            h k l ∙ ap (λ (x : ℕ). weight_in lows highs x (suc k))
            (product_is r s.ranges s.few wrapped wrapped_keeps) ∙ weight_is r s.ranges (suc k) (omega arith);
      });
  guard_numbers = guards_numbered;
  table = λ file m e. (rows_of (model m), is_table file m e);
  entries = λ file m e. by_values m ((accepted_iff file m).0 e).sound;
  untouched = untouched_pair;
  pairs = pairs;
  machines = follows_rules;
  machines_by_values = follows_by_values;
}
