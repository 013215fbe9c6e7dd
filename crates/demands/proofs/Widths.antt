-- Every printed number fits its digits: places are below 65,536, values with 128 added below 256, regions below 16. And
-- how long what is printed can be.
use Prim.Native.Nat.{ℕ, zero, suc, ◌+◌, ◌*◌, ◌≤◌, ◌<◌}
use native.Mathlib.Omega.{arith}
use mathlib.Core.Path.{◌≡◌, refl, ap, ◌∙◌}
use mathlib.Core.Bool.{true, not}
use mathlib.Core.List.Memᴰ
use mathlib.Core.List.{List, [], ◌∷◌, ◌++◌}
use lib.ListN.{length, get_or, length-append}
use lib.IntN.{ℤ, pos, neg_ℤ, ◌+ℤ◌, nat_abs}
use Rattle.syntax.specs.Token.{Token}
use Rattle.syntax.proofs.Scanning.{tokenize_tokens, tokenize_none, none_place, token_stands}
use Rattle.syntax.specs.Tree.{plain, negated, Var, Monitor}
use Rattle.machine.specs.Monitor.{Place, idle, Config, threads}
use Rattle.machine.proofs.Reached.{PlaceWithin, Reached, idle_within}
use Rattle.meaning.specs.Value.{int_of, negative, less, in_range}
use Rattle.meaning.specs.State.{size, state_at}
use Rattle.meaning.specs.Answer.{Answer}
use Rattle.meaning.specs.Model.{no_region, vars, regions, model}
use Rattle.meaning.specs.Hex.{hex2}
use Rattle.meaning.specs.Decide.Table.{table_of}
use Rattle.meaning.specs.Calls.{Machine, record_of, Record, Running, ran, refused_file, not_run}
use Rattle.meaning.specs.Bits.{each_from}
use Rattle.meaning.specs.Lines.{hex4, refusal_line, value_digits, place_digits, record_line, run_line}
use Rattle.meaning.specs.Accepted.{FirstOffends, Crowded, PastLimit, Misnamed, AtMost, GoodRange, GoodRanges}
use Rattle.meaning.specs.Runs.{IsRegion}
use Rattle.meaning.specs.Accepted.{one_var}
use Rattle.meaning.specs.Runs.{State, no_values, one_value}
use Rattle.logic.proofs.Bools.{both, and, not_true, true_not}
use Rattle.meaning.proofs.TableLines.{rows_of, row_lines_length}
use Rattle.meaning.proofs.Each.{each_length}
use Rattle.meaning.proofs.Integers.{not_less_trans, distance_in_range}
use Rattle.meaning.specs.Refusal.{NoFile}
use Rattle.meaning.proofs.ModelLaws.{element_below}
use Rattle.meaning.specs.Trace.{lines_of}
use Rattle.meaning.proofs.Frames.{lines_seven}
use Rattle.meaning.specs.Accepted.{Accepted}
use Rattle.meaning.specs.Refusal.{Past2, Refusal, too_long, no_token, too_many, no_file, ends_early, is_past_limit}
use Rattle.meaning.specs.Refusal.{wrong_name, is_ill_ranged, unvalued, start_not_kept, broken, Unvalued}
use Rattle.meaning.proofs.Verdicts.{refusal_number, accepted_iff}
use Rattle.meaning.proofs.Sizes.{sizes_of, sizes}
use Rattle.meaning.proofs.ModelLaws.{startable_iff}
use Rattle.demands.specs.Demand1.{RunsAs, no_monitor, no_start, bad_line, frame_refused, all_allowed}
use Rattle.demands.proofs.Demand2.{checked, is_table, run_reached, runs_keep, stops_within, follows_rules}
use Rattle.demands.specs.Widths.{AnswerFits, RecordFits, RunFits}

-- The places of a file's refusal

module _ {file : List ℕ} {ts : List Token} (p : Past2 file ts) where
  token_place : (front back : List Token) (t : Token) (k : ℕ) → ts ≡ front ++ (t ∷ back) → t.at ≡ k → k < 65536
  token_place front back t k e at =
      let s = token_stands file ts t ((tokenize_tokens file ts).1 p.cut)
      (rw e (Memᴰ.append_right front (Memᴰ.head refl))) in
      let low = s.1 in
      let short = p.short in
      omega arith

  offends_place : (Offends : List Token → Token → Type 0) (k : ℕ) → FirstOffends Offends ts k → k < 65536
  unfolding FirstOffends
  offends_place Offends k (front, back, t, e, o, at, n) = token_place front back t k e at

pub refusal_places : {file : List ℕ} {a : Answer} → Refusal file a → (a.first < 65536) × (a.second < 65536)
unfolding IsRegion regions
refusal_places (too_long h) = (omega arith, omega arith)
refusal_places {file} (no_token {k = k} h s) = let p = (none_place file k ((tokenize_none file k).1 s)).0 in
    (omega arith, omega arith)
refusal_places (too_many {k = k} p f) = (offends_place p Crowded k f, omega arith)
refusal_places (no_file {k = k} p f) = (offends_place p.past NoFile k f, omega arith)
refusal_places (ends_early p v n) = let short = p.past.short in (omega arith, omega arith)
refusal_places (is_past_limit {k = k} p f) = (offends_place p.past.past PastLimit k f, omega arith)
refusal_places (wrong_name {k = k} p f) = (offends_place p.past.past.past Misnamed k f, omega arith)
refusal_places (is_ill_ranged p t s) =
    (token_place p.past.past.past.past s.front s.back s.token _ s.whole s.place, omega arith)
refusal_places (unvalued {m = m} {k = k} p f) = (offends_place p.past.past.past.past.past (Unvalued m) k f, omega arith)
refusal_places (start_not_kept p h s) =
    (token_place p.past.past.past.past.past.past s.front s.back s.token _ s.whole s.place, omega arith)
refusal_places (broken {ts = ts} {m = m} {k = k} p h b) =
    let q = p.past.past.past in
    let few = (sizes_of ts m q.past.grammar q.counts).regions in
    let low = (element_below (regions m) k b.region no_region b.numbered).0 in
    let state = b.below in
    let states = p.past.few in
    (omega arith, omega arith)

refusal_digits : {file : List ℕ} {a : Answer} → Refusal file a → a.number ≤ 15
refusal_digits (too_long h) = omega arith
refusal_digits (no_token h s) = omega arith
refusal_digits (too_many p f) = omega arith
refusal_digits (no_file p f) = omega arith
refusal_digits (ends_early p v n) = omega arith
refusal_digits (is_past_limit p f) = omega arith
refusal_digits (wrong_name p f) = omega arith
refusal_digits (is_ill_ranged p t s) = omega arith
refusal_digits (unvalued p f) = omega arith
refusal_digits (start_not_kept p f s) = omega arith
refusal_digits (broken p t b) = omega arith

-- the widest range
byte_range : Var
byte_range = record { title = []; start = plain 0; low = negated 128; high = plain 127 }

value_fits : {v : Var} → GoodRange v → (a : ℤ) → in_range v a ≡ true → nat_abs (a +ℤ pos 128) < 256
unfolding AtMost in_range size int_of less negative byte_range
value_fits {v} g a h =
    let t = both (not (less a (int_of v.low))) (not (less (int_of v.high) a)) h in
    let low = not_less_trans (neg_ℤ (pos 128)) (int_of v.low) a g.low_bound (not_true t.0) in
    let high = not_less_trans a (int_of v.high) (pos 127) (not_true t.1) g.high_bound in
    distance_in_range byte_range refl a (and (true_not low) (true_not high))

values_fit : {vs : List Var} {as' : List ℤ} → GoodRanges vs → State vs as'
    → (k : ℕ) → k < length as' → nat_abs (get_or as' k (pos 0) +ℤ pos 128) < 256
values_fit gs no_values k h = absurd (omega arith)
values_fit (one_var g gs) (one_value {a = a} r s) zero h = value_fits g a r
values_fit (one_var g gs) (one_value r s) (suc k) h = values_fit gs s k (omega arith)

state_length : {vs : List Var} {as' : List ℤ} → State vs as' → length as' ≡ length vs
state_length no_values = refl
state_length (one_value r s) = ap suc (state_length s)

each_has : (P : Place → Type 0) (n t : ℕ) (f : ℕ → Place) → P idle → ((u : ℕ) → P (f u)) → (k : ℕ)
    → P (get_or (each_from n t f) k idle)
unfolding each_from
each_has P zero t f none h k = none
each_has P (suc n) t f none h zero = h t
each_has P (suc n) t f none h (suc k) = each_has P n (t + 1) f none h k

record_fits : {file : List ℕ} {m : Monitor} {c : Config} → Accepted file m
    → State (vars m) (state_at (vars m) c.state)
    → Reached (model m) c → RecordFits (record_of m c)
unfolding record_of threads PlaceWithin model
record_fits {file} {m} {c} a s x =
    let n = sizes a in
    let few_regions = n.regions in
    let few_vars = n.vars in
    let l = state_length s in
    let place = each_has (PlaceWithin (model m)) 16 0 c.threads.place (idle_within (model m)) x.within in
    record {
      few = omega arith;
      values = values_fit a.sound.ranges s;
      sixteen = each_length 16 0 c.threads.place;
      waits = λ t w e. let low = (place t).0 w e in omega arith;
      dues = λ t w e. let low = (place t).1 w e in omega arith;
    }

pub refusal_fits : {file : List ℕ} {a : Answer} → Refusal file a → AnswerFits a
refusal_fits r =
    let p = refusal_places r in
    record { refuses = refusal_number r; number = refusal_digits r; first = p.0; second = p.1 }

module _ {file bytes : List ℕ} {s : ℕ} {w : Machine} where
  -- of a trace of any length
  pub ran_fits : {rec : Record} → RunsAs file bytes s w (ran rec) → RecordFits rec
  ran_fits (all_allowed {m} {fs} {c} a h r e t) =
      let ok = (accepted_iff file m).1 a in
      let reached = ((follows_rules m w).accepts s fs c).1 t in
      record_fits a (runs_keep file m ok s h fs w c reached).1
      (run_reached m (checked file m ok) s ((startable_iff m s).1 h) fs w c reached)

  -- "at most 65,536 bytes"
  pub running_fits : {x : Running} → RunsAs file bytes s w x → length bytes ≤ 65536 → RunFits x
  unfolding RunFits
  running_fits (no_monitor r) l = refusal_fits r
  running_fits (no_start a n) l = record {
    refuses = omega arith;
    number = omega arith;
    first = omega arith;
    second =
        omega arith;
  }
  running_fits (bad_line a h t) l =
      let whole = ap length t.whole ∙ length-append (lines_of t.before) t.rest in
      let seven = lines_seven t.before in
      let count = t.count in
      record { refuses = omega arith; number = omega arith; first = omega arith; second = omega arith }
  running_fits (frame_refused {fs = fs} a h r e t) l =
      let whole = ap length e ∙ lines_seven fs in
      let x = stops_within t in
      record { refuses = omega arith; number = omega arith; first = omega arith; second = omega arith }
  running_fits (all_allowed a h r e t) l = ran_fits (all_allowed a h r e t)

-- Lengths

values_length : (as' : List ℤ) → length (value_digits as') ≡ 2 * length as'
unfolding value_digits hex2
values_length [] = refl
values_length (a ∷ as') = let r = values_length as' in omega arith

places_length : (ps : List Place) → length (place_digits ps) ≡ 2 * length ps
unfolding place_digits hex2
places_length [] = refl
places_length (p ∷ ps) = let r = places_length ps in omega arith

pub line_short : (x : Running) → RunFits x → length (run_line x) ≤ 47
unfolding RunFits run_line record_line refusal_line hex4 hex2
line_short (ran r) f =
    let few = f.few in
    let sixteen = f.sixteen in
    simp (length-append, values_length, places_length) (omega arith)
line_short (refused_file a) f = omega arith
line_short (not_run a) f = omega arith

-- the table: at most 240 lines of nine bytes
pub table_short : {file : List ℕ} {m : Monitor} → Accepted file m → length (table_of (model m)) ≤ 2160
table_short {file} {m} a =
    let t = is_table file m ((accepted_iff file m).1 a) in
    omega (arith, t.few, ap length t.lines, row_lines_length (rows_of (model m)))
