-- A shift tells what a body does to a state: as the body was run from it, and as it was run from another state with the
-- same values of the variables that it names, since the two runs move the numbers alike.
use Prim.Native.Nat.{ℕ, ◌+◌, ◌-◌, ◌*◌, ◌%◌, ◌≤◌, ◌<◌}
use native.Mathlib.Omega.{arith}
use mathlib.Core.Path.{◌≡◌, refl, ◌∙◌}
use mathlib.Core.Bool.{Bool, false}
use mathlib.Core.List.{List}
use mathlib.Core.Option.{Option, none, some}
use lib.ListN.{get_or}
use lib.Dec.{ltb}
use lib.IntN.{ℤ}
use borrow.Author.Tests.{ltb-true, ltb-false, lt-ltb, le-ltb}
use Rattle.logic.proofs.Bools.{split, split_eq}
use Rattle.sets.specs.Set.{member}
use Rattle.syntax.specs.Tree.{Var, Region, Monitor, spell_block}
use Rattle.meaning.specs.Decide.Bodies.{outcome}
use Rattle.meaning.specs.State.{count, state_at, number_of}
use Rattle.meaning.specs.Model.{vars, region}
use Rattle.meaning.specs.Runs.{State}
use Rattle.meaning.specs.Held.{Biased}
use Rattle.meaning.proofs.Alike.{Alike, Together, both_fault, both_end, kins_number, runs_alike}
use Rattle.meaning.proofs.StateLaws.{number_of_state_at, number_below}
use Rattle.evaluator.specs.Coding.{Covers, RunAs, lane, slot_of}
use Rattle.variables.specs.Bounded.{Bounded}
use Rattle.variables.specs.declared.Bounds.{Bounds}
use Rattle.states.specs.Rows.{outcome_number, BodiesAt}
use Rattle.lanes.specs.Promises.{Sixteen, Values, Apart}
use Rattle.lanes.proofs.Named.{alike_next}
use Rattle.states.proofs.Held.{outcome_state}
use Rattle.bodies.specs.Shifts.{unshift, ShiftOf, Tells, Serves, Noted, Body, Filling, Stretch}

pub unshift_in : (s x : ℕ) → x < 4096 → unshift s x ≡ (s + x) % 4096
unfolding unshift
unshift_in s x h = rw (lt-ltb x 4096 h)

pub unshift_out : (s x : ℕ) → 4096 ≤ x → unshift s x ≡ 4096
unfolding unshift
unshift_out s x h = rw (le-ltb x 4096 h)

-- the difference modulo 4,096 leads from one number to the other
pub leads : (s to x : ℕ) → s < 4096 → to < 4096 → x ≡ (to % 4096 + 4096 - s) % 4096 → unshift s x ≡ to
leads s to x h l e = unshift_in s x (omega arith) ∙ omega arith

-- From the state in its lane

module _ {bounds : Bounds} {vs : List Var} (b : Bounded vs bounds) (q : Region) (s to x : ℕ) (ok : Bool) (held : List ℕ)
    (number : (as' : List ℤ) → Biased vs as' held → State vs as' → to ≡ number_of vs as') (shift : ShiftOf ok to s x)
    (low : s < count vs) where
  by_outcome : (o : Option (List ℤ)) → outcome q vs (state_at vs s) ≡ o → RunAs vs ok held o
      → unshift s x ≡ outcome_number vs o
  unfolding RunAs outcome_number
  by_outcome none e run = unshift_out s x (omega (arith, shift.fault run))
  by_outcome (some bs) e run =
      let state = outcome_state b.good q s low bs e in
      let n = number bs run.1 state in
      let below = number_below b.good state in
      let few = b.few_states in
      shift.stays run.0 (omega arith) ∙ n

pub noted : {bounds : Bounds} {ok : ℕ} {ended : List ℕ} {s j x : ℕ} (to : ℕ)
    → ((vs : List Var) (as' : List ℤ) → Bounded vs bounds → Biased vs as' (lane ended j) → State vs as'
    → to ≡ number_of vs as')
    → ShiftOf (member ok j) to (s + j) x → Noted bounds ok ended s j x
noted {ok = ok} {ended = ended} {s = s} {j = j} {x = x} to number shift = record {
  tells = λ vs q b low run.
      by_outcome b q (s + j) to x (member ok j) (lane ended j) (λ as'. number vs as' b) shift low
      (outcome q vs (state_at vs (s + j))) refl run;
}

-- From another state

module _ {vs : List Var} {bounds : Bounds} (b : Bounded vs bounds) (s t x : ℕ) (low : s < count vs)
    (high : t < count vs)
  where
    together : (o p : Option (List ℤ)) → Together vs (state_at vs s) (state_at vs t) o p
        → ((cs : List ℤ) → o ≡ some cs → State vs cs) → ((ds : List ℤ) → p ≡ some ds → State vs ds)
        → unshift s x ≡ outcome_number vs o → unshift t x ≡ outcome_number vs p
    unfolding outcome_number
    together none none both_fault f g e =
        split (ltb x 4096) (λ h. absurd (omega (arith, unshift_in s x (ltb-true x 4096 h))))
        (λ h. unshift_out t x (ltb-false x 4096 h))
    together none (some ds) x f g e = elim x [ ]
    together (some cs) none x f g e = elim x [ ]
    together (some cs) (some ds) (both_end k) f g e =
        let n = kins_number k in
        let at_s = number_of_state_at vs s low in
        let at_t = number_of_state_at vs t high in
        let from = number_below b.good (f cs refl) in
        let to = number_below b.good (g ds refl) in
        let few = b.few_states in
        split (ltb x 4096)
        (λ h. unshift_in t x (ltb-true x 4096 h) ∙ omega (arith, unshift_in s x (ltb-true x 4096 h)))
        (λ h. absurd (omega (arith, unshift_out s x (ltb-false x 4096 h))))

    tells_alike : (q : Region) (named : ℕ) {xs ys : List ℕ} → Covers vs (spell_block q.body) named
        → Biased vs (state_at vs s) xs → Biased vs (state_at vs t) ys
        → Alike (λ x. member named (slot_of vs x)) vs (state_at vs s) (state_at vs t) → Tells vs q s x → Tells vs q t x
    unfolding outcome Covers
    tells_alike q named covers v w same =
        together _ _ (runs_alike q.body covers v.each_value w.each_value same)
        (λ cs. outcome_state b.good q s low cs) (λ ds. outcome_state b.good q t high ds)

-- the next sixteen states, whose values are those of the last but for some variables
pub serves_next : {vs : List Var} {bounds : Bounds} {q : Region} {shifts : List ℕ} {r s named what : ℕ}
    (lanes next : List ℕ) → Bounded vs bounds → Covers vs (spell_block q.body) named → Apart named what
    → Sixteen vs (Values vs lanes) s → Sixteen vs (Values vs next) (s + 16)
    → ((k j : ℕ) → k < 6 → j < 16 → member what k ≡ false → get_or next (k * 16 + j) 0 ≡ get_or lanes (k * 16 + j) 0)
    → Serves vs q shifts r s → Serves vs q shifts r (s + 16)
serves_next {vs} {q = q} {s = s} {what = what} lanes next b covers apart v w same serves = record {
  each = λ j l low.
      tells_alike b (s + j) (s + 16 + j) _ (omega arith) low q _ covers (v.each j l (omega arith)) (w.each j l low)
      (alike_next lanes next what s v w same apart j l low) (serves.each j l (omega arith));
}

-- A turn for each region

-- a region's body, and the set of the variables that it names
pub body_of : {m : Monitor} {kinds values : List ℕ} {bounds : Bounds} {ats named : List ℕ} {n : ℕ}
    → Filling m kinds values bounds ats named n → (r at : ℕ) → r < n → at ≡ get_or ats r 0
    → Body (vars m) (region m r) kinds values bounds at
unfolding BodiesAt
body_of f r at low e =
    let t = f.bodies r (omega (arith, f.counted)) in
    record {
      ls = f.ls;
      us = t.0;
      codes = f.codes;
      bounded = f.bounded;
      few = f.few;
      spelled = rw e t.1;
    }

pub serves_more : {vs : List Var} {old new : List ℕ} {s r : ℕ} (q : ℕ → Region)
    → Stretch (r * 16) (λ j x. s + j < count vs → Tells vs (q r) (s + j) x) old new 16
    → ((i : ℕ) → i < r → Serves vs (q i) old i s) → (i : ℕ) → i < r + 1 → Serves vs (q i) new i s
serves_more {r = r} q w below i h =
    split_eq i r (λ e. rw e (record { each = λ j l. w.here j l }))
    (λ d. record {
      each = λ j l low. rw (w.before (i * 16 + j) (omega arith)) ((below i (omega arith)).each j l low);
    })
