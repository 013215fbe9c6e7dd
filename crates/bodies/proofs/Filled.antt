-- The outcomes so far: from the states below s, with what serves the next sixteen; behind the last state all of them.
use Rattle.std.specs.Prelude.{Option, Some, None}
use Prim.Native.Nat.{ℕ, ◌+◌, ◌-◌, ◌*◌, ◌≤◌, ◌<◌}
use native.Mathlib.Omega.{arith}
use mathlib.Core.Path.{◌≡◌, ap, subst, ◌∙◌}
use mathlib.Core.Bool.{false}
use mathlib.Core.List.{List}
use lib.ListN.{length, get_or}
use lib.Dec.{ltb}
use borrow.Author.Tests.{ltb-true, ltb-false}
use Rattle.logic.proofs.Bools.{split}
use Rattle.sets.specs.Set.{member}
use Rattle.syntax.specs.Tree.{Monitor}
use Rattle.meaning.specs.Decide.Bodies.{outcome}
use Rattle.meaning.specs.Model.{vars, regions, region}
use Rattle.meaning.specs.State.{count, state_at}
use Rattle.variables.specs.declared.Bounds.{Bounds}
use Rattle.states.specs.Rows.{outcome_number, Outcomes}
use Rattle.lanes.specs.Promises.{Sixteen, Values, SomeApart}
use Rattle.bodies.specs.Shifts.{Serves, AllServe, Filling, PutRows}
use Rattle.bodies.proofs.Shifting.{serves_next}

-- the outcome of region r's body from state t stands at its place
abbrev Done : Monitor → List ℕ → ℕ → ℕ → Type 0
Done m rows r t =
    get_or rows (r * 4096 + t) 0 ≡ outcome_number (vars m) (outcome (region m r) (vars m) (state_at (vars m) t))

pub record Sofar (m : Monitor) (named lanes : List ℕ) (changed : Option ℕ) (shifts after : List ℕ) (s : ℕ) : Type 0 where
  pub values : Sixteen (vars m) (Values (vars m) lanes) s
  pub done : (r t : ℕ) → r < length (regions m) → t < s → t < count (vars m) → Done m after r t
  pub served : AllServe m (λ r. SomeApart (get_or named r 0) changed) shifts s

module _ {m : Monitor} {named : List ℕ} where
  pub sofar_none : {lanes : List ℕ} (shifts after : List ℕ) → Sixteen (vars m) (Values (vars m) lanes) 0
      → Sofar m named lanes None shifts after 0
  unfolding AllServe SomeApart
  sofar_none shifts after v = record {
    values = v;
    done = λ r t low h. absurd (omega arith);
    served = λ r low apart. absurd apart;
  }

  pub sofar_more : {kinds values : List ℕ} {bounds : Bounds} {ats : List ℕ} {n : ℕ}
      → Filling m kinds values bounds ats named n → {lanes shifts shifts' after after' : List ℕ} {was : Option ℕ} {s : ℕ}
      (next : List ℕ) (changed : ℕ) → Sofar m named lanes was shifts after s
      → ((r : ℕ) → r < length (regions m) → Serves (vars m) (region m r) shifts' r s)
      → PutRows shifts' n s after after' → Sixteen (vars m) (Values (vars m) next) (s + 16)
      → ((k j : ℕ) → k < 6 → j < 16 → member changed k ≡ false
      → get_or next (k * 16 + j) 0 ≡ get_or lanes (k * 16 + j) 0)
      → Sofar m named next (Some changed) shifts' after' (s + 16)
  unfolding AllServe SomeApart
  sofar_more f {lanes = lanes} {after' = after'} {s = s} next changed sofar serves rows v same = record {
    values = v;
    done = λ r t low h inside.
        split (ltb t s)
        (λ e. let h = ltb-true t s e in rows.earlier r t h ∙ sofar.done r t low h inside)
        (λ e. let back = ltb-false t s e in
        let at : s + (t - s) ≡ t = omega arith in
        subst (Done m after' r) at (here r (t - s) low (omega arith) (omega arith)));
    served = λ r low apart.
        serves_next lanes next f.bounded (f.covers r low) apart sofar.values v same (serves r low);
  }
    where
      here : (r j : ℕ) → r < length (regions m) → j < 16 → s + j < count (vars m) → Done m after' r (s + j)
      here r j low l inside =
          let at : r * 4096 + (s + j) ≡ r * 4096 + s + j = omega arith in
          ap (λ (i : ℕ). get_or after' i 0) at ∙ rows.here r j (omega (arith, f.counted)) l
          ∙ (serves r low).each j l inside

  pub filled : {lanes shifts after : List ℕ} {changed : Option ℕ} {s : ℕ} → Sofar m named lanes changed shifts after s
      → count (vars m) ≤ s → Outcomes m after
  unfolding Outcomes
  filled sofar h r t low inside = sofar.done r t low (omega arith) inside
