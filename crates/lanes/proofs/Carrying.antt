-- Adding 16 to the numbers of the states in the lanes, a variable at a time from the last: the values from variable k
-- on are those of the sum, what is left to add and what a lane carries go over from there, and the values before k are
-- as they were.
use Prim.Native.Nat.{ℕ, suc, ◌+◌, ◌-◌, ◌*◌, ◌%◌, ◌≤◌, ◌<◌}
use native.Mathlib.Omega.{arith}
use mathlib.Core.Path.{◌≡◌, refl, sym, ap, ◌∙◌}
use mathlib.Core.Bool.{Bool, false, ◌&&◌, ◌||◌}
use mathlib.Core.List.{List}
use lib.Dec.{eqb, ltb}
use lib.ListN.{length, get_or, replicate, get_or-replicate, drop_of_length-le}
use borrow.Author.Tests.{eq-eqb, lt-ltb, ltb-true, ltb-false}
use Rattle.logic.proofs.Bools.{split, split_eq, clash, neither, and}
use Rattle.sets.specs.Set.{member}
use Rattle.syntax.specs.Tree.{Var}
use Rattle.meaning.specs.State.{count}
use Rattle.meaning.specs.State as State
use Rattle.evaluator.specs.Coding.{lane}
use Rattle.evaluator.proofs.Lanes.{lane_at, length_lane}
use Rattle.variables.specs.Bounded.{Bounded}
use Rattle.variables.specs.declared.Bounds.{Bounds}
use Rattle.lanes.specs.Promises.{Sixteen, Values}
use Rattle.variables.specs.Promises.{SizeOf}
use Rattle.lanes.specs.Adding.{Share, Settled, Carried, Ready, Raised, sum_at}
use Rattle.lanes.specs.declared.Part.{Part}
use Rattle.meaning.proofs.SixteenBits.{place, digit, digit_less, held_digit, digits_held}
use Rattle.lanes.proofs.Adding.{over, digits_sum, digits_kept, settle_digit}

-- the value of variable i in lane j is as it was
abbrev Same : List ℕ → List ℕ → ℕ → ℕ → Type 0
Same lanes values i j = get_or values (i * 16 + j) 0 ≡ get_or lanes (i * 16 + j) 0

-- of the state n in lane j, whose values from variable k on are those of n + 16
pub record Added (vs : List Var) (b : Bounds) (j n : ℕ) (values : List ℕ) (rest carry k : ℕ) : Type 0 where
  pub done : (i : ℕ) → k ≤ i → i < length vs → get_or values (i * 16 + j) 0 ≡ get_or b.lows i 0 + digit vs (n + 16) i
  pub goes : rest + carry ≡ over vs n 16 k

pub record Carrying (b : Bounds) (lanes values : List ℕ) (changed : ℕ) (carry : List ℕ) (any : Bool) (rest m k : ℕ) :
    Type 0 where
  pub few : m ≤ 6
  pub counted : b.count ≤ 6 → m ≡ b.count
  pub within : k ≤ m
  pub rest_small : rest ≤ 16
  pub long : length values ≡ 96
  pub carries : length carry ≡ 16
  pub carry_small : (j : ℕ) → j < 16 → get_or carry j 0 ≤ 1
  pub none : any ≡ false → (j : ℕ) → j < 16 → get_or carry j 0 ≡ 0
  pub kept : (i j : ℕ) → i < 6 → j < 16 → member changed i ≡ false → Same lanes values i j
  pub before : (i j : ℕ) → i < k → j < 16 → Same lanes values i j
  pub behind : (i j : ℕ) → i < 6 → m ≤ i → j < 16 → Same lanes values i j
  pub added : (vs : List Var) (j n : ℕ) → Bounded vs b → j < 16 → n + 16 < count vs → Values vs lanes j n
      → Added vs b j n values rest (get_or carry j 0) k

over_none : (vs : List Var) (n k : ℕ) → length vs ≤ k → 16 + 0 ≡ over vs n 16 k
unfolding count
over_none vs n k h =
    rw (drop_of_length-le vs h) (omega arith)

no_carry : (j : ℕ) → j < 16 → ◌≡◌ {A = ℕ} (get_or (replicate 16 0) j 0) 0
no_carry j h = get_or-replicate 16 j 0 0 h

-- as many as there are variables, where there are at most six
all_of : {vs : List Var} {b : Bounds} {m : ℕ} → Bounded vs b → (b.count ≤ 6 → m ≡ b.count) → m ≡ length vs
all_of bounded is = is (omega (arith, bounded.counted, bounded.few_vars)) ∙ bounded.counted

pub carrying_none : (b : Bounds) (lanes : List ℕ) (m : ℕ) → length lanes ≡ 96 → m ≤ 6 → (b.count ≤ 6 → m ≡ b.count)
    → Carrying b lanes lanes 0 (replicate 16 0) false 16 m m
carrying_none b lanes m long few is = record {
  few = few;
  counted = is;
  within = omega arith;
  rest_small = omega arith;
  long = long;
  carries = refl;
  carry_small = λ j h. omega (arith, no_carry j h);
  none = λ e j h. no_carry j h;
  kept = λ i j h l e. refl;
  before = λ i j h l. refl;
  behind = λ i j h l g. refl;
  added = λ vs j n bounded h low values.
      let all = all_of bounded is in
      record {
        done = λ i l g. absurd (omega arith);
        goes = rw (no_carry j h) (over_none vs n m (omega arith));
      };
}

-- what is carried is one or nothing
carried_small : {sum high c : ℕ} → Carried sum high c → c ≤ 1
carried_small {sum} {high} {c} e =
    split (ltb high sum) (λ t. omega (arith, e.past (ltb-true high sum t)))
    (λ t. omega (arith, e.within (ltb-false high sum t)))

-- One variable more, whose number is k

module _ {b : Bounds} {lanes values : List ℕ} {changed : ℕ} {carry : List ℕ} {any : Bool} {rest m k₁ : ℕ}
    (g : Carrying b lanes values changed carry any rest m k₁) (some : 0 < k₁) {size : ℕ} {part : Part}
    (sized : SizeOf (get_or b.lows (k₁ - 1) 0) (get_or b.highs (k₁ - 1) 0 % 4096) size)
    (shared : Share rest size part) where
  pub ready_next : Ready values ((k₁ - 1) * 16) carry part.here (get_or b.highs (k₁ - 1) 0 % 4096) size
  ready_next = record {
    long = omega (arith, g.few, g.within, g.long);
    carries = g.carries;
    carry_small = g.carry_small;
    add_small = omega (arith, shared.here_less, g.rest_small);
    size_small = sized.most;
  }

  module _ (vs : List Var) (j n : ℕ) (bounded : Bounded vs b) (h : j < 16) (low : n + 16 < count vs)
      (held : Values vs lanes j n) where
    inside : k₁ - 1 < length vs
    inside = omega (arith, g.within, all_of bounded g.counted)

    old : get_or values ((k₁ - 1) * 16 + j) 0 ≡ get_or b.lows (k₁ - 1) 0 + digit vs n (k₁ - 1)
    old =
        g.before (k₁ - 1) j (omega arith) h ∙ sym (lane_at lanes j (k₁ - 1) (omega (arith, g.few, g.within)))
        ∙ held_digit bounded.ranges bounded.good n (omega arith) held (k₁ - 1) inside

    lane_next : (v c : ℕ)
        → Settled (sum_at values ((k₁ - 1) * 16) carry part.here j) (get_or b.highs (k₁ - 1) 0 % 4096) size v
        → Carried (sum_at values ((k₁ - 1) * 16) carry part.here j) (get_or b.highs (k₁ - 1) 0 % 4096) c
        → (v ≡ get_or b.lows (k₁ - 1) 0 + digit vs (n + 16) (k₁ - 1)) × (part.rest + c ≡ over vs n 16 (k₁ - 1))
    lane_next v c settled carried =
        let k = k₁ - 1 in
        let p = place bounded.ranges bounded.good k inside in
        let last : k₁ ≡ suc k = omega arith in
        let top : get_or b.highs k 0 % 4096 ≡ get_or b.highs k 0 = omega (arith, p.high_small) in
        let long : size ≡ get_or b.highs k 0 - get_or b.lows k 0 + 1 =
        sized.is (omega (arith, p.ordered)) (omega (arith, p.high_small))
        ∙ ap (λ (x : ℕ). x - get_or b.lows k 0 + 1) top in
        let same : size ≡ State.size p.var = long ∙ sym p.sized in
        let a = g.added vs j n bounded h low held in
        let goes : rest + get_or carry j 0 ≡ over vs n 16 (suc k) = a.goes ∙ ap (λ (x : ℕ). over vs n 16 x) last in
        let total : digit vs n k + (rest + get_or carry j 0) ≡ over vs n 16 k * size + digit vs (n + 16) k =
        rw (goes, same) (digits_sum vs n k p.var p.left 16) in
        settle_digit size (get_or b.lows k 0) (get_or b.highs k 0 % 4096) (digit vs n k) rest (get_or carry j 0)
        part.here part.rest
        (sum_at values (k * 16) carry part.here j) v c (over vs n 16 k) (digit vs (n + 16) k)
        (omega (arith, p.ordered))
        (omega (arith, same, digit_less vs n k p.var p.left))
        (g.carry_small j h) shared.whole shared.small
        (omega (arith, old, p.ordered, p.high_small, same, digit_less vs n k p.var p.left)) total
        (omega (arith, same, digit_less vs (n + 16) k p.var p.left)) settled carried

  pub raised_next : {values' carry' : List ℕ} {any' : Bool} {changed' : ℕ} → length values' ≡ length values
      → length carry' ≡ length carry
      → Raised ((k₁ - 1) * 16) part.here (get_or b.highs (k₁ - 1) 0 % 4096) size values carry values' carry' any'
      → ((u : ℕ) → member changed' u ≡ (eqb u (k₁ - 1) && ltb (k₁ - 1) 16) || member changed u)
      → Carrying b lanes values' changed' carry' any' part.rest m (k₁ - 1)
  raised_next {values'} {carry'} {any'} {changed'} long long' raised marked =
      let k = k₁ - 1 in
      let other : (i j : ℕ) → (i ≡ k → ⊥) → j < 16 → Same values values' i j =
      λ i j differ h. raised.others (i * 16 + j) (λ u l e. differ (omega arith)) in
      record {
        few = g.few;
        counted = g.counted;
        within = omega (arith, g.within);
        rest_small = omega (arith, shared.rest_less, g.rest_small);
        long = long ∙ g.long;
        carries = long' ∙ g.carries;
        carry_small = λ j h. carried_small (raised.carries j h);
        none = raised.none;
        kept = λ i j h l e.
            let no = neither (eqb i k && ltb k 16) (member changed i) (sym (marked i) ∙ e) in
            let few : k < 16 = omega (arith, g.few, g.within) in
            let differ : (i ≡ k → ⊥) = λ q. clash (and (eq-eqb i k q) (lt-ltb k 16 few)) no.0 in
            other i j differ l ∙ g.kept i j h l no.1;
        before = λ i j h l. other i j (λ e. omega arith) l ∙ g.before i j (omega arith) l;
        behind = λ i j h l f. other i j (λ e. omega (arith, g.within)) f ∙ g.behind i j h l f;
        added = λ vs j n bounded h low held.
            let next = lane_next vs j n bounded h low held _ _ (raised.values j h) (raised.carries j h) in
            record {
              done = λ i l f.
                  split_eq i k (λ e. rw e next.0)
                  (λ differ. other i j differ h ∙ (g.added vs j n bounded h low held).done i (omega arith) f);
              goes = next.1;
            };
      }

  pub passed_next : ltb 0 part.here || any ≡ false
      → Carrying b lanes values changed carry any part.rest m (k₁ - 1)
  passed_next nothing =
      let k = k₁ - 1 in
      let no = neither (ltb 0 part.here) any nothing in
      let here = ltb-false 0 part.here no.0 in
      record {
        few = g.few;
        counted = g.counted;
        within = omega (arith, g.within);
        rest_small = omega (arith, shared.rest_less, g.rest_small);
        long = g.long;
        carries = g.carries;
        carry_small = g.carry_small;
        none = g.none;
        kept = g.kept;
        before = λ i j h l. g.before i j (omega arith) l;
        behind = g.behind;
        added = λ vs j n bounded h low held.
            let p = place bounded.ranges bounded.good k (inside vs j n bounded h low held) in
            let value = old vs j n bounded h low held in
            let below = digit_less vs n k p.var p.left in
            let carry_none = g.none no.1 j h in
            let within : sum_at values (k * 16) carry part.here j ≤ get_or b.highs k 0 % 4096 =
            omega (arith, p.ordered, p.high_small, p.sized) in
            let next = lane_next vs j n bounded h low held (get_or values (k * 16 + j) 0) (get_or carry j 0)
            (record {
              within = λ _. omega (arith, p.ordered, p.high_small, p.sized);
              past = λ l. absurd (omega arith);
            })
            (record { within = λ _. carry_none; past = λ l. absurd (omega arith) }) in
            record {
              done = λ i l f.
                  split_eq i k (λ e. rw e next.0)
                  (λ differ. (g.added vs j n bounded h low held).done i (omega arith) f);
              goes = next.1;
            };
      }

module _ {b : Bounds} {lanes values : List ℕ} {changed : ℕ} {carry : List ℕ} {any : Bool} {rest m k : ℕ}
    (g : Carrying b lanes values changed carry any rest m k) (stops : ltb 0 k && (ltb 0 rest || any) ≡ false) where
  pub carried_all : (vs : List Var) (from : ℕ) → Bounded vs b → Sixteen vs (Values vs lanes) from
      → Sixteen vs (Values vs values) (from + 16)
  carried_all vs from bounded s =
      record {
        each = λ j h low.
            let n = from + j in
            let sum : from + 16 + j ≡ n + 16 = omega arith in
            let less : n + 16 < count vs = omega arith in
            let held = s.each j h (omega arith) in
            let a = g.added vs j n bounded h less held in
            rw sum
            (digits_held bounded.ranges bounded.good (n + 16) less (lane values j) bounded.few_vars
            (length_lane values j)
            (λ i l.
            lane_at values j i (omega (arith, bounded.few_vars))
            ∙ split (ltb i k)
            (λ t. let below = ltb-true i k t in
            let nothing = neither (ltb 0 rest) any (rw (lt-ltb 0 k (omega arith)) at stops) in
            let none : over vs n 16 k ≡ 0 =
            omega (arith, a.goes, g.none nothing.1 j h, ltb-false 0 rest nothing.0) in
            g.before i j below h ∙ sym (lane_at lanes j i (omega (arith, bounded.few_vars)))
            ∙ held_digit bounded.ranges bounded.good n (omega arith) held i l
            ∙ ap (λ (x : ℕ). get_or b.lows i 0 + x)
            (sym (digits_kept vs n 16 k (omega (arith, g.within, all_of bounded g.counted)) none i below)))
            (λ t. a.done i (ltb-false i k t) l))
            (λ i l f.
            lane_at values j i l ∙ g.behind i j l (omega (arith, all_of bounded g.counted)) h
            ∙ sym (lane_at lanes j i l) ∙ held.unused i l f));
      }
