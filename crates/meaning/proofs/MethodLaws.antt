-- Where methods begin and go on among the regions, which "run on across methods": the tests of a region's number, by
-- induction on the methods.
use Prim.Native.Nat.{ℕ, ◌+◌, ◌-◌, ◌≤◌, ◌<◌}
use native.Mathlib.Omega.{arith}
use native.Mathlib.Nat.{zero-add}
use mathlib.Core.Path.{◌≡◌, refl, ap, ◌∙◌}
use mathlib.Core.Bool.{Bool, true, or-false}
use mathlib.Core.List.{List, [], ◌∷◌, ◌++◌}
use lib.ListN.{length, length-append}
use lib.Dec.{eqb, ltb}
use borrow.Author.Tests.{ltb-true, ltb-false, lt-ltb, le-ltb, le-leb, lt-leb, ne_eqb}
use Rattle.syntax.specs.Tree.{Method, all}
use Rattle.meaning.specs.Runs.{regions_of}
use Rattle.meaning.specs.Model.{begins_in, goes_on_in}
use Rattle.logic.proofs.Bools.{split, clash}

-- region r is number i of a method
pub record InMethod (ms : List Method) (r i : ℕ) : Type 0 where
  pub before : List Method
  pub method : Method
  pub after : List Method
  pub parts : ms ≡ before ++ (method ∷ after)
  pub number : r ≡ length (regions_of before) + i
  pub within : i < length (all method.regions)

first_method : (x : Method) (ms : List Method) (r : ℕ) → r < length (all x.regions) → InMethod (x ∷ ms) r r
unfolding regions_of
first_method x ms r h =
    record { before = []; method = x; after = ms; parts = refl; number = omega arith; within = h }

later_method : (x : Method) (ms : List Method) (r i : ℕ) → InMethod ms r i
    → InMethod (x ∷ ms) (length (all x.regions) + r) i
unfolding regions_of
later_method x ms r i t =
    let sum = length-append (all x.regions) (regions_of t.before) in
    record {
      before = x ∷ t.before;
      method = t.method;
      after = t.after;
      parts = ap {B = List Method} (λ ns. x ∷ ns) t.parts;
      number = let n = t.number in omega arith;
      within = t.within;
    }

no_regions : {C : Type 0} (r : ℕ) → r < length (regions_of []) → C
unfolding regions_of
no_regions r h = absurd (omega arith)

past_method : (x : Method) (ms : List Method) (r : ℕ) → length (all x.regions) ≤ r
    → ((i : ℕ) × InMethod ms (r - length (all x.regions)) i) → (i : ℕ) × InMethod (x ∷ ms) r i
past_method x ms r h t =
    let back : length (all x.regions) + (r - length (all x.regions)) ≡ r = omega arith in
    (t.0, rw back at (later_method x ms (r - length (all x.regions)) t.0 t.1))

rest_below : (x : Method) (ms : List Method) (r : ℕ) → length (all x.regions) ≤ r → r < length (regions_of (x ∷ ms))
    → r - length (all x.regions) < length (regions_of ms)
unfolding regions_of
rest_below x ms r high h = let sum = length-append (all x.regions) (regions_of ms) in omega arith

-- every region is a number of a method
pub in_method : (ms : List Method) (r : ℕ) → r < length (regions_of ms) → (i : ℕ) × InMethod ms r i
in_method [] r h = no_regions r h
in_method (x ∷ ms) r h =
    split (ltb r (length (all x.regions)))
    (λ low. (r, first_method x ms r (ltb-true r (length (all x.regions)) low)))
    (λ past. let high = ltb-false r (length (all x.regions)) past in
    past_method x ms r high (in_method ms (r - length (all x.regions)) (rest_below x ms r high h)))

-- The tests at the first method, and past it

begins_first : (x : Method) (ms : List Method) (i : ℕ) → i < length (all x.regions) → begins_in (x ∷ ms) i ≡ eqb i 0
unfolding begins_in
begins_first x ms i h = cc (lt-leb (length (all x.regions)) i h, or-false (eqb i 0))

begins_step : (x : Method) (ms : List Method) (r : ℕ) → begins_in (x ∷ ms) (length (all x.regions) + r)
    ≡ begins_in ms r
unfolding begins_in
begins_step x ms r =
    let size = length (all x.regions) in
    let back : size + r - size ≡ r = omega arith in
    cc (ne_eqb (size + r) 0 (omega arith), le-leb size (size + r) (omega arith))

goes_on_first : (x : Method) (ms : List Method) (i : ℕ) → i < length (all x.regions)
    → goes_on_in (x ∷ ms) i ≡ ltb (i + 1) (length (all x.regions))
unfolding goes_on_in
goes_on_first x ms i h = cc (lt-ltb i (length (all x.regions)) h)

goes_on_step : (x : Method) (ms : List Method) (r : ℕ) → goes_on_in (x ∷ ms) (length (all x.regions) + r)
    ≡ goes_on_in ms r
unfolding goes_on_in
goes_on_step x ms r =
    let size = length (all x.regions) in
    let back : size + r - size ≡ r = omega arith in
    cc (le-ltb (size + r) size (omega arith))

-- a test that passes over methods says of a region what it says of the region's number in its method
module _ (test : List Method → ℕ → Bool)
    (step : (x : Method) (ms : List Method) (r : ℕ) → test (x ∷ ms) (length (all x.regions) + r) ≡ test ms r) where
  at_method : (before : List Method) (ms : List Method) (i : ℕ) → test (before ++ ms) (length (regions_of before) + i)
      ≡ test ms i
  unfolding regions_of
  at_method [] ms i = rw zero-add
  at_method (x ∷ before) ms i =
      let sum = length-append (all x.regions) (regions_of before) in
      let parts : length (all x.regions ++ regions_of before) + i
      ≡ length (all x.regions) + (length (regions_of before) + i) =
      omega arith in
      ap (test (x ∷ (before ++ ms))) parts ∙ step x (before ++ ms) (length (regions_of before) + i)
      ∙ at_method before ms i

  in_its_method : {ms : List Method} {r i : ℕ} (t : InMethod ms r i) → test ms r ≡ test (t.method ∷ t.after) i
  in_its_method {i = i} t = rw (t.parts, t.number) (at_method t.before (t.method ∷ t.after) i)

-- a region begins a method where it is number 0, and goes on where its method has a next one
pub begins_in_method : {ms : List Method} {r i : ℕ} (t : InMethod ms r i) → begins_in ms r ≡ eqb i 0
begins_in_method {i = i} t = in_its_method begins_in begins_step t ∙ begins_first t.method t.after i t.within

pub goes_on_in_method : {ms : List Method} {r i : ℕ} (t : InMethod ms r i)
    → goes_on_in ms r ≡ ltb (i + 1) (length (all t.method.regions))
goes_on_in_method {i = i} t = in_its_method goes_on_in goes_on_step t ∙ goes_on_first t.method t.after i t.within

-- a region that another follows in its method is not the last of the file
pub goes_on_below : (ms : List Method) (r : ℕ) → goes_on_in ms r ≡ true → r + 1 < length (regions_of ms)
unfolding goes_on_in regions_of
goes_on_below [] r e = clash e refl
goes_on_below (x ∷ ms) r e =
    let n = length (all x.regions) in
    let both = length-append (all x.regions) (regions_of ms) in
    split (ltb r n)
    (λ h. let here : ltb (r + 1) n ≡ true = rw (h, goes_on_in) at e in omega (arith, ltb-true (r + 1) n here, both))
    (λ h. let later : goes_on_in ms (r - n) ≡ true = rw (h, goes_on_in) at e in
    omega (arith, ltb-false r n h, goes_on_below ms (r - n) later, both))
