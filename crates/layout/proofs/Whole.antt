-- The layout of a whole file: its regions with their flags are those of the monitor, and a layout that holds them is
-- its layout.
use Prim.Native.Nat.{ℕ, zero, suc, ◌+◌, ◌≤◌, ◌<◌}
use native.Mathlib.Omega.{arith}
use mathlib.Core.Path.{◌≡◌, refl, sym, ap, ◌∙◌}
use mathlib.Core.Bool.{Bool, true, false}
use mathlib.Core.List.{List, [], ◌∷◌, ◌++◌, map-append, append_assoc}
use lib.ListN.{length, drop, get_or, length-map, get_or-append, get_or-map}
use lib.Seq.{get_or-append-add}
use lib.Dec.{eqb, ltb}
use borrow.Author.Tests.{ltb-true, ltb-false, lt-ltb, le-ltb, ne_eqb}
use Rattle.syntax.specs.Token.{Token, lexemes, Lexeme, key, mark, rbrace, semicolon, k_keep}
use Rattle.syntax.specs.Held.Kind.{kind_of, value_of, Kinds, Words}
use Rattle.syntax.specs.Tree.{Region, Method, Monitor, all, each, spell_cond, spell_method}
use Rattle.logic.specs.Tests.{bit}
use Rattle.machine.specs.Held.{follows_by}
use Rattle.machine.specs.Monitor as machine
use Rattle.meaning.specs.Runs.{regions_of}
use Rattle.meaning.specs.Held.{behind_keep}
use Rattle.meaning.specs.Model.{guards_of, begins_in, goes_on_in, no_region, regions, guards, region, guard_of, follows}
use Rattle.meaning.proofs.MethodLaws.{InMethod, in_method, begins_in_method, goes_on_in_method}
use Rattle.logic.proofs.Bools.{split}
use Rattle.layout.specs.Places.{to_condition}
use Rattle.layout.specs.Laid.{IsKeep, Laid}
use Rattle.layout.specs.Promises.{Flagged, no_flagged, more, flag_regions, flagged, parts, found, Holds}
use Rattle.layout.specs.declared.Layout.{Layout}
use Rattle.layout.proofs.Methods.{flag_count, methods_ahead}
use Rattle.layout.proofs.Closes.{stands_below}
use Rattle.layout.proofs.Same.{kinds_are}
use Rattle.layout.proofs.Spelled.{later}

-- the regions

parts_of_method : (b : ℕ) (qs : List Region) → parts (flag_regions b qs) ≡ qs
unfolding flag_regions
parts_of_method b [] = refl
parts_of_method b (q ∷ qs) = ap {B = List Region} (λ rs. q ∷ rs) (parts_of_method 0 qs)

parts_of : (ms : List Method) → parts (flagged ms) ≡ regions_of ms
unfolding flagged regions_of
parts_of [] = refl
parts_of (x ∷ ms) =
    map-append (λ (f : Flagged). f.region) (flag_regions 1 (all x.regions)) (flagged ms)
    ∙ ap (λ (rs : List Region). rs ++ parts (flagged ms)) (parts_of_method 1 (all x.regions))
    ∙ ap (λ (rs : List Region). all x.regions ++ rs) (parts_of ms)

pub flagged_count : (ms : List Method) → length (flagged ms) ≡ length (regions_of ms)
flagged_count ms = sym (length-map (flagged ms) (λ (f : Flagged). f.region)) ∙ ap length (parts_of ms)

-- the flags, in a method and in a file

ltb_suc : (a b : ℕ) → ltb (suc a) (suc b) ≡ ltb a b
ltb_suc a b =
    split (ltb a b) (λ h. let low = ltb-true a b h in lt-ltb (suc a) (suc b) (omega arith) ∙ sym h)
    (λ h. let high = ltb-false a b h in le-ltb (suc a) (suc b) (omega arith) ∙ sym h)

begins_later : (qs : List Region) (i : ℕ) → (get_or (flag_regions 0 qs) i no_flagged).begins ≡ 0
unfolding flag_regions
begins_later [] i = refl
begins_later (q ∷ qs) zero = refl
begins_later (q ∷ qs) (suc i) = begins_later qs i

begins_at : (qs : List Region) (i : ℕ) → i < length qs → (get_or (flag_regions 1 qs) i no_flagged).begins ≡ bit (eqb i 0)
unfolding flag_regions bit
begins_at [] i h = absurd (omega arith)
begins_at (q ∷ qs) zero h = refl
begins_at (q ∷ qs) (suc i) h = begins_later qs i ∙ rw (ne_eqb (suc i) 0 (λ e. omega arith), bit)

more_is : (qs : List Region) → more qs ≡ bit (ltb 1 (suc (length qs)))
unfolding bit
more_is [] = refl
more_is (q ∷ qs) = rw (lt-ltb 1 (suc (suc (length qs))) (omega arith), bit)

goes_on_at : (b : ℕ) (qs : List Region) (i : ℕ) → i < length qs
    → (get_or (flag_regions b qs) i no_flagged).goes_on ≡ bit (ltb (i + 1) (length qs))
unfolding flag_regions
goes_on_at b [] i h = absurd (omega arith)
goes_on_at b (q ∷ qs) zero h = more_is qs
goes_on_at b (q ∷ qs) (suc i) h =
    let e : suc i + 1 ≡ suc (i + 1) = omega arith in
    goes_on_at 0 qs i (omega arith)
    ∙ ap bit (sym (ap (λ (n : ℕ). ltb n (suc (length qs))) e ∙ ltb_suc (i + 1) (length qs)))

flagged_parts : (before : List Method) (x : Method) (after : List Method)
    → flagged (before ++ (x ∷ after)) ≡ flagged before ++ (flag_regions 1 (all x.regions) ++ flagged after)
unfolding flagged
flagged_parts [] x after = refl
flagged_parts (y ∷ before) x after =
    ap (λ (fs : List Flagged). flag_regions 1 (all y.regions) ++ fs) (flagged_parts before x after)
    ∙ sym (append_assoc (flag_regions 1 (all y.regions)) (flagged before)
    (flag_regions 1 (all x.regions) ++ flagged after))

flagged_at : {ms : List Method} {r i : ℕ} (t : InMethod ms r i)
    → get_or (flagged ms) r no_flagged ≡ get_or (flag_regions 1 (all t.method.regions)) i no_flagged
flagged_at {ms} {r} {i} t =
    let qs = flag_regions 1 (all t.method.regions) in
    let place : r ≡ length (flagged t.before) + i =
    t.number ∙ ap (λ (n : ℕ). n + i) (sym (flagged_count t.before)) in
    let count = flag_count 1 (all t.method.regions) in
    let low : i < length qs = let w = t.within in omega arith in
    rw (place, t.parts, flagged_parts t.before t.method t.after)
    (get_or-append-add (flagged t.before) (qs ++ flagged t.after) i no_flagged
    ∙ get_or-append qs (flagged t.after) no_flagged i low)

module _ (ms : List Method) (r : ℕ) (h : r < length (regions_of ms)) where
  begins_is : (get_or (flagged ms) r no_flagged).begins ≡ bit (begins_in ms r)
  begins_is =
      let p = in_method ms r h in
      ap (λ (f : Flagged). f.begins) (flagged_at p.1)
      ∙ begins_at (all p.1.method.regions) p.0 p.1.within
      ∙ ap bit (sym (begins_in_method p.1))

  goes_on_is : (get_or (flagged ms) r no_flagged).goes_on ≡ bit (goes_on_in ms r)
  goes_on_is =
      let p = in_method ms r h in
      ap (λ (f : Flagged). f.goes_on) (flagged_at p.1)
      ∙ goes_on_at 1 (all p.1.method.regions) p.0 p.1.within
      ∙ ap bit (sym (goes_on_in_method p.1))

follows_bit : (r : ℕ) (b : Bool) → elim b [ true ↦ machine.due (r + 1) | false ↦ machine.idle ] ≡ follows_by r (bit b)
unfolding follows_by bit
follows_bit r true = refl
follows_bit r false = refl

-- a layout that holds the regions of a monitor is its layout
module _ (m : Monitor) (ls : List Lexeme) (l : Layout) (holds : Holds ls (flagged (all m.methods)) l) where
  found_is : found (flagged (all m.methods)) ≡ guards m
  unfolding guards regions
  found_is = ap (guards_of []) (parts_of (all m.methods))

  count_is : length (flagged (all m.methods)) ≡ length (regions m)
  unfolding regions
  count_is = flagged_count (all m.methods)

  region_is : (r : ℕ) → (get_or (flagged (all m.methods)) r no_flagged).region ≡ region m r
  unfolding region regions
  region_is r =
      sym (get_or-map (λ (f : Flagged). f.region) (flagged (all m.methods)) r no_flagged)
      ∙ ap (λ (rs : List Region). get_or rs r no_region) (parts_of (all m.methods))

  pub laid : (us : List Lexeme) → drop l.keep ls ≡ spell_cond m.keep ++ (mark semicolon ∷ us) → Laid m ls l
  unfolding guard_of follows regions
  laid us keep =
      let count = count_is in
      record {
        after_keep = us;
        keep_stands = keep;
        region_count = holds.count ∙ count;
        guard_count = holds.guard_count ∙ ap length found_is;
        regions_stand = λ r h. rw region_is at (holds.stand r (omega arith));
        guard_numbers = λ r h. rw (region_is, found_is) at (holds.numbers r (omega arith));
        first_below = λ g h. let b = holds.first_below g (rw found_is h) in omega arith;
        first_has = λ g h. rw (region_is, found_is) at (holds.first_has g (rw found_is h));
        begin_flags = λ r h. holds.begin_flags r (omega arith) ∙ begins_is (all m.methods) r h;
        follow_flags = λ r h. follows_bit r (goes_on_in (all m.methods) r)
            ∙ ap (follows_by r) (sym (holds.follow_flags r (omega arith) ∙ goes_on_is (all m.methods) r h));
      }

-- at first a layout holds nothing
pub holds_none : {ls : List Lexeme} {l : Layout} → l.regions ≡ 0 → l.guards ≡ 0 → Holds ls [] l
unfolding guards_of
holds_none r g =
    record {
      count = r;
      guard_count = g;
      stand = λ i h. absurd (omega arith);
      numbers = λ i h. absurd (omega arith);
      all_found = λ i h. absurd (omega arith);
      first_below = λ i h. absurd (omega arith);
      first_has = λ i h. absurd (omega arith);
      begin_flags = λ i h. absurd (omega arith);
      follow_flags = λ i h. absurd (omega arith);
    }

-- where the code begins: at the kept condition, and at the first method
module _ (m : Monitor) (ls : List Lexeme) (kinds : List ℕ) (are : Kinds ls kinds) where
  long : length kinds ≡ length ls
  unfolding Kinds
  long = ap length (sym are) ∙ length-map ls kind_of

  pub keep_below : (k : ℕ) → IsKeep m ls k → k < length kinds
  unfolding IsKeep
  keep_below k keep = let low = stands_below k ls [] _ (key k_keep) keep in let l = long in omega arith

  pub first_below : (k : ℕ) → drop k ls ≡ methods_ahead (all m.methods) → k < length kinds
  first_below k first =
      let low = stands_below k ls (each spell_method (all m.methods)) [] (mark rbrace) first in
      let l = long in
      omega arith

pub kinds_held : {file : List ℕ} {ts : List Token} {kinds values places : List ℕ} → Words file ts kinds values places
    → Kinds (lexemes ts) kinds
unfolding Kinds
kinds_held w = sym (kinds_are w)

pub keep_at : (m : Monitor) (ls : List Lexeme) (k : ℕ) → IsKeep m ls k
    → (us : List Lexeme) × (drop (k + to_condition) ls ≡ spell_cond m.keep ++ (mark semicolon ∷ us))
unfolding IsKeep behind_keep
keep_at m ls k keep = (_, later to_condition k ls _ keep)

pub words_sized : {file : List ℕ} {ts : List Token} {kinds values places : List ℕ} → Words file ts kinds values places
    → (length values ≡ length kinds) × (length places ≡ length kinds)
words_sized {ts = ts} w =
    let k = ap length w.by_kind ∙ length-map ts (λ (t : Token). kind_of t.lexeme) in
    let v = ap length w.by_value ∙ length-map ts (λ (t : Token). value_of t.lexeme) in
    let p = ap length w.by_place ∙ length-map ts (λ (t : Token). t.at) in
    (omega arith, omega arith)

pub few_flagged : (m : Monitor) → length (regions m) ≤ 16 → length (flagged (all m.methods)) ≤ 16
unfolding regions
few_flagged m h = let e = flagged_count (all m.methods) in omega arith
