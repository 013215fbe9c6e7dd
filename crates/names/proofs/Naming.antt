-- Names by where they stand in the file: equal bytes, the slot of a name among others, one name more, and a token's
-- name by its kind and place.
use Prim.Native.Nat.{ℕ, suc, ◌+◌, ◌-◌, ◌≤◌, ◌<◌}
use native.Mathlib.Omega.{arith}
use mathlib.Core.Path.{◌≡◌, refl, sym, ap, ◌∙◌}
use mathlib.Core.Bool.{Bool, true, false}
use mathlib.Core.List.{List, [], ◌∷◌, ◌++◌}
use lib.ListN.{length, take, drop, get_or, set, length-append, length-drop, get_or-append, drop_of_length-le}
use lib.Seq.{length-take-le, get_or_at, get_or-set_same, get_or-set_other}
use lib.Dec.{ltb, eqb, leb-suc-suc}
use borrow.Author.Tests.{lt-ltb, ltb-true, ltb-false}
use Rattle.std.specs.Str.{bytes_eq}
use Rattle.std.proofs.lemmas.Slice.Eq.{bytes_eq-Decides}
use Rattle.syntax.specs.Limits.{most_methods}
use Rattle.syntax.specs.Bytes.{same_bytes}
use Rattle.syntax.specs.Token.{Lexeme, name, key, number, mark, Token, k_var, k_method, k_monitor, Mark, Keyword}
use Rattle.syntax.specs.Held.Kind.{kind_of, value_of, name_kind, Words}
use Rattle.syntax.specs.Spelling.{Spells, reserved, named, valued, marked}
use Rattle.syntax.proofs.Scanning.{token_stands}
use Rattle.logic.proofs.Bools.{split, is_false, clash}
use Rattle.syntax.proofs.Lexemes.{decides_same}
use Rattle.logic.proofs.Bools.{different}
use Rattle.meaning.specs.Decide.Check.{member}
use Rattle.names.specs.declared.Name.{Name}
use Rattle.names.specs.declared.Names.{Names}
use Rattle.names.specs.Slots.{slot_in, slot_or_value, NameAt, no_name, Titles, wrong_by, wrongly}
use Rattle.syntax.proofs.ByKind.{kind_key}
use Rattle.passes.proofs.ByIndex.{rest_at, token_at, token_member, value_at, place_at, room}

-- Equal bytes

-- a test that decides whether two names are equal is the test of their bytes
pub same_test : (r : Bool) (x y : List ℕ) → (r ≡ true → x ≡ y) → (x ≡ y → r ≡ true) → r ≡ same_bytes x y
same_test true x y f g = sym ((decides_same x y).1 (f refl))
same_test false x y f g = sym (is_false (λ h. clash (g ((decides_same x y).0 h)) refl))

-- equal parts of the file are equal names
pub same_parts : {a b x y : List ℕ} {r : Bool} → a ≡ x → b ≡ y → r ≡ bytes_eq a b → r ≡ same_bytes x y
same_parts {x = x} {y = y} p q e =
    let d = bytes_eq-Decides x y in
    e ∙ rw (p, q) (same_test (bytes_eq x y) x y d.0 d.1)

pub same_sym : (x y : List ℕ) → same_bytes x y ≡ same_bytes y x
same_sym x y = same_test (same_bytes x y) y x (λ h. sym ((decides_same x y).0 h)) (λ e. (decides_same x y).1 (sym e))

-- the bytes between a name's start and its end, as indices
pub stood : {file x : List ℕ} {start len s n : ℕ} → s ≡ start → n ≡ len → NameAt file x start len
    → take (s + n - s) (drop s file) ≡ x
stood {file} {x} {start} {len} p q h = rw (p, q) (ap (λ (n : ℕ). take n (drop start file)) (let e : start + len - start ≡ len =
    omega arith in e) ∙ h.bytes)

-- Slots

module _ (titles : List (List ℕ)) (x : List ℕ) (i : ℕ) where
  slot_here : i < length titles → slot_in (drop i titles) x
      ≡ elim (same_bytes (get_or titles i []) x) as (λ b. ℕ) [ true ↦ 0 | false ↦ suc (slot_in (drop (i + 1) titles) x) ]
  unfolding slot_in
  slot_here l = ap (λ (l : List (List ℕ)). slot_in l x) (rest_at titles i [] l)

  pub slot_hit : i < length titles → same_bytes (get_or titles i []) x ≡ true → slot_in (drop i titles) x ≡ 0
  slot_hit l e = slot_here l ∙ rw e

  pub slot_miss : i < length titles → same_bytes (get_or titles i []) x ≡ false → slot_in (drop i titles) x
      ≡ suc (slot_in (drop (i + 1) titles) x)
  slot_miss l e = slot_here l ∙ rw e

  pub slot_end : length titles ≤ i → slot_in (drop i titles) x ≡ 0
  unfolding slot_in
  slot_end l = rw (drop_of_length-le titles {i = i} l)

-- a name is a member exactly when its slot is below the count
pub slot_member : (titles : List (List ℕ)) (x : List ℕ) → ltb (slot_in titles x) (length titles) ≡ member x titles
unfolding slot_in member
slot_member [] x = refl
slot_member (y ∷ ys) x = split (same_bytes y x)
    (λ e. rw (same_sym x y, e, slot_in) (lt-ltb 0 (suc (length ys)) (omega arith)))
    (λ e. rw (same_sym x y, e, slot_in) (leb-suc-suc (suc (slot_in ys x)) (length ys) ∙ slot_member ys x))

-- One name more

pub one_more : {file : List ℕ} {titles : List (List ℕ)} {names : Names} (x : List ℕ) (new : Name)
    → Titles file titles names → length titles < most_methods
    → length names.list ≡ most_methods → NameAt file x new.start new.len
    → Titles file (titles ++ (x ∷ [])) (record { list = set names.list names.count new; count = names.count + 1 })
one_more {file} {titles} {names} x new t room a s =
    record {
      counted = rw length-append (omega (arith, t.counted));
      room = rw length-append (omega arith);
      held = λ k l. split (ltb k (length titles)) (λ e. earlier k (ltb-true k (length titles) e))
          (λ e. last k (fits k l) (ltb-false k (length titles) e));
    }
  where
    fits : (k : ℕ) → k < length (titles ++ (x ∷ [])) → k ≤ length titles
    fits k l = omega (arith, simp length-append at l)

    At : List ℕ → Name → Type 0
    At y n = NameAt file y n.start n.len

    earlier : (k : ℕ) → k < length titles
        → At (get_or (titles ++ (x ∷ [])) k []) (get_or (set names.list names.count new) k no_name)
    earlier k l =
        let d : k ≡ names.count → ⊥ = λ e. omega (arith, t.counted) in
        rw (get_or-append titles (x ∷ []) [] k l, get_or-set_other names.list names.count k new no_name d) (t.held k l)

    last : (k : ℕ) → k ≤ length titles → length titles ≤ k
        → At (get_or (titles ++ (x ∷ [])) k []) (get_or (set names.list names.count new) k no_name)
    last k l m =
        let e : names.count ≡ k = omega (arith, t.counted) in
        rw (
          get_or_at titles x [] [] k (omega arith),
          e,
          get_or-set_same names.list k new no_name (omega arith),
        ) s

-- A name token's bytes stand at its place

spelled : {w : List ℕ} {l : Lexeme} (x : List ℕ) → Spells w l → l ≡ name x → w ≡ x
spelled x (reserved a b c) e = different (cc)
spelled x (named a b c) e = cc
spelled x (valued a b) e = different (cc)
spelled x (marked a) e = different (cc)

pub name_stands : {file : List ℕ} {ts : List Token} {kinds values places : List ℕ} → Words file ts kinds values places
    → (i : ℕ) → i < length kinds
    → (x : List ℕ) → (token_at ts i).lexeme ≡ name x → NameAt file x (get_or places i 0) (get_or values i 0)
unfolding value_of
name_stands {file} {ts} {values = values} {places = places} h i l x e =
    let t = token_at ts i in
    let s = token_stands file ts t h.cut (token_member h i l) in
    let w : take s.0 (drop t.at file) ≡ x = spelled x s.3 e in
    let k : length x ≡ s.0 = ap length (sym w) ∙ length-take-le s.0 (drop t.at file) s.2.within in
    let p : get_or places i 0 ≡ t.at = place_at h i in
    let v : get_or values i 0 ≡ s.0 = value_at h i ∙ ap value_of e ∙ k in
    let fits : s.0 ≤ length file - t.at = rw length-drop at s.2.within in
    record { long = v ∙ sym k; inside = rw (p, v) (omega (arith, s.1)); bytes = rw (p, v) w }

-- Names by kind

-- one of another kind is a keyword, a number or a mark
other_kind : (C : Lexeme → Type 0) → ((k : Keyword) → C (key k)) → ((n : ℕ) → C (number n)) → ((m : Mark) → C (mark m))
    → (l : Lexeme) → (kind_of l ≡ name_kind → ⊥) → C l
unfolding kind_of
other_kind C f g h (name x) e = absurd (e refl)
other_kind C f g h (key k) e = f k
other_kind C f g h (number n) e = g n
other_kind C f g h (mark m) e = h m

pub wrong_other : (last l : Lexeme) (vs ms : List (List ℕ)) → (kind_of l ≡ name_kind → ⊥) → wrongly last vs ms l ≡ false
unfolding wrongly
wrong_other last l vs ms = other_kind (λ l. wrongly last vs ms l ≡ false) (λ k. refl) (λ n. refl) (λ m. refl) l

pub value_other : (titles : List (List ℕ)) (l : Lexeme) → (kind_of l ≡ name_kind → ⊥) → slot_or_value titles l ≡ value_of l
unfolding slot_or_value value_of
value_other titles = other_kind (λ l. slot_or_value titles l ≡ value_of l) (λ k. refl) (λ n. refl) (λ m. refl)

pub wrong_name : (last : Lexeme) (vs ms : List (List ℕ)) (x : List ℕ)
    → wrongly last vs ms (name x) ≡ wrong_by (eqb (kind_of last) (kind_of (key k_var)))
    (eqb (kind_of last) (kind_of (key k_method)))
    (eqb (kind_of last) (kind_of (key k_monitor))) (member x vs) (member x ms)
unfolding wrongly
wrong_name last vs ms x = rw (kind_key k_var last, kind_key k_method last, kind_key k_monitor last)
