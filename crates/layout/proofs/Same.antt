-- Bytes, tokens and guards that are compared: a turn of each loop, and what kinds, values and bytes say of two lexemes.
use Prim.Native.Nat.{ℕ, zero, suc, ◌+◌, ◌-◌, ◌≤◌, ◌<◌}
use native.Mathlib.Omega.{arith}
use native.Mathlib.Nat.{add-zero}
use mathlib.Core.Path.{◌≡◌, refl, sym, ap, ◌∙◌}
use mathlib.Core.Bool.{Bool, true, false, ◌&&◌}
use mathlib.Core.List.{List, [], ◌∷◌, map, Memᴰ}
use lib.ListN.{length, drop, take, get_or, length-drop, length-map}
use lib.Seq.{drop-cons, length-take-le}
use lib.Dec.{eqb}
use Rattle.std.specs.Str.{bytes_eq}
use Rattle.std.specs.List.{list_all, range_with_len}
use Rattle.syntax.specs.Bytes.{same_bytes}
use Rattle.syntax.specs.Token.{Token, lexemes, Lexeme, name, mark, rbrace}
use Rattle.syntax.specs.Held.Kind.{kind_of, value_of, name_kind, Words}
use Rattle.syntax.specs.Spelling.{Spells}
use Rattle.syntax.proofs.Scanning.{token_stands}
use Rattle.meaning.specs.Model.{same_lexeme, same_lexemes}
use Rattle.logic.proofs.Bools.{is_false}
use Rattle.logic.proofs.Bools.{different}
use Rattle.syntax.proofs.ByKind.{is_name_lem, same_lexeme_lem}
use Rattle.meaning.proofs.SameGuards.{decides_lexeme}
use Rattle.layout.specs.Promises.{no_token, lexeme_at}

-- the first of what is left of a run, and the rest of it
pub run_turn : {A : Type 0} (l : List A) (d : A) (a n i : ℕ) → i < n → a + i < length l
    → take (n - i) (drop (a + i) l) ≡ get_or l (a + i) d ∷ take (n - (i + 1)) (drop (a + (i + 1)) l)
run_turn l d a n i h k =
    let e : n - i ≡ suc (n - (i + 1)) = omega arith in
    let f : suc (a + i) ≡ a + (i + 1) = omega arith in
    rw (drop-cons l (a + i) d k, e, f)

pub run_over : {A : Type 0} (l : List A) (a n i : ℕ) → n ≤ i → take (n - i) (drop (a + i) l) ≡ []
run_over l a n i h = let e : n - i ≡ 0 = omega arith in rw e

-- a comparison of two runs of n, past the first i of each
abbrev pub left : {A : Type 0} → (List A → List A → Bool) → List A → ℕ → ℕ → ℕ → ℕ → Bool
left agree l a b n i = agree (take (n - i) (drop (a + i) l)) (take (n - i) (drop (b + i) l))

-- it is the whole at first, goes by the first two of what is left, and is true at last
module _ {A : Type 0} (agree : List A → List A → Bool) (one : A → A → Bool) (ends : agree [] [] ≡ true)
    (step : (x y : A) (xs ys : List A) → agree (x ∷ xs) (y ∷ ys) ≡ one x y && agree xs ys) (l : List A) (d : A)
    (a b n : ℕ) where
  left_start : left agree l a b n 0 ≡ agree (take n (drop a l)) (take n (drop b l))
  left_start = let e : n - 0 ≡ n = omega arith in rw (e, add-zero, add-zero)

  left_over : (i : ℕ) → n ≤ i → left agree l a b n i ≡ true
  left_over i h = rw (run_over l a n i h, run_over l b n i h) ends

  module _ (i : ℕ) (h : i < n) (p : a + n ≤ length l) (q : b + n ≤ length l) where
    left_turn : left agree l a b n i ≡ one (get_or l (a + i) d) (get_or l (b + i) d) && left agree l a b n (i + 1)
    left_turn = rw (run_turn l d a n i h (omega arith), run_turn l d b n i h (omega arith)) (step _ _ _ _)

-- bytes, as `==` compares them
pub bytes_same : (xs ys : List ℕ) → bytes_eq xs ys ≡ same_bytes xs ys
unfolding same_bytes
bytes_same [] [] = refl
bytes_same [] (y ∷ ys) = refl
bytes_same (x ∷ xs) [] = refl
bytes_same (x ∷ xs) (y ∷ ys) = ap (λ (t : Bool). eqb x y && t) (bytes_same xs ys)

-- lexemes: two runs are the same where those at each place are
module _ (ls : List Lexeme) (a b n : ℕ) (p : a + n ≤ length ls) (q : b + n ≤ length ls) where
  all_left :
      (i m : ℕ) → i + m ≡ n
      → list_all (λ k. same_lexeme (get_or ls (a + k) (mark rbrace)) (get_or ls (b + k) (mark rbrace))) (range_with_len i m)
      ≡ left same_lexemes ls a b n i
  unfolding same_lexemes
  all_left i zero e =
      sym (left_over same_lexemes same_lexeme refl (λ x y xs ys. refl) ls (mark rbrace) a b n i (omega arith))
  all_left i (suc m) e =
      rw (all_left (i + 1) m (omega arith))
      (sym (left_turn same_lexemes same_lexeme refl (λ x y xs ys. refl) ls (mark rbrace) a b n i (omega arith) p q))

  pub tokens_all :
      list_all (λ k. same_lexeme (get_or ls (a + k) (mark rbrace)) (get_or ls (b + k) (mark rbrace))) (range_with_len 0 n)
      ≡ same_lexemes (take n (drop a ls)) (take n (drop b ls))
  unfolding same_lexemes
  tokens_all =
      all_left 0 n (omega arith)
      ∙ left_start same_lexemes same_lexeme refl (λ x y xs ys. refl) ls (mark rbrace) a b n

-- Lexemes by kind and value

module _ (k l : Lexeme) where
  pub other_kind : (kind_of k ≡ kind_of l → ⊥) → same_lexeme k l ≡ false
  other_kind n = is_false (λ h. n (ap kind_of ((decides_lexeme k l).0 h)))

  pub other_value : (value_of k ≡ value_of l → ⊥) → same_lexeme k l ≡ false
  other_value n = is_false (λ h. n (ap value_of ((decides_lexeme k l).0 h)))

  pub one_lexeme : kind_of k ≡ kind_of l → value_of k ≡ value_of l → (kind_of k ≡ name_kind → ⊥) → same_lexeme k l ≡ true
  one_lexeme e v n = (decides_lexeme k l).1 (same_lexeme_lem k l e v n)

-- The tokens of a file as numbers

pub get_d_map : {A : Type 0} (f : A → ℕ) (l : List A) (i : ℕ) (d : A) → i < length l
    → get_or (map f l) i 0 ≡ f (get_or l i d)
get_d_map f [] i d h = absurd (omega arith)
get_d_map f (x ∷ l) zero d h = refl
get_d_map f (x ∷ l) (suc i) d h = get_d_map f l i d (omega arith)

lexeme_at_lem : (ts : List Token) (i : ℕ) → get_or (lexemes ts) i (mark rbrace) ≡ (get_or ts i no_token).lexeme
unfolding lexemes
lexeme_at_lem [] i = refl
lexeme_at_lem (t ∷ ts) zero = refl
lexeme_at_lem (t ∷ ts) (suc i) = lexeme_at_lem ts i

pub kinds_of : (ts : List Token) → map (λ (t : Token). kind_of t.lexeme) ts ≡ map kind_of (lexemes ts)
unfolding lexemes
kinds_of [] = refl
kinds_of (t ∷ ts) = ap {B = List ℕ} (λ ks. kind_of t.lexeme ∷ ks) (kinds_of ts)

pub lexemes_length : (ts : List Token) → length (lexemes ts) ≡ length ts
unfolding lexemes
lexemes_length [] = refl
lexemes_length (t ∷ ts) = ap suc (lexemes_length ts)

member : (ts : List Token) (i : ℕ) → i < length ts → Memᴰ (get_or ts i no_token) ts
member [] i h = absurd (omega arith)
member (t ∷ ts) zero h = Memᴰ.head refl
member (t ∷ ts) (suc i) h = Memᴰ.tail (member ts i (omega arith))

spells_name : {w : List ℕ} {l : Lexeme} → Spells w l → (x : List ℕ) → l ≡ name x → w ≡ x
spells_name (Spells.reserved a b i) x e = different (cc)
spells_name (Spells.named a b i) x e = cc
spells_name (Spells.valued a b) x e = different (cc)
spells_name (Spells.marked i) x e = different (cc)

module _ {file : List ℕ} {ts : List Token} {kinds values places : List ℕ}
    (words : Words file ts kinds values places) where
  pub kinds_are : kinds ≡ map kind_of (lexemes ts)
  kinds_are = words.by_kind ∙ kinds_of ts

  pub kinds_length : length kinds ≡ length (lexemes ts)
  kinds_length = ap length kinds_are ∙ length-map (lexemes ts) kind_of

  module _ (i : ℕ) (h : i < length kinds) where
    in_tokens : i < length ts
    in_tokens = let e = kinds_length in let f = lexemes_length ts in omega arith

    pub kind_is : get_or kinds i 0 ≡ kind_of (lexeme_at ts i)
    kind_is =
        ap (λ (ks : List ℕ). get_or ks i 0) words.by_kind ∙ get_d_map (λ t. kind_of t.lexeme) ts i no_token in_tokens
        ∙ ap kind_of (sym (lexeme_at_lem ts i))

    pub value_is : get_or values i 0 ≡ value_of (lexeme_at ts i)
    value_is =
        ap (λ (ks : List ℕ). get_or ks i 0) words.by_value ∙ get_d_map (λ t. value_of t.lexeme) ts i no_token in_tokens
        ∙ ap value_of (sym (lexeme_at_lem ts i))

    place_is : get_or places i 0 ≡ (get_or ts i no_token).at
    place_is = ap (λ (ks : List ℕ). get_or ks i 0) words.by_place ∙ get_d_map (λ t. t.at) ts i no_token in_tokens

    -- a name's bytes stand in the file
    pub name_stands : (x : List ℕ) → lexeme_at ts i ≡ name x
        → (get_or places i 0 + length x ≤ length file) × (take (length x) (drop (get_or places i 0) file) ≡ x)
    name_stands x e =
        let t = get_or ts i no_token in
        let s = token_stands file ts t words.cut (member ts i in_tokens) in
        let w : take s.0 (drop t.at file) ≡ x = spells_name s.3 x (sym (lexeme_at_lem ts i) ∙ e) in
        let l = length-take-le s.0 (drop t.at file) s.2.within in
        let n : length x ≡ s.0 = ap length (sym w) ∙ l in
        let d = length-drop t.at file in
        let low = s.1 in
        let fits = s.2.within in
        rw place_is (omega arith, rw n w)

  -- two tokens of a file are the same lexeme by their kinds, values and bytes
  module _ (a b : ℕ) (ha : a < length kinds) (hb : b < length kinds) where
    pub kinds_differ : (get_or kinds a 0 ≡ get_or kinds b 0 → ⊥) → false ≡ same_lexeme (lexeme_at ts a) (lexeme_at ts b)
    kinds_differ n = sym (other_kind (lexeme_at ts a) (lexeme_at ts b) (λ e. n (kind_is a ha ∙ e ∙ sym (kind_is b hb))))

    pub values_differ : (get_or values a 0 ≡ get_or values b 0 → ⊥) → false ≡ same_lexeme (lexeme_at ts a) (lexeme_at ts b)
    values_differ n =
        sym (other_value (lexeme_at ts a) (lexeme_at ts b) (λ e. n (value_is a ha ∙ e ∙ sym (value_is b hb))))

    module _ (kind : get_or kinds a 0 ≡ get_or kinds b 0) (value : get_or values a 0 ≡ get_or values b 0) where
      pub no_names : (get_or kinds a 0 ≡ name_kind → ⊥) → true ≡ same_lexeme (lexeme_at ts a) (lexeme_at ts b)
      no_names n =
          sym (one_lexeme (lexeme_at ts a) (lexeme_at ts b) (sym (kind_is a ha) ∙ kind ∙ kind_is b hb)
          (sym (value_is a ha) ∙ value ∙ value_is b hb) (λ e. n (kind_is a ha ∙ e)))

      module _ (named : get_or kinds a 0 ≡ name_kind) where
        first_name : (x : List ℕ) × (lexeme_at ts a ≡ name x)
        first_name = is_name_lem (lexeme_at ts a) (sym (kind_is a ha) ∙ named)

        second_name : (y : List ℕ) × (lexeme_at ts b ≡ name y)
        second_name = is_name_lem (lexeme_at ts b) (sym (kind_is b hb) ∙ sym kind ∙ named)

        first_long : get_or values a 0 ≡ length first_name.0
        unfolding value_of
        first_long = value_is a ha ∙ ap value_of first_name.1

        second_long : get_or values a 0 ≡ length second_name.0
        unfolding value_of
        second_long = value ∙ value_is b hb ∙ ap value_of second_name.1

        pub first_fits : get_or places a 0 + get_or values a 0 ≤ length file
        first_fits = rw first_long (name_stands a ha first_name.0 first_name.1).0

        pub second_fits : get_or places b 0 + get_or values a 0 ≤ length file
        second_fits = rw second_long (name_stands b hb second_name.0 second_name.1).0

        pub names_agree : same_bytes (take (get_or values a 0) (drop (get_or places a 0) file))
            (take (get_or values a 0) (drop (get_or places b 0) file))
            ≡ same_lexeme (lexeme_at ts a) (lexeme_at ts b)
        unfolding same_lexeme
        names_agree =
            let p : take (get_or values a 0) (drop (get_or places a 0) file) ≡ first_name.0 =
            rw first_long (name_stands a ha first_name.0 first_name.1).1 in
            let q : take (get_or values a 0) (drop (get_or places b 0) file) ≡ second_name.0 =
            rw second_long (name_stands b hb second_name.0 second_name.1).1 in
            rw (p, q, first_name.1, second_name.1)
