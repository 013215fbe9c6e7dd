-- Scanning takes the longest token at a place, and a file is its tokens and blanks: each answer has its declared
-- meaning, by induction on the bytes, and each meaning one answer.
use Prim.Native.Nat.{ℕ, zero, suc, ◌+◌, ◌≤◌, ◌<◌}
use Prim.Native.String.{String}
use native.Mathlib.Omega.{arith}
use mathlib.Core.Bool.{Bool, true, false, not, ◌&&◌, ◌||◌, false≢true}
use mathlib.Core.List.Memᴰ
use mathlib.Core.List.{List, [], ◌∷◌, map, Memᴰ}
use mathlib.Core.List.{head-eq_of_cons-eq, tail-eq_of_cons-eq}
use mathlib.Core.Logic.{⊎_elim, ◌↔◌}
use mathlib.Core.Path.{◌≡◌, refl, sym, ap, subst, ◌∙◌}
use lib.ListN.{length, take, drop, get_or, length-drop}
use lib.Seq.{length-take-le, take-length, drop-drop, get_or-drop}
use lib.Dec.{leb, eqb}
use borrow.Author.Tests.{leb-true, leb-false, le-leb, lt-leb, eqb-true, eq-eqb, ne_eqb, not-true}
use Rattle.syntax.specs.Bytes.{bytes, between, blank, letter, digit, word_byte, decimal, same_bytes}
use Rattle.syntax.specs.Decide.Leading.{leading, starts_with}
use Rattle.syntax.specs.Token.{Mark, Keyword, Lexeme, name, key, number, mark, Token, keywords, marks}
use Rattle.syntax.specs.Decide.Scan.{word_of, Scan, nothing, found, at_most, mark_of, scan, Tokens, tokens, none_at}
use Rattle.syntax.specs.Decide.Scan.{prepend, tokens_from, tokenize}
use Rattle.syntax.specs.Spelling.{Every, Run, Word, Digits, Listed, TokenShape, Spells, Longest, BeginsNone}
use Rattle.syntax.specs.Spelling.{no_token, long_word, long_number, Cover, NoTokenAt}
use Rattle.logic.proofs.Bools.{split, clash, both, either, neither}

-- the places of tokens rise, from a first that they may have
abbrev pub Rising : ℕ → List Token → Type 0
Rising from [] = Unit {0}
Rising from (t ∷ ts) = (from ≤ t.at) × Rising (suc t.at) ts

-- Bytes: blanks are below digits, and digits below letters

letter_above : (b : ℕ) → letter b ≡ true → 57 < b
unfolding letter between
letter_above b h = ⊎_elim
    (λ p. omega (arith, leb-true 65 b (both (leb 65 b) (leb b 90) p).0))
    (λ p. omega (arith, leb-true 97 b (both (leb 97 b) (leb b 122) p).0))
    (either (between "A" "Z" b) (between "a" "z" b) h)

digit_range : (b : ℕ) → digit b ≡ true → (32 < b) × (b ≤ 57)
unfolding digit between
digit_range b h =
    let p = both (leb 48 b) (leb b 57) h in
    (omega (arith, leb-true 48 b p.0), leb-true b 57 p.1)

digit_not_letter : (b : ℕ) → digit b ≡ true → letter b ≡ false
digit_not_letter b h = split (letter b) (λ e. absurd (omega (arith, letter_above b e, (digit_range b h).1))) (λ e. e)

above_not_blank : (b : ℕ) → 32 < b → blank b ≡ false
unfolding blank
above_not_blank b h = rw (
  ne_eqb b 9 (omega arith),
  ne_eqb b 10 (omega arith),
  ne_eqb b 13 (omega arith),
  ne_eqb b 32 (omega arith),
)

letter_word : (b : ℕ) → letter b ≡ true → word_byte b ≡ true
unfolding word_byte
letter_word b h = rw h

-- Bytes at the front that pass a test

leading_within : (p : ℕ → Bool) (bs : List ℕ) → leading p bs ≤ length bs
unfolding leading
leading_within p [] = omega arith
leading_within p (b ∷ bs) = split (p b) (λ e. rw (e, leading) (let r = leading_within p bs in omega arith))
    (λ e. rw (e, leading) (omega arith))

leading_every : (p : ℕ → Bool) (bs : List ℕ) → Every p (take (leading p bs) bs)
unfolding leading
leading_every p [] = tt
leading_every p (b ∷ bs) = split (p b) (λ e. rw (e, leading) (e, leading_every p bs)) (λ e. rw (e, leading) tt)

leading_most : (p : ℕ → Bool) (bs : List ℕ) (k : ℕ) → k ≤ length bs → Every p (take k bs) → k ≤ leading p bs
unfolding leading
leading_most p bs zero h e = omega arith
leading_most p [] (suc k) h e = absurd (omega arith)
leading_most p (b ∷ bs) (suc k) h e = rw (e.0, leading) (let r = leading_most p bs k (omega arith) e.1 in
    omega arith)

-- such a run of bytes is all of a list whose bytes all pass
leading_all : (p : ℕ → Bool) (w : List ℕ) → Every p w → leading p w ≡ length w
unfolding leading
leading_all p [] e = refl
leading_all p (b ∷ w) e = rw (e.0, leading) (ap suc (leading_all p w e.1))

-- Lists of texts

-- two functions that agree on a list agree at each entry
agree_at : {A B : Type 0} (f g : A → B) (l : List A) → map f l ≡ map g l → {a : A} → Memᴰ a l → f a ≡ g a
agree_at f g [] h m = absurd (Memᴰ.not-nil m)
agree_at f g (x ∷ l) h m = ⊎_elim
    (λ e. rw e (head-eq_of_cons-eq h))
    (λ i. agree_at f g l (tail-eq_of_cons-eq h) i)
    (Memᴰ.cases_cons m)

starts_take : (a bs : List ℕ) → starts_with a bs ≡ true → (length a ≤ length bs) × (take (length a) bs ≡ a)
unfolding starts_with
starts_take [] bs h = (omega arith, refl)
starts_take (x ∷ a) [] h = absurd (false≢true h)
starts_take (x ∷ a) (b ∷ bs) h =
    let p = both (eqb x b) (starts_with a bs) h in
    let r = starts_take a bs p.1 in
    let e = eqb-true x b p.0 in
    (omega arith, rw (e, r.1))

take_starts : (k : ℕ) (bs : List ℕ) → starts_with (take k bs) bs ≡ true
unfolding starts_with
take_starts zero bs = refl
take_starts (suc k) [] = refl
take_starts (suc k) (b ∷ bs) = rw (eq-eqb b b refl, take_starts k bs)

same_eq : (a w : List ℕ) → same_bytes a w ≡ true → a ≡ w
unfolding same_bytes
same_eq [] [] h = refl
same_eq [] (b ∷ w) h = absurd (false≢true h)
same_eq (x ∷ a) [] h = absurd (false≢true h)
same_eq (x ∷ a) (b ∷ w) h =
    let p = both (eqb x b) (same_bytes a w) h in
    let e = eqb-true x b p.0 in
    rw (e, same_eq a w p.1)

same_refl : (w : List ℕ) → same_bytes w w ≡ true
unfolding same_bytes
same_refl [] = refl
same_refl (b ∷ w) = rw (eq-eqb b b refl, same_refl w)

-- what is listed and is not the first of the list is listed in the rest
later : {A : Type 0} (e : String × A) (l : List (String × A)) (w : List ℕ) (a : A) → (bytes e.0 ≡ w → ⊥)
    → Listed (e ∷ l) w a → Listed l w a
later e l w a differs i = ⊎_elim
    (λ (q : (i.0, a) ≡ e). absurd (differs (ap (λ (x : String × _). bytes x.0) (sym q) ∙ i.2)))
    (λ m. (i.0, m, i.2))
    (Memᴰ.cases_cons i.1)

-- Words: the first keyword with these bytes, or the name where there is none

word_cases : (ks : List (String × Keyword)) (w : List ℕ) (C : Lexeme → Type 0)
    → ((k : Keyword) → Listed ks w k → C (key k)) → (((k : Keyword) → Listed ks w k → ⊥) → C (name w)) → C (word_of ks w)
unfolding word_of
word_cases [] w C f g = g (λ k i. Memᴰ.not-nil i.1)
word_cases (e ∷ ks) w C f g = split (same_bytes (bytes e.0) w)
    (λ h. rw (h, word_of) (f e.1 (e.0, Memᴰ.head refl, same_eq (bytes e.0) w h)))
    (λ h. rw (h, word_of) (word_cases ks w C (λ k i. f k (i.0, Memᴰ.tail i.1, i.2))
    (λ none. g (λ k i. none k (later e ks w k (other h) i)))))
  where
    other : same_bytes (bytes e.0) w ≡ false → bytes e.0 ≡ w → ⊥
    other h q = clash (rw q (same_refl w)) h

-- each keyword is found by its text
keywords_found : map (λ e. word_of keywords (bytes e.0)) keywords ≡ map (λ e. key e.1) keywords
unfolding keywords word_of bytes same_bytes
keywords_found = refl

keyword_found : (w : List ℕ) (k : Keyword) → Listed keywords w k → word_of keywords w ≡ key k
keyword_found w k i = ap (word_of keywords) (sym i.2) ∙ agree_at (λ e. word_of keywords (bytes e.0))
    (λ e. key e.1) keywords keywords_found i.1

-- Marks: those of two bytes stand first, so that the first mark in front is the longest

-- each entry of a list passes a test
unfoldable pub passes : {A : Type 0} → (A → Bool) → List A → Bool
passes p [] = true
passes p (x ∷ l) = p x && passes p l

pub passes_at : {A : Type 0} (p : A → Bool) (l : List A) → passes p l ≡ true → {a : A} → Memᴰ a l → p a ≡ true
unfolding passes
passes_at p [] h m = absurd (Memᴰ.not-nil m)
passes_at p (x ∷ l) h m =
    let b = both (p x) (passes p l) h in
    ⊎_elim (λ e. rw e b.0) (λ i. passes_at p l b.1 i) (Memᴰ.cases_cons m)

size : String × Mark → ℕ
size e = length (bytes e.0)

falling : List (String × Mark) → Bool
falling [] = true
falling (e ∷ ms) = passes (λ y. leb (size y) (size e)) (e ∷ ms) && falling ms

-- the bytes at the front, n of them, are those of a mark of the list
abbrev Front : List (String × Mark) → List ℕ → ℕ → Mark → Type 0
Front ms bs n m = (n ≤ length bs) × Listed ms (take n bs) m

mark_cases : (ms : List (String × Mark)) (bs : List ℕ) (C : Scan → Type 0) → falling ms ≡ true
    → ((n : ℕ) (m : Mark) → Front ms bs n m → ((j : ℕ) (o : Mark) → Front ms bs j o → j ≤ n) → C (found (mark m) n))
    → (((j : ℕ) (o : Mark) → Front ms bs j o → ⊥) → C nothing) → C (mark_of ms bs)
unfolding mark_of falling size
mark_cases [] bs C d f g = g (λ j o i. Memᴰ.not-nil i.1.1)
mark_cases (e ∷ ms) bs C d f g =
    let b = both (passes (λ y. leb (size y) (size e)) (e ∷ ms)) (falling ms) d in
    split (starts_with (bytes e.0) bs)
    (λ h. let p = starts_take (bytes e.0) bs h in
    rw (h, mark_of) (f (size e) e.1 (p.0, (e.0, Memᴰ.head refl, sym p.1)) (bounded b.0)))
    (λ h. rw (h, mark_of) (mark_cases ms bs C b.1
    (λ n m i top. f n m (i.0, (i.1.0, Memᴰ.tail i.1.1, i.1.2)) (λ j o k. top j o (rest h j o k)))
    (λ none. g (λ j o k. none j o (rest h j o k)))))
  where
    bounded : passes (λ y. leb (size y) (size e)) (e ∷ ms) ≡ true → (j : ℕ) (o : Mark) → Front (e ∷ ms) bs j o
        → j ≤ size e
    bounded h j o i =
        let l = leb-true (size (i.1.0, o)) (size e) (passes_at (λ y. leb (size y) (size e)) (e ∷ ms) h i.1.1) in
        omega (arith, ap length i.1.2 ∙ length-take-le j bs i.0)

    rest : starts_with (bytes e.0) bs ≡ false → (j : ℕ) (o : Mark) → Front (e ∷ ms) bs j o → Front ms bs j o
    rest h j o i = (i.0, later e ms (take j bs) o (λ q. clash (rw q (take_starts j bs)) h) i.1)

marks_falling : falling marks ≡ true
unfolding falling passes size marks bytes
marks_falling = refl

-- each mark is found by its text
marks_found : map (λ e. mark_of marks (bytes e.0)) marks
    ≡ map (λ e. found (mark e.1) (length (bytes e.0))) marks
unfolding marks mark_of bytes starts_with
marks_found = refl

mark_found : (w : List ℕ) (m : Mark) → Listed marks w m → mark_of marks w ≡ found (mark m) (length w)
mark_found w m i = subst (λ (v : List ℕ). mark_of marks v ≡ found (mark m) (length v)) i.2
    (agree_at (λ e. mark_of marks (bytes e.0)) (λ e. found (mark e.1) (length (bytes e.0))) marks marks_found
    i.1)

-- no mark begins with a letter, a digit or a blank
apart : List ℕ → Bool
apart [] = false
apart (b ∷ w) = not (letter b || digit b || blank b)

marks_apart : passes (λ e. apart (bytes e.0)) marks ≡ true
unfolding passes apart marks bytes letter digit blank between
marks_apart = refl

mark_apart : (w : List ℕ) (m : Mark) → Listed marks w m → apart w ≡ true
mark_apart w m i = ap apart (sym i.2) ∙ passes_at (λ e. apart (bytes e.0)) marks marks_apart i.1

apart_not : (b : ℕ) (w : List ℕ) → apart (b ∷ w) ≡ true → (letter b ≡ false) × (digit b ≡ false) × (blank b ≡ false)
unfolding apart
apart_not b w h =
    let p = neither (letter b || digit b) (blank b) (not-true (letter b || digit b || blank b) h) in
    let q = neither (letter b) (digit b) p.0 in
    (q.0, q.1, p.1)

-- What a shape that begins with a byte is, by the byte

no_shape : TokenShape [] → ⊥
unfolding apart
no_shape (TokenShape.a_word h) = h
no_shape (TokenShape.a_number h) = h
no_shape (TokenShape.a_mark {m = m} i) = false≢true (mark_apart [] m i)

letter_shape : (b : ℕ) (w : List ℕ) → letter b ≡ true → TokenShape (b ∷ w) → Every word_byte (b ∷ w)
letter_shape b w l (TokenShape.a_word h) = (letter_word b l, h.1)
letter_shape b w l (TokenShape.a_number h) = clash l (digit_not_letter b h.0)
letter_shape b w l (TokenShape.a_mark {m = m} i) = clash l (apart_not b w (mark_apart (b ∷ w) m i)).0

digit_shape : (b : ℕ) (w : List ℕ) → digit b ≡ true → TokenShape (b ∷ w) → Every digit (b ∷ w)
digit_shape b w d (TokenShape.a_word h) = clash h.0 (digit_not_letter b d)
digit_shape b w d (TokenShape.a_number h) = h
digit_shape b w d (TokenShape.a_mark {m = m} i) = clash d (apart_not b w (mark_apart (b ∷ w) m i)).1

other_shape : (b : ℕ) (w : List ℕ) → letter b ≡ false → digit b ≡ false → TokenShape (b ∷ w)
    → (m : Mark) × Listed marks (b ∷ w) m
other_shape b w l d (TokenShape.a_word h) = clash h.0 l
other_shape b w l d (TokenShape.a_number h) = clash h.0 d
other_shape b w l d (TokenShape.a_mark {m = m} i) = (m, i)

shape_not_blank : (b : ℕ) (w : List ℕ) → TokenShape (b ∷ w) → blank b ≡ false
shape_not_blank b w (TokenShape.a_word h) = above_not_blank b (omega (arith, letter_above b h.0))
shape_not_blank b w (TokenShape.a_number h) = above_not_blank b (digit_range b h.0).0
shape_not_blank b w (TokenShape.a_mark {m = m} i) = (apart_not b w (mark_apart (b ∷ w) m i)).2

-- The answer of a scan has its meaning

abbrev Means : List ℕ → Scan → Type 0
Means bs nothing = BeginsNone bs
Means bs (found l n) = Longest bs n × Spells (take n bs) l

at_most_means : (bs : List ℕ) (limit n : ℕ) (l : Lexeme) → (n ≤ limit → Longest bs n × Spells (take n bs) l)
    → (limit < n → BeginsNone bs)
    → Means bs (at_most limit n l)
unfolding at_most
at_most_means bs limit n l f g = split (leb n limit)
    (λ h. rw (h, at_most) (f (leb-true n limit h)))
    (λ h. rw (h, at_most) (g (leb-false n limit h)))

-- a word or a number at the front: a run of bytes in which every shape at the front lies
module _ (first rest : ℕ → Bool) (b : ℕ) (bs : List ℕ) (f : first b ≡ true) (r : rest b ≡ true)
    (shaped : (w : List ℕ) → Run first rest w → TokenShape w) (holds : (w : List ℕ) → TokenShape (b ∷ w)
    → Every rest (b ∷ w)) where
  run_leading : Run first rest (take (leading rest (b ∷ bs)) (b ∷ bs))
  unfolding leading
  run_leading = rw (r, leading) (f, leading_every rest bs)

  run_longest : Longest (b ∷ bs) (leading rest (b ∷ bs))
  run_longest = record {
    within = leading_within rest (b ∷ bs);
    shape = shaped (take (leading rest (b ∷ bs)) (b ∷ bs)) run_leading;
    longest = no_longer;
  }
    where
      no_longer : (k : ℕ) → leading rest (b ∷ bs) < k → k ≤ length (b ∷ bs) → TokenShape (take k (b ∷ bs)) → ⊥
      no_longer zero h i s = omega arith
      no_longer (suc k) h i s = let m = leading_most rest (b ∷ bs) (suc k) i (holds (take k bs) s) in omega arith

  -- of a length that is allowed it spells something, and beyond it is too long
  run_means : (limit : ℕ) (lexeme : List ℕ → Lexeme)
      → ((w : List ℕ) → Run first rest w → length w ≤ limit → Spells w (lexeme w))
      → ((n : ℕ) → Longest (b ∷ bs) n → Run first rest (take n (b ∷ bs)) → limit < n → BeginsNone (b ∷ bs))
      → Means (b ∷ bs) (at_most limit (leading rest (b ∷ bs)) (lexeme (take (leading rest (b ∷ bs)) (b ∷ bs))))
  run_means limit lexeme s t =
      let n = leading rest (b ∷ bs) in
      at_most_means (b ∷ bs) limit n (lexeme (take n (b ∷ bs)))
      (λ h. (
        run_longest,
        s (take n (b ∷ bs)) run_leading (rw (length-take-le n (b ∷ bs) (leading_within rest (b ∷ bs))) h),
      ))
      (λ h. t n run_longest run_leading h)

word_spells : (w : List ℕ) → Word w → length w ≤ 16 → Spells w (word_of keywords w)
word_spells w h n = word_cases keywords w (Spells w) (λ k i. Spells.reserved h n i) (λ i. Spells.named h n i)

word_means : (b : ℕ) (bs : List ℕ) → letter b ≡ true → Means (b ∷ bs) (scan (b ∷ bs))
unfolding scan
word_means b bs l =
    rw (l, scan)
    (run_means letter word_byte b bs l (letter_word b l) (λ w h. TokenShape.a_word h) (λ w s. letter_shape b w l s)
    16 (word_of keywords) word_spells (λ n. long_word))

number_means : (b : ℕ) (bs : List ℕ) → digit b ≡ true → Means (b ∷ bs) (scan (b ∷ bs))
unfolding scan
number_means b bs d =
    rw (digit_not_letter b d, scan, d, scan)
    (run_means digit digit b bs d d (λ w h. TokenShape.a_number h) (λ w s. digit_shape b w d s)
    3 (λ w. number (decimal 0 w)) (λ w h n. Spells.valued h n) (λ n. long_number))

mark_means : (b : ℕ) (bs : List ℕ) → letter b ≡ false → digit b ≡ false → Means (b ∷ bs) (scan (b ∷ bs))
unfolding scan
mark_means b bs l d =
    rw (l, scan, d, scan)
    (mark_cases marks (b ∷ bs) (Means (b ∷ bs)) marks_falling
    (λ n m i top. (
      record { within = i.0; shape = TokenShape.a_mark i.1; longest = no_longer n top },
      Spells.marked i.1,
    ))
    (λ none. no_token (λ k w s. let f = front k w s in none k f.0 f.1)))
  where
    -- a shape at the front is a mark
    front : (k : ℕ) → k ≤ length (b ∷ bs) → TokenShape (take k (b ∷ bs)) → (m : Mark) × Front marks (b ∷ bs) k m
    front zero w s = absurd (no_shape s)
    front (suc k) w s = let o = other_shape b (take k bs) l d s in (o.0, (w, o.1))

    no_longer : (n : ℕ) → ((j : ℕ) (o : Mark) → Front marks (b ∷ bs) j o → j ≤ n)
        → (k : ℕ) → n < k → k ≤ length (b ∷ bs) → TokenShape (take k (b ∷ bs)) → ⊥
    no_longer n top k h w s = let f = front k w s in omega (arith, top k f.0 f.1)

scan_means : (bs : List ℕ) → Means bs (scan bs)
unfolding scan
scan_means [] = no_token (λ k w s. none k s)
  where
    none : (k : ℕ) → TokenShape (take k []) → ⊥
    none zero s = no_shape s
    none (suc k) s = no_shape s
scan_means (b ∷ bs) = split (letter b) (word_means b bs) (λ l. split (digit b) (number_means b bs) (mark_means b bs l))

-- A meaning has one answer only

longest_most : (bs : List ℕ) (m n : ℕ) → Longest bs m → Longest bs n → n ≤ m
longest_most bs m n p q =
    split (leb n m) (leb-true n m) (λ h. absurd (p.longest n (leb-false n m h) q.within q.shape))

longest_unique : (bs : List ℕ) (m n : ℕ) → Longest bs m → Longest bs n → m ≡ n
longest_unique bs m n p q = omega (arith, longest_most bs m n p q, longest_most bs n m q p)

-- what a word, a number or a mark scans to by itself
scan_word : (w : List ℕ) → Word w → scan w ≡ at_most 16 (length w) (word_of keywords w)
unfolding scan
scan_word [] h = absurd h
scan_word (b ∷ w) h =
    rw (h.0, scan, leading_all word_byte (b ∷ w) (letter_word b h.0, h.1), take-length (b ∷ w))

scan_digits : (w : List ℕ) → Digits w → scan w ≡ at_most 3 (length w) (number (decimal 0 w))
unfolding scan
scan_digits [] h = absurd h
scan_digits (b ∷ w) h =
    rw (digit_not_letter b h.0, scan, h.0, scan, leading_all digit (b ∷ w) h, take-length (b ∷ w))

scan_mark : (w : List ℕ) (m : Mark) → Listed marks w m → scan w ≡ found (mark m) (length w)
unfolding scan
scan_mark [] m i = absurd (no_shape (TokenShape.a_mark i))
scan_mark (b ∷ w) m i =
    let o = apart_not b w (mark_apart (b ∷ w) m i) in
    rw (o.0, scan, o.1, scan) (mark_found (b ∷ w) m i)

at_most_found : (limit n : ℕ) (l : Lexeme) → n ≤ limit → at_most limit n l ≡ found l n
unfolding at_most
at_most_found limit n l h = rw (le-leb n limit h, at_most)

at_most_nothing : (limit n : ℕ) (l : Lexeme) → limit < n → at_most limit n l ≡ nothing
unfolding at_most
at_most_nothing limit n l h = rw (lt-leb n limit h, at_most)

name_found : (w : List ℕ) → ((k : Keyword) → Listed keywords w k → ⊥) → word_of keywords w ≡ name w
name_found w h = word_cases keywords w (λ l. l ≡ name w) (λ k i. absurd (h k i)) (λ n. refl)

spells_scan : (w : List ℕ) {l : Lexeme} → Spells w l → scan w ≡ found l (length w)
spells_scan w (Spells.reserved {k = k} h n i) =
    scan_word w h ∙ at_most_found 16 (length w) (word_of keywords w) n ∙ ap (λ (x : Lexeme). found x (length w))
    (keyword_found w k i)
spells_scan w (Spells.named h n i) =
    scan_word w h ∙ at_most_found 16 (length w) (word_of keywords w) n ∙ ap (λ (x : Lexeme). found x (length w))
    (name_found w i)
spells_scan w (Spells.valued h n) = scan_digits w h ∙ at_most_found 3 (length w) (number (decimal 0 w)) n
spells_scan w (Spells.marked {m = m} i) = scan_mark w m i

pub spells_unique : (w : List ℕ) {l m : Lexeme} → Spells w l → Spells w m → l ≡ m
spells_unique w {l} {m} p q =
    let e = spells_scan w p in
    let f = spells_scan w q in
    cc

spells_no_other : (w : List ℕ) {l : Lexeme} → Spells w l → scan w ≡ nothing → ⊥
spells_no_other w s e =
    let f = spells_scan w s in
    let z : ◌≡◌ {A = ℕ} 0 1 = cc in
    omega arith

begins_none_alone : (bs : List ℕ) (n : ℕ) {l : Lexeme} → BeginsNone bs → Longest bs n → Spells (take n bs) l → ⊥
begins_none_alone bs n (no_token f) p s = f n p.within p.shape
begins_none_alone bs n (long_word {n = m} q h i) p s =
    let e = longest_unique bs m n q p in
    let k : 16 < length (take n bs) = rw (length-take-le n bs p.within) (omega arith) in
    spells_no_other (take n bs) s (scan_word (take n bs) (rw e at h) ∙ at_most_nothing 16 (length (take n bs))
    (word_of keywords (take n bs)) k)
begins_none_alone bs n (long_number {n = m} q h i) p s =
    let e = longest_unique bs m n q p in
    let k : 3 < length (take n bs) = rw (length-take-le n bs p.within) (omega arith) in
    spells_no_other (take n bs) s (scan_digits (take n bs) (rw e at h) ∙ at_most_nothing 3 (length (take n bs))
    (number (decimal 0 (take n bs))) k)

-- Theorem 1: what scanning finds is the longest token that stands there, and it finds nothing where none begins

pub scan_found : (bs : List ℕ) (l : Lexeme) (n : ℕ) → (scan bs ≡ found l n) ↔ (Longest bs n × Spells (take n bs) l)
scan_found bs l n = (λ e. subst (Means bs) e (scan_means bs), λ p. go (scan bs) (scan_means bs) p.0 p.1)
  where
    go : (s : Scan) → Means bs s → Longest bs n → Spells (take n bs) l → s ≡ found l n
    go nothing m p q = absurd (begins_none_alone bs n m p q)
    go (found k i) m p q =
        let e = longest_unique bs i n m.0 p in
        let r : Spells (take n bs) k = rw e at m.1 in
        let f = spells_unique (take n bs) r q in
        cc

pub scan_nothing : (bs : List ℕ) → (scan bs ≡ nothing) ↔ BeginsNone bs
scan_nothing bs = (λ e. subst (Means bs) e (scan_means bs), λ p. go (scan bs) (scan_means bs) p)
  where
    go : (s : Scan) → Means bs s → BeginsNone bs → s ≡ nothing
    go nothing m p = refl
    go (found k i) m p = absurd (begins_none_alone bs i p m.0 m.1)

-- The steps of cutting bytes into tokens

-- bytes that are passed over are left out
passed_over : (at n : ℕ) (bs : List ℕ) → tokens_from at n bs ≡ tokens_from (at + n) 0 (drop n bs)
unfolding tokens_from
passed_over at zero [] = refl
passed_over at (suc n) [] = refl
passed_over at zero (b ∷ bs) = ap (λ (k : ℕ). tokens_from k 0 (b ∷ bs)) (omega arith)
passed_over at (suc n) (b ∷ bs) = passed_over (at + 1) n bs ∙ ap (λ (k : ℕ). tokens_from k 0 (drop n bs)) (omega arith)

step_blank : (at b : ℕ) (bs : List ℕ) → blank b ≡ true → tokens_from at 0 (b ∷ bs) ≡ tokens_from (at + 1) 0 bs
unfolding tokens_from
step_blank at b bs h = rw (h, tokens_from)

step_token : (at n : ℕ) (bs : List ℕ) (l : Lexeme) → Longest bs n → Spells (take n bs) l
    → tokens_from at 0 bs ≡ prepend at l (tokens_from (at + n) 0 (drop n bs))
unfolding tokens_from
step_token at zero bs l p s = absurd (no_shape p.shape)
step_token at (suc n) [] l p s = absurd (no_shape p.shape)
step_token at (suc n) (b ∷ bs) l p s =
    rw (shape_not_blank b (take n bs) p.shape, tokens_from, (scan_found (b ∷ bs) l (suc n)).1 (p, s), tokens_from)
    (ap (prepend at l) (ap (λ (k : ℕ). tokens_from (at + 1) k bs) (omega arith) ∙ passed_over at (suc n) (b ∷ bs)))

step_none : (at b : ℕ) (bs : List ℕ) → blank b ≡ false → BeginsNone (b ∷ bs) → tokens_from at 0 (b ∷ bs) ≡ none_at at
unfolding tokens_from
step_none at b bs h p = rw (h, tokens_from, (scan_nothing (b ∷ bs)).1 p, tokens_from)

-- A cover is what cutting answers
cover_tokens : {at : ℕ} {bs : List ℕ} {ts : List Token} → Cover at bs ts → tokens_from at 0 bs ≡ tokens ts
unfolding tokens_from prepend
cover_tokens Cover.done = refl
cover_tokens (Cover.skip {at = at} {b = b} {bs = bs} h c) = step_blank at b bs h ∙ cover_tokens c
cover_tokens (Cover.token {at = at} {n = n} {l = l} {bs = bs} p s c) =
    step_token at n bs l p s ∙ ap (prepend at l) (cover_tokens c)

stops_none : {k at : ℕ} {bs : List ℕ} → NoTokenAt k at bs → tokens_from at 0 bs ≡ none_at k
unfolding prepend
stops_none (NoTokenAt.here {b = b} {bs = bs} h p) = step_none _ b bs h p
stops_none (NoTokenAt.skip {at = at} {b = b} {bs = bs} h c) = step_blank at b bs h ∙ stops_none c
stops_none (NoTokenAt.token {at = at} {n = n} {l = l} {bs = bs} p s c) =
    step_token at n bs l p s ∙ ap (prepend at l) (stops_none c)

-- The answer has its meaning: shown of all that a list ends in, as the bytes behind a token are
abbrev Answers : ℕ → List ℕ → Tokens → Type 0
Answers at bs (tokens ts) = Cover at bs ts
Answers at bs (none_at k) = NoTokenAt k at bs

answers_skip : (at b : ℕ) (bs : List ℕ) (t : Tokens) → blank b ≡ true → Answers (at + 1) bs t → Answers at (b ∷ bs) t
answers_skip at b bs (tokens ts) h a = Cover.skip h a
answers_skip at b bs (none_at k) h a = NoTokenAt.skip h a

answers_token : (at n : ℕ) (bs : List ℕ) (l : Lexeme) (t : Tokens) → Longest bs n → Spells (take n bs) l
    → Answers (at + n) (drop n bs) t → Answers at bs (prepend at l t)
unfolding prepend
answers_token at n bs l (tokens ts) p s a = Cover.token p s a
answers_token at n bs l (none_at k) p s a = NoTokenAt.token p s a

answered : (bs : List ℕ) (n at : ℕ) → Answers at (drop n bs) (tokens_from at 0 (drop n bs))
unfolding tokens_from
answered [] zero at = Cover.done
answered [] (suc n) at = Cover.done
answered (b ∷ bs) (suc n) at = answered bs n at
answered (b ∷ bs) zero at = split (blank b)
    (λ q. rw (step_blank at b bs q) (answers_skip at b bs (tokens_from (at + 1) 0 bs) q (answered bs 0 (at + 1))))
    (λ q. scanned q (λ n k. answered bs n k) (scan (b ∷ bs)) (scan_means (b ∷ bs)))
  where
    scanned : blank b ≡ false → ((n k : ℕ) → Answers k (drop n bs) (tokens_from k 0 (drop n bs)))
        → (s : Scan) → Means (b ∷ bs) s → Answers at (b ∷ bs) (tokens_from at 0 (b ∷ bs))
    scanned q behind nothing m = rw (step_none at b bs q m) (NoTokenAt.here q m)
    scanned q behind (found l zero) m = absurd (no_shape m.0.shape)
    scanned q behind (found l (suc n)) m = rw (step_token at (suc n) (b ∷ bs) l m.0 m.1)
        (answers_token at (suc n) (b ∷ bs) l (tokens_from (at + suc n) 0 (drop n bs)) m.0 m.1
        (behind n (at + suc n)))

-- Theorem 2: tokens and blanks make up the whole file, or make it up as far as the first place that begins no token

pub tokenize_tokens : (file : List ℕ) (ts : List Token) → (tokenize file ≡ tokens ts) ↔ Cover 0 file ts
unfolding tokenize
tokenize_tokens file ts = (λ e. subst (Answers 0 file) e (answered file 0 0), cover_tokens)

pub tokenize_none : (file : List ℕ) (k : ℕ) → (tokenize file ≡ none_at k) ↔ NoTokenAt k 0 file
unfolding tokenize
tokenize_none file k = (λ e. subst (Answers 0 file) e (answered file 0 0), stops_none)

-- Theorem 3: where the places are in the file

longest_some : (bs : List ℕ) (n : ℕ) → Longest bs n → 0 < n
longest_some bs zero p = absurd (no_shape p.shape)
longest_some bs (suc n) p = omega arith

stops_place : {k at : ℕ} {bs : List ℕ} → NoTokenAt k at bs
    → (j : ℕ) × (k ≡ at + j) × (j < length bs) × (blank (get_or bs j 0) ≡ false) × BeginsNone (drop j bs)
stops_place (NoTokenAt.here h p) = (0, omega arith, omega arith, h, p)
stops_place (NoTokenAt.skip h c) = let r = stops_place c in let e = r.1 in let l = r.2 in
    (suc r.0, omega arith, omega arith, r.3, r.4)
stops_place (NoTokenAt.token {n = n} {bs = bs} p s c) =
    let r = stops_place c in
    let e = r.1 in
    let l = rw length-drop at r.2 in
    (n + r.0, omega arith, omega arith, rw get_or-drop at r.3, rw drop-drop at r.4)

-- the byte at the place of a refusal is in the file, is no blank and begins no token
pub none_place : (file : List ℕ) (k : ℕ) → tokenize file ≡ none_at k
    → (k < length file) × (blank (get_or file k 0) ≡ false) × BeginsNone (drop k file)
none_place file k h =
    let r = stops_place ((tokenize_none file k).0 h) in
    let l = r.2 in
    let e : r.0 ≡ k = omega (arith, r.1) in
    (omega arith, rw e at r.3, rw e at r.4)

token_place : {at : ℕ} {bs : List ℕ} {ts : List Token} {t : Token} → Cover at bs ts → Memᴰ t ts
    → (j n : ℕ) × (t.at ≡ at + j) × Longest (drop j bs) n × Spells (take n (drop j bs)) t.lexeme
token_place Cover.done m = absurd (Memᴰ.not-nil m)
token_place (Cover.skip h c) m = let r = token_place c m in let e = r.2 in (suc r.0, r.1, omega arith, r.3, r.4)
token_place {t = t} (Cover.token {at = at} {n = n} {l = l} {bs = bs} p s c) m = ⊎_elim
    (λ (e : t ≡ record { at = at; lexeme = l }). (0, n, ap (λ (x : Token). x.at) e ∙ omega arith, p, rw e s))
    (λ i. let r = token_place c i in let e = r.2 in
    (n + r.0, r.1, omega arith, rw drop-drop at r.3, rw drop-drop at r.4))
    (Memᴰ.cases_cons m)

-- each token is in the file, and its bytes stand at its place
pub token_stands : (file : List ℕ) (ts : List Token) (t : Token) → tokenize file ≡ tokens ts → Memᴰ t ts
    → (n : ℕ) × (t.at < length file) × Longest (drop t.at file) n × Spells (take n (drop t.at file)) t.lexeme
token_stands file ts t h m =
    let r = token_place ((tokenize_tokens file ts).0 h) m in
    let e : r.0 ≡ t.at = omega (arith, r.2) in
    let p : Longest (drop t.at file) r.1 = rw e at r.3 in
    let some_bytes = longest_some (drop t.at file) r.1 p in
    let fits = rw length-drop at p.within in
    (r.1, omega arith, p, rw e at r.4)

-- the places rise
rising_from : (j k : ℕ) (ts : List Token) → j ≤ k → Rising k ts → Rising j ts
rising_from j k [] h r = tt
rising_from j k (t ∷ ts) h r = (omega (arith, r.0), r.1)

cover_rising : {at : ℕ} {bs : List ℕ} {ts : List Token} → Cover at bs ts → Rising at ts
cover_rising Cover.done = tt
cover_rising (Cover.skip {at = at} {ts = ts} h c) = rising_from at (at + 1) ts (omega arith) (cover_rising c)
cover_rising (Cover.token {at = at} {n = n} {bs = bs} {ts = ts} p s c) =
    (omega arith, rising_from (suc at) (at + n) ts (omega (arith, longest_some bs n p)) (cover_rising c))

pub tokens_rise : (file : List ℕ) (ts : List Token) → tokenize file ≡ tokens ts → Rising 0 ts
tokens_rise file ts h = cover_rising ((tokenize_tokens file ts).0 h)
