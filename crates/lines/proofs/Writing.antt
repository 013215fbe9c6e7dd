-- What is written of each value and each thread of a record: two digits each, and all of them together, which is the
-- record's line; and a line that is put where there is room, or not put.
use Prim.Native.Nat.{ℕ, suc, ◌+◌, ◌*◌, ◌%◌, ◌<◌, ◌≤◌}
use mathlib.Core.Path.{◌≡◌, refl, ap, sym, ◌∙◌}
use mathlib.Core.List.{List, [], ◌∷◌, ◌++◌}
use native.Mathlib.Nat.{add-zero, zero-add, mod-eq_of_lt}
use native.Mathlib.Omega.{arith}
use lib.ListN.{length, get_or, get_or-map, take}
use lib.Seq.{length-take-le}
use Rattle.std.proofs.lemmas.List.{get_or-take}
use lib.IntN.{ℤ, pos, ◌+ℤ◌, nat_abs, -ℤ-+ℤ_cancel}
use Rattle.machine.specs.Monitor as machine
use Rattle.meaning.specs.Held.{Offset}
use Rattle.meaning.specs.Calls as calls
use Rattle.meaning.specs.Hex.{hex2}
use Rattle.meaning.specs.Decide.Table.{for_each}
use Rattle.meaning.specs.Lines.{place_byte, value_digits, place_digits, record_line}
use Rattle.threads.specs.Held.{place_of, idle_thread, places_of}
use Rattle.threads.specs.declared.Thread.{Thread}
use Rattle.digits.specs.Written.{Writes}
use Rattle.digits.proofs.ForEach.{for_each_length, for_each_same}
use Rattle.lines.specs.Written.{Fits, byte_of, value_at, place_at, each_at, values_at, places_at, held_line}
use Rattle.lines.specs.Written.{PutsLine}

pub value_two : (values : List ℕ) (k : ℕ) → length (value_at values k) ≡ 2
unfolding value_at hex2
value_two values k = refl

pub place_two : (threads : List Thread) (t : ℕ) → length (place_at threads t) ≡ 2
unfolding place_at hex2
place_two threads t = refl

-- what f gives for the places of a list is what h gives for its elements, joined
module _ {A : Type 0} (h : A → List ℕ) (joined : List A → List ℕ) (none : joined [] ≡ [])
    (more : (a : A) (as' : List A) → joined (a ∷ as') ≡ h a ++ joined as') (d : A) where
  pub each : (l : List A) (k : ℕ) (f : ℕ → List ℕ) → ((j : ℕ) → j < length l → f (k + j) ≡ h (get_or l j d))
      → for_each (length l) k f ≡ joined l
  unfolding for_each
  each [] k f e = sym none
  each (a ∷ l) k f e =
      let here : f k ≡ h a = rw add-zero at (e 0 (omega arith)) in
      let rest : for_each (length l) (k + 1) f ≡ joined l =
      each l (k + 1) f (λ j lt. let q : (k + 1) + j ≡ k + suc j = omega arith in rw q (e (suc j) (omega arith))) in
      rw (here, rest, more)

-- a value with 128 added
pub offset_abs : (a : ℤ) (n : ℕ) → Offset a n → nat_abs (a +ℤ pos 128) ≡ n
unfolding Offset
offset_abs a n e = rw (e, -ℤ-+ℤ_cancel (pos n) (pos 128))

byte_is : (p : machine.Place) → ((r : ℕ) → p ≡ machine.due r → r < 16) → byte_of p ≡ place_byte p
unfolding byte_of place_byte
byte_is machine.idle h = refl
byte_is (machine.waiting r) h = refl
byte_is (machine.due r) h = rw (mod-eq_of_lt (h r refl))

module _ {rec : calls.Record} {vars : ℕ} {values : List ℕ} {threads : List Thread} (fits : Fits rec vars values threads)
  where
    values_are : values_at values vars ≡ value_digits rec.values
    unfolding values_at value_digits value_at
    values_are =
        rw fits.counted
        (each (λ a. hex2 (nat_abs (a +ℤ pos 128))) value_digits refl (λ a as'. refl) (pos 0) rec.values 0
        (value_at values)
        (λ j lt.
        let value = offset_abs _ _ (fits.held j lt) in
        let byte : get_or values j 0 % 256 ≡ get_or values j 0 =
        mod-eq_of_lt (omega (arith, value, fits.digits.values j lt)) in
        rw (zero-add, byte, value)))

    place_is : (t : ℕ) → places_of threads t ≡ get_or rec.places t machine.idle
    unfolding places_of idle_thread place_of
    place_is t = sym (get_or-map (λ t. place_of t.place) threads t idle_thread)
        ∙ ap (λ (ps : List machine.Place). get_or ps t machine.idle) fits.places

    places_are : places_at threads 16 ≡ place_digits rec.places
    unfolding places_at place_digits place_at
    places_are =
        rw (← fits.digits.sixteen)
        (each (λ p. hex2 (place_byte p)) place_digits refl (λ p ps. refl) machine.idle rec.places 0 (place_at threads)
        (λ j lt. rw (zero-add, place_is j, byte_is _ (fits.digits.dues j))))

    -- what is written of a record that is held is the record's line
    pub held_line_lem : held_line vars values threads ≡ record_line rec
    unfolding held_line record_line
    held_line_lem = rw (values_are, places_are)

pub each_length : (bytes : List ℕ) (n : ℕ) → length (each_at bytes n) ≡ 2 * n
unfolding each_at hex2
each_length bytes n = for_each_length 2 n 0 (λ k. hex2 (get_or bytes k 0)) (λ k. refl)

-- of a list's first bytes
pub each_take : (bytes : List ℕ) (n : ℕ) → n ≤ length bytes
    → each_at (take n bytes) (length (take n bytes)) ≡ each_at bytes n
unfolding each_at
each_take bytes n h =
    rw (length-take-le n bytes h)
    (for_each_same n 0 _ _ (λ k l. ap hex2 (get_or-take n bytes k 0 (omega arith))))

pub values_length : (values : List ℕ) (n : ℕ) → length (values_at values n) ≡ 2 * n
unfolding values_at
values_length values n = for_each_length 2 n 0 (value_at values) (value_two values)

pub places_length : (threads : List Thread) (n : ℕ) → length (places_at threads n) ≡ 2 * n
unfolding places_at
places_length threads n = for_each_length 2 n 0 (place_at threads) (place_two threads)

-- the digits of the bytes of values, and of places, are theirs
pub values_each :
    (values bytes : List ℕ) (n : ℕ) → ((k : ℕ) → k < n → get_or bytes k 0 ≡ get_or values k 0 % 256)
    → each_at bytes n ≡ values_at values n
unfolding each_at values_at value_at
values_each values bytes n e = for_each_same n 0 _ _ (λ k h. ap hex2 (e k (omega arith)))

pub places_each :
    (threads : List Thread) (bytes : List ℕ) (n : ℕ) → ((t : ℕ) → t < n → get_or bytes t 0 ≡ byte_of (places_of threads t))
    → each_at bytes n ≡ places_at threads n
unfolding each_at places_at place_at
places_each threads bytes n e = for_each_same n 0 _ _ (λ t h. ap hex2 (e t (omega arith)))

pub put : {line before after : List ℕ} {room : Type 0} {at next : ℕ} → room → Writes line before at next after
    → PutsLine line room before at next after
put r w = record { written = λ _. w; kept = λ full. absurd (full r) }

pub not_put : {line before : List ℕ} {room : Type 0} {at : ℕ} → (room → ⊥) → PutsLine line room before at at before
not_put full = record { written = λ r. absurd (full r); kept = λ _. (refl, refl) }
