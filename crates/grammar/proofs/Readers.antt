-- How a reader of lexemes goes on from a place: by its parts in turn, by the kind of the lexeme in front, by what is
-- left.
use Prim.Native.Nat.{ℕ, zero, suc, ◌+◌, ◌*◌, ◌-◌, ◌≤◌, ◌<◌}
use mathlib.Core.Bool.{Bool, true, false, and-false}
use mathlib.Core.Path.{◌≡◌, refl, sym, ap, ◌∙◌}
use mathlib.Core.List.{List, [], ◌∷◌, map}
use native.Mathlib.Omega.{arith}
use native.Mathlib.Numerals.{add-one}
use lib.ListN.{length, drop, get_or, length-map, drop_of_length-le}
use lib.Seq.{drop-cons}
use borrow.Author.Tests.{le-leb, lt-leb}
use Rattle.std.specs.Prelude.{Option, Some, None, Result, Ok, Err, IsErr, IsErrAnd, is_some}
use Rattle.std.proofs.Common.{rules}
use Rattle.syntax.specs.Token.{Lexeme, number}
use Rattle.syntax.specs.Held.Kind.{kind_of}
use Rattle.syntax.specs.Tree.{Monitor}
use Rattle.syntax.specs.Decide.Reading.{Got, got, stuck, Reader, onwards, ◌>>=◌, give, begins, rest, choose, expect}
use Rattle.syntax.specs.Decide.Reading.{at_end, read_many, read_monitor, read}
use Rattle.syntax.proofs.Grammar.{read_spells}
use Rattle.logic.proofs.Bools.{different}
use Rattle.grammar.specs.Reads.{IsRead, Reads, Follows, ended, among, behind, Sees, Accepts, Tells, Expects}
use Rattle.grammar.specs.declared.Stuck.{Stuck}

-- Parts in turn

module _ {A B : Type 0} {ks : List ℕ} {from : ℕ} {r : Reader A} {f : A → Reader B} where
  -- what comes behind the first
  pub then : {mid : ℕ} {to : Result ℕ Stuck} → Follows A ks from r (Ok mid) → ((a : A) → Follows B ks mid (f a) to)
      → Follows B ks from (r >>= f) to
  unfolding Reads ◌>>=◌ onwards
  then s t = record { goes = λ ls e h. let (room, a, g) = s.goes ls e h in rw g ((t a).goes ls e room) }

-- the error that a `?` hands on is the one that it was handed
pub handed : {A : Type 0} {to : Result A Stuck} {e : Stuck} → IsErr to × IsErrAnd to (λ x. x ≡ e) → to ≡ Err e
handed {to = Ok a} h = absurd (search rules)
handed {to = Err x} h = search rules

-- the first stops, and with it the whole
module _ {A B : Type 0} {ks : List ℕ} {from : ℕ} {r : Reader A} {e : Stuck} (f : A → Reader B) where
  pub halts : Follows A ks from r (Err e) → Follows B ks from (r >>= f) (Err e)
  unfolding Reads ◌>>=◌ onwards
  halts s = record { goes = λ ls i h. let (room, g) = s.goes ls i h in (room, rw g) }

  pub stops : {to : Result ℕ Stuck} → Follows A ks from r (Err e) → IsErr to × IsErrAnd to (λ x. x ≡ e)
      → Follows B ks from (r >>= f) to
  stops s h = rw (handed h) (halts s)

  pub stops_file : (to : Result (Unit {0}) Stuck) → Follows A ks from r (Err e) → IsErr to × IsErrAnd to (λ x. x ≡ e)
      → Follows B ks from (r >>= f) (ended ks to)
  stops_file to s h = rw (handed h) (halts s)

pub done : {A : Type 0} {ks : List ℕ} {from : ℕ} (a : A) → Follows A ks from (give a) (Ok from)
unfolding Reads give
done a = record { goes = λ ls e h. (h, a, refl) }

-- the last part, and then the tree
pub ends : {A B : Type 0} {ks : List ℕ} {from : ℕ} {r : Reader A} {to : Result ℕ Stuck} (g : A → B)
    → Follows A ks from r to → Follows B ks from (r >>= λ a. give (g a)) to
ends {to = Ok q} g s = then s (λ a. done (g a))
ends {to = Err e} g s = halts _ s

-- the shape of what a reader answers, without the tree
unfoldable pub shape : {A : Type 0} → Got A → Got (Unit {0})
shape (got a ls) = got tt ls
shape (stuck ls) = stuck ls

shaped_reads : {A : Type 0} (to : Result ℕ Stuck) (ls : List Lexeme) (g : Got A) → Reads to ls (shape g) → Reads to ls g
unfolding Reads shape
shaped_reads (Ok q) ls (got a ms) h = (h.0, a, let e : ms ≡ drop q ls = cc h.2 in rw e)
shaped_reads (Err s) ls (stuck ms) h = (h.0, let e : ms ≡ drop s.token ls = cc h.1 in rw e)
shaped_reads (Ok q) ls (stuck ms) h = let z : ◌≡◌ {A = ℕ} 0 1 = cc h.2 in absurd (omega arith)
shaped_reads (Err s) ls (got a ms) h = let z : ◌≡◌ {A = ℕ} 0 1 = cc h.1 in absurd (omega arith)

pub shaped : {A : Type 0} {ks : List ℕ} {from : ℕ} {to : Result ℕ Stuck} {s : Reader (Unit {0})} {r : Reader A}
    → ((ls : List Lexeme) → s ls ≡ shape (r ls)) → Follows (Unit {0}) ks from s to → Follows A ks from r to
shaped {from = from} {to = to} {r = r} e g =
    record { goes = λ ls i h. shaped_reads to ls (r (drop from ls)) (rw (← (e (drop from ls))) (g.goes ls i h)) }

-- The lexeme in front

begins_at : (p : Lexeme → Bool) (low high : ℕ) → Tells p low high → (at : ℕ) (ls : List Lexeme)
    → begins p (drop at ls) ≡ among low high (drop at (map kind_of ls))
unfolding begins among
begins_at p low high t zero [] = refl
begins_at p low high t zero (l ∷ ls) = t.tells l
begins_at p low high t (suc n) [] = refl
begins_at p low high t (suc n) (l ∷ ls) = begins_at p low high t n ls

rest_drop : (at : ℕ) (ls : List Lexeme) → rest (drop at ls) ≡ drop (suc at) ls
unfolding rest
rest_drop zero [] = refl
rest_drop zero (l ∷ ls) = refl
rest_drop (suc n) [] = refl
rest_drop (suc n) (l ∷ ls) = rest_drop n ls

pub among_below : (low high at : ℕ) (ks : List ℕ) → among low high (drop at ks) ≡ true → at < length ks
unfolding among
among_below low high zero [] e = let z : ◌≡◌ {A = ℕ} 0 1 = cc in absurd (omega arith)
among_below low high zero (k ∷ ks) e = omega arith
among_below low high (suc n) [] e = let z : ◌≡◌ {A = ℕ} 0 1 = cc in absurd (omega arith)
among_below low high (suc n) (k ∷ ks) e = let h : n < length ks = among_below low high n ks e in omega arith

front : {p : Lexeme → Bool} {low high : ℕ} {ks : List ℕ} {at : ℕ} {t : Bool} → Tells p low high → Sees ks at low high t
    → (ls : List Lexeme) → map kind_of ls ≡ ks → begins p (drop at ls) ≡ t
front {p} {low} {high} {ks} {at} w s ls i = begins_at p low high w at ls ∙ (rw i (sym s.is))

module _ {A : Type 0} {ks : List ℕ} {from low high : ℕ} {to : Result ℕ Stuck} {p : Lexeme → Bool} where
  pub yes : {a : Reader A} (b : Reader A) → Tells p low high → Sees ks from low high true → Follows A ks from a to
      → Follows A ks from (choose p a b) to
  unfolding choose
  yes b t e g = record { goes = λ ls i h. rw (front t e ls i, choose) (g.goes ls i h) }

  pub no : (a : Reader A) {b : Reader A} → Tells p low high → Sees ks from low high false → Follows A ks from b to
      → Follows A ks from (choose p a b) to
  unfolding choose
  no a t e g = record { goes = λ ls i h. rw (front t e ls i, choose) (g.goes ls i h) }

-- A lexeme that is expected

module _ {ks : List ℕ} {at low high : ℕ} where
  pub took : Sees ks at low high true → Expects ks at low high (Ok (at + 1))
  unfolding expect Reads
  took s = record {
    by = λ p t. record {
      goes = λ ls i h.
          let n : at < length ls = omega (arith, among_below low high at ks (sym s.is), ap length i, length-map ls kind_of) in
          (omega arith, tt, rw (front t s ls i, expect) (rw (rest_drop at ls, ← (add-one at))));
    };
  }

  pub missed : Sees ks at low high false → Expects ks at low high (Err (record { token = at }))
  unfolding expect Reads
  missed s = record { by = λ p t. record { goes = λ ls i h. (h, rw (front t s ls i, expect)) } }

  -- what was accepted, and what was not
  pub saw : {q : ℕ} → Accepts ks at low high (Some q) → Sees ks at low high true × (q ≡ at + 1)
  unfolding behind
  saw {q} a = go (among low high (drop at ks)) refl a.is
    where
      go : (t : Bool) → among low high (drop at ks) ≡ t → Some q ≡ behind at t → Sees ks at low high true × (q ≡ at + 1)
      go true s w = (record { is = sym s }, cc w)
      go false s w = different (cc w)

  pub missing : Accepts ks at low high None → Sees ks at low high false
  unfolding behind
  missing a = go (among low high (drop at ks)) refl a.is
    where
      go : (t : Bool) → among low high (drop at ks) ≡ t → None ≡ behind at t → Sees ks at low high false
      go true s w = different (cc w)
      go false s w = record { is = sym s }

  pub passed : {q : ℕ} → Accepts ks at low high (Some q) → Expects ks at low high (Ok q)
  passed a = let (s, e) = saw a in rw e (took s)

  pub seen_if : {o : Option ℕ} → Accepts ks at low high o → Sees ks at low high (is_some o)
  seen_if {o = Some q} a = (saw a).0
  seen_if {o = None} a = missing a

-- What is accepted at a place, from what the code finds there

pub none_past : (ks : List ℕ) {at : ℕ} (low high : ℕ) → length ks ≤ at → Accepts ks at low high None
unfolding behind among
none_past ks low high h = record { is = rw (drop_of_length-le ks h) }

-- by the kind that is found there
module _ {ks : List ℕ} {at : ℕ} {low high x : ℕ} (h : at < length ks) (is : x ≡ get_or ks at x) where
  pub none_below : x < low → Accepts ks at low high None
  unfolding behind among
  none_below n = record { is = rw (drop-cons ks at x h, ← is, lt-leb low x n) }

  pub none_above : high < x → Accepts ks at low high None
  unfolding behind among
  none_above n = record { is = rw (drop-cons ks at x h, ← is, lt-leb x high n, and-false) }

  pub some_among : low ≤ x → x ≤ high → Accepts ks at low high (Some (at + 1))
  unfolding behind among
  some_among n m = record { is = rw (drop-cons ks at x h, ← is, le-leb low x n, le-leb x high m) }

-- What is left

pub fuelled : {A : Type 0} (F : ℕ → Reader A) {ks : List ℕ} {from : ℕ} {to : Result ℕ Stuck} {left less : ℕ}
    → left ≡ suc less → Follows A ks from (F (suc less)) to → Follows A ks from (F left) to
fuelled F e g = rw e g

stopped : {A : Type 0} {ks : List ℕ} {from : ℕ} {r : Reader A} → ((ls : List Lexeme) → r ls ≡ stuck ls) → {e : Stuck}
    → e.token ≡ from → Follows A ks from r (Err e)
unfolding Reads
stopped {from = from} s at = record { goes = λ ls i h. rw at (h, s (drop from ls)) }

pub spent : {A : Type 0} (F : ℕ → Reader A) {ks : List ℕ} {from : ℕ} {to : Result ℕ Stuck} {e : Stuck} {left : ℕ}
    → ((ls : List Lexeme) → F 0 ls ≡ stuck ls) → (left ≡ 0) × (e.token ≡ from)
    → IsErr to × IsErrAnd to (λ x. x ≡ e) → Follows A ks from (F left) to
spent F s (z, at) h = rw (handed h, z) (stopped s at)

-- As many as begin with a lexeme: what is read from here on is read from the beginning

pub record Many (A : Type 0) (ks : List ℕ) (from : ℕ) (p : Lexeme → Bool) (r : Reader A) (rounds at gone : ℕ) : Type 0 where
  pub on : (to : Result ℕ Stuck) → Follows (List A) ks at (read_many p r (rounds - gone)) to
      → Follows (List A) ks from (read_many p r rounds) to

pub many_start : {A : Type 0} {ks : List ℕ} {from : ℕ} {p : Lexeme → Bool} {r : Reader A} {rounds : ℕ}
    → Many A ks from p r rounds from 0
many_start {rounds = rounds} = record { on = λ to f. let e : rounds - 0 ≡ rounds = omega arith in rw e at f }

module _ {A : Type 0} {ks : List ℕ} {from : ℕ} {p : Lexeme → Bool} {r : Reader A} {rounds at gone : ℕ}
    (m : Many A ks from p r rounds at gone) where
  one_more : gone < rounds → {to : Result ℕ Stuck}
      → Follows (List A) ks at (read_many p r (suc (rounds - suc gone))) to
      → Follows (List A) ks from (read_many p r rounds) to
  one_more h f = let e : suc (rounds - suc gone) ≡ rounds - gone = omega arith in m.on _ (rw e at f)

  pub many_over : rounds ≤ gone → Follows (List A) ks from (read_many p r rounds) (Err (record { token = at }))
  unfolding read_many
  many_over h = let z : rounds - gone ≡ 0 = omega arith in m.on _ (rw z (stopped (λ ls. refl) refl))

  module _ {low high : ℕ} (below : gone < rounds) (t : Tells p low high) where
    pub many_none : Sees ks at low high false → Follows (List A) ks from (read_many p r rounds) (Ok at)
    unfolding read_many
    many_none s = one_more below (no _ t s (done _))

    module _ (s : Sees ks at low high true) where
      pub many_more : {next : ℕ} → Follows A ks at r (Ok next) → Many A ks from p r rounds next (gone + 1)
      unfolding read_many
      many_more f =
          record {
            on = λ to g.
                let e : rounds - (gone + 1) ≡ rounds - suc gone = omega arith in
                one_more below (yes _ t s (then f λ _. ends _ (rw e at g)));
          }

      pub many_stops : {e : Stuck} {to : Result ℕ Stuck} → Follows A ks at r (Err e)
          → IsErr to × IsErrAnd to (λ x. x ≡ e) → Follows (List A) ks from (read_many p r rounds) to
      unfolding read_many
      many_stops f h = one_more below (yes _ t s (stops _ f h))

-- The end of the lexemes

module _ {ks : List ℕ} {at : ℕ} where
  pub more : {e : Stuck} → e.token ≡ at → at < length ks → Follows (Unit {0}) ks at at_end (Err e)
  unfolding Reads at_end
  more is n =
      record {
        goes = λ ls i h.
            let m : at < length ls = omega (arith, ap length i, length-map ls kind_of) in
            (omega arith, rw (is, drop-cons ls at (number 0) m));
      }

  pub all_passed : length ks ≤ at → Follows (Unit {0}) ks at at_end (Ok (length ks))
  unfolding Reads at_end
  all_passed n =
      record {
        goes = λ ls i h.
            let m : length ls ≤ at = omega (arith, ap length i, length-map ls kind_of) in
            let k : length ls ≤ length ks = omega (arith, ap length i, length-map ls kind_of) in
            (omega (arith, ap length i, length-map ls kind_of), tt, rw (drop_of_length-le ls m, drop_of_length-le ls k));
      }

-- A whole file, from its first lexeme

read_whole : (ks : List ℕ) (to : Result (Unit {0}) Stuck) (ls : List Lexeme) → Reads (ended ks to) ls (read ls)
    → IsRead to ls (read ls)
unfolding IsRead Reads
read_whole ks (Ok u) ls (room, m, r) = (m, r ∙ ap (λ (us : List Lexeme). got m us) (read_spells ls m _ r).1)
read_whole ks (Err s) ls r = r

pub whole : {ks : List ℕ} (to : Result (Unit {0}) Stuck)
    → Follows Monitor ks 0 (read_monitor (4 * (length ks + 1))) (ended ks to)
    → (ls : List Lexeme) → map kind_of ls ≡ ks → IsRead to ls (read ls)
unfolding read
whole {ks} to g ls i =
    let e : 4 * (length ks + 1) ≡ 4 * (length ls + 1) = omega (arith, ap length i, length-map ls kind_of) in
    read_whole ks to ls (rw e at (g.goes ls i (omega arith)))
