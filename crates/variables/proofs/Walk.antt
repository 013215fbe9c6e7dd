-- The walk over a file's variables: those passed are good and held, and the tokens of the others are left.
use Rattle.std.specs.Prelude.{Ok, Err}
use Rattle.std.proofs.Common.{◌≡◌, ℕ, zero, suc, ◌+◌, ◌*◌, ◌<◌, ◌≤◌, leb, List, [], ◌∷◌, ◌++◌, length, get_or, take, drop, pos, sym, refl, ap, ◌∙◌, subst, inl, inr, append_assoc, append-nil, add-zero, arith, length-append, leb-false, leb-true}
use mathlib.Core.Option.{some, some-injective}
use lib.ListN.{get_elem?}
use lib.Seq.{take-append_seam}
use Rattle.syntax.specs.Token.{Lexeme, key, k_var}
use Rattle.syntax.specs.Held.Kind.{kind_of}
use Rattle.syntax.specs.Tree.{Var, each, spell_var}
use Rattle.meaning.specs.Value.{int_of}
use Rattle.meaning.specs.State.{size, count, starts}
use Rattle.meaning.specs.Accepted.{GoodRanges, no_vars}
use Rattle.logic.proofs.Bools.{split, no_some}
use Rattle.syntax.proofs.ByKind.{is_key_lem}
use Rattle.variables.specs.Bounded.{Numbers, Bounded, EndsVars, Ranged}
use Rattle.meaning.specs.Held.{Offset, Biased, Ranges}
use Rattle.variables.specs.Promises.{TripleAt, SpelledVar, Good, Slots, Loaded, WithVar, Weighed}
use Rattle.variables.specs.declared.Bounds.{Bounds}
use Rattle.variables.specs.declared.Triple.{Triple}
use Rattle.logic.proofs.Indices.{at_index}
use Rattle.variables.proofs.Spelled.{kind_is}
use Rattle.meaning.specs.SixteenBits.{weight_in}
use Rattle.meaning.proofs.SixteenBits.{size_is, weight_is}
use Rattle.variables.proofs.Slots.{good_range, range_good, good_snoc, count_snoc, loaded_one}
use Rattle.variables.proofs.States.{ranges_ordered}

-- Variables that are all held

pub starts_at : (vs : List Var) (k : ℕ) (v : Var) → get_elem? vs k ≡ some v
    → get_or (starts vs) k (pos 0) ≡ int_of v.start
unfolding starts
starts_at [] k v e = no_some e
starts_at (u ∷ vs) zero v e = ap (λ w. int_of w.start) (some-injective u v e)
starts_at (u ∷ vs) (suc k) v e = starts_at vs k v e

length_starts : (vs : List Var) → length (starts vs) ≡ length vs
unfolding starts
length_starts [] = refl
length_starts (v ∷ vs) = ap suc (length_starts vs)

starts_held : (vs : List Var) (xs : List ℕ) → length vs ≤ 6 → Slots (λ v. int_of v.start) 128 vs xs
    → Biased vs (starts vs) xs
unfolding Offset
starts_held vs xs few s =
    record {
      few = few;
      each_value = length_starts vs;
      slots = s.six;
      held = λ k h. let i = at_index vs k h in starts_at vs k i.0 i.1 ∙ (s.held k i.0 i.1).is;
      small = s.small;
      unused = s.unused;
    }

ranges_held : (vs : List Var) (lows highs : List ℕ) → Slots (λ v. int_of v.low) 1 vs lows
    → Slots (λ v. int_of v.high) 0 vs highs
    → Ranges vs lows highs
unfolding Offset
ranges_held vs lows highs lo hi =
    record {
      low_slots = lo.six;
      high_slots = hi.six;
      lows_held = λ k v e. (lo.held k v e).is;
      highs_held = λ k v e. (hi.held k v e).is;
      highs_small = hi.small;
      unused_range = λ k h l. omega (arith, lo.unused k h l, hi.unused k h l);
    }

bounded_all : (vs : List Var) (b r : Bounds) → GoodRanges vs → count vs ≤ 4096 → length vs ≤ 6 → Loaded vs b
    → Weighed b r → Bounded vs r
bounded_all vs b r good few_states few l w =
    let ranges = ranges_held vs b.lows b.highs l.lows l.highs in
    record {
      few_vars = few;
      good = good;
      few_states = few_states;
      counted = w.counted ∙ l.counted;
      states = w.states ∙ l.states;
      ranges = rw (w.lows, w.highs) ranges;
      start_values = rw w.starts (starts_held vs b.starts few l.starts);
      weigh = λ k h.
          w.weights.weigh (rw l.counted (ranges_ordered ranges good)) k (omega (arith, l.counted))
          ∙ ap (λ (n : ℕ). weight_in b.lows b.highs n (suc k)) l.states
          ∙ weight_is ranges good (suc k) (omega arith);
    }

-- Which tokens begin a variable

-- the variables of some tokens go on exactly where `var` stands
module _ {ls : List Lexeme} {kinds values : List ℕ} (held : Numbers ls kinds values) (us : List Lexeme)
    (ends : EndsVars us) (i : ℕ) where
  goes_on : (todo : List Var) → drop i ls ≡ each spell_var todo ++ us → get_or kinds i 0 ≡ kind_of (key k_var)
      → (v : Var) × (rest : List Var) × (todo ≡ v ∷ rest)
  unfolding EndsVars each
  goes_on [] e k =
      let l = ends.0 in
      absurd (ends.3 (is_key_lem k_var l (sym (kind_is held i l ends.1 (e ∙ ends.2)) ∙ k)))
  goes_on (v ∷ rest) e k = (v, rest, refl)

  stops : (todo : List Var) → drop i ls ≡ each spell_var todo ++ us → (get_or kinds i 0 ≡ kind_of (key k_var) → ⊥)
      → todo ≡ []
  unfolding each spell_var
  stops [] e k = refl
  stops (v ∷ rest) e k = absurd (k (kind_is held i (key k_var) _ e))

-- The walk

-- variables that are spelled from a token on
pub record Spelling (kinds values : List ℕ) (at : ℕ) (vs : List Var) (ls us : List Lexeme) : Type 0 where
  pub held : Numbers ls kinds values
  pub begins : drop at ls ≡ each spell_var vs ++ us
  pub ends : EndsVars us
  pub few : length vs ≤ 6

pub record Walked (vs : List Var) (ls us : List Lexeme) (at : ℕ) (b : Bounds) (i : ℕ) : Type 0 where
  done : List Var
  todo : List Var
  parts : vs ≡ done ++ todo
  left : drop i ls ≡ each spell_var todo ++ us
  place : i ≡ at + length (each spell_var done)
  good : GoodRanges done
  few : count done ≤ 4096
  loaded : Loaded done b

abbrev pub Walk : List ℕ → List ℕ → ℕ → Bounds → ℕ → Type 0
Walk kinds values at b i = (vs : List Var) (ls us : List Lexeme) → Spelling kinds values at vs ls us
    → Walked vs ls us at b i

pub walk_start : (kinds values : List ℕ) (at : ℕ) (b : Bounds) → Loaded [] b → Walk kinds values at b at
unfolding each count
walk_start kinds values at b l vs ls us s =
    record {
      done = [];
      todo = vs;
      parts = refl;
      left = s.begins;
      place = sym (add-zero at);
      good = no_vars;
      few = omega arith;
      loaded = l;
    }

each_snoc : (vs : List Var) (v : Var) → length (each spell_var (vs ++ (v ∷ [])))
    ≡ length (each spell_var vs) + length (spell_var v)
unfolding each
each_snoc [] v = simp append-nil (omega arith)
each_snoc (u ∷ vs) v = simp length-append (omega (arith, each_snoc vs v))

module _ (kinds values : List ℕ) (at : ℕ) (b : Bounds) (i : ℕ) (walk : Walk kinds values at b i) where
  -- `var` stands at i, with the integers t behind it
  module _ (var : get_or kinds i 0 ≡ kind_of (key k_var)) (t : Triple) (read : TripleAt kinds values i t) where
    -- the variable there, and those behind it
    next : (vs : List Var) (ls us : List Lexeme) (s : Spelling kinds values at vs ls us) (w : Walked vs ls us at b i)
        → (v : Var) × (rest : List Var) × (vs ≡ w.done ++ (v ∷ rest)) × SpelledVar ls (each spell_var rest ++ us) v i t
    unfolding each
    next vs ls us s w =
        let g = goes_on s.held us s.ends i w.todo w.left var in
        let v = g.0 in
        let rest = g.1 in (
          v,
          rest,
          w.parts ∙ ap (λ todo. w.done ++ todo) g.2,
          read.spelled ls (each spell_var rest ++ us) v s.held
              (w.left ∙ ap (λ todo. each spell_var todo ++ us) g.2 ∙ append_assoc (spell_var v) (each spell_var rest)
              us),
        )

    pub walk_more : (r : Bounds) → Good b.states t → WithVar b t r → Walk kinds values at r t.next
    walk_more r good with vs ls us s =
        let w = walk vs ls us s in
        let (v, rest, parts, spelled) = next vs ls us s w in
        let h = spelled.held in
        let room : length w.done < 6 = omega (arith, simp length-append at (ap length parts), s.few) in
        record {
          done = w.done ++ (v ∷ []);
          todo = rest;
          parts = parts ∙ sym (append_assoc w.done (v ∷ []) rest);
          left = spelled.behind;
          place = omega (arith, each_snoc w.done v, spelled.place, w.place);
          good = good_snoc w.good (good_range v t h b.states good);
          few = rw (count_snoc, size_is v h.low h.high good.ordered, ← w.loaded.states) good.few;
          loaded = loaded_one w.done v b r t w.loaded room h good with;
        }

    -- the variable there is the first bad one
    pub walk_bad : (Good b.states t → ⊥) → (vs : List Var) (ls us : List Lexeme) → Spelling kinds values at vs ls us
        → Ranged vs ls us at (Err (record { token = i }))
    unfolding Ranged
    walk_bad bad vs ls us s =
        let w = walk vs ls us s in
        let (v, rest, parts, spelled) = next vs ls us s w in
        let passed : take (length w.done) vs ≡ w.done = ap (take (length w.done)) parts
        ∙ take-append_seam w.done (v ∷ rest) in (
          length w.done,
          record {
            before = w.done;
            after = rest;
            var = v;
            parts = parts;
            place = refl;
            good = w.good;
            few = w.few;
            bad = split (leb (count w.done * size v) 4096)
                (λ h. inl (λ good. bad (range_good v t spelled.held b.states good
                (subst (λ (n : ℕ). n * size v ≤ 4096) (sym w.loaded.states) (leb-true _ _ h)))))
                (λ h. inr (leb-false _ _ h));
          },
          w.place ∙ ap (λ done. at + length (each spell_var done)) (sym passed),
        )

  -- no `var` stands at i
  pub walk_end : (get_or kinds i 0 ≡ kind_of (key k_var) → ⊥) → (r : Bounds) → Weighed b r
      → (vs : List Var) (ls us : List Lexeme)
      → Spelling kinds values at vs ls us → Ranged vs ls us at (Ok (record { bounds = r; next = i }))
  unfolding Ranged each
  walk_end none r weighed vs ls us s =
      let w = walk vs ls us s in
      let all : w.todo ≡ [] = stops s.held us s.ends i w.todo w.left none in
      let whole : w.done ≡ vs = sym (w.parts ∙ ap (λ todo. w.done ++ todo) all ∙ append-nil w.done) in (
        bounded_all vs b r (subst GoodRanges whole w.good) (subst (λ us. count us ≤ 4096) whole w.few) s.few
            (subst (λ us. Loaded us b) whole w.loaded) weighed,
        w.left ∙ ap (λ todo. each spell_var todo ++ us) all,
      )
