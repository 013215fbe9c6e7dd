-- The loops over a method's regions and over the methods: what is held so far, with what stands ahead, makes up the
-- whole.
use Prim.Native.Nat.{ℕ, zero, suc, ◌+◌, ◌≤◌, ◌<◌}
use native.Mathlib.Omega.{arith}
use mathlib.Core.Path.{◌≡◌, refl, sym, ap, ◌∙◌}
use mathlib.Core.List.{List, [], ◌∷◌, ◌++◌, map, append_assoc, append-nil}
use lib.ListN.{length, drop, get_or, length-append}
use Rattle.syntax.specs.Token.{Token, lexemes, Lexeme, key, mark, rbrace, k_method, k_waituntil}
use Rattle.syntax.specs.Decide.Lexeme.{mark_number}
use Rattle.syntax.specs.Decide.Lexeme.{keyword_number}
use Rattle.syntax.specs.Held.Kind.{kind_of, no_kind, Words}
use Rattle.syntax.specs.Tree.{Region, Method, all, each, spell_region, spell_method}
use Rattle.syntax.proofs.ByKind.{kind_below}
use Rattle.logic.specs.Tests.{bit}
use Rattle.layout.specs.Places.{to_regions, past}
use Rattle.layout.specs.Promises.{Flagged, more, flag_regions, flagged, flag_at, Holds, Reached, AddsRegion}
use Rattle.layout.specs.Promises.{AddsMethod}
use Rattle.layout.specs.declared.Layout.{Layout}
use Rattle.layout.specs.declared.Spot.{Spot}
use Rattle.layout.proofs.Spelled.{later, kind_behind}

-- a lexeme's kind stands in the list, and not past its end
pub kind_within : (ks : List ℕ) (i : ℕ) (l : Lexeme) → get_or ks i no_kind ≡ kind_of l → i < length ks
kind_within [] i l h = absurd (omega (arith, kind_below l))
kind_within (x ∷ ks) zero l h = omega arith
kind_within (x ∷ ks) (suc i) l h = let r = kind_within ks i l h in omega arith

-- what is ahead in a method
abbrev pub regions_ahead : List Region → List Lexeme → List Lexeme
regions_ahead qs us = each spell_region qs ++ (mark rbrace ∷ us)

pub record Ahead (ls : List Lexeme) (before : List Flagged) (all_qs : List Region) (us : List Lexeme) (l : Layout)
    (i b : ℕ) : Type 0 where
  pub done : List Flagged
  pub qs : List Region
  pub holds : Holds ls done l
  pub few : length done + length qs ≤ 16
  pub stands : drop i ls ≡ regions_ahead qs us
  pub whole : done ++ flag_regions b qs ≡ before ++ flag_regions 1 all_qs

pub ahead_start : (ls : List Lexeme) (before : List Flagged) (qs : List Region) (us : List Lexeme) (l : Layout) (i : ℕ)
    → Holds ls before l → length before + length qs ≤ 16 → drop i ls ≡ regions_ahead qs us → Ahead ls before qs us l i 1
ahead_start ls before qs us l i h f s = record { done = before; qs = qs; holds = h; few = f; stands = s; whole = refl }

region_first : (q : Region) (qs : List Region) (us : List Lexeme)
    → regions_ahead (q ∷ qs) us ≡ spell_region q ++ regions_ahead qs us
unfolding each
region_first q qs us = append_assoc (spell_region q) (each spell_region qs) (mark rbrace ∷ us)

kind_of_region : (q : Region) (qs : List Region) (us : List Lexeme)
    → get_or (map kind_of (regions_ahead (q ∷ qs) us)) 0 no_kind ≡ kind_of (key k_waituntil)
unfolding each spell_region kind_of keyword_number
kind_of_region q qs us = refl

kind_of_end : (us : List Lexeme) → get_or (map kind_of (regions_ahead [] us)) 0 no_kind ≡ kind_of (mark rbrace)
unfolding each kind_of mark_number
kind_of_end us = refl

flag_ahead : (qs : List Region) (us : List Lexeme) → flag_at (map kind_of (regions_ahead qs us)) 0 ≡ more qs
unfolding flag_at bit each spell_region kind_of keyword_number mark_number
flag_ahead [] us = refl
flag_ahead (q ∷ qs) us = refl

module _ {file : List ℕ} {ts : List Token} {kinds values places : List ℕ}
    (words : Words file ts kinds values places) where
  module _ (before : List Flagged) (all_qs : List Region) (us : List Lexeme) where
    -- at `waituntil` there is a region ahead
    no_region_lem : {C : Type 0} (i : ℕ) → drop i (lexemes ts) ≡ regions_ahead [] us
        → get_or kinds i no_kind ≡ kind_of (key k_waituntil) → C
    unfolding kind_of mark_number keyword_number
    no_region_lem i stands kind =
        let e = kind_behind words i _ stands in
        let f = kind_of_end us in
        absurd (omega arith)

    turn : (l : Layout) (i b : ℕ) (s : Spot) (done : List Flagged) (qs : List Region) → Holds (lexemes ts) done l
        → length done + length qs ≤ 16
        → drop i (lexemes ts) ≡ regions_ahead qs us → done ++ flag_regions b qs ≡ before ++ flag_regions 1 all_qs
        → length ts ≤ 1024
        → get_or kinds i no_kind ≡ kind_of (key k_waituntil) → AddsRegion file kinds values places l i b s
        → Ahead (lexemes ts) before all_qs us s.layout s.at 0
    unfolding flag_regions
    turn l i b s done [] h f stands whole small kind adds = no_region_lem i stands kind
    turn l i b s done (q ∷ qs) h f stands whole small kind adds =
        let r = adds ts done q (regions_ahead qs us) words small h (stands ∙ region_first q qs us) in
        let flag = flag_ahead qs us in
        let item : Flagged = record { region = q; begins = b; goes_on = more qs } in
        let held : Holds (lexemes ts) (done ++ (item ∷ [])) s.layout = rw flag at r.holds in
        let sum = length-append done (item ∷ []) in
        record {
          done = done ++ (item ∷ []);
          qs = qs;
          holds = held;
          few = omega arith;
          stands = r.behind;
          whole = append_assoc done (item ∷ []) (flag_regions 0 qs) ∙ whole;
        }

    pub ahead_turn : (l : Layout) (i b : ℕ) (s : Spot) → Ahead (lexemes ts) before all_qs us l i b → length ts ≤ 1024
        → get_or kinds i no_kind ≡ kind_of (key k_waituntil) → AddsRegion file kinds values places l i b s
        → Ahead (lexemes ts) before all_qs us s.layout s.at 0
    ahead_turn l i b s a = turn l i b s a.done a.qs a.holds a.few a.stands a.whole

    full : {C : Type 0} (l : Layout) (i : ℕ) (done : List Flagged) (qs : List Region) → Holds (lexemes ts) done l
        → length done + length qs ≤ 16
        → drop i (lexemes ts) ≡ regions_ahead qs us → get_or kinds i no_kind ≡ kind_of (key k_waituntil) → 16 ≤ l.regions
        → C
    full l i done [] h f stands kind many = no_region_lem i stands kind
    full l i done (q ∷ qs) h f stands kind many = absurd (omega (arith, h.count))

    -- a layout that is full has no region ahead
    pub ahead_full : {C : Type 0} (l : Layout) (i b : ℕ) → Ahead (lexemes ts) before all_qs us l i b
        → get_or kinds i no_kind ≡ kind_of (key k_waituntil) → 16 ≤ l.regions → C
    ahead_full l i b a = full l i a.done a.qs a.holds a.few a.stands

    over : (l : Layout) (i b : ℕ) (done : List Flagged) (qs : List Region) → Holds (lexemes ts) done l
        → drop i (lexemes ts) ≡ regions_ahead qs us → done ++ flag_regions b qs ≡ before ++ flag_regions 1 all_qs
        → (get_or kinds i no_kind ≡ kind_of (key k_waituntil) → ⊥)
        → Reached (lexemes ts) (before ++ flag_regions 1 all_qs) (mark rbrace ∷ us) record { layout = l; at = i }
    unfolding flag_regions each
    over l i b done [] h stands whole n = rw (sym whole, append-nil done) (record { holds = h; behind = stands })
    over l i b done (q ∷ qs) h stands whole n =
        absurd (n (kind_behind words i _ stands ∙ kind_of_region q qs us))

    pub ahead_over : (l : Layout) (i b : ℕ) → Ahead (lexemes ts) before all_qs us l i b
        → (get_or kinds i no_kind ≡ kind_of (key k_waituntil) → ⊥)
        → Reached (lexemes ts) (before ++ flag_regions 1 all_qs) (mark rbrace ∷ us) record { layout = l; at = i }
    ahead_over l i b a = over l i b a.done a.qs a.holds a.stands a.whole

-- what is ahead in a file
abbrev pub methods_ahead : List Method → List Lexeme
methods_ahead ms = each spell_method ms ++ (mark rbrace ∷ [])

pub record AheadAll (ls : List Lexeme) (all_ms : List Method) (l : Layout) (i : ℕ) : Type 0 where
  pub done : List Flagged
  pub ms : List Method
  pub holds : Holds ls done l
  pub stands : drop i ls ≡ methods_ahead ms
  pub whole : done ++ flagged ms ≡ flagged all_ms

pub all_start : (ls : List Lexeme) (ms : List Method) (l : Layout) (i : ℕ) → Holds ls [] l → drop i ls ≡ methods_ahead ms
    → AheadAll ls ms l i
all_start ls ms l i h s = record { done = []; ms = ms; holds = h; stands = s; whole = refl }

method_first : (x : Method) (ms : List Method) (ls : List Lexeme) (i : ℕ) → drop i ls ≡ methods_ahead (x ∷ ms)
    → drop (i + to_regions) ls ≡ regions_ahead (all x.regions) (methods_ahead ms)
unfolding each spell_method
method_first x ms ls i h =
    let qs = each spell_region (all x.regions) in
    later to_regions i ls _ h ∙ append_assoc (qs ++ (mark rbrace ∷ [])) (each spell_method ms) (mark rbrace ∷ [])
    ∙ append_assoc qs (mark rbrace ∷ []) (methods_ahead ms)

kind_of_method : (x : Method) (ms : List Method)
    → get_or (map kind_of (methods_ahead (x ∷ ms))) 0 no_kind ≡ kind_of (key k_method)
unfolding each spell_method kind_of keyword_number
kind_of_method x ms = refl

kind_of_last : get_or (map kind_of (methods_ahead [])) 0 no_kind ≡ kind_of (mark rbrace)
unfolding each kind_of mark_number
kind_of_last = refl

pub flag_count : (b : ℕ) (qs : List Region) → length (flag_regions b qs) ≡ length qs
unfolding flag_regions
flag_count b [] = refl
flag_count b (q ∷ qs) = ap suc (flag_count 0 qs)

module _ {file : List ℕ} {ts : List Token} {kinds values places : List ℕ} (words : Words file ts kinds values places)
    (small : length ts ≤ 1024)
    (all_ms : List Method) (few : length (flagged all_ms) ≤ 16) where
  turn_all : (l : Layout) (i : ℕ) (s : Spot) (done : List Flagged) (ms : List Method) → Holds (lexemes ts) done l
      → drop i (lexemes ts) ≡ methods_ahead ms → done ++ flagged ms ≡ flagged all_ms → get_or kinds i no_kind
      ≡ kind_of (key k_method)
      → AddsMethod file kinds values places l (i + to_regions) s
      → AheadAll (lexemes ts) all_ms s.layout (s.at + past)
  unfolding flagged kind_of mark_number keyword_number
  turn_all l i s done [] h stands whole kind adds =
      let e = kind_behind words i _ stands in
      let f = kind_of_last in
      absurd (omega arith)
  turn_all l i s done (x ∷ ms) h stands whole kind adds =
      let qs = all x.regions in
      let sum = length-append done (flag_regions 1 qs ++ flagged ms) in
      let sum2 = length-append (flag_regions 1 qs) (flagged ms) in
      let count = flag_count 1 qs in
      let long = ap length whole in
      let r = adds ts done qs (methods_ahead ms) words small h (omega arith) (method_first x ms (lexemes ts) i stands) in
      record {
        done = done ++ flag_regions 1 qs;
        ms = ms;
        holds = r.holds;
        stands = later past s.at (lexemes ts) _ r.behind;
        whole = append_assoc done (flag_regions 1 qs) (flagged ms) ∙ whole;
      }

  pub all_turn : (l : Layout) (i : ℕ) (s : Spot) → AheadAll (lexemes ts) all_ms l i → get_or kinds i no_kind
      ≡ kind_of (key k_method)
      → AddsMethod file kinds values places l (i + to_regions) s
      → AheadAll (lexemes ts) all_ms s.layout (s.at + past)
  all_turn l i s a = turn_all l i s a.done a.ms a.holds a.stands a.whole

  over_all : (l : Layout) (i : ℕ) (done : List Flagged) (ms : List Method) → Holds (lexemes ts) done l
      → drop i (lexemes ts) ≡ methods_ahead ms → done ++ flagged ms ≡ flagged all_ms
      → (get_or kinds i no_kind ≡ kind_of (key k_method) → ⊥)
      → Holds (lexemes ts) (flagged all_ms) l
  unfolding flagged
  over_all l i done [] h stands whole n = rw (sym whole, append-nil done) h
  over_all l i done (x ∷ ms) h stands whole n =
      absurd (n (kind_behind words i _ stands ∙ kind_of_method x ms))

  pub all_over : (l : Layout) (i : ℕ) → AheadAll (lexemes ts) all_ms l i
      → (get_or kinds i no_kind ≡ kind_of (key k_method) → ⊥) → Holds (lexemes ts) (flagged all_ms) l
  all_over l i a = over_all l i a.done a.ms a.holds a.stands a.whole
