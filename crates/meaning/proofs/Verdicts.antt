-- A file's verdict, computed, is the one that `Accepted` and `Refusal` say in words, for all bytes: `accepted_iff` and
-- `refused_iff`.
use Prim.Native.Nat.{ℕ, ◌≤◌, ◌<◌}
use native.Mathlib.Omega.{arith}
use mathlib.Core.Path.{◌≡◌, refl, sym, subst, ap, ◌∙◌}
use mathlib.Core.Bool.{true}
use mathlib.Core.Logic.{◌⊎◌, inl, inr, ⊎_elim, ◌↔◌}
use mathlib.Core.List.{List, [], ◌∷◌, ◌++◌}
use mathlib.Core.Option.{Option, none, some}
use lib.ListN.{length, get_or}
use lib.Dec.{ltb}
use borrow.Author.Tests.{ltb-true, ltb-false, lt-ltb, le-ltb}
use Rattle.syntax.specs.Token.{Lexeme, number, Keyword, k_var, Token, lexemes}
use Rattle.syntax.specs.Decide.Scan.{Tokens, tokens, none_at, tokenize}
use Rattle.syntax.specs.Spelling.{NoTokenAt, AllSpellable}
use Rattle.syntax.proofs.Scanning.{tokenize_tokens, tokenize_none}
use Rattle.syntax.proofs.Spellable.{cover_spellable}
use Rattle.syntax.specs.Tree.{Monitor, all, spell, InGrammar, Viable}
use Rattle.syntax.specs.Decide.Reading.{Got, got, stuck, read}
use Rattle.syntax.proofs.Grammar.{read_spells, spelled_read, stuck_viable, stuck_not_viable, stuck_at_end}
use Rattle.syntax.proofs.Grammar.{whole_viable, in_grammar_iff}
use Rattle.meaning.specs.State.{starts, count}
use Rattle.meaning.specs.Kept.{kept_at}
use Rattle.meaning.specs.Answer.{Answer, answer, Verdict, accepted, refused}
use Rattle.meaning.specs.Decide.Check.{crowded, past_limit, misnamed, places_of, place_of, left_of, check_meaning}
use Rattle.meaning.specs.Decide.Check.{check_tokens, check}
use Rattle.meaning.specs.Accepted.{NoneOffends, FirstOffends, Crowded, PastLimit, Misnamed, GoodRanges}
use Rattle.meaning.specs.Refusal.{HasVerdict, FirstIllRanged}
use Rattle.meaning.proofs.Judged.{Judged, sound}
use Rattle.meaning.proofs.Judged as judged
use Rattle.logic.proofs.Bools.{split, clash, different}
use Rattle.meaning.proofs.Limits.{first_unique, crowded_first, crowded_none, past_first, past_none}
use Rattle.meaning.proofs.Limits.{misnamed_first, misnamed_none}
use Rattle.meaning.specs.Refusal.{NoFile}
use Rattle.meaning.proofs.GrammarPlace.{place_first, place_end}
use Rattle.meaning.specs.Refusal.{KeywordAt}
use Rattle.meaning.proofs.KeywordPlaces.{var_place, keep_place}
use Rattle.meaning.proofs.RangeLaws.{ill_ranged_good, ill_ranged_first}
use Rattle.meaning.proofs.Soundness.{check_meaning_iff}
use Rattle.meaning.proofs.Unvalued.{unvalued_first, unvalued_none}
use Rattle.meaning.specs.Accepted.{Accepted}
use Rattle.meaning.specs.Refusal.{Past2, Past3, Past4, Past5, Past6, Past7, Past15, Refusal, broken, ends_early}
use Rattle.meaning.specs.Refusal.{is_ill_ranged, no_file, no_token, is_past_limit, start_not_kept, too_long, too_many}
use Rattle.meaning.specs.Refusal.{wrong_name, unvalued}
use Rattle.meaning.specs.Before.{up_to}

-- 0 is no refusal
pub refusal_number : {file : List ℕ} {a : Answer} → Refusal file a → 1 ≤ a.number
refusal_number (too_long h) = omega arith
refusal_number (no_token h s) = omega arith
refusal_number (too_many p f) = omega arith
refusal_number (no_file p f) = omega arith
refusal_number (ends_early p v n) = omega arith
refusal_number (is_past_limit p f) = omega arith
refusal_number (wrong_name p f) = omega arith
refusal_number (is_ill_ranged p t s) = omega arith
refusal_number (unvalued p f) = omega arith
refusal_number (start_not_kept p f s) = omega arith
refusal_number (broken p t b) = omega arith

-- Each verdict that says what holds is the check's

says_1 : (file : List ℕ) → 8192 < length file → check file ≡ refused (answer 1 0 0)
unfolding check
says_1 file h = cc (lt-ltb 8192 (length file) h)

says_2 : (file : List ℕ) (k : ℕ) → length file ≤ 8192 → NoTokenAt k 0 file → check file ≡ refused (answer 2 k 0)
unfolding check
says_2 file k h s = cc (le-ltb 8192 (length file) h, (tokenize_none file k).1 s)

module _ {file : List ℕ} {ts : List Token} where
  after_2 : Past2 file ts → check file ≡ check_tokens (length file) ts
  unfolding check
  after_2 p = cc (le-ltb 8192 (length file) p.short, (tokenize_tokens file ts).1 p.cut)

  says_3 : (k : ℕ) → Past2 file ts → FirstOffends Crowded ts k → check file ≡ refused (answer 3 k 0)
  unfolding check_tokens
  says_3 k p f = cc (after_2 p, (crowded_first ts k).1 f)

  says_4 : (us : List Lexeme) → Past3 file ts → read (lexemes ts) ≡ stuck us
      → check file ≡ refused (answer 4 (place_of (length file) (left_of ts us)) 0)
  unfolding check_tokens
  says_4 us p e = cc (after_2 p.past, (crowded_none ts).1 p.limits)

  module _ {m : Monitor} where
    reads : Past4 file ts m → read (lexemes ts) ≡ got m []
    reads p = rw (← p.grammar) (spelled_read m)

    says_5 : (k : ℕ) → Past4 file ts m → FirstOffends PastLimit ts k → check file ≡ refused (answer 5 k 0)
    unfolding check_tokens
    says_5 k p f = cc (after_2 p.past.past, (crowded_none ts).1 p.past.limits, reads p, (past_first ts k).1 f)

    says_6 : (k : ℕ) → Past5 file ts m → FirstOffends Misnamed ts k → check file ≡ refused (answer 6 k 0)
    unfolding check_tokens
    says_6 k p f =
        let q = p.past in
        cc (
          after_2 q.past.past,
          (crowded_none ts).1 q.past.limits,
          reads q,
          (past_none ts).1 p.counts,
          (misnamed_first ts k).1 f,
        )

    after_6 : Past6 file ts m → check file ≡ check_meaning ts m
    unfolding check_tokens
    after_6 p =
        let q = p.past.past in
        cc (
          after_2 q.past.past,
          (crowded_none ts).1 q.past.limits,
          reads q,
          (past_none ts).1 p.past.counts,
          (misnamed_none ts).1 p.names,
        )

-- 4: where reading ends

data Reads (end : ℕ) (ts : List Token) : Type 0 where
  whole : (m : Monitor) → spell m ≡ lexemes ts → InGrammar (lexemes ts) → Reads end ts
  wrong : (us : List Lexeme) → read (lexemes ts) ≡ stuck us → FirstOffends NoFile ts (place_of end (left_of ts us))
      → Reads end ts
  early :
      (us : List Lexeme) → read (lexemes ts) ≡ stuck us → place_of end (left_of ts us) ≡ end → Viable (lexemes ts)
      → (InGrammar (lexemes ts) → ⊥) → Reads end ts

reads_as : {file : List ℕ} {ts : List Token} (end : ℕ) → Past2 file ts → Reads end ts
reads_as {ts = ts} end p = go (read (lexemes ts)) refl (cover_spellable p.cut)
  where
    go : (g : Got Monitor) → read (lexemes ts) ≡ g → AllSpellable (lexemes ts) → Reads end ts
    go (got m us) e a =
        let w = (read_spells (lexemes ts) m us e).0 in
        whole m w ((in_grammar_iff (lexemes ts) a).1 (m, w))
    go (stuck []) e a = let s = stuck_at_end (lexemes ts) a e in early [] e (place_end end ts s.0).0 s.0 s.1
    go (stuck (l ∷ us)) e a =
        let s = stuck_viable (lexemes ts) (l ∷ us) a e in
        wrong (l ∷ us) e
        (place_first end ts s.0 l us s.1 s.2 (stuck_not_viable (lexemes ts) s.0 l us e s.1))

viable_no_first : (ts : List Token) (k : ℕ) → Viable (lexemes ts) → FirstOffends NoFile ts k → ⊥
unfolding FirstOffends NoneOffends
viable_no_first ts k v (b, a, t, e, o, p, n) = (place_end 0 ts v).1 b a t e o

module _ {file : List ℕ} {ts : List Token} (p : Past3 file ts) where
  says_no_file : (k : ℕ) → FirstOffends NoFile ts k → check file ≡ refused (answer 4 k 0)
  says_no_file k f = go (reads_as (length file) p.past)
    where
      go : Reads (length file) ts → check file ≡ refused (answer 4 k 0)
      go (whole m e g) = absurd (viable_no_first ts k (whole_viable (lexemes ts) g) f)
      go (wrong us e g) = says_4 us p e ∙ ap {B = Verdict} (λ j. refused (answer 4 j 0))
          (first_unique NoFile ts _ k g f)
      go (early us e q v n) = absurd (viable_no_first ts k v f)

  says_early : Viable (lexemes ts) → (InGrammar (lexemes ts) → ⊥) → check file ≡ refused (answer 4 (length file) 0)
  says_early v n = go (reads_as (length file) p.past)
    where
      go : Reads (length file) ts → check file ≡ refused (answer 4 (length file) 0)
      go (whole m e g) = absurd (n g)
      go (wrong us e g) = absurd (viable_no_first ts _ v g)
      go (early us e q w x) = says_4 us p e ∙ ap {B = Verdict} (λ j. refused (answer 4 j 0)) q

-- 7 and 8: one token stands behind some lexemes

same_front : (a b : List Token) (t u : Token) (x y : List Token) → a ++ (t ∷ x) ≡ b ++ (u ∷ y) → lexemes a ≡ lexemes b
    → t ≡ u
unfolding lexemes
same_front [] [] t u x y e h = cc
same_front [] (c ∷ b) t u x y e h = different (cc)
same_front (c ∷ a) [] t u x y e h = different (cc)
same_front (c ∷ a) (d ∷ b) t u x y e h = same_front a b t u x y (cc) (cc)

one_place : {ts : List Token} {pre : List Lexeme} {k : Keyword} {i j : ℕ} → KeywordAt ts pre k i → KeywordAt ts pre k j
    → i ≡ j
one_place s t =
    sym s.place
    ∙ ap (λ (u : Token). u.at)
    (same_front s.front t.front s.token t.token s.back t.back (sym s.whole ∙ t.whole)
    (s.passed ∙ sym t.passed))
    ∙ t.place

module _ {file : List ℕ} {ts : List Token} {m : Monitor} (p : Past6 file ts m) where
  spelt : lexemes ts ≡ spell m
  spelt = sym p.past.past.grammar

  var_at : {i : ℕ} (t : FirstIllRanged (all m.vars) i)
      → KeywordAt ts (up_to m t.before) k_var (get_or (places_of k_var ts) i 0)
  var_at t = rw t.place at (var_place ts m spelt t.before t.var t.after t.parts)

  -- 7, 15, 8 and 9, from and to the verdicts of a tree
  says_judged : {v : Verdict} → Judged ts m v → check file ≡ v
  says_judged {v} j = after_6 p ∙ (check_meaning_iff ts m spelt v).1 j

  past_7 : GoodRanges (all m.vars) → count (all m.vars) ≤ 4096 → Past7 file ts m
  past_7 good few = record { past = p; ranges = good; few = few }

  of_judged : {v : Verdict} → Judged ts m v → HasVerdict file v
  of_judged (sound s) =
      let q = p.past.past in
      record {
        ts = ts;
        short = q.past.past.short;
        cut = q.past.past.cut;
        limits = q.past.limits;
        grammar = q.grammar;
        counts = p.past.counts;
        names = p.names;
        sound = s;
      }
  of_judged (judged.is_ill_ranged t) = is_ill_ranged p t (var_at t)
  of_judged (judged.unvalued good few f) = unvalued (past_7 good few) f
  of_judged (judged.start_not_kept good few valued f) =
      start_not_kept (record { past = past_7 good few; valued = valued }) f (keep_place ts m spelt)
  of_judged (judged.broken good few valued t b) = broken (record { past = past_7 good few; valued = valued }) t b

of_accepted : {file : List ℕ} {m : Monitor} (a : Accepted file m) → Past6 file a.ts m
of_accepted a =
    record {
      past = record {
        past =
            record {
              past = record { past = record { short = a.short; cut = a.cut }; limits = a.limits };
              grammar =
                  a.grammar;
            };
        counts = a.counts;
      };
      names = a.names;
    }

-- an accepted file passes 1 to 7 and 15; one that is refused with 8 or 9 does by the words of its refusal
pub accepted_past_15 : {file : List ℕ} {m : Monitor} (a : Accepted file m) → Past15 file a.ts m
accepted_past_15 a =
    record {
      past = record { past = of_accepted a; ranges = a.sound.ranges; few = a.sound.few };
      valued = a.sound.valued;
    }

says : (file : List ℕ) (v : Verdict) → HasVerdict file v → check file ≡ v
says file (accepted m) a = says_judged (of_accepted a) (sound a.sound)
says file (refused a) r = refusal r
  where
    refusal : {a : Answer} → Refusal file a → check file ≡ refused a
    refusal (too_long h) = says_1 file h
    refusal (no_token {k} h s) = says_2 file k h s
    refusal (too_many {k = k} p f) = says_3 k p f
    refusal (no_file {k = k} p f) = says_no_file p k f
    refusal (ends_early p v n) = says_early p v n
    refusal (is_past_limit {k = k} p f) = says_5 k p f
    refusal (wrong_name {k = k} p f) = says_6 k p f
    refusal (is_ill_ranged p t s) =
        says_judged p (judged.is_ill_ranged t) ∙ ap {B = Verdict} (λ j. refused (answer 7 j 0)) (one_place (var_at p t) s)
    refusal (unvalued p f) = says_judged p.past (judged.unvalued p.ranges p.few f)
    refusal (start_not_kept {ts} {m} p f s) =
        let q = p.past in
        says_judged q.past (judged.start_not_kept q.ranges q.few p.valued f)
        ∙ ap {B = Verdict} (λ j. refused (answer 8 j 0)) (one_place (keep_place ts m (spelt q.past)) s)
    refusal (broken p t b) =
        let q = p.past in says_judged q.past (judged.broken q.ranges q.few p.valued t b)

-- A file that the checks 1 to 7 and 15 pass is refused with 8 or 9, and has one tree

pub past_15_late : {file : List ℕ} {ts : List Token} {m : Monitor} → Past15 file ts m → {a : Answer}
    → check file ≡ refused a → (a.number ≡ 8) ⊎ (a.number ≡ 9)
past_15_late {ts = ts} {m = m} p {a} e =
    let q = p.past in
    go ((check_meaning_iff ts m (spelt q.past) _).0 refl) (sym (after_6 q.past) ∙ e)
  where
    go : {v : Verdict} → Judged ts m v → v ≡ refused a → (a.number ≡ 8) ⊎ (a.number ≡ 9)
    go (sound s) h = different (cc)
    go (judged.is_ill_ranged t) h =
        let none_is = ill_ranged_good (places_of k_var ts) p.past.ranges p.past.few in
        let some_is = ill_ranged_first (places_of k_var ts) t in
        different (cc)
    go (judged.unvalued {k} good few f) h =
        let none_is = (unvalued_none m good ts (spelt p.past.past)).1 p.valued in
        let some_is = (unvalued_first m good ts (spelt p.past.past) k).1 f in
        different (cc)
    go (judged.start_not_kept good few valued f) h = inl (cc)
    go (judged.broken good few valued t b) h = inr (cc)

-- not with 8, where the kept condition holds at the start values
pub past_8_late : {file : List ℕ} {ts : List Token} {m : Monitor} → Past15 file ts m
    → kept_at m (starts (all m.vars)) ≡ true → {a : Answer} → check file ≡ refused a → a.number ≡ 9
past_8_late {ts = ts} {m = m} p on {a} e =
    let q = p.past in
    go ((check_meaning_iff ts m (spelt q.past) _).0 refl) (sym (after_6 q.past) ∙ e)
  where
    late : a.number ≡ 7 ⊎ (a.number ≡ 15) → a.number ≡ 9
    late h = ⊎_elim (λ eight. absurd (⊎_elim (λ z. omega arith) (λ z. omega arith) h)) (λ nine. nine) (past_15_late p e)

    go : {v : Verdict} → Judged ts m v → v ≡ refused a → a.number ≡ 9
    go (sound s) h = different (cc)
    go (judged.is_ill_ranged {i} t) h = late (inl (cc))
    go (judged.unvalued good few f) h = late (inr (cc))
    go (judged.start_not_kept good few valued f) h = clash on f
    go (judged.broken good few valued t b) h = cc

pub past_7_one : {file : List ℕ} {ts us : List Token} {m n : Monitor} → tokenize file ≡ tokens ts → spell m ≡ lexemes ts
    → Past7 file us n → (us ≡ ts) × (n ≡ m)
past_7_one {file} {ts} {us} {m} {n} cut spelt p =
    let q = p.past.past.past in
    let other = (tokenize_tokens file us).1 q.past.past.cut in
    let same : us ≡ ts = cc in
    let read_n = spelled_read n in
    let read_m = spelled_read m in
    let one : spell n ≡ spell m = rw same at q.grammar ∙ sym spelt in
    (same, cc)

-- Every file has such a verdict, check by check

module _ (file : List ℕ) where
  abbrev Grounds : Type 0
  Grounds = (v : Verdict) × HasVerdict file v

  by_tree : (ts : List Token) (m : Monitor) → Past4 file ts m → Grounds
  by_tree ts m p = limit (past_limit 0 0 0 0 ts) refl
    where
      name : (o : Option ℕ) → misnamed (number 0) [] [] ts ≡ o → Past5 file ts m → Grounds
      name (some k) e q = (refused (answer 6 k 0), wrong_name q ((misnamed_first ts k).0 e))
      name none e q = (
        check_meaning ts m,
        of_judged (record { past = q; names = (misnamed_none ts).0 e })
            ((check_meaning_iff ts m (sym q.past.grammar) _).0 refl),
      )

      limit : (o : Option ℕ) → past_limit 0 0 0 0 ts ≡ o → Grounds
      limit (some k) e = (refused (answer 5 k 0), is_past_limit p ((past_first ts k).0 e))
      limit none e = name (misnamed (number 0) [] [] ts) refl (record { past = p; counts = (past_none ts).0 e })

  by_tokens : (ts : List Token) → Past2 file ts → Grounds
  by_tokens ts p = go (crowded 0 0 0 ts) refl
    where
      reading : Past3 file ts → Reads (length file) ts → Grounds
      reading q (whole m e g) = by_tree ts m (record { past = q; grammar = e })
      reading q (wrong us e f) = (refused (answer 4 (place_of (length file) (left_of ts us)) 0), no_file q f)
      reading q (early us e r v n) = (refused (answer 4 (length file) 0), ends_early q v n)

      go : (o : Option ℕ) → crowded 0 0 0 ts ≡ o → Grounds
      go (some k) e = (refused (answer 3 k 0), too_many p ((crowded_first ts k).0 e))
      go none e = reading (record { past = p; limits = (crowded_none ts).0 e }) (reads_as (length file) p)

  grounds : Grounds
  grounds = split (ltb 8192 (length file)) (λ e. (refused (answer 1 0 0), too_long (ltb-true 8192 (length file) e)))
      (λ e. go (ltb-false 8192 (length file) e) (tokenize file) refl)
    where
      go : length file ≤ 8192 → (t : Tokens) → tokenize file ≡ t → Grounds
      go h (tokens ts) e = by_tokens ts (record { short = h; cut = (tokenize_tokens file ts).0 e })
      go h (none_at k) e = (refused (answer 2 k 0), no_token h ((tokenize_none file k).0 e))

  -- The theorems

  pub check_iff : (v : Verdict) → (check file ≡ v) ↔ HasVerdict file v
  check_iff v = (λ e. subst (HasVerdict file) (sym (says file grounds.0 grounds.1) ∙ e) grounds.1, says file v)

  -- demand 2: "A file is accepted exactly when"
  pub accepted_iff : (m : Monitor) → (check file ≡ accepted m) ↔ Accepted file m
  accepted_iff m = check_iff (accepted m)

  -- demand 1: "a numbered refusal with its place"
  pub refused_iff : (a : Answer) → (check file ≡ refused a) ↔ Refusal file a
  refused_iff a = check_iff (refused a)

  -- every file has a verdict, and no two
  pub verdict : ((m : Monitor) × Accepted file m) ⊎ ((a : Answer) × Refusal file a)
  verdict = go grounds.0 grounds.1
    where
      go : (v : Verdict) → HasVerdict file v → ((m : Monitor) × Accepted file m) ⊎ ((a : Answer) × Refusal file a)
      go (accepted m) s = inl (m, s)
      go (refused a) s = inr (a, s)

  pub one_verdict : (v w : Verdict) → HasVerdict file v → HasVerdict file w → v ≡ w
  one_verdict v w s t = sym (says file v s) ∙ says file w t
