-- What was loaded of a file tells its states: a file that the checks 1 to 7 and 15 pass, or 8 too, has a verdict with one
-- of few numbers, by which the calls test it.
use Prim.Native.Nat.{ℕ, ◌≤◌}
use mathlib.Core.Path.{◌≡◌, refl, sym, subst, ap, ◌∙◌}
use mathlib.Core.Bool.{true, false, ◌||◌}
use mathlib.Core.Logic.{⊎_elim}
use mathlib.Core.List.{List}
use lib.ListN.{length}
use lib.Dec.{eqb}
use Rattle.syntax.specs.Token.{Lexeme, Token, lexemes}
use Rattle.syntax.specs.Tree.{Var, Monitor, all, spell}
use Rattle.syntax.specs.Held.Kind.{Words}
use Rattle.syntax.specs.Decide.Scan.{tokens}
use Rattle.syntax.proofs.Scanning.{tokenize_tokens}
use Rattle.logic.proofs.Bools.{clash}
use Rattle.meaning.specs.State.{starts}
use Rattle.meaning.specs.Kept.{kept_at}
use Rattle.meaning.specs.Answer.{Verdict, answer, accepted, refused}
use Rattle.meaning.specs.Refusal.{Past15}
use Rattle.meaning.specs.Decide.Check.{check}
use Rattle.meaning.specs.Model.{vars}
use Rattle.meaning.proofs.Verdicts.{past_15_late, past_8_late}
use Rattle.meaning.proofs.Sizes.{sizes_of}
use Rattle.variables.specs.Bounded.{Bounded}
use Rattle.layout.specs.Laid.{Laid}
use Rattle.states.specs.Rows.{GuardNumbers}
use Rattle.loader.specs.Loading.{Loads}
use Rattle.loader.specs.declared.Loaded.{Loaded}
use Rattle.outline.specs.Outlined.{Outlines, NoOutline}
use Rattle.outline.specs.declared.Outline.{Outline}
use Rattle.lookup.specs.Looked.{Looked, StateIs, NoState, NumberIs, NoNumber}
use Rattle.lookup.specs.declared.State.{State}
use Rattle.lookup.specs.declared.Numbered.{Numbered}
use Rattle.choice.specs.Slots.{slot_of}
use Rattle.survey.specs.declared.Fates.{Fates}
use Rattle.survey.specs.Told.{past15, past8, fate_slot, NoFates, FatesTold}
use Rattle.survey.specs.Told.{OutlineTold, StateTold, NumberTold}
use Rattle.answers.specs.Says.{Is, answer_of}
use Rattle.answers.specs.declared.Answer as code

-- the number of an answer to a file that passes the checks
module _ {file : List ℕ} (r : code.Answer) (is : Is r (check file)) {ts : List Token} {m : Monitor}
    (p : Past15 file ts m) where
  pub told_15 : past15 r.number ≡ true
  unfolding Is answer_of past15
  told_15 = go (check file) refl is
    where
      go : (v : Verdict) → check file ≡ v → Is r v → eqb r.number 0 || eqb r.number 8 || eqb r.number 9 ≡ true
      go (accepted n) e s = rw s.number
      go (refused a) e s =
          ⊎_elim (λ (h : a.number ≡ 8). rw (s.number, h)) (λ (h : a.number ≡ 9). rw (s.number, h)) (past_15_late p e)

  pub told_8 : kept_at m (starts (vars m)) ≡ true → past8 r.number ≡ true
  unfolding Is answer_of past8
  told_8 on = go (check file) refl is
    where
      go : (v : Verdict) → check file ≡ v → Is r v → eqb r.number 0 || eqb r.number 9 ≡ true
      go (accepted n) e s = rw s.number
      go (refused a) e s = rw (s.number, past_8_late p on e)

-- What was loaded of a file, and a result that has the verdict of it

module _ {file : List ℕ} {l : Loaded} {kept holds after : List ℕ} (loads : Loads file l kept holds after) where
  same_verdict : {r : code.Answer} → r ≡ l.answer → Is r (check file)
  same_verdict e = subst (λ (a : code.Answer). Is a (check file)) (sym e) loads.verdict

  module _ (n : ℕ) (r : State) (e : r.answer ≡ l.answer) where
    pub state_untold : past8 l.answer.number ≡ false → NoState r → StateTold file n r
    state_untold low none =
        record {
          verdict = same_verdict e;
          told = λ ts m p on. clash (told_8 l.answer loads.verdict p on) low;
          untold = λ _. none;
        }

    pub state_told : past8 l.answer.number ≡ true
        → ((m : Monitor) → Looked m l.bounds l.layout kept holds after → StateIs m n r) → StateTold file n r
    unfolding GuardNumbers
    state_told high is =
        record {
          verdict = same_verdict e;
          told = λ ts m p on.
              let (bounded, laid) = loads.outlined ts m p in
              let rows = (loads.rows ts m p on).0 in
              let few = (sizes_of ts m p.past.past.past.past.grammar p.past.past.past.counts).regions in
              is m (record {
                bounded = bounded;
                region_count = laid.region_count;
                guard_count = laid.guard_count;
                few_regions = few;
                guard_numbers = numbers m laid;
                by_kept = rows.by_kept;
                by_holds = rows.by_holds;
                outcomes = rows.outcomes;
              });
          untold = λ low. clash high (ap (λ (x : code.Answer). past8 x.number) (sym e) ∙ low);
        }
      where
        numbers : (m : Monitor) {ls : List Lexeme} → Laid m ls l.layout → GuardNumbers m l.layout.guard_of
        numbers m laid = laid.guard_numbers

  -- a refusal of the file, by its number
  pub refused_as : {n k : ℕ} → check file ≡ refused (answer n k 0) → past15 n ≡ false → past15 l.answer.number ≡ false
  unfolding Is answer_of
  refused_as {n} {k} h low =
      let s : l.answer.number ≡ n = (rw h at loads.verdict).number in ap past15 s ∙ low

  module _ (r : Outline) (e : r.answer ≡ l.answer) where
    pub outline_untold : past15 l.answer.number ≡ false → NoOutline r → OutlineTold file r
    outline_untold low none =
        record {
          verdict = same_verdict e;
          told = λ ts m p. clash (told_15 l.answer loads.verdict p) low;
          untold = λ _. none;
        }

    pub outline_told : past15 l.answer.number ≡ true
        → {ts : List Token} {kinds values places : List ℕ} → Words file ts kinds values places
        → ((f : List ℕ) (us : List Token) (m : Monitor) → Words f us kinds values places → spell m ≡ lexemes us
        → length m.tries ≤ 16 → length (all m.methods) ≤ 8 → Bounded (vars m) l.bounds → Laid m (lexemes us) l.layout
        → Outlines us m r) → OutlineTold file r
    outline_told high {ts} {kinds} {values} {places} w is =
        record {
          verdict = same_verdict e;
          told = λ us m p.
              let q = p.past.past.past.past in
              let (bounded, laid) = loads.outlined us m p in
              let cut = (tokenize_tokens file us).1 q.past.past.cut in
              let same : ts ≡ us = tokens_same (sym w.cut ∙ cut) in
              is file us m (subst (λ (x : List Token). Words file x kinds values places) same w) q.grammar
              (sizes_of us m q.grammar p.past.past.past.counts).tries
              (sizes_of us m q.grammar p.past.past.past.counts).methods bounded laid;
          untold = λ low. clash high (ap (λ (x : code.Answer). past15 x.number) (sym e) ∙ low);
        }
      where
        tokens_same : {a b : List Token} → tokens a ≡ tokens b → a ≡ b
        tokens_same h = cc

  module _ (values : List ℕ) (r : Numbered) (e : r.answer ≡ l.answer) where
    pub number_untold : past15 l.answer.number ≡ false → NoNumber r
        → NumberTold file values r
    number_untold low none =
        record {
          verdict = same_verdict e;
          told = λ ts m p. clash (told_15 l.answer loads.verdict p) low;
          untold = λ _. none;
        }

    pub number_told : past15 l.answer.number ≡ true
        → ((vs : List Var) → Bounded vs l.bounds → NumberIs vs values r) → NumberTold file values r
    number_told high is =
        record {
          verdict = same_verdict e;
          told = λ ts m p. is (vars m) (loads.outlined ts m p).0;
          untold = λ low. clash high (ap (λ (x : code.Answer). past15 x.number) (sym e) ∙ low);
        }

  module _ (r : Fates) (e : r.answer ≡ l.answer) where
    pub fates_untold : past8 l.answer.number ≡ false → NoFates r → FatesTold file r
    fates_untold low none =
        record {
          verdict = same_verdict e;
          told = λ ts m p on. clash (told_8 l.answer loads.verdict p on) low;
          untold = λ _. none;
        }

    -- the fields are those of the choice
    pub fates_told : past8 l.answer.number ≡ true → r.known ≡ true
        → r.tries ≡ l.tries → r.chosen ≡ l.choice.chosen
        → ((i : ℕ) → fate_slot r i ≡ slot_of l.choice i) → FatesTold file r
    fates_told high known tries chosen slots =
        record {
          verdict = same_verdict e;
          told = λ ts m p on.
              let c = (loads.rows ts m p on).1 in
              record {
                known = known;
                tries = tries ∙ c.counted;
                chosen = chosen ∙ c.choice.bits;
                each_fate = λ i low. slots i ∙ c.choice.slots i low;
              };
          untold = λ low. clash high (ap (λ (x : code.Answer). past8 x.number) (sym e) ∙ low);
        }
