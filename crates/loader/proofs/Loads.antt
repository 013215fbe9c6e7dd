-- What a loaded file says of its check: of a refused one nothing more, of an accepted one all that the slices hold; and
-- slices that are left as they were.
use Prim.Native.Nat.{ℕ, ◌≤◌}
use native.Mathlib.Omega.{arith}
use mathlib.Core.Path.{◌≡◌, refl, sym, subst, ap, ◌∙◌}
use mathlib.Core.Bool.{true, false}
use mathlib.Core.Logic.{⊎_elim}
use mathlib.Core.List.{List}
use mathlib.Core.Option.{Option, none, some}
use lib.ListN.{length, get_or, length-map}
use Rattle.syntax.specs.Token.{Token, lexemes}
use Rattle.syntax.specs.Tree.{Monitor}
use Rattle.syntax.specs.Held.Kind.{Words}
use Rattle.logic.proofs.Bools.{split}
use Rattle.logic.proofs.Bools.{different}
use Rattle.meaning.specs.State.{starts}
use Rattle.meaning.specs.Kept.{kept_at}
use Rattle.meaning.specs.Answer.{Answer, answer, Verdict, accepted, refused}
use Rattle.meaning.specs.Refusal as words
use Rattle.meaning.specs.Decide.Check.{unvalued, broken, check}
use Rattle.meaning.specs.Model.{vars, regions}
use Rattle.meaning.proofs.Sizes.{Sizes}
use Rattle.meaning.proofs.Verdicts.{accepted_iff, past_15_late, past_7_one}
use Rattle.variables.specs.Bounded.{Bounded}
use Rattle.names.specs.Slots.{Resolved}
use Rattle.layout.specs.Laid.{IsKeep, Laid, TriesLaid, Linked}
use Rattle.syntax.specs.Held.Kind.{Kinds}
use Rattle.layout.specs.declared.Layout.{Layout}
use Rattle.layout.specs.declared.Tries.{Tries}
use Rattle.states.proofs.Holding.{held}
use Rattle.answers.specs.Says.{Says, Is, answer_of}
use Rattle.answers.specs.Numbered.{numbered}
use Rattle.answers.specs.declared.Answer as code
use Rattle.answers.specs.declared.Refusal.{Refusal}
use Rattle.answers.specs.declared.Refusal.TheVariants.{TooLong, NoToken, NoRemainder}
use Rattle.std.specs.Prelude.{Result, Ok, Err}
use Rattle.std.specs.Result.{IsErrAnd}
use Rattle.layout.proofs.Same.{lexemes_length}
use Rattle.judging.proofs.Refusals.{kinds_of, says_15, says_8, says_9, says_0}
use Rattle.divisors.specs.Coded.{Coded}
use Rattle.judging.proofs.Counts.{few_tokens, few_parts}
use Rattle.loader.proofs.Names.{codes}
use Rattle.loader.proofs.Flags.{held_places}
use Rattle.judging.specs.Judging.{Past7, Judges}
use Rattle.loader.specs.Loading.{Chosen, Monitored, Loads, LoadsOr, Early}
use Rattle.sets.specs.Set.{size}
use Rattle.meaning.specs.Decide.Touch.{sum_of, pairs_of}
use Rattle.mentions.specs.Mentioned as mentions
use Rattle.mentions.specs.declared.Mentions.{Mentions}
use Rattle.mentions.proofs.Counted.{pairs_counted}
use Rattle.mentions.proofs.GuardsAt.{few_guards}
use Rattle.rows.specs.Filling.{Filling}
use Rattle.filling.specs.Filling.{Filled, Rows, Leaves}
use Rattle.judging.specs.declared.Judged.{Judged}
use Rattle.filling.specs.declared.Settled.{Settled}
use Rattle.loader.specs.declared.Loaded.{Loaded}
use Rattle.filling.proofs.Fills.{numbers_of}

-- such an answer is that of no file that passes these checks
not_passed : (file : List ℕ) (l : Loaded) → Early l.answer.number → Is l.answer (check file)
    → (ts : List Token) (m : Monitor) → words.Past15 file ts m → ⊥
unfolding Is answer_of
not_passed file l early is ts m p = go (check file) refl
  where
    go : (v : Verdict) → check file ≡ v → ⊥
    go (accepted n) e = early.0 (rw e at is.number)
    go (refused a) e =
        let h : l.answer.number ≡ a.number = rw e at is.number in
        ⊎_elim (λ eight. early.1 (h ∙ eight)) (λ nine. early.2 (h ∙ nine)) (past_15_late p e)

loads_refused : (file : List ℕ) (l : Loaded) (kept holds after : List ℕ) → Early l.answer.number
    → Is l.answer (check file) → Loads file l kept holds after
unfolding Is answer_of
loads_refused file l kept holds after early is =
    record {
      verdict = is;
      monitored = λ m e. absurd (early.0 (rw e at is.number));
      outlined = λ ts m p. absurd (not_passed file l early is ts m p);
      rows = λ ts m p on. absurd (not_passed file l early is ts m p);
    }

is_refused : (file : List ℕ) {r : code.Answer} {a : Answer} → check file ≡ refused a → Says r a → Is r (check file)
unfolding Is answer_of
is_refused file e s = rw e s

-- 1 to 7 and 15, of what is not loaded
pub loads_early : (file : List ℕ) (l : Loaded) (kept holds after : List ℕ) {r : code.Answer} (f : Refusal) → l.answer ≡ r
    → Says r (numbered f) → LoadsOr file (Err f) kept holds after → Loads file l kept holds after
unfolding LoadsOr
loads_early file l kept holds after f same s (early, e) =
    let is = ap (λ (x : code.Answer). x.number) same ∙ s.number in
    loads_refused file l kept holds after (subst Early (sym is) early)
    (subst (λ (x : code.Answer). Is x (check file)) (sym same) (is_refused file e s))

pub leaves_early : (l : Loaded) {r : code.Answer} (f : Refusal) {a b c d e g : List ℕ} → l.answer ≡ r → Says r (numbered f)
    → Leaves (numbered f).number a b c d e g → Leaves l.answer.number a b c d e g
leaves_early l f {a} {b} {c} {d} {e} {g} same s h =
    subst (λ (n : ℕ). Leaves n a b c d e g) (sym (ap (λ (x : code.Answer). x.number) same ∙ s.number)) h

-- 1 and 2
pub too_long : (file kept holds after : List ℕ) → check file ≡ refused (answer 1 0 0)
    → LoadsOr file (Err TooLong) kept holds after
unfolding LoadsOr
too_long file kept holds after e = (((λ z. omega arith), (λ z. omega arith), λ z. omega arith), e)

pub no_token : (file kept holds after : List ℕ) (k : ℕ) → check file ≡ refused (answer 2 k 0)
    → LoadsOr file (Err (NoToken k)) kept holds after
unfolding LoadsOr
no_token file kept holds after k e = (((λ z. omega arith), (λ z. omega arith), λ z. omega arith), e)

-- 3 to 7
pub judged_early : (file : List ℕ) (ts : List Token) (r : Refusal) (kept holds after : List ℕ) → Judges file ts (Err r)
    → LoadsOr file (Err r) kept holds after
unfolding LoadsOr Judges
judged_early file ts r kept holds after (low, high, e) =
    (((λ z. omega arith), (λ z. omega arith), λ z. omega arith), e)

-- a refusal that `?` hands on
pub same_refusal : (file : List ℕ) (x : Result Loaded Refusal) (r : Refusal) (kept holds after : List ℕ)
    → IsErrAnd x (λ e. e ≡ r) → LoadsOr file (Err r) kept holds after → LoadsOr file x kept holds after
same_refusal file (Ok l) r kept holds after e h = absurd e
same_refusal file (Err f) r kept holds after e h =
    subst (λ (y : Refusal). LoadsOr file (Err y) kept holds after) (sym e) h

pub judged_tree : (file : List ℕ) (ts : List Token) (j : Judged) → Judges file ts (Ok j) → (m : Monitor) × Past7 ts m j
unfolding Judges
judged_tree file ts j q = q

pub loaded_said : (file : List ℕ) (l : Loaded) (kept holds after : List ℕ) → LoadsOr file (Ok l) kept holds after
    → Loads file l kept holds after
unfolding LoadsOr
loaded_said file l kept holds after q = q

module _ {file : List ℕ} {ts : List Token} {kinds values places : List ℕ} (w : Words file ts kinds values places)
    (m : Monitor) (j : Judged)
    (p : Past7 ts m j) where
  pub sizes : Sizes m
  sizes = few_parts ts m p.grammar p.counts

  pub few : length ts ≤ 1024
  few = few_tokens ts p.uncrowded

  pub kinds_long : length kinds ≡ length ts
  kinds_long = rw (w.by_kind, length-map)

  pub is_keep : IsKeep m (lexemes ts) j.keep
  unfolding IsKeep
  is_keep = p.keep_stands

  pub few_lexemes : length (lexemes ts) ≤ 1024
  few_lexemes = omega (arith, few, lexemes_length ts)

  pub kinds_held : Kinds (lexemes ts) kinds
  unfolding Kinds
  kinds_held = kinds_of w

  pub resolved_long : (resolved : List ℕ) → Resolved ts resolved → length resolved ≡ length (lexemes ts)
  unfolding Resolved
  resolved_long resolved r = rw (r, length-map, lexemes_length)

  -- what 15 asks for, names and braces resolved
  pub coded : (resolved linked : List ℕ) → Resolved ts resolved → Linked (lexemes ts) resolved linked
      → Coded (vars m) (lexemes ts) kinds linked j.bounds.lows j.bounds.count
  coded resolved linked r k =
      record {
        codes = codes m resolved linked p.grammar w r k.as_long k.others k.linked;
        lowest =
            record {
              few = p.bounded.few_vars;
              counted = p.bounded.counted;
              held = p.bounded.ranges.lows_held;
            };
      }

  -- and laid out
  pub filling : (l : Layout) (t : Tries) {linked : List ℕ}
      → Coded (vars m) (lexemes ts) kinds linked j.bounds.lows j.bounds.count → Laid m (lexemes ts) l
      → TriesLaid m (lexemes ts) t → Filling m (lexemes ts) kinds linked j.bounds l t
  filling l t c laid tries =
      record {
        codes = c.codes;
        bounded = p.bounded;
        laid = laid;
        tries_laid = tries;
        few = omega (arith, few_lexemes);
        few_regions = sizes.regions;
        few_tries = sizes.tries;
      }

  -- 15, at a place that was found
  pub loads_15 : (kept holds after : List ℕ) {k i : ℕ} → i ≡ k → unvalued (vars m) false ts ≡ some k
      → LoadsOr file (Err (NoRemainder i)) kept holds after
  unfolding LoadsOr
  loads_15 kept holds after e u = (
    ((λ z. omega arith), (λ z. omega arith), λ z. omega arith),
    says_15 w p.uncrowded m p.grammar p.counts p.names p.ranges u ∙ ap (λ (b : ℕ). refused (answer 15 b 0)) (sym e),
  )

  -- what is known of its names
  pub resolved : {l : Layout} {t : Tries} {linked : List ℕ} → Filling m (lexemes ts) kinds linked j.bounds l t
      → mentions.Resolved m (lexemes ts) kinds linked j.bounds.count l t
  resolved f =
      record {
        codes = f.codes;
        counted = f.bounded.counted;
        laid = f.laid;
        tries_laid = f.tries_laid;
        few_vars = f.bounded.few_vars;
        few_regions = f.few_regions;
        few_tries = f.few_tries;
      }

  module _ (l : Layout) (t : Tries) (n : Mentions) (pairs : ℕ) (r : Settled) (kept holds after : List ℕ)
      {linked : List ℕ} (f : Filling m (lexemes ts) kinds linked j.bounds l t) (named : mentions.Mentioned m n)
      (counts : l.regions ≤ 16 → pairs ≡ sum_of l.regions (λ q. size (get_or n.touched q 0) 16))
      {place : ℕ} (at_keep : place ≡ get_or places j.keep 0) (valued : unvalued (vars m) false ts ≡ none) (filled : Filled m place r kept holds after) where
    abbrev loaded : Loaded
    loaded =
        record {
          answer = r.answer;
          bounds = j.bounds;
          layout = l;
          tries = t.count;
          choice = r.choice;
          touched = n.touched;
          pairs = pairs;
        }

    all_pairs : pairs ≡ pairs_of m
    all_pairs =
        counts (omega (arith, f.laid.region_count, f.few_regions))
        ∙ ap (λ (k : ℕ). sum_of k (λ q. size (get_or n.touched q 0) 16)) f.laid.region_count
        ∙ pairs_counted m n.touched named.touched (few_guards f.laid f.few_regions)

    outlined : (us : List Token) (n : Monitor) → words.Past15 file us n
        → Bounded (vars n) j.bounds × Laid n (lexemes us) l
    outlined us n q =
        let (one, two) = past_7_one w.cut p.grammar q.past in
        rw (one, two) (p.bounded, f.laid)

    chosen : kept_at m (starts (vars m)) ≡ true → Chosen m loaded
    chosen on = record { counted = f.tries_laid.count; choice = (filled.settles on).choice }

    rows : (us : List Token) (n : Monitor) → words.Past15 file us n → kept_at n (starts (vars n)) ≡ true
        → Rows n kept holds after × Chosen n loaded
    rows us n q =
        let (one, two) = past_7_one w.cut p.grammar q.past in
        subst (λ (x : Monitor). kept_at x (starts (vars x)) ≡ true → Rows x kept holds after × Chosen x loaded) (sym two)
        (λ on. ((filled.settles on).rows, chosen on))

    refuses : {v : Answer} → check file ≡ refused v → Says r.answer v → Loads file loaded kept holds after
    refuses e s =
        record { verdict = is_refused file e s; monitored = λ n h. different (cc); outlined = outlined; rows = rows }

    accepts : kept_at m (starts (vars m)) ≡ true → broken m ≡ none
        → check file ≡ accepted m → Loads file loaded kept holds after
    unfolding Is answer_of
    accepts on none_breaks e =
        let (says, by_after) = (filled.settles on).passes none_breaks in
        let full = (filled.settles on).rows in
        record {
          outlined = outlined;
          rows = rows;
          verdict = rw e says;
          monitored = λ n h.
              let same : m ≡ n = cc in
              subst (λ (x : Monitor). Monitored x loaded kept holds after) same (record {
                bounded = p.bounded;
                held = held m ((accepted_iff file m).0 e).sound sizes.regions full.by_kept full.by_holds by_after
                    (numbers_of f);
                held_places = held_places m f.laid.begin_flags f.laid.follow_flags;
                region_count = f.laid.region_count;
                guard_count = f.laid.guard_count;
                chosen = chosen on;
                touched = named.touched;
                pairs = all_pairs;
              });
        }

    all : Loads file loaded kept holds after
    unfolding regions
    all =
        split (kept_at m (starts (vars m))) (λ on. go on (broken m) refl)
        (λ off. refuses (says_8 w p.uncrowded m p.grammar p.counts p.names p.ranges valued
        j.keep p.keep_stands off)
        (rw at_keep at (filled.fails off)))
      where
        go : kept_at m (starts (vars m)) ≡ true → (o : Option (ℕ × ℕ)) → broken m ≡ o
            → Loads file loaded kept holds after
        go on (some (k, n)) e =
            refuses (says_9 w p.uncrowded m p.grammar p.counts p.names p.ranges valued on e)
            ((filled.settles on).breaks k n e)
        go on none e = accepts on e (says_0 w p.uncrowded m p.grammar p.counts p.names p.ranges valued on e)

    pub loads : LoadsOr file (Ok loaded) kept holds after
    unfolding LoadsOr
    loads = all
