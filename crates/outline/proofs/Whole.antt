-- What the code says of the outline by the slices alone is the outline of the file whose tokens, variables and layout
-- they hold.
use Prim.Native.Nat.{ℕ, ◌+◌, ◌<◌, ◌≤◌}
use native.Mathlib.Omega.{arith}
use mathlib.Core.Path.{◌≡◌, refl, sym, ap, ◌∙◌}
use mathlib.Core.List.{List, [], ◌∷◌, ◌++◌, append_assoc, append-nil}
use mathlib.Core.Option.{some}
use lib.ListN.{length, get_or, get_elem?, take, length-append, get_or-eq_default}
use lib.Seq.{drop-append_seam}
use lib.IntN.{ℤ}
use lib.Dec.{ltb}
use borrow.Author.Tests.{ltb-true, ltb-false}
use Rattle.logic.proofs.Bools.{split}
use Rattle.syntax.specs.Limits.{most_vars, most_tries, most_methods}
use Rattle.machine.specs.Limits.{most_regions}
use Rattle.syntax.specs.Token.{key, mark, rparen, Keyword, k_keep, k_method, k_try, Token, lexemes}
use Rattle.syntax.specs.Held.Kind.{kind_of, Words}
use Rattle.syntax.specs.Tree.{Cond, Region, Method, Var, Monitor, all, spell, spell_cond}
use Rattle.meaning.specs.Held.{Biased}
use Rattle.meaning.specs.State.{number_of, starts}
use Rattle.meaning.specs.Runs.{State, regions_of}
use Rattle.meaning.specs.Outline.{TryAt}
use Rattle.meaning.specs.Model as model
use Rattle.meaning.proofs.StateLaws.{starts_state}
use Rattle.meaning.proofs.KeywordPlaces.{times}
use Rattle.meaning.proofs.KeywordCounts.{try_count, method_count, not_monitor}
use Rattle.variables.specs.Bounded.{Bounded}
use Rattle.variables.specs.declared.Bounds.{Bounds}
use Rattle.logic.proofs.Indices.{elem_left}
use Rattle.variables.proofs.Walk.{starts_at}
use Rattle.layout.specs.Laid.{Laid}
use Rattle.layout.specs.declared.Layout.{Layout}
use Rattle.layout.proofs.Same.{kinds_length}
use Rattle.outline.specs.Found.{count_of}
use Rattle.outline.specs.Slices.{name_in, condition_in, variable_in, method_in, region_in}
use Rattle.outline.specs.Slices.{Listed}
use Rattle.outline.specs.Outlined.{no_span, no_variable, no_method, no_region, VariableIs, MethodIs, RegionIs}
use Rattle.outline.specs.Outlined.{Outlines}
use Rattle.outline.specs.declared.Outline.{Outline}
use Rattle.outline.proofs.Stands.{count_at}
use Rattle.outline.proofs.Parts.{title_is, keep_is, variable_is, try_is, method_is, first_is, guard_is, body_is}

-- what the code says
pub record Made (kinds values places : List ℕ) (b : Bounds) (l : Layout) (r : Outline) : Type 0 where
  pub vars : r.vars ≡ b.count
  pub tries : r.tries ≡ count_of (kind_of (key k_try)) (take (length kinds) kinds)
  pub methods : r.methods ≡ count_of (kind_of (key k_method)) (take (length kinds) kinds)
  pub regions : r.regions ≡ l.regions
  pub guards : r.guards ≡ l.guards
  pub states : r.states ≡ b.states
  pub start : (vs : List Var) (as' : List ℤ) → Bounded vs b → Biased vs as' b.starts → State vs as'
      → r.start ≡ number_of vs as'
  pub title : r.title ≡ name_in values places 1
  pub keep : r.keep ≡ condition_in kinds places (kind_of (key k_keep)) 0 4
  pub each_variable : Listed most_vars b.count no_variable (variable_in kinds values places b) r.variable
  pub each_try : Listed most_tries r.tries no_span (λ k. condition_in kinds places (kind_of (key k_try)) k 3) r.tried
  pub each_method : Listed most_methods r.methods no_method (method_in kinds values places) r.method
  pub each_region : Listed most_regions l.regions no_region (λ k. region_in kinds places (get_or l.guard_of k 0) k)
      r.region
  pub slots : length l.guards_at ≡ most_regions

-- Counts

one_of : {A : Type 0} (as' before : List A) (a : A) (after : List A) → as' ≡ before ++ (a ∷ after)
    → length before < length as'
one_of as' before a after e = let l = length-append before (a ∷ after) in omega (arith, ap length e)

regions_append : (a b : List Method) → regions_of (a ++ b) ≡ regions_of a ++ regions_of b
unfolding regions_of
regions_append [] b = refl
regions_append (x ∷ a) b =
    ap (λ (rs : List Region). all x.regions ++ rs) (regions_append a b)
    ∙ sym (append_assoc (all x.regions) (regions_of a) (regions_of b))

one_region : (m : Monitor) (methods : List Method) (x : Method) (later : List Method) (before : List Region)
    (q : Region) (after : List Region) → all m.methods ≡ methods ++ (x ∷ later)
    → all x.regions ≡ before ++ (q ∷ after)
    → length (regions_of methods) + length before < length (model.regions m)
unfolding model.regions regions_of
one_region m methods x later before q after e f =
    let l = ap length (ap regions_of e ∙ regions_append methods (x ∷ later)) in
    let a = length-append (regions_of methods) (regions_of (x ∷ later)) in
    let b = length-append (all x.regions) (regions_of later) in
    let c = one_of (all x.regions) before q after f in
    omega arith

-- the layout has sixteen slots, and no guard begins where the file does
few_regions : (m : Monitor) (ts : List Token) (l : Layout) → lexemes ts ≡ spell m → Laid m (lexemes ts) l
    → length l.guards_at ≡ most_regions → length (model.regions m) ≤ most_regions
unfolding spell
few_regions m ts l spelt laid slots = split (ltb most_regions (length (model.regions m)))
    (λ h.
    let at = laid.regions_stand most_regions (ltb-true most_regions (length (model.regions m)) h) in
    let none : get_or l.guards_at most_regions 0 ≡ 0 = get_or-eq_default l.guards_at 0 (omega arith) in
    let first : lexemes ts ≡ spell_cond (model.region m most_regions).guard ++ (mark rparen ∷ at.behind_guard) =
    rw none at at.guard_stands in
    absurd (not_monitor (model.region m most_regions).guard at.behind_guard _ (sym first ∙ spelt)))
    (λ h. ltb-false most_regions (length (model.regions m)) h)

module _ {file : List ℕ} {ts : List Token} {kinds values places : List ℕ} {b : Bounds} {l : Layout} {r : Outline}
    (made : Made kinds values places b l r) (words : Words file ts kinds values places) (m : Monitor)
    (spelt : lexemes ts ≡ spell m) (few_tries : length m.tries ≤ most_tries)
    (few : length (all m.methods) ≤ most_methods) (bounded : Bounded (model.vars m) b)
    (laid : Laid m (lexemes ts) l) where
  -- a keyword's count is how often the tree spells it
  counted : (k : Keyword) → count_of (kind_of (key k)) (take (length kinds) kinds) ≡ times k (spell m)
  counted k =
      count_at words k (lexemes ts) [] (sym (append-nil (lexemes ts))) (length kinds) (kinds_length words)
      ∙ ap (times k) spelt

  tries_are : r.tries ≡ length m.tries
  tries_are = made.tries ∙ counted k_try ∙ try_count m

  methods_are : r.methods ≡ length (all m.methods)
  methods_are = made.methods ∙ counted k_method ∙ method_count m

  variable_at : (before : List Var) (v : Var) (after : List Var) → all m.vars ≡ before ++ (v ∷ after)
      → VariableIs ts m before v (get_or r.variable (length before) no_variable)
  unfolding variable_in
  variable_at before v after e =
      let k = length before in
      let vs = all m.vars in
      let inside = one_of vs before v after e in
      let at : get_elem? vs k ≡ some v = elem_left vs k v after (rw e (drop-append_seam before (v ∷ after))) in
      rw (made.each_variable.filled k (omega (arith, bounded.few_vars)) (omega (arith, bounded.counted)))
      (record {
        name = variable_is words m spelt before v after e;
        start = rw (starts_at vs k v at) at (bounded.start_values.held k inside);
        low = bounded.ranges.lows_held k v at;
        high = bounded.ranges.highs_held k v at;
      })

  try_at_lem : (before : List Cond) (c : Cond) (after : List Cond) → m.tries ≡ before ++ (c ∷ after)
      → TryAt ts m before c (get_or r.tried (length before) no_span).from
      (get_or r.tried (length before) no_span).to
  try_at_lem before c after e =
      let inside = one_of m.tries before c after e in
      rw (made.each_try.filled (length before) (omega arith) (omega (arith, tries_are)))
      (try_is words m spelt before c after e)

  method_at : (before : List Method) (x : Method) (after : List Method) → all m.methods ≡ before ++ (x ∷ after)
      → MethodIs ts m before x (get_or r.method (length before) no_method)
  method_at before x after e =
      let k = length before in
      let inside = one_of (all m.methods) before x after e in
      rw (made.each_method.filled k (omega arith) (omega (arith, methods_are)))
      (record {
        name = method_is words m spelt before x after e;
        first = first_is words m spelt before x after e;
      })

  region_at : (methods : List Method) (x : Method) (later : List Method) (before : List Region) (q : Region)
      (after : List Region) → all m.methods ≡ methods ++ (x ∷ later) → all x.regions ≡ before ++ (q ∷ after)
      → RegionIs ts m methods x before q (get_or r.region (length (regions_of methods) + length before) no_region)
  unfolding region_in
  region_at methods x later before q after e f =
      let k = length (regions_of methods) + length before in
      let inside = one_region m methods x later before q after e f in
      let n = get_or l.guard_of k 0 in
      rw (made.each_region.filled k (omega (arith, few_regions m ts l spelt laid made.slots))
      (omega (arith, laid.region_count)))
      (record {
        guard = guard_is words m spelt methods x later before q after e f n;
        body = body_is words m spelt methods x later before q after e f n;
        number = laid.guard_numbers k inside;
      })

  pub outlines : Outlines ts m r
  outlines =
      record {
        vars = made.vars ∙ bounded.counted;
        tries = tries_are;
        methods = methods_are;
        regions = made.regions ∙ laid.region_count;
        guards = made.guards ∙ laid.guard_count;
        states = made.states ∙ bounded.states;
        start = made.start (model.vars m) (starts (model.vars m)) bounded bounded.start_values
            (starts_state bounded.good);
        title = rw made.title (title_is words m spelt);
        keep = rw made.keep (keep_is words m spelt);
        each_variable = variable_at;
        each_try = try_at_lem;
        each_method = method_at;
        each_region = region_at;
        no_more_variables = λ k h. made.each_variable.behind k (omega (arith, bounded.counted));
        no_try = λ k h. made.each_try.behind k (omega (arith, tries_are));
        no_more_methods = λ k h. made.each_method.behind k (omega (arith, methods_are));
        no_more_regions = λ k h. made.each_region.behind k (omega (arith, laid.region_count));
      }
