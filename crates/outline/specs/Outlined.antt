-- The outline that the code returns against what a file has (`meaning/specs/Outline`): every part of it.
use Rattle.std.specs.Prelude.{ℕ, ◌+◌, ◌≤◌, ◌≡◌, List, ◌∷◌, ◌++◌, length, get_or, replicate}
use Rattle.syntax.specs.Limits.{most_vars, most_tries, most_methods}
use Rattle.machine.specs.Limits.{most_regions}
use Rattle.syntax.specs.Token.{Token}
use Rattle.syntax.specs.Tree.{Cond, Region, Method, Var, Monitor, all}
use Rattle.meaning.specs.Held.{Offset}
use Rattle.meaning.specs.Value.{int_of}
use Rattle.meaning.specs.State.{count, start_number}
use Rattle.meaning.specs.Runs.{regions_of}
use Rattle.meaning.specs.Model.{guard_of}
use Rattle.meaning.specs.Model as model
use Rattle.meaning.specs.Outline.{TitleAt, KeepAt, TryAt, VariableAt, MethodAt, GuardAt, BodyAt}
use Rattle.outline.specs.declared.Span.{Span}
use Rattle.outline.specs.declared.Outline.{Outline}
use Rattle.outline.specs.declared.Variable as code
use Rattle.outline.specs.declared.Method as code_method
use Rattle.outline.specs.declared.Region as code_region

-- What an empty slot holds (R 16.2, 16.3)

abbrev pub no_span : Span
no_span = record { from = 0; to = 0 }

abbrev pub no_variable : code.Variable
no_variable = record { name = no_span; start = 0; low = 0; high = 0 }

abbrev pub no_method : code_method.Method
no_method = record { name = no_span; first = 0 }

abbrev pub no_region : code_region.Region
no_region = record { guard = no_span; body = no_span; number = 0 }

module _ (ts : List Token) (m : Monitor) where
  -- the variable behind some: its name, and its start value and bounds, each with 128 added (R 16.5, 16.10)
  pub record VariableIs (before : List Var) (v : Var) (r : code.Variable) : Type 0 where
    pub name : VariableAt ts m before v r.name.from r.name.to
    pub start : Offset (int_of v.start) r.start
    pub low : Offset (int_of v.low) r.low
    pub high : Offset (int_of v.high) r.high

  -- the method behind some: its name, and the number of its first region, which is how many they have (R 16.5, 16.11)
  pub record MethodIs (before : List Method) (x : Method) (r : code_method.Method) : Type 0 where
    pub name : MethodAt ts m before x r.name.from r.name.to
    pub first : r.first ≡ length (regions_of before)

  -- the region behind some of a method: its guard and body, and the guard's number (R 16.8, 16.9, 16.12)
  pub record RegionIs (methods : List Method) (x : Method) (before : List Region) (q : Region)
      (r : code_region.Region) : Type 0 where
    pub guard : GuardAt ts m methods x before q r.guard.from r.guard.to
    pub body : BodyAt ts m methods x before q r.body.from r.body.to
    pub number : r.number ≡ guard_of m (length (regions_of methods) + length before)

  pub record Outlines (r : Outline) : Type 0 where
    -- how many there are, and the number of the state at the start values (R 16.3)
    pub vars : r.vars ≡ length (model.vars m)
    pub tries : r.tries ≡ length m.tries
    pub methods : r.methods ≡ length (all m.methods)
    pub regions : r.regions ≡ length (model.regions m)
    pub guards : r.guards ≡ length (model.guards m)
    pub states : r.states ≡ count (model.vars m)
    pub start : r.start ≡ start_number (model.vars m)
    -- the monitor's name and the condition behind `keep` (R 16.5, 16.7)
    pub title : TitleAt ts m r.title.from r.title.to
    pub keep : KeepAt ts m r.keep.from r.keep.to
    -- each variable, try, method and region (R 16.3)
    pub each_variable :
        (before : List Var) (v : Var) (after : List Var) → all m.vars ≡ before ++ (v ∷ after)
        → VariableIs before v (get_or r.variable (length before) no_variable)
    pub each_try :
        (before : List Cond) (c : Cond) (after : List Cond) → m.tries ≡ before ++ (c ∷ after)
        → TryAt ts m before c (get_or r.tried (length before) no_span).from
        (get_or r.tried (length before) no_span).to
    pub each_method :
        (before : List Method) (x : Method) (after : List Method) → all m.methods ≡ before ++ (x ∷ after)
        → MethodIs before x (get_or r.method (length before) no_method)
    pub each_region :
        (methods : List Method) (x : Method) (later : List Method) (before : List Region) (q : Region)
        (after : List Region) → all m.methods ≡ methods ++ (x ∷ later) → all x.regions ≡ before ++ (q ∷ after)
        → RegionIs methods x before q (get_or r.region (length (regions_of methods) + length before) no_region)
    -- the slots behind them are empty (R 16.3)
    pub no_more_variables : (k : ℕ) → length (all m.vars) ≤ k → get_or r.variable k no_variable ≡ no_variable
    pub no_try : (k : ℕ) → length m.tries ≤ k → get_or r.tried k no_span ≡ no_span
    pub no_more_methods : (k : ℕ) → length (all m.methods) ≤ k → get_or r.method k no_method ≡ no_method
    pub no_more_regions : (k : ℕ) → length (model.regions m) ≤ k → get_or r.region k no_region ≡ no_region

-- of a file that is refused otherwise than with 8 or 9: nothing (R 16.2)
pub record NoOutline (r : Outline) : Type 0 where
  pub vars : r.vars ≡ 0
  pub tries : r.tries ≡ 0
  pub methods : r.methods ≡ 0
  pub regions : r.regions ≡ 0
  pub guards : r.guards ≡ 0
  pub states : r.states ≡ 0
  pub start : r.start ≡ 0
  pub title : r.title ≡ no_span
  pub keep : r.keep ≡ no_span
  pub variables : r.variable ≡ replicate most_vars no_variable
  pub each_try : r.tried ≡ replicate most_tries no_span
  pub each_method : r.method ≡ replicate most_methods no_method
  pub each_region : r.region ≡ replicate most_regions no_region
