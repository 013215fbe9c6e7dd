-- What the code puts together from numbers that it found is what the slices say: a law for each record.
use Prim.Native.Nat.{ℕ, ◌+◌}
use mathlib.Core.Path.{◌≡◌}
use mathlib.Core.List.{List}
use lib.ListN.{get_or, take}
use Rattle.syntax.specs.Token.{key, k_var, k_method, k_waituntil}
use Rattle.syntax.specs.Held.Kind.{kind_of}
use Rattle.variables.specs.declared.Bounds.{Bounds}
use Rattle.outline.specs.Found.{nth_of, count_of}
use Rattle.outline.specs.Slices.{name_in, between_in, bracket_at, brace_at, semicolon_at, condition_in, variable_in}
use Rattle.outline.specs.Slices.{method_in, region_in}
use Rattle.outline.specs.declared.Span.{Span}
use Rattle.outline.specs.declared.Variable.{Variable}
use Rattle.outline.specs.declared.Method.{Method}
use Rattle.outline.specs.declared.Region.{Region}

module _ (places : List ℕ) where
  pub name_formed : (values : List ℕ) (at from long : ℕ) → from ≡ get_or places at 0 → long ≡ get_or values at 0
      → ◌≡◌ {A = Span} (record { from = from; to = from + long }) (name_in values places at)
  unfolding name_in
  name_formed values at from long p q = cc

  pub between_formed : (opener size closer from to : ℕ) → from ≡ get_or places opener 0 → to ≡ get_or places closer 0
      → ◌≡◌ {A = Span} (record { from = from + size; to = to }) (between_in places opener size closer)
  unfolding between_in
  between_formed opener size closer from to p q = cc

module _ (kinds places : List ℕ) where
  pub condition_formed : (kind k size at end : ℕ) (s : Span) → at ≡ nth_of kind k kinds
      → end ≡ semicolon_at kinds (at + 1) → s ≡ between_in places at size end → s ≡ condition_in kinds places kind k size
  unfolding condition_in
  condition_formed kind k size at end s p q r = cc

  pub variable_formed : (values : List ℕ) (b : Bounds) (k at : ℕ) (name : Span)
      → at ≡ nth_of (kind_of (key k_var)) k kinds → name ≡ name_in values places (at + 1)
      → ◌≡◌ {A = Variable}
      (record { name = name; start = get_or b.starts k 0; low = get_or b.lows k 0; high = get_or b.highs k 0 })
      (variable_in kinds values places b k)
  unfolding variable_in
  variable_formed values b k at name p q = cc

  pub method_formed : (values : List ℕ) (k at first : ℕ) (name : Span) → at ≡ nth_of (kind_of (key k_method)) k kinds
      → name ≡ name_in values places (at + 1) → first ≡ count_of (kind_of (key k_waituntil)) (take at kinds)
      → ◌≡◌ {A = Method} (record { name = name; first = first }) (method_in kinds values places k)
  unfolding method_in
  method_formed values k at first name p q r = cc

  pub region_formed : (number k at closer end : ℕ) (guard body : Span)
      → at ≡ nth_of (kind_of (key k_waituntil)) k kinds → closer ≡ bracket_at kinds (at + 1 + 1)
      → end ≡ brace_at kinds (closer + 1 + 1) → guard ≡ between_in places (at + 1) 1 closer
      → body ≡ between_in places (closer + 1) 1 end
      → ◌≡◌ {A = Region} (record { guard = guard; body = body; number = number }) (region_in kinds places number k)
  unfolding region_in
  region_formed number k at closer end guard body p q r s t = cc
