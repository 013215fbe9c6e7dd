-- How much a file holds that passed 3 and 5.
use Prim.Native.Nat.{ℕ, zero, suc, ◌≤◌}
use native.Mathlib.Omega.{arith}
use mathlib.Core.Path.{◌≡◌, refl, ap}
use mathlib.Core.Logic.{inl}
use mathlib.Core.Option.{none}
use mathlib.Core.List.{List, [], ◌∷◌, ◌++◌}
use lib.ListN.{length}
use Rattle.syntax.specs.Token.{Token, lexemes}
use Rattle.syntax.specs.Tree.{Monitor, spell}
use Rattle.meaning.specs.Decide.Check.{crowded, past_limit}
use Rattle.meaning.specs.Accepted.{NoneOffends, Crowded}
use Rattle.meaning.proofs.Limits.{crowded_none, past_none}
use Rattle.meaning.proofs.Sizes.{Sizes, sizes_of}

-- where none stands behind n others there are at most n
at_most : (n : ℕ) (ts : List Token) → ((before after : List Token) (t : Token) → ts ≡ before ++ (t ∷ after)
    → n ≤ length before → ⊥)
    → length ts ≤ n
at_most n [] none_past = omega arith
at_most zero (t ∷ ts) none_past = absurd (none_past [] ts t refl (omega arith))
at_most (suc n) (t ∷ ts) none_past =
    omega (
      arith,
      at_most n ts (λ b a u e h. none_past (t ∷ b) a u (ap {B = List Token} (λ us. t ∷ us) e) (omega arith)),
    )

-- 3: "past the 1,024th"
pub few_tokens : (ts : List Token) → crowded 0 0 0 ts ≡ none → length ts ≤ 1024
unfolding NoneOffends Crowded
few_tokens ts e = at_most 1024 ts (λ b a t p h. (crowded_none ts).0 e b a t p (inl h))

-- 5: at most 6 variables, 8 methods, 16 regions, and as many guards
pub few_parts : (ts : List Token) (m : Monitor) → spell m ≡ lexemes ts → past_limit 0 0 0 0 ts ≡ none → Sizes m
few_parts ts m spelt e = sizes_of ts m spelt ((past_none ts).0 e)
