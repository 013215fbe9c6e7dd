-- How many kinds are passed until the one that closes: a kind that opens and one that closes, and how many are open.
use Rattle.std.specs.Prelude.{ℕ, zero, suc, true, false, List, [], ◌∷◌, eqb}

unfoldable pub close_from : ℕ → ℕ → ℕ → List ℕ → ℕ
close_from o c d [] = 0
close_from o c zero (k ∷ ks) =
    elim (eqb k o)
    [ true ↦ suc (close_from o c 1 ks) | false ↦ elim (eqb k c) [ true ↦ 0 | false ↦ suc (close_from o c 0 ks) ] ]
close_from o c (suc d) (k ∷ ks) =
    elim (eqb k o) [
      | true ↦ suc (close_from o c (suc (suc d)) ks)
      | false ↦ elim (eqb k c) [ true ↦ suc (close_from o c d ks) | false ↦ suc (close_from o c (suc d) ks) ]
    ]
