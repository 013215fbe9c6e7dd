-- A lane is known by its six values.
use Prim.Native.Nat.{ℕ, ◌+◌, ◌*◌, ◌<◌}
use native.Mathlib.Omega.{arith}
use mathlib.Core.Path.{◌≡◌}
use mathlib.Core.List.{List, [], ◌∷◌}
use lib.ListN.{length, get_or}
use Rattle.evaluator.specs.Coding.{lane}

pub lane_is : (xs values : List ℕ) (j : ℕ) → length values ≡ 6
    → ((k : ℕ) → k < 6 → (n : ℕ) → n ≡ k * 16 + j → get_or xs n 0 ≡ get_or values k 0)
    → lane xs j ≡ values
unfolding lane
lane_is xs (a ∷ b ∷ c ∷ d ∷ e ∷ f ∷ []) j six h =
    let at_0 = h 0 (omega arith) j (omega arith) in
    let at_1 = h 1 (omega arith) (16 + j) (omega arith) in
    let at_2 = h 2 (omega arith) (32 + j) (omega arith) in
    let at_3 = h 3 (omega arith) (48 + j) (omega arith) in
    let at_4 = h 4 (omega arith) (64 + j) (omega arith) in
    let at_5 = h 5 (omega arith) (80 + j) (omega arith) in
    cc
lane_is xs [] j six h = absurd (omega arith)
lane_is xs (a ∷ []) j six h = absurd (omega arith)
lane_is xs (a ∷ b ∷ []) j six h = absurd (omega arith)
lane_is xs (a ∷ b ∷ c ∷ []) j six h = absurd (omega arith)
lane_is xs (a ∷ b ∷ c ∷ d ∷ []) j six h = absurd (omega arith)
lane_is xs (a ∷ b ∷ c ∷ d ∷ e ∷ []) j six h = absurd (omega arith)
lane_is xs (a ∷ b ∷ c ∷ d ∷ e ∷ f ∷ g ∷ gs) j six h = absurd (omega arith)
