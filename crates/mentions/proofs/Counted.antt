-- The touched pairs counted region by region, by the members of its set, are those that the tree has.
use Prim.Native.Nat.{ℕ, zero, suc, ◌+◌, ◌-◌, ◌≤◌, ◌<◌}
use native.Mathlib.Omega.{arith}
use mathlib.Core.Path.{◌≡◌, refl, sym, ap, ap₂, ◌∙◌}
use mathlib.Core.Bool.{Bool, true, false}
use mathlib.Core.List.{List, [], ◌∷◌}
use lib.ListN.{length, get_or}
use Rattle.logic.specs.Tests.{bit}
use Rattle.sets.specs.Set.{member, size}
use Rattle.syntax.specs.Tree.{Monitor}
use Rattle.meaning.specs.Bits.{each_from, ones}
use Rattle.meaning.specs.Decide.Touch.{sum_of, touched, pairs_of}
use Rattle.meaning.specs.Model.{regions, guards}
use Rattle.mentions.specs.Mentioned.{TouchedSets}

-- a set has as many members below n + 1 as below n, and n where it is one
pub size_next : (s n : ℕ) → size s (suc n) ≡ size s n + bit (member s n)
unfolding size bit
size_next s n = go (member s n)
  where
    go : (b : Bool) → elim b [ true ↦ suc (size s n) | false ↦ size s n ] ≡ size s n + elim b [ true ↦ 1 | false ↦ 0 ]
    go true = omega arith
    go false = omega arith

bit_small : (b : Bool) → bit b ≤ 1
unfolding bit
bit_small true = omega arith
bit_small false = omega arith

pub size_small : (s n : ℕ) → size s n ≤ n
unfolding size
size_small s zero = omega arith
size_small s (suc n) = omega (arith, size_next s n, bit_small (member s n), size_small s n)

-- the same of a list of what a test says
ones_front : (b : Bool) (bs : List Bool) → ones (b ∷ bs) ≡ bit b + ones bs
unfolding ones bit
ones_front true bs = omega arith
ones_front false bs = omega arith

ones_next : (n t : ℕ) (f : ℕ → Bool) → ones (each_from (suc n) t f) ≡ ones (each_from n t f) + bit (f (t + n))
unfolding each_from ones
ones_next zero t f =
    let here : bit (f t) ≡ bit (f (t + 0)) = ap (λ k. bit (f k)) (omega arith) in
    omega (arith, ones_front (f t) [], here)
ones_next (suc n) t f =
    let last : bit (f (t + 1 + n)) ≡ bit (f (t + suc n)) = ap (λ k. bit (f k)) (omega arith) in
    omega (
      arith,
      ones_front (f t) (each_from (suc n) (t + 1) f),
      ones_front (f t) (each_from n (t + 1) f),
      ones_next n (t + 1) f,
      last,
    )

-- a set whose members below n pass a test has as many as pass it
size_ones : (s n : ℕ) (f : ℕ → Bool) → ((g : ℕ) → g < n → member s g ≡ f g) → size s n ≡ ones (each_from n 0 f)
unfolding size each_from ones
size_ones s zero f same = refl
size_ones s (suc n) f same =
    let here : bit (member s n) ≡ bit (f (0 + n)) = ap bit (same n (omega arith) ∙ ap f (omega arith)) in
    size_next s n ∙ ap₂ ◌+◌ (size_ones s n f (λ g h. same g (omega arith))) here ∙ sym (ones_next n 0 f)

-- and none behind adds nothing
size_behind : (s n k : ℕ) → ((g : ℕ) → n ≤ g → member s g ≡ false) → size s (n + k) ≡ size s n
unfolding bit
size_behind s n zero none = ap (size s) (omega arith)
size_behind s n (suc k) none =
    let last : bit (member s (n + k)) ≡ 0 = ap bit (none (n + k) (omega arith)) in
    let e : size s (n + suc k) ≡ size s (suc (n + k)) = ap (size s) (omega arith) in
    omega (arith, e, size_next s (n + k), last, size_behind s n k none)

sum_same : (n : ℕ) (f g : ℕ → ℕ) → ((k : ℕ) → k < n → f k ≡ g k) → sum_of n f ≡ sum_of n g
unfolding sum_of
sum_same zero f g same = refl
sum_same (suc n) f g same = ap₂ ◌+◌ (same n (omega arith)) (sum_same n f g (λ k h. same k (omega arith)))

-- one more
pub sum_next : (n : ℕ) (f : ℕ → ℕ) → sum_of (n + 1) f ≡ sum_of n f + f n
unfolding sum_of
sum_next n f =
    let e : n + 1 ≡ suc n = omega arith in
    rw e (omega arith)

pub pairs_counted : (m : Monitor) (sets : List ℕ) → TouchedSets m sets → length (guards m) ≤ 16
    → sum_of (length (regions m)) (λ q. size (get_or sets q 0) 16) ≡ pairs_of m
unfolding pairs_of
pairs_counted m sets t few = sum_same (length (regions m)) _ _ (λ q h.
    let all : length (guards m) + (16 - length (guards m)) ≡ 16 = omega arith in
    ap (size (get_or sets q 0)) (sym all)
    ∙ size_behind (get_or sets q 0) (length (guards m)) (16 - length (guards m)) (λ g past. t.none_behind q g h past)
    ∙ size_ones (get_or sets q 0) (length (guards m)) (touched m q) (λ g below. t.members q g h below))
