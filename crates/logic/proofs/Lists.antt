-- Elements of a list by index, lists of one element, and what a loop has done so far.
use Prim.Native.Nat.{ℕ, zero, suc, ◌+◌, ◌<◌, ◌≤◌}
use native.Mathlib.Omega.{arith}
use mathlib.Core.Path.{◌≡◌, refl}
use mathlib.Core.List.{List, [], ◌∷◌}
use lib.ListN.{length, get_or, set, replicate, length-replicate}
use lib.Seq.{get_or-set_same, get_or-set_other}
use Rattle.logic.proofs.Bools.{split_eq}

-- what stands for a missing element does not matter where there is one
pub get_d_below : {A : Type 0} (l : List A) (i : ℕ) (d e : A) → i < length l → get_or l i d ≡ get_or l i e
get_d_below [] i d e h = absurd (omega arith)
get_d_below (a ∷ l) zero d e h = refl
get_d_below (a ∷ l) (suc i) d e h = get_d_below l i d e (omega arith)

-- an array of one number is as long as it says
pub long : (n x : ℕ) → n ≤ length (replicate n x)
long n x = omega (arith, length-replicate n x)

-- what holds of each place below n, and of what is stored at n, holds of each place below n + 1
pub stored : (P : ℕ → ℕ → Type 0) (xs : List ℕ) (n a : ℕ) → n < length xs → ((k : ℕ) → k < n → P k (get_or xs k 0))
    → P n a → (k : ℕ) → k < n + 1 → P k (get_or (set xs n a) k 0)
stored P xs n a h below here k low =
    split_eq k n (λ e. rw (e, get_or-set_same xs n a 0 h) here)
    (λ e. rw (get_or-set_other xs n k a 0 e) (below k (omega arith)))

-- the same where nothing is stored
pub passed : (P : ℕ → Type 0) (n : ℕ) → ((k : ℕ) → k < n → P k) → P n → (k : ℕ) → k < n + 1 → P k
passed P n below here k low = split_eq k n (λ e. rw e here) (λ e. below k (omega arith))
