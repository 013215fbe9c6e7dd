-- `for_each`, which joins what a function gives for 0, 1, ..: one number more at the end, its length, and functions that
-- give the same.
use Prim.Native.Nat.{ℕ, zero, suc, ◌+◌, ◌*◌, ◌<◌, ◌≤◌}
use mathlib.Core.Path.{◌≡◌, refl}
use mathlib.Core.Logic.{⊎_elim}
use mathlib.Core.List.{List, ◌++◌, append_assoc, append-nil}
use native.Mathlib.Nat.{eq-or-lt_of_le, le_of_suc-le-suc, add-zero, zero-add, mul-suc, mul-zero}
use native.Mathlib.Numerals.{add-one}
use native.Mathlib.Omega.{arith}
use lib.ListN.{length, length-append}
use Rattle.meaning.specs.Decide.Table.{for_each}

for_each_suc : (n k : ℕ) (f : ℕ → List ℕ) → for_each (suc n) k f ≡ for_each n k f ++ f (k + n)
unfolding for_each
for_each_suc zero k f = rw (append-nil, add-zero)
for_each_suc (suc n) k f =
    let e : (k + 1) + n ≡ k + suc n = omega arith in
    rw (for_each_suc n (k + 1) f, e, append_assoc)

pub for_each_more : (n : ℕ) (f : ℕ → List ℕ) → for_each (n + 1) 0 f ≡ for_each n 0 f ++ f n
for_each_more n f = rw (add-one, for_each_suc n 0 f, zero-add)

pub for_each_within : (n m : ℕ) (f : ℕ → List ℕ) → n ≤ m → length (for_each n 0 f) ≤ length (for_each m 0 f)
for_each_within n zero f h = let e : n ≡ 0 = omega arith in rw e (omega arith)
for_each_within n (suc m) f h =
    ⊎_elim (λ (q : n ≡ suc m). rw q (omega arith))
    (λ (l : n < suc m). let i = for_each_within n m f (le_of_suc-le-suc l) in
    rw (for_each_suc m 0 f, length-append) (omega arith))
    (eq-or-lt_of_le h)

pub for_each_same :
    (n k : ℕ) (f g : ℕ → List ℕ) → ((j : ℕ) → j < k + n → f j ≡ g j) → for_each n k f ≡ for_each n k g
unfolding for_each
for_each_same zero k f g e = refl
for_each_same (suc n) k f g e =
    rw (e k (omega arith), for_each_same n (k + 1) f g (λ j h. e j (omega arith)))

-- as many bytes each
pub for_each_length :
    (w n k : ℕ) (f : ℕ → List ℕ) → ((j : ℕ) → length (f j) ≡ w) → length (for_each n k f) ≡ w * n
unfolding for_each
for_each_length w zero k f each = rw mul-zero
for_each_length w (suc n) k f each =
    let r = for_each_length w n (k + 1) f each in
    let m = mul-suc w n in
    rw (length-append, each k) (omega arith)
