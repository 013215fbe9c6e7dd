-- The queue that a number holds: its length, its members, the one at a place, who joins, who leaves. By induction over the
-- places; a digit and what is behind it are a remainder and a quotient by 16.
use Prim.Native.Nat.{ℕ, zero, suc, ◌+◌, ◌*◌, ◌/◌, ◌%◌, ◌≤◌, ◌<◌}
use native.Mathlib.Nat.{mod-lt, mod-eq_of_lt}
use native.Mathlib.Omega.{arith}
use mathlib.Core.Path.{◌≡◌, refl, sym, ap, ap₂, ◌∙◌}
use mathlib.Core.Bool.{true, false, not, false≢true}
use mathlib.Core.Logic.{⊎_elim}
use mathlib.Core.List.{List, [], ◌∷◌, ◌++◌}
use lib.Dec.{eqb, lit<}
use lib.ListN.{length}
use borrow.Author.Tests.{eqb-true, eqb-false, eq-eqb}
use Rattle.machine.specs.Queue.{has, those, joined, left, place_in}
use Rattle.machine.specs.Arrival.{Once}
use Rattle.machine.proofs.Queue.{has_left, once_left, left_first, left_kept, place_here, place_later}
use Rattle.machine.proofs.Queue.{has_behind, place_once}
use Rattle.logic.proofs.Bools.{split_eq, clash, either, both, not_true, or_left, or_right}
use Rattle.queue.specs.Packed.{queue_of, behind_of, joined_to, left_by}

pub queue_length : (o n : ℕ) → length (queue_of o n) ≡ n
unfolding queue_of
queue_length o zero = refl
queue_length o (suc n) = ap suc (queue_length (o / 16) n)

-- its members are threads
pub queue_below : (o n u : ℕ) → has (queue_of o n) u ≡ true → u < 16
unfolding queue_of has
queue_below o zero u h = absurd (false≢true h)
queue_below o (suc n) u h = ⊎_elim
    (λ e. let z = eqb-true (o % 16) u e in let l : o % 16 < 16 = mod-lt o (lit< tt) in omega arith)
    (queue_below (o / 16) n u) (either (eqb (o % 16) u) (has (queue_of (o / 16) n) u) h)

-- one more of it
pub queue_next : (o n : ℕ) → queue_of o (suc n) ≡ joined (queue_of o n) (behind_of o n % 16)
unfolding queue_of behind_of joined
queue_next o zero = refl
queue_next o (suc n) = ap {B = List ℕ} (λ l. o % 16 ∷ l) (queue_next (o / 16) n)

pub behind_next : (o n : ℕ) → behind_of o (suc n) ≡ behind_of o n / 16
unfolding behind_of
behind_next o zero = refl
behind_next o (suc n) = behind_next (o / 16) n

-- up to a place, and behind it
pub queue_splits : (o k n : ℕ) → queue_of o (k + n) ≡ queue_of o k ++ queue_of (behind_of o k) n
unfolding queue_of behind_of
queue_splits o zero n = let e : 0 + n ≡ n = omega arith in ap (queue_of o) e
queue_splits o (suc k) n =
    let e : suc k + n ≡ suc (k + n) = omega arith in
    ap (queue_of o) e ∙ ap {B = List ℕ} (λ l. o % 16 ∷ l) (queue_splits (o / 16) k n)

-- a digit in front of a number
front_digit : (d x : ℕ) → d < 16 → (d + 16 * x) % 16 ≡ d
front_digit d x h = omega arith

rest_digits : (d x : ℕ) → d < 16 → (d + 16 * x) / 16 ≡ x
rest_digits d x h = omega arith

digit_below : (o : ℕ) → o % 16 < 16
digit_below o = mod-lt o (lit< tt)

-- who joins stands behind them
pub queue_joined : (o n t : ℕ) → t < 16 → queue_of (joined_to o n t) (suc n) ≡ joined (queue_of o n) t
unfolding queue_of joined_to joined
queue_joined o zero t h = ap (λ (x : ℕ). x ∷ []) (mod-eq_of_lt h)
queue_joined o (suc n) t h =
    let x = joined_to (o / 16) n t in
    ap₂ (λ (y : ℕ) (l : List ℕ). y ∷ l) (front_digit (o % 16) x (digit_below o))
    (ap (λ (y : ℕ). queue_of y (suc n)) (rest_digits (o % 16) x (digit_below o)) ∙ queue_joined (o / 16) n t h)

-- and where one leaves, from its place, the others close up
left_front : (o n t : ℕ) → has (queue_of (o / 16) n) (o % 16) ≡ false → o % 16 ≡ t
    → queue_of (left_by o (place_in (queue_of o (suc n)) t)) n ≡ left (queue_of o (suc n)) t
unfolding queue_of left_by
left_front o n t h e =
    ap (λ (k : ℕ). queue_of (left_by o k) n) (place_here (o % 16) (queue_of (o / 16) n) t e)
    ∙ sym (left_first (o % 16) (queue_of (o / 16) n) t e h)

pub queue_left : (o n t : ℕ) → Once (queue_of o (suc n)) → has (queue_of o (suc n)) t ≡ true
    → queue_of (left_by o (place_in (queue_of o (suc n)) t)) n ≡ left (queue_of o (suc n)) t
unfolding queue_of Once left_by has
queue_left o zero t once h = split_eq (o % 16) t (left_front o zero t once.0)
    (λ d. absurd (false≢true (has_behind (o % 16) [] t h d)))
queue_left o (suc n) t once h = split_eq (o % 16) t (left_front o (suc n) t once.0)
    (λ d.
    let rest = queue_of (o / 16) (suc n) in
    let x = left_by (o / 16) (place_in rest t) in
    ap (λ (k : ℕ). queue_of (left_by o k) (suc n)) (place_later (o % 16) rest t d)
    ∙ ap₂ (λ (y : ℕ) (l : List ℕ). y ∷ l) (front_digit (o % 16) x (digit_below o))
    (ap (λ (y : ℕ). queue_of y n) (rest_digits (o % 16) x (digit_below o))
    ∙ queue_left (o / 16) n t once.1 (has_behind (o % 16) rest t h d))
    ∙ sym (left_kept (o % 16) rest t d))

-- Numbers below n, each once, are at most n

left_length : (q : List ℕ) (t : ℕ) → Once q → length q ≤ suc (length (left q t))
unfolding left those Once
left_length [] t o = omega arith
left_length (v ∷ vs) t o = split_eq v t
    (λ e. let x = ap {B = ℕ} length (left_first v vs t e o.0) in omega arith)
    (λ d. let x = ap {B = ℕ} length (left_kept v vs t d) in let y = left_length vs t o.1 in omega arith)

pub few : (n : ℕ) (q : List ℕ) → Once q → ((u : ℕ) → has q u ≡ true → u < n) → length q ≤ n
unfolding has
few zero [] o b = omega arith
few zero (v ∷ vs) o b = absurd (let l = b v (or_left (eqb v v) (has vs v) (eq-eqb v v refl)) in omega arith)
few (suc n) q o b =
    let less = few n (left q n) (once_left q n o) below in
    let one = left_length q n o in
    omega arith
  where
    below : (u : ℕ) → has (left q n) u ≡ true → u < n
    below u h =
        let x = both (has q u) (not (eqb u n)) (sym (has_left q n u) ∙ h) in
        let l = b u x.0 in
        let d : u ≡ n → ⊥ = eqb-false u n (not_true x.1) in
        split_eq u n (λ e. absurd (d e)) (λ e. omega arith)

-- so where a thread is not among them there is room for it
pub room : (o n t : ℕ) → Once (queue_of o n) → t < 16 → has (queue_of o n) t ≡ false → n < 16
unfolding Once has
room o n t once h absent =
    let f = few 16 (t ∷ queue_of o n) (absent, once) below in
    let l = queue_length o n in
    omega arith
  where
    below : (u : ℕ) → has (t ∷ queue_of o n) u ≡ true → u < 16
    below u k = ⊎_elim (λ e. let z = eqb-true t u e in omega arith) (queue_below o n u)
        (either (eqb t u) (has (queue_of o n) u) k)

-- The thread at a place, and its place

pub queue_has : (o n k : ℕ) → k < n → has (queue_of o n) (behind_of o k % 16) ≡ true
unfolding queue_of behind_of has
queue_has o zero k h = absurd (omega arith)
queue_has o (suc n) zero h = or_left (eqb (o % 16) (o % 16)) (has (queue_of (o / 16) n) (o % 16)) (eq-eqb (o % 16) (o % 16) refl)
queue_has o (suc n) (suc k) h =
    let d = behind_of (o / 16) k % 16 in
    or_right (eqb (o % 16) d) (has (queue_of (o / 16) n) d) (queue_has (o / 16) n k (omega arith))

pub place_at : (o n k : ℕ) → k < n → Once (queue_of o n) → place_in (queue_of o n) (behind_of o k % 16) ≡ k
unfolding queue_of behind_of Once
place_at o zero k h once = absurd (omega arith)
place_at o (suc n) zero h once = place_here (o % 16) (queue_of (o / 16) n) (o % 16) refl
place_at o (suc n) (suc k) h once =
    let d = behind_of (o / 16) k % 16 in
    place_later (o % 16) (queue_of (o / 16) n) d
    (λ e. clash (ap (has (queue_of (o / 16) n)) e ∙ queue_has (o / 16) n k (omega arith)) once.0)
    ∙ ap suc (place_at (o / 16) n k (omega arith) once.1)

pub at_place : (o n k v : ℕ) → k < n → Once (queue_of o n) → place_in (queue_of o n) v ≡ k → v ≡ behind_of o k % 16
at_place o n k v h once e =
    sym (place_once (queue_of o n) (behind_of o k % 16) v (queue_has o n k h) (place_at o n k h once ∙ sym e))
