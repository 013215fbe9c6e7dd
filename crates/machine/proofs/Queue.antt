-- Laws of queues: a list cut down to some of its members keeps their order, whoever joins stands last, whoever leaves
-- is taken out, what both do to the others' places, and that the tests `at_front` and `first_in` decide what `Rules` says.
-- By induction over the list.
use Prim.Native.Nat.{ℕ, zero, suc, ◌<◌}
use native.Mathlib.Decide.{dec_lt}
use native.Mathlib.Omega.{arith}
use mathlib.Core.Path.{◌≡◌, refl, sym, subst, ap, ap₂, ◌∙◌}
use mathlib.Core.Bool.{Bool, true, false, not, ◌&&◌, ◌||◌, false≢true, and-false, or_assoc, or-false}
use mathlib.Core.Logic.{⊎_elim, ◌↔◌}
use mathlib.Core.List.{List, [], ◌∷◌, ◌++◌}
use lib.Dec.{eqb}
use lib.ListN.{length}
use borrow.Author.Tests.{eqb-true, eqb-false, eq-eqb, ne_eqb}
use Rattle.machine.specs.Queue.{has, those, joined, left, place_in}
use Rattle.machine.specs.Decide.Step.{at_front, first_in}
use Rattle.machine.specs.Rules.{Front, First}
use Rattle.machine.specs.Arrival.{Once, Rising}
use Rattle.logic.proofs.Bools.{split, clash, split_eq, is_false, either, or_left, or_right, or_none, neither, not_true}
use Rattle.logic.proofs.Bools.{true_not, both, different}

-- A list cut down

pub those_kept : (f : ℕ → Bool) (v : ℕ) (vs : List ℕ) → f v ≡ true → those f (v ∷ vs) ≡ v ∷ those f vs
unfolding those
those_kept f v vs e = rw (e, those)

pub those_dropped : (f : ℕ → Bool) (v : ℕ) (vs : List ℕ) → f v ≡ false → those f (v ∷ vs) ≡ those f vs
unfolding those
those_dropped f v vs e = rw (e, those)

pub those_append : (f : ℕ → Bool) (xs ys : List ℕ) → those f (xs ++ ys) ≡ those f xs ++ those f ys
unfolding those
those_append f [] ys = refl
those_append f (x ∷ xs) ys = split (f x)
    (λ e. those_kept f x (xs ++ ys) e ∙ ap {B = List ℕ} (λ l. x ∷ l) (those_append f xs ys)
    ∙ ap (λ (l : List ℕ). l ++ those f ys) (sym (those_kept f x xs e)))
    (λ e. those_dropped f x (xs ++ ys) e ∙ those_append f xs ys
    ∙ ap (λ (l : List ℕ). l ++ those f ys) (sym (those_dropped f x xs e)))

-- by tests that pass the same of its members
pub those_same : (f g : ℕ → Bool) (xs : List ℕ) → ((u : ℕ) → has xs u ≡ true → f u ≡ g u) → those f xs ≡ those g xs
unfolding those has
those_same f g [] e = refl
those_same f g (x ∷ xs) e =
    let here : f x ≡ g x = e x (or_left (eqb x x) (has xs x) (eq-eqb x x refl)) in
    let rest : those f xs ≡ those g xs = those_same f g xs (λ u h. e u (or_right (eqb x u) (has xs u) h)) in
    split (g x)
    (λ q. those_kept f x xs (here ∙ q) ∙ ap {B = List ℕ} (λ l. x ∷ l) rest ∙ sym (those_kept g x xs q))
    (λ q. those_dropped f x xs (here ∙ q) ∙ rest ∙ sym (those_dropped g x xs q))

-- twice, in either order, and by a test that asks more
pub those_swap : (f g : ℕ → Bool) (xs : List ℕ) → those f (those g xs) ≡ those g (those f xs)
unfolding those
those_swap f g [] = refl
those_swap f g (x ∷ xs) = split (f x)
    (λ a. split (g x)
    (λ b. ap (those f) (those_kept g x xs b) ∙ those_kept f x (those g xs) a
    ∙ ap {B = List ℕ} (λ l. x ∷ l) (those_swap f g xs)
    ∙ sym (those_kept g x (those f xs) b) ∙ sym (ap (those g) (those_kept f x xs a)))
    (λ b. ap (those f) (those_dropped g x xs b) ∙ those_swap f g xs
    ∙ sym (those_dropped g x (those f xs) b) ∙ sym (ap (those g) (those_kept f x xs a))))
    (λ a. split (g x)
    (λ b. ap (those f) (those_kept g x xs b) ∙ those_dropped f x (those g xs) a ∙ those_swap f g xs
    ∙ sym (ap (those g) (those_dropped f x xs a)))
    (λ b. ap (those f) (those_dropped g x xs b) ∙ those_swap f g xs ∙ sym (ap (those g) (those_dropped f x xs a))))

pub those_within : (f g : ℕ → Bool) (xs : List ℕ) → ((u : ℕ) → f u ≡ true → g u ≡ true)
    → those f (those g xs) ≡ those f xs
unfolding those
those_within f g [] e = refl
those_within f g (x ∷ xs) e = split (f x)
    (λ a. ap (those f) (those_kept g x xs (e x a)) ∙ those_kept f x (those g xs) a
    ∙ ap {B = List ℕ} (λ l. x ∷ l) (those_within f g xs e) ∙ sym (those_kept f x xs a))
    (λ a. split (g x)
    (λ b. ap (those f) (those_kept g x xs b) ∙ those_dropped f x (those g xs) a ∙ those_within f g xs e
    ∙ sym (those_dropped f x xs a))
    (λ b. ap (those f) (those_dropped g x xs b) ∙ those_within f g xs e ∙ sym (those_dropped f x xs a)))

-- Members

pub has_append : (xs ys : List ℕ) (u : ℕ) → has (xs ++ ys) u ≡ has xs u || has ys u
unfolding has
has_append [] ys u = refl
has_append (x ∷ xs) ys u =
    ap (λ (b : Bool). eqb x u || b) (has_append xs ys u) ∙ sym (or_assoc (eqb x u) (has xs u) (has ys u))

pub has_at : (xs ys : List ℕ) (u : ℕ) → has (xs ++ (u ∷ ys)) u ≡ true
unfolding has
has_at xs ys u =
    has_append xs (u ∷ ys) u ∙ or_right (has xs u) (has (u ∷ ys) u) (or_left (eqb u u) (has ys u) (eq-eqb u u refl))

pub has_those : (f : ℕ → Bool) (xs : List ℕ) (u : ℕ) → has (those f xs) u ≡ has xs u && f u
unfolding those has
has_those f [] u = refl
has_those f (x ∷ xs) u = split (f x)
    (λ a. ap (λ (l : List ℕ). has l u) (those_kept f x xs a) ∙ ap (λ (b : Bool). eqb x u || b) (has_those f xs u)
    ∙ kept (eqb x u) refl a)
    (λ a. ap (λ (l : List ℕ). has l u) (those_dropped f x xs a) ∙ has_those f xs u ∙ dropped (eqb x u) refl a)
  where
    kept : (b : Bool) → eqb x u ≡ b → f x ≡ true → b || (has xs u && f u) ≡ (b || has xs u) && f u
    kept true q a = sym (ap f (sym (eqb-true x u q)) ∙ a)
    kept false q a = refl

    dropped : (b : Bool) → eqb x u ≡ b → f x ≡ false → has xs u && f u ≡ (b || has xs u) && f u
    dropped true q a =
        let e : f u ≡ false = ap f (sym (eqb-true x u q)) ∙ a in
        ap (λ (b : Bool). has xs u && b) e ∙ and-false (has xs u) ∙ sym e
    dropped false q a = refl

-- The front of a line, and the first of a set in it

pub front_iff : (l : List ℕ) (u : ℕ) → (at_front l u ≡ true) ↔ Front l u
unfolding at_front Front
front_iff [] u = (λ h. absurd (false≢true h), λ x. let e = x.1 in different cc)
front_iff (v ∷ vs) u = (
  λ h. (vs, ap (λ (x : ℕ). x ∷ vs) (eqb-true v u h)),
  λ x. let e = x.1 in let z : v ≡ u = cc in eq-eqb v u z,
)

pub front_has : (l : List ℕ) (u : ℕ) → Front l u → has l u ≡ true
unfolding Front has
front_has l u x = ap (λ (k : List ℕ). has k u) x.1 ∙ or_left (eqb u u) (has x.0 u) (eq-eqb u u refl)

pub first_has : {l : List ℕ} {n : ℕ → Bool} {u : ℕ} → First l n u → has l u ≡ true
first_has {l} {n} {u} x = ap (λ (k : List ℕ). has k u) x.splits ∙ has_at x.ahead x.behind u

pub first_iff : (l : List ℕ) (n : ℕ → Bool) (u : ℕ) → (first_in l n u ≡ true) ↔ First l n u
unfolding first_in has
first_iff l n u = (to l, λ x. from l x.ahead x.behind x.splits x.none_ahead)
  where
    here : (vs : List ℕ) (v : ℕ) → v ≡ u → First (v ∷ vs) n u
    here vs v e = record {
      ahead = [];
      behind = vs;
      splits = ap (λ (x : ℕ). x ∷ vs) e;
      none_ahead = λ w h. absurd (false≢true h);
    }

    later : (vs : List ℕ) (v : ℕ) → n v ≡ false → First vs n u → First (v ∷ vs) n u
    later vs v e x = record {
      ahead = v ∷ x.ahead;
      behind = x.behind;
      splits = ap {B = List ℕ} (λ k. v ∷ k) x.splits;
      none_ahead = λ w h k. ⊎_elim (λ q. clash k (ap n (sym (eqb-true v w q)) ∙ e)) (λ q. x.none_ahead w q k)
          (either (eqb v w) (has x.ahead w) h);
    }

    to : (k : List ℕ) → first_in k n u ≡ true → First k n u
    to [] h = absurd (false≢true h)
    to (v ∷ vs) h = ⊎_elim (λ q. here vs v (eqb-true v u q))
        (λ q. let z = both (not (n v)) (first_in vs n u) q in later vs v (not_true z.0) (to vs z.1))
        (either (eqb v u) (not (n v) && first_in vs n u) h)

    from : (k ahead behind : List ℕ) → k ≡ ahead ++ (u ∷ behind) → ((v : ℕ) → has ahead v ≡ true → n v ≡ true → ⊥)
        → first_in k n u ≡ true
    from [] [] b e h = different cc
    from [] (x ∷ a) b e h = different cc
    from (v ∷ vs) [] b e h = let z : v ≡ u = cc in or_left (eqb v u) (not (n v) && first_in vs n u) (eq-eqb v u z)
    from (v ∷ vs) (x ∷ a) b e h =
        let y : v ≡ x = cc in
        let z : vs ≡ a ++ (u ∷ b) = cc in
        let none : n v ≡ false = is_false (h v (or_left (eqb x v) (has a v) (eq-eqb x v (sym y)))) in
        or_right (eqb v u) (not (n v) && first_in vs n u)
        (ap₂ (λ (p q : Bool). p && q) (true_not none) (from vs a b z (λ w i. h w (or_right (eqb x w) (has a w) i))))

-- Who is in it, each once, after one has joined or left

pub has_joined : (q : List ℕ) (t u : ℕ) → has (joined q t) u ≡ has q u || eqb t u
unfolding joined has
has_joined q t u = has_append q (t ∷ []) u ∙ ap (λ (b : Bool). has q u || b) (or-false (eqb t u))

pub has_left : (q : List ℕ) (t u : ℕ) → has (left q t) u ≡ has q u && not (eqb u t)
unfolding left
has_left q t u = has_those (λ v. not (eqb v t)) q u

pub once_those : (f : ℕ → Bool) (q : List ℕ) → Once q → Once (those f q)
unfolding Once those
once_those f [] o = tt
once_those f (v ∷ vs) o = split (f v)
    (λ e. subst Once (sym (those_kept f v vs e))
    (has_those f vs v ∙ ap (λ (b : Bool). b && f v) o.0, once_those f vs o.1))
    (λ e. subst Once (sym (those_dropped f v vs e)) (once_those f vs o.1))

pub once_left : (q : List ℕ) (t : ℕ) → Once q → Once (left q t)
unfolding left
once_left q t o = once_those (λ v. not (eqb v t)) q o

pub once_joined : (q : List ℕ) (t : ℕ) → Once q → has q t ≡ false → Once (joined q t)
unfolding Once joined has
once_joined [] t o h = (refl, tt)
once_joined (v ∷ vs) t o h =
    let n = neither (eqb v t) (has vs t) h in (
      has_append vs (t ∷ []) v
          ∙ ap₂ (λ (x y : Bool). x || y) o.0
          (or-false (eqb t v) ∙ ne_eqb t v (λ e. clash (eq-eqb v t (sym e)) n.0)),
      once_joined vs t o.1 n.1,
    )

-- one that is not in it leaves it as it was, and the first, if it stands there once, leaves the others

pub left_absent : (q : List ℕ) (t : ℕ) → has q t ≡ false → left q t ≡ q
unfolding left has those
left_absent [] t h = refl
left_absent (v ∷ vs) t h =
    let n = neither (eqb v t) (has vs t) h in
    those_kept (λ u. not (eqb u t)) v vs (true_not n.0) ∙ ap {B = List ℕ} (λ l. v ∷ l) (left_absent vs t n.1)

pub left_kept : (v : ℕ) (vs : List ℕ) (t : ℕ) → (v ≡ t → ⊥) → left (v ∷ vs) t ≡ v ∷ left vs t
unfolding left
left_kept v vs t d = those_kept (λ u. not (eqb u t)) v vs (true_not (ne_eqb v t d))

pub left_first : (v : ℕ) (vs : List ℕ) (t : ℕ) → v ≡ t → has vs v ≡ false → left (v ∷ vs) t ≡ vs
unfolding left
left_first v vs t e h =
    those_dropped (λ u. not (eqb u t)) v vs (ap not (eq-eqb v t e)) ∙ left_absent vs t (ap (has vs) (sym e) ∙ h)

-- a member other than the first is one of the rest
pub has_behind : (v : ℕ) (vs : List ℕ) (u : ℕ) → has (v ∷ vs) u ≡ true → (v ≡ u → ⊥) → has vs u ≡ true
unfolding has
has_behind v vs u h d = ⊎_elim (λ e. absurd (d (eqb-true v u e))) (λ e. e) (either (eqb v u) (has vs u) h)

-- a list up to a member, and behind it
pub has_splits : (q : List ℕ) (u : ℕ) → has q u ≡ true
    → (ahead behind : List ℕ) × (q ≡ ahead ++ (u ∷ behind)) × (has ahead u ≡ false)
unfolding has
has_splits [] u h = absurd (false≢true h)
has_splits (v ∷ vs) u h = split_eq v u
    (λ e. ([], vs, ap (λ (x : ℕ). x ∷ vs) e, refl))
    (λ d. let x = has_splits vs u (has_behind v vs u h d) in
    (v ∷ x.0, x.1, ap {B = List ℕ} (λ l. v ∷ l) x.2, or_none (eqb v u) (has x.0 u) (ne_eqb v u d) x.3))

-- Places

pub place_here : (v : ℕ) (vs : List ℕ) (u : ℕ) → v ≡ u → place_in (v ∷ vs) u ≡ 0
unfolding place_in
place_here v vs u e = rw (eq-eqb v u e, place_in)

pub place_later : (v : ℕ) (vs : List ℕ) (u : ℕ) → (v ≡ u → ⊥) → place_in (v ∷ vs) u ≡ suc (place_in vs u)
unfolding place_in
place_later v vs u d = rw (ne_eqb v u d, place_in)

-- the places of the members are the numbers below their count, each once

pub place_below : (q : List ℕ) (u : ℕ) → has q u ≡ true → place_in q u < length q
unfolding has
place_below [] u h = absurd (false≢true h)
place_below (v ∷ vs) u h = split_eq v u
    (λ e. omega (arith, place_here v vs u e))
    (λ d. omega (arith, place_later v vs u d, place_below vs u (has_behind v vs u h d)))

pub place_each : (q : List ℕ) (k : ℕ) → Once q → k < length q → (u : ℕ) × (has q u ≡ true) × (place_in q u ≡ k)
unfolding Once has
place_each [] k o h = absurd (omega arith)
place_each (v ∷ vs) zero o h = (v, or_left (eqb v v) (has vs v) (eq-eqb v v refl), place_here v vs v refl)
place_each (v ∷ vs) (suc k) o h =
    let x = place_each vs k o.1 (omega arith) in
    let u : ℕ = x.0 in (
      u,
      or_right (eqb v u) (has vs u) x.1,
      place_later v vs u (λ e. clash (ap (has vs) e ∙ x.1) o.0) ∙ ap suc x.2,
    )

pub place_once : (q : List ℕ) (u v : ℕ) → has q u ≡ true → place_in q u ≡ place_in q v → u ≡ v
unfolding has
place_once [] u v h e = absurd (false≢true h)
place_once (w ∷ ws) u v h e = split_eq w u
    (λ a. split_eq w v (λ b. sym a ∙ b)
    (λ b. absurd (omega (arith, e, place_here w ws u a, place_later w ws v b))))
    (λ a. split_eq w v (λ b. absurd (omega (arith, e, place_later w ws u a, place_here w ws v b)))
    (λ b. place_once ws u v (has_behind w ws u h a) (omega (arith, e, place_later w ws u a, place_later w ws v b))))

-- whoever joins stands last, and the others stay

pub place_last : (q : List ℕ) (t : ℕ) → has q t ≡ false → place_in (joined q t) t ≡ length q
unfolding joined has
place_last [] t h = place_here t [] t refl
place_last (v ∷ vs) t h =
    let n = neither (eqb v t) (has vs t) h in
    place_later v (joined vs t) t (eqb-false v t n.0) ∙ ap suc (place_last vs t n.1)

pub place_joined : (q : List ℕ) (t u : ℕ) → has q u ≡ true → place_in (joined q t) u ≡ place_in q u
unfolding joined has
place_joined [] t u h = absurd (false≢true h)
place_joined (v ∷ vs) t u h = split_eq v u
    (λ e. place_here v (joined vs t) u e ∙ sym (place_here v vs u e))
    (λ d. place_later v (joined vs t) u d ∙ ap suc (place_joined vs t u (has_behind v vs u h d))
    ∙ sym (place_later v vs u d))

-- where one leaves, those ahead of it stay, and those behind close up by one

pub place_ahead : (q : List ℕ) (t u : ℕ) → place_in q u < place_in q t → place_in (left q t) u ≡ place_in q u
unfolding left those
place_ahead [] t u h = refl
place_ahead (v ∷ vs) t u h = split_eq v t (λ e. absurd (omega (arith, h, place_here v vs t e)))
    (λ d. ap (λ (l : List ℕ). place_in l u) (left_kept v vs t d) ∙ split_eq v u
    (λ e. place_here v (left vs t) u e ∙ sym (place_here v vs u e))
    (λ e. place_later v (left vs t) u e
    ∙ ap suc (place_ahead vs t u (omega (arith, h, place_later v vs t d, place_later v vs u e)))
    ∙ sym (place_later v vs u e)))

pub place_behind : (q : List ℕ) (t u : ℕ) → Once q → place_in q t < place_in q u
    → suc (place_in (left q t) u) ≡ place_in q u
unfolding Once place_in
place_behind [] t u o h = absurd (omega arith)
place_behind (v ∷ vs) t u o h =
    let d : v ≡ u → ⊥ = λ e. omega (arith, h, place_here v vs u e) in
    split_eq v t
    (λ e. ap (λ (l : List ℕ). suc (place_in l u)) (left_first v vs t e o.0) ∙ sym (place_later v vs u d))
    (λ e. ap (λ (l : List ℕ). suc (place_in l u)) (left_kept v vs t e) ∙ ap suc (place_later v (left vs t) u d)
    ∙ ap suc (place_behind vs t u o.1 (omega (arith, h, place_later v vs t e, place_later v vs u d)))
    ∙ sym (place_later v vs u d))

-- of one that is not in it, all stand ahead
pub place_absent : (q : List ℕ) (u : ℕ) → has q u ≡ false → place_in q u ≡ length q
unfolding has place_in
place_absent [] u h = refl
place_absent (v ∷ vs) u h =
    let n = neither (eqb v u) (has vs u) h in
    place_later v vs u (eqb-false v u n.0) ∙ ap suc (place_absent vs u n.1)

-- who stands ahead of where one was has the place that it had
pub place_kept : (q : List ℕ) (t u : ℕ) → Once q → has q t ≡ true → (u ≡ t → ⊥) → place_in (left q t) u < place_in q t
    → place_in (left q t) u ≡ place_in q u
place_kept q t u o h d l = split_eq (place_in q t) (place_in q u) (λ e. absurd (d (sym (place_once q t u h e))))
    (λ e. go (dec_lt (place_in q u) (place_in q t)) e)
  where
    go : Dec (place_in q u < place_in q t) → (place_in q t ≡ place_in q u → ⊥) → place_in (left q t) u ≡ place_in q u
    go (yes k) e = place_ahead q t u k
    go (no k) e = absurd (let b = place_behind q t u o (omega arith) in omega arith)

-- whoever stands in a list once is not among those before it
pub once_before : (xs ys : List ℕ) (u : ℕ) → Once (xs ++ (u ∷ ys)) → has xs u ≡ false
unfolding Once has
once_before [] ys u o = refl
once_before (x ∷ xs) ys u o =
    let n = neither (has xs x) (has (u ∷ ys) x) (sym (has_append xs (u ∷ ys) x) ∙ o.0) in
    ap₂ (λ (a b : Bool). a || b)
    (ne_eqb x u (λ e. clash (or_left (eqb u x) (has ys x) (eq-eqb u x (sym e))) n.1))
    (once_before xs ys u o.1)

-- and those before it are as many as its place says
pub place_splits : (xs ys : List ℕ) (u : ℕ) → has xs u ≡ false → place_in (xs ++ (u ∷ ys)) u ≡ length xs
unfolding has
place_splits [] ys u h = place_here u ys u refl
place_splits (x ∷ xs) ys u h =
    let n = neither (eqb x u) (has xs u) h in
    place_later x (xs ++ (u ∷ ys)) u (eqb-false x u n.0) ∙ ap suc (place_splits xs ys u n.1)

-- What rises along a list

-- whatever is in the same order on its members
pub rising_by : (f g : ℕ → ℕ) (q : List ℕ)
    → ((u v : ℕ) → has q u ≡ true → has q v ≡ true → f u < f v → g u < g v) → Rising f q → Rising g q
unfolding Rising has
rising_by f g [] e r = tt
rising_by f g (v ∷ vs) e r = (
  λ u h. e v u (or_left (eqb v v) (has vs v) (eq-eqb v v refl)) (or_right (eqb v u) (has vs u) h) (r.0 u h),
  rising_by f g vs (λ u w h k. e u w (or_right (eqb v u) (has vs u) h) (or_right (eqb v w) (has vs w) k)) r.1,
)

-- the places in it, and along the list cut down
pub rising_place : (q : List ℕ) → Once q → Rising (place_in q) q
unfolding Rising Once
rising_place [] o = tt
rising_place (v ∷ vs) o =
    let later : (u : ℕ) → has vs u ≡ true → place_in (v ∷ vs) u ≡ suc (place_in vs u) =
    λ u h. place_later v vs u (λ e. clash (ap (has vs) e ∙ h) o.0) in (
      λ u h. omega (arith, place_here v vs v refl, later u h),
      rising_by (place_in vs) (place_in (v ∷ vs)) vs (λ u w h k l. omega (arith, l, later u h, later w k))
          (rising_place vs o.1),
    )

pub rising_those : (f : ℕ → ℕ) (test : ℕ → Bool) (q : List ℕ) → Rising f q → Rising f (those test q)
unfolding Rising those
rising_those f test [] r = tt
rising_those f test (v ∷ vs) r = split (test v)
    (λ e. subst (Rising f) (sym (those_kept test v vs e))
    (λ u h. r.0 u (both (has vs u) (test u) (sym (has_those test vs u) ∙ h)).0, rising_those f test vs r.1))
    (λ e. subst (Rising f) (sym (those_dropped test v vs e)) (rising_those f test vs r.1))

-- those up to a member have less, and those behind it more
pub rising_splits : (f : ℕ → ℕ) (ahead behind : List ℕ) (t : ℕ) → Rising f (ahead ++ (t ∷ behind))
    → Rising f ahead × ((u : ℕ) → has ahead u ≡ true → f u < f t) × ((u : ℕ) → has behind u ≡ true → f t < f u)
unfolding Rising has
rising_splits f [] behind t r = (tt, λ u h. absurd (false≢true h), r.0)
rising_splits f (v ∷ ahead) behind t r =
    let x = rising_splits f ahead behind t r.1 in (
      (λ u h. r.0 u (has_append ahead (t ∷ behind) u ∙ or_left (has ahead u) (has (t ∷ behind) u) h), x.0),
      λ u h. ⊎_elim (λ e. subst (λ (w : ℕ). f w < f t) (eqb-true v u e) (r.0 t (has_at ahead behind t)))
          (x.1 u) (either (eqb v u) (has ahead u) h),
      x.2,
    )
