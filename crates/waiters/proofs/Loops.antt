-- Laws for the loops along the queue: a set that a loop gathers, and the guard of a place.
use Prim.Native.Nat.{ℕ, ◌%◌, ◌<◌}
use mathlib.Core.Path.{◌≡◌, refl, ap, ap₂, ◌∙◌, sym}
use mathlib.Core.Bool.{Bool, true, false, ◌&&◌, ◌||◌, and-true}
use mathlib.Core.Logic.{◌⊎◌, ⊎_elim}
use mathlib.Core.List.{List, []}
use native.Mathlib.Nat.{mod-lt}
use lib.Dec.{eqb, ltb, lit<}
use lib.ListN.{get_or}
use borrow.Author.Tests.{lt-ltb, eqb-true}
use Rattle.sets.specs.Set.{member}
use Rattle.sets.proofs.SetLaws.{member_none, eqb_sym}
use Rattle.machine.specs.Queue.{has, joined}
use Rattle.machine.proofs.Queue.{has_joined}
use Rattle.waiters.specs.Slices.{guard_at}

-- ---- a set that a loop gathers: of the threads seen so far it has those that pass a test

pub record Gathered (s : ℕ) (seen : List ℕ) (f : ℕ → Bool) : Type 0 where
  pub each : (v : ℕ) → v < 16 → member s v ≡ has seen v && f v

pub gather_none : {f : ℕ → Bool} → Gathered 0 [] f
unfolding has
gather_none = record { each = λ v h. member_none v }

taken_in : (e l f : Bool) → (e ≡ true → f ≡ true) → e || (l && f) ≡ (l || e) && f
taken_in true true f h = sym (h refl)
taken_in true false f h = sym (h refl)
taken_in false true f h = refl
taken_in false false f h = refl

left_out : (e l f : Bool) → (e ≡ true → f ≡ false) → l && f ≡ (l || e) && f
left_out true true f h = refl
left_out true false f h = sym (h refl)
left_out false true f h = refl
left_out false false f h = refl

-- a turn of the loop: thread u goes into the set where its test passes, and else the set stays
pub gather_turn :
    {s s' u : ℕ} {seen : List ℕ} {f : ℕ → Bool} {b : Bool} → Gathered s seen f → u < 16 → b ≡ f u
    → ((b ≡ true) × ((v : ℕ) → member s' v ≡ (eqb v u && ltb u 16) || member s v)) ⊎ ((b ≡ false) × (s' ≡ s))
    → Gathered s' (joined seen u) f
gather_turn {s} {s'} {u} {seen} {f} {b} g l e turn = record {
  each = λ v h. ⊎_elim (λ w. taken v h w.0 w.1) (λ w. left v h w.0 w.1) turn;
}
  where
    one_more : (v : ℕ) → (has seen v || eqb v u) && f v ≡ has (joined seen u) v && f v
    one_more v = ap (λ (x : Bool). (has seen v || x) && f v) (eqb_sym v u)
        ∙ ap (λ (x : Bool). x && f v) (sym (has_joined seen u v))

    taken :
        (v : ℕ) → v < 16 → b ≡ true → ((v : ℕ) → member s' v ≡ (eqb v u && ltb u 16) || member s v)
        → member s' v ≡ has (joined seen u) v && f v
    taken v h passes more =
        more v ∙ ap₂ (λ (x y : Bool). (eqb v u && x) || y) (lt-ltb u 16 l) (g.each v h)
        ∙ ap (λ (x : Bool). x || (has seen v && f v)) (and-true (eqb v u))
        ∙ taken_in (eqb v u) (has seen v) (f v) (λ q. ap f (eqb-true v u q) ∙ sym e ∙ passes) ∙ one_more v

    left : (v : ℕ) → v < 16 → b ≡ false → s' ≡ s → member s' v ≡ has (joined seen u) v && f v
    left v h fails same =
        ap (λ (n : ℕ). member n v) same ∙ g.each v h
        ∙ left_out (eqb v u) (has seen v) (f v) (λ q. ap f (eqb-true v u q) ∙ sym e ∙ fails) ∙ one_more v

-- ---- the guard of a place

pub guard_one : (gs : List ℕ) (w n g : ℕ) → n ≡ guard_at gs w → eqb g n && ltb n 16 ≡ eqb (guard_at gs w) g
unfolding guard_at
guard_one gs w n g e =
    ap (λ (k : ℕ). eqb g k && ltb k 16) e
    ∙ ap (λ (b : Bool). eqb g (guard_at gs w) && b) (lt-ltb (guard_at gs w) 16 (mod-lt (get_or gs (w % 16) 0) (lit< tt)))
    ∙ and-true (eqb g (guard_at gs w)) ∙ eqb_sym g (guard_at gs w)
