-- One thread of a list replaced: what that says of the place and of the turn of each.
use Prim.Native.Nat.{ℕ, ◌<◌}
use mathlib.Core.Path.{◌≡◌, refl, subst, ap, ◌∙◌}
use mathlib.Core.Bool.{Bool, true, false}
use mathlib.Core.List.{List}
use lib.Dec.{eqb}
use lib.ListN.{length, get_or, set}
use lib.Seq.{get_or-set_same, get_or-set_other}
use borrow.Author.Tests.{eqb-true, eqb-false, eq-eqb, ne_eqb}
use Rattle.machine.specs.Monitor as machine
use Rattle.machine.specs.Decide.Step.{put}
use Rattle.machine.proofs.Places.{put_same, put_other}
use Rattle.threads.specs.declared.Place.{Place}
use Rattle.threads.specs.declared.Thread.{Thread}
use Rattle.threads.specs.Held.{place_of, places_of, turns_of, idle_thread, put_turn, Puts}

set_at : (ts : List Thread) (t : ℕ) (x : Thread) → t < length ts → (u : ℕ) → eqb u t ≡ true
    → get_or (set ts t x) u idle_thread ≡ x
set_at ts t x h u e =
    ap (λ (k : ℕ). get_or (set ts t x) k idle_thread) (eqb-true u t e) ∙ get_or-set_same ts t x idle_thread h

set_else : (ts : List Thread) (t : ℕ) (x : Thread) (u : ℕ) → eqb u t ≡ false
    → get_or (set ts t x) u idle_thread ≡ get_or ts u idle_thread
set_else ts t x u e = get_or-set_other ts t u x idle_thread (eqb-false u t e)

pub puts_set : (ts : List Thread) (t : ℕ) (q : Place) (n : ℕ) → t < length ts
    → Puts ts t (place_of q) n (set ts t (record { place = q; turn = n }))
unfolding put put_turn places_of turns_of
puts_set ts t q n h = record { places = λ u _. place u (eqb u t) refl; turns = λ u _. turn u (eqb u t) refl }
  where
    x : Thread
    x = record { place = q; turn = n }

    place : (u : ℕ) (b : Bool) → eqb u t ≡ b
        → place_of (get_or (set ts t x) u idle_thread).place ≡ elim b [ true ↦ place_of q | false ↦ places_of ts u ]
    place u true e = ap (λ (y : Thread). place_of y.place) (set_at ts t x h u e)
    place u false e = ap (λ (y : Thread). place_of y.place) (set_else ts t x u e)

    turn : (u : ℕ) (b : Bool) → eqb u t ≡ b
        → (get_or (set ts t x) u idle_thread).turn ≡ elim b [ true ↦ n | false ↦ turns_of ts u ]
    turn u true e = ap (λ (y : Thread). y.turn) (set_at ts t x h u e)
    turn u false e = ap (λ (y : Thread). y.turn) (set_else ts t x u e)

-- that thread, and the others

pub puts_own : {ts ts' : List Thread} {t n : ℕ} {q : machine.Place} → Puts ts t q n ts' → t < 16
    → (places_of ts' t ≡ q) × (turns_of ts' t ≡ n)
unfolding put_turn machine.threads
puts_own {ts} {ts'} {t} {n} {q} p h =
    (p.places t h ∙ put_same (places_of ts) t q, p.turns t h ∙ rw (eq-eqb t t refl, put_turn))

pub puts_other : {ts ts' : List Thread} {t n : ℕ} {q : machine.Place} → Puts ts t q n ts' → (u : ℕ) → u < 16 → (u ≡ t → ⊥)
    → (places_of ts' u ≡ places_of ts u) × (turns_of ts' u ≡ turns_of ts u)
unfolding put_turn machine.threads
puts_other {ts} {ts'} {t} {n} {q} p u h d =
    (p.places u h ∙ put_other (places_of ts) t q u d, p.turns u h ∙ rw (ne_eqb u t d, put_turn))

pub puts_known : {ts ts' : List Thread} {t t' n : ℕ} {q : machine.Place} → t' ≡ t → Puts ts t' q n ts' → Puts ts t q n ts'
puts_known {ts} {ts'} {t} {t'} {n} {q} e p = subst (λ (u : ℕ). Puts ts u q n ts') e p
