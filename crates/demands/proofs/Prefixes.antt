-- The run of a list and of its prefixes: of one list behind another, and of the first frames of a list.
use Prim.Native.Nat.{ℕ, suc, ◌+◌, ◌<◌, ◌≤◌}
use native.Mathlib.Omega.{arith}
use mathlib.Core.Path.{◌≡◌, refl, sym, ap, ◌∙◌}
use mathlib.Core.Logic.{◌↔◌}
use mathlib.Core.List.{List, [], ◌∷◌, ◌++◌}
use lib.ListN.{length, take, drop, length-append, length-take, take-append-drop}
use Rattle.machine.specs.Monitor.{Monitor, Frame, Config, Run, accepted, stopped}
use Rattle.machine.specs.Decide.Step.{Outcome, moved, refused, Told, step, run}
use Rattle.machine.proofs.RulesDecided.{run_on, run_stop, told_decides}

-- a stop is at a frame of the list, counted on from j
pub record StopsFrom (j n i : ℕ) : Type 0 where
  pub low : j ≤ i
  pub high : i < j + n

module _ (m : Monitor) (told : Told) where
  -- goes on where the first ends
  pub run_append : (j : ℕ) (c p : Config) (fs gs : List Frame) → run m told j c fs ≡ accepted p
      → run m told j c (fs ++ gs) ≡ run m told (j + length fs) p gs
  unfolding run
  run_append j c p [] gs e =
      let same : c ≡ p = cc in
      let here : j ≡ j + length {A = Frame} [] = omega arith in
      ap (λ (x : Config). run m told j x gs) same ∙ ap (λ (n : ℕ). run m told n p gs) here
  run_append j c p (g ∷ fs) gs e = go (step m told c g) refl
      (λ b r. run_append (suc j) b p fs gs (sym (run_on m told j c b g fs r) ∙ e))
    where
      go : (y : Outcome) → step m told c g ≡ y
          → ((b : Config) → step m told c g ≡ moved b → run m told (suc j) b (fs ++ gs)
          ≡ run m told (suc j + length fs) p gs)
          → run m told j c (g ∷ (fs ++ gs)) ≡ run m told (j + length (g ∷ fs)) p gs
      go (moved b) r rec =
          let here : suc j + length fs ≡ j + length (g ∷ fs) = omega arith in
          run_on m told j c b g (fs ++ gs) r ∙ rec b r ∙ ap (λ (n : ℕ). run m told n p gs) here
      go (refused a) r rec =
          let z : ◌≡◌ {A = ℕ} 0 1 = cc (run_stop m told j c g fs a r) in absurd (omega arith)

  -- stops where the first stops
  pub run_stopped : (j : ℕ) (c : Config) (a i : ℕ) (fs gs : List Frame) → run m told j c fs ≡ stopped a i
      → run m told j c (fs ++ gs) ≡ stopped a i
  unfolding run
  run_stopped j c a i [] gs e = let z : ◌≡◌ {A = ℕ} 0 1 = cc in absurd (omega arith)
  run_stopped j c a i (g ∷ fs) gs e = go (step m told c g) refl
      (λ b r. run_stopped (suc j) b a i fs gs (sym (run_on m told j c b g fs r) ∙ e))
    where
      go : (y : Outcome) → step m told c g ≡ y
          → ((b : Config) → step m told c g ≡ moved b → run m told (suc j) b (fs ++ gs) ≡ stopped a i)
          → run m told j c (g ∷ (fs ++ gs)) ≡ stopped a i
      go (moved b) r rec = run_on m told j c b g (fs ++ gs) r ∙ rec b r
      go (refused n) r rec = run_stop m told j c g (fs ++ gs) n r ∙ sym (run_stop m told j c g fs n r) ∙ e

  pub stops_from : (j : ℕ) (c : Config) (a i : ℕ) (fs : List Frame) → run m told j c fs ≡ stopped a i
      → StopsFrom j (length fs) i
  stops_from j c a i fs e =
      let t = ((told_decides m told).stops j c fs a i).0 e in
      let l = length-append t.front (t.frame ∷ t.more) in
      let p = t.place in
      record { low = omega arith; high = rw t.splits (omega arith) }

  -- the first frames of a list

  module _ (j : ℕ) (c : Config) (fs : List Frame) (n : ℕ) where
    abbrev Taken : Type 0
    Taken = (p : Config) × (run m told j c (take n fs) ≡ accepted p)

    -- where they are not taken, the list stops where they do
    taken_or : ((a i : ℕ) → run m told j c (take n fs) ≡ stopped a i → run m told j c fs ≡ stopped a i → ⊥) → Taken
    taken_or never = go (run m told j c (take n fs)) refl
      where
        go : (x : Run) → run m told j c (take n fs) ≡ x → Taken
        go (accepted p) e = (p, e)
        go (stopped a i) e = absurd (never a i e
            (ap (run m told j c) (sym (take-append-drop n fs)) ∙ run_stopped j c a i (take n fs) (drop n fs) e))

    -- of a list that is taken all are
    pub front_taken : (p : Config) → run m told j c fs ≡ accepted p → Taken
    front_taken p e = taken_or (λ a i f g. let z : ◌≡◌ {A = ℕ} 0 1 = cc in omega arith)

    -- of one that is stopped those up to the frame that stops it
    pub front_taken_iff : (a i : ℕ) → run m told j c fs ≡ stopped a i → n ≤ length fs → Taken ↔ (j + n ≤ i)
    front_taken_iff a i e h =
        let l : length (take n fs) ≡ n = simp length-take (omega arith) in (
          λ (p, q).
              let r =
              sym (run_append j c p (take n fs) (drop n fs) q)
              ∙ ap (run m told j c) (take-append-drop n fs) ∙ e in
              let s = (stops_from (j + length (take n fs)) p a i (drop n fs) r).low in
              omega arith,
          λ b. taken_or (λ a' i' f g.
              let same : i' ≡ i = cc in
              let s = (stops_from j c a' i' (take n fs) f).high in
              omega arith),
        )
