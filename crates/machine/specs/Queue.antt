-- Those who wait, by arrival (document 02, E4): a queue of threads, the earliest to begin waiting at its front.
use Rattle.std.specs.Prelude.{ℕ, suc, Bool, true, false, not, ◌||◌, List, [], ◌∷◌, ◌++◌, eqb}

-- whether a thread is one of a list
unfoldable pub has : List ℕ → ℕ → Bool
has [] u = false
has (v ∷ vs) u = eqb v u || has vs u

-- a list cut down to those who pass a test, in its order
unfoldable pub those : (ℕ → Bool) → List ℕ → List ℕ
those test [] = []
those test (v ∷ vs) = elim (test v) [ true ↦ v ∷ those test vs | false ↦ those test vs ]

-- a thread that begins to wait stands behind all who wait (R 9.16, 9.40)
unfoldable pub joined : List ℕ → ℕ → List ℕ
joined queue t = queue ++ (t ∷ [])

-- one that leaves is taken out; the others keep their order and close up (R 9.40)
unfoldable pub left : List ℕ → ℕ → List ℕ
left queue t = those (λ u. not (eqb u t)) queue

-- how many stand ahead of a thread in a queue; of one that is not in it, how many there are
unfoldable pub place_in : List ℕ → ℕ → ℕ
place_in [] u = 0
place_in (v ∷ vs) u = elim (eqb v u) [ true ↦ 0 | false ↦ suc (place_in vs u) ]
