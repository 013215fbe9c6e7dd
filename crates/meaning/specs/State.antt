-- States and their numbers: "A state gives each variable a value in its range. Its number counts mixed-radix, each
-- value less its lowest, the first variable weighing most."
use Rattle.std.specs.Prelude.{ℕ, ◌+◌, ◌*◌, ◌/◌, ◌%◌, ◌≡◌, true, List, [], ◌∷◌, ℤ, pos, ◌+ℤ◌, ◌-ℤ◌, nat_abs}
use Rattle.syntax.specs.Tree.{Var}
use Rattle.meaning.specs.Value.{int_of, less}

-- how many values a range has, where its bounds are in order (R 3.12)
unfoldable pub size : Var → ℕ
size v = nat_abs (int_of v.high -ℤ int_of v.low) + 1

-- the count of states (R 3.14), and the weight of the variable before these (R 3.15)
unfoldable pub count : List Var → ℕ
count [] = 1
count (v ∷ vs) = size v * count vs

-- the values of the state with a number (R 3.18)
unfoldable pub state_at : List Var → ℕ → List ℤ
state_at [] n = []
state_at (v ∷ vs) n = (int_of v.low +ℤ pos (n / count vs)) ∷ state_at vs (n % count vs)

-- the number of the state with some values (R 3.15, 3.16)
unfoldable pub number_of : List Var → List ℤ → ℕ
number_of [] as' = 0
number_of (v ∷ vs) [] = 0
number_of (v ∷ vs) (a ∷ as') = nat_abs (a -ℤ int_of v.low) * count vs + number_of vs as'

-- "the first variable weighing most": of some values and others, the first that differ decide (R 3.20)
pub data Earlier : List ℤ → List ℤ → Type 0 where
  by_first : {a b : ℤ} {as' bs : List ℤ} → less a b ≡ true → Earlier (a ∷ as') (b ∷ bs)
  by_rest : {a : ℤ} {as' bs : List ℤ} → Earlier as' bs → Earlier (a ∷ as') (a ∷ bs)

-- the start values (R 3.19)
unfoldable pub starts : List Var → List ℤ
starts [] = []
starts (v ∷ vs) = int_of v.start ∷ starts vs

-- the lowest values (R 3.12)
unfoldable pub lowest : List Var → List ℤ
lowest [] = []
lowest (v ∷ vs) = int_of v.low ∷ lowest vs

-- the number of the state at the start values (R 3.15, 3.19)
abbrev pub start_number : List Var → ℕ
start_number vs = number_of vs (starts vs)
