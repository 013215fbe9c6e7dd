-- The outcome of every body from every state, and what the functions inside promise to each other: what a body does to
-- a state's number as a shift, and sixteen places written in a row.
use Rattle.std.specs.Prelude.{ℕ, ◌+◌, ◌*◌, ◌%◌, ◌<◌, ◌≤◌, ◌≡◌, Bool, true, false, cond, List, ◌∷◌, ◌++◌, length, get_or, drop, ltb}
use Rattle.machine.specs.Limits.{most_states}
use Rattle.sets.specs.Set.{member}
use Rattle.syntax.specs.Token.{Lexeme, mark, rbrace}
use Rattle.syntax.specs.Tree.{Var, Region, Monitor, spell_block}
use Rattle.meaning.specs.Decide.Bodies.{outcome}
use Rattle.meaning.specs.State.{count, state_at}
use Rattle.meaning.specs.Model.{vars, regions, region}
use Rattle.evaluator.specs.Coding.{Codes, Covers, RunAs, lane}
use Rattle.variables.specs.Bounded.{Bounded}
use Rattle.variables.specs.declared.Bounds.{Bounds}
use Rattle.states.specs.Rows.{fault_mark, outcome_number, BodiesAt}
use Rattle.lanes.specs.Promises.{Values}

-- the number of the state after a body that shifts state s so, or the mark of a fault
unfoldable pub unshift : ℕ → ℕ → ℕ
unshift s x = cond (ltb x 4096) ((s + x) % 4096) fault_mark

pub record ShiftOf (ok : Bool) (to s x : ℕ) : Type 0 where
  pub fault : ok ≡ false → x ≡ fault_mark
  pub stays : ok ≡ true → to < 4096 → unshift s x ≡ to

-- a shift says what a body does to state s
abbrev pub Tells : List Var → Region → ℕ → ℕ → Type 0
Tells vs q s x = unshift s x ≡ outcome_number vs (outcome q vs (state_at vs s))

-- the shifts of region r say what its body does to the sixteen states from s on
pub record Serves (vs : List Var) (q : Region) (shifts : List ℕ) (r s : ℕ) : Type 0 where
  pub each : (j : ℕ) → j < 16 → s + j < count vs → Tells vs q (s + j) (get_or shifts (r * 16 + j) 0)

-- the shifts of every region that passes
unfoldable pub AllServe : Monitor → (ℕ → Type 0) → List ℕ → ℕ → Type 0
AllServe m P shifts s = (r : ℕ) → r < length (regions m) → P r → Serves (vars m) (region m r) shifts r s

-- the n places from one on were written, each with what it has to hold, and no other
pub record Stretch (at : ℕ) (Right : ℕ → ℕ → Type 0) (old new : List ℕ) (n : ℕ) : Type 0 where
  pub long : length new ≡ length old
  pub here : (j : ℕ) → j < n → Right j (get_or new (at + j) 0)
  pub before : (i : ℕ) → i < at → get_or new i 0 ≡ get_or old i 0
  pub behind : (i : ℕ) → at + n ≤ i → get_or new i 0 ≡ get_or old i 0

-- a shift by what a body left in lane j, and by the body and the values there
pub record Noted (bounds : Bounds) (ok : ℕ) (ended : List ℕ) (s j x : ℕ) : Type 0 where
  pub tells :
      (vs : List Var) (q : Region) → Bounded vs bounds → s + j < count vs
      → RunAs vs (member ok j) (lane ended j) (outcome q vs (state_at vs (s + j))) → Tells vs q (s + j) x

-- a region's body begins at a token
pub record Body (vs : List Var) (q : Region) (kinds values : List ℕ) (bounds : Bounds) (at : ℕ) : Type 0 where
  pub ls : List Lexeme
  pub us : List Lexeme
  pub codes : Codes vs ls kinds values
  pub bounded : Bounded vs bounds
  pub few : length ls ≤ 8192
  pub spelled : drop at ls ≡ spell_block q.body ++ (mark rbrace ∷ us)

pub record Ran (kinds values : List ℕ) (bounds : Bounds) (lanes : List ℕ) (at s j x : ℕ) : Type 0 where
  pub tells :
      (vs : List Var) (q : Region) → Body vs q kinds values bounds at → s + j < count vs → Values vs lanes j (s + j)
      → Tells vs q (s + j) x

-- every region's body begins at a token, and a set has the variables that it names
pub record Filling (m : Monitor) (kinds values : List ℕ) (bounds : Bounds) (ats named : List ℕ) (n : ℕ) : Type 0 where
  pub ls : List Lexeme
  pub codes : Codes (vars m) ls kinds values
  pub bounded : Bounded (vars m) bounds
  pub few : length ls ≤ 8192
  pub counted : n ≡ length (regions m)
  pub bodies : BodiesAt m ls ats
  pub covers :
      (r : ℕ) → r < length (regions m) → Covers (vars m) (spell_block (region m r).body) (get_or named r 0)

-- the outcomes of n regions from the sixteen states from s on; those from the states before s are as they were
pub record PutRows (shifts : List ℕ) (n s : ℕ) (old new : List ℕ) : Type 0 where
  pub here :
      (r j : ℕ) → r < n → j < 16 → get_or new (r * most_states + s + j) 0 ≡ unshift (s + j) (get_or shifts (r * 16 + j) 0)
  pub earlier : (r t : ℕ) → t < s → get_or new (r * most_states + t) 0 ≡ get_or old (r * most_states + t) 0
