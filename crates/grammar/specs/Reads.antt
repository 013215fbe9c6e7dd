-- What a place says of a reading of lexemes: the phrase that was read ends there, or the reading stops there.
use Rattle.std.specs.Prelude.{ℕ, suc, ◌+◌, ◌≤◌, Bool, true, false, ◌&&◌, ◌≡◌, List, [], ◌∷◌, map, length, drop, leb, Option, Some, None, Result, Ok, Err}
use Rattle.syntax.specs.Token.{Lexeme}
use Rattle.syntax.specs.Tree.{Monitor}
use Rattle.syntax.specs.Held.Kind.{kind_of}
use Rattle.syntax.specs.Decide.Reading.{Got, got, stuck, Reader, expect}
use Rattle.grammar.specs.declared.Stuck as code

-- all lexemes are those of a monitor, or no file of the grammar goes on with the one at a place
unfoldable pub IsRead : Result (Unit {0}) code.Stuck → List Lexeme → Got Monitor → Type 0
IsRead (Ok _) ls g = (m : Monitor) × (g ≡ got m [])
IsRead (Err e) ls g = (e.token ≤ length ls) × (g ≡ stuck (drop e.token ls))

unfoldable pub Reads : {A : Type 0} → Result ℕ code.Stuck → List Lexeme → Got A → Type 0
Reads {A = A} (Ok p) ls g = (p ≤ length ls) × (a : A) × (g ≡ got a (drop p ls))
Reads (Err e) ls g = (e.token ≤ length ls) × (g ≡ stuck (drop e.token ls))

-- A reader takes a place to another, or to where it stops, over any lexemes of these kinds.
pub record Follows (A : Type 0) (ks : List ℕ) (from : ℕ) (r : Reader A) (to : Result ℕ code.Stuck) : Type 0 where
  pub goes : (ls : List Lexeme) → map kind_of ls ≡ ks → from ≤ length ls → Reads to ls (r (drop from ls))

-- a reading of a whole file ends behind its last lexeme
abbrev pub ended : List ℕ → Result (Unit {0}) code.Stuck → Result ℕ code.Stuck
ended ks (Ok _) = Ok (length ks)
ended ks (Err e) = Err e

-- the kind in front is from one to another
unfoldable pub among : ℕ → ℕ → List ℕ → Bool
among low high [] = false
among low high (k ∷ ks) = leb low k && leb k high

pub record Sees (ks : List ℕ) (at low high : ℕ) (yes : Bool) : Type 0 where
  pub is : yes ≡ among low high (drop at ks)

-- the place behind such a kind, if it is in front
unfoldable pub behind : ℕ → Bool → Option ℕ
behind at true = Some (at + 1)
behind at false = None

pub record Accepts (ks : List ℕ) (at low high : ℕ) (to : Option ℕ) : Type 0 where
  pub is : to ≡ behind at (among low high (drop at ks))

-- a test of lexemes that goes by their kinds, from one to another
pub record Tells (p : Lexeme → Bool) (low high : ℕ) : Type 0 where
  pub tells : (l : Lexeme) → p l ≡ (leb low (kind_of l) && leb (kind_of l) high)

-- a lexeme of such a test is passed over
pub record Expects (ks : List ℕ) (from : ℕ) (low high : ℕ) (to : Result ℕ code.Stuck) : Type 0 where
  pub by : (p : Lexeme → Bool) → Tells p low high → Follows (Unit {0}) ks from (expect p) to

-- one less than what is left, or nothing was left and the reading stops
abbrev pub Spends : ℕ → ℕ → Result ℕ code.Stuck → Type 0
Spends left at (Ok less) = left ≡ suc less
Spends left at (Err e) = (left ≡ 0) × (e.token ≡ at)
