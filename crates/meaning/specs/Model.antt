-- Guards and when two are one, and the monitor of a file freed from its syntax.
use Rattle.std.specs.Prelude.{ℕ, suc, ◌+◌, ◌-◌, Bool, true, false, ◌&&◌, ◌||◌, List, [], ◌∷◌, ◌++◌, length, get_or, eqb, ltb, leb, ℤ}
use Rattle.std.proofs.Math.Option.{Option, none, some}
use Rattle.syntax.specs.Bytes.{same_bytes}
use Rattle.syntax.specs.Token.{Lexeme, name, key, number, mark}
use Rattle.syntax.specs.Decide.Lexeme.{is_mark, is_key}
use Rattle.syntax.specs.Tree.{Cond, only, just, constant, end, Region, Method, Var, Monitor, all, spell_cond}
use Rattle.machine.specs.Monitor as machine
use Rattle.meaning.specs.Value.{truth}
use Rattle.meaning.specs.Decide.Bodies.{outcome}
use Rattle.meaning.specs.State.{count, state_at, number_of}
use Rattle.meaning.specs.Kept.{kept_at}
use Rattle.meaning.specs.Runs.{regions_of}

-- (R 3.6)
unfoldable pub same_lexeme : Lexeme → Lexeme → Bool
same_lexeme (name x) l = elim l [ name y ↦ same_bytes x y | key k ↦ false | number n ↦ false | mark m ↦ false ]
same_lexeme (key k) l = is_key k l
same_lexeme (number n) l = elim l [ name y ↦ false | key k ↦ false | number o ↦ eqb n o | mark m ↦ false ]
same_lexeme (mark m) l = is_mark m l

-- (R 3.5)
unfoldable pub same_lexemes : List Lexeme → List Lexeme → Bool
same_lexemes [] [] = true
same_lexemes [] (l ∷ ls) = false
same_lexemes (k ∷ ks) [] = false
same_lexemes (k ∷ ks) (l ∷ ls) = same_lexeme k l && same_lexemes ks ls

-- "Two guards (a region's condition) are one when their tokens are equal, numbers by value" (R 3.4, 3.5)
unfoldable pub same_guard : Cond → Cond → Bool
same_guard c d = same_lexemes (spell_cond c) (spell_cond d)

-- the place of a guard in a list, and the list's length where it is not there
unfoldable pub place_in : Cond → List Cond → ℕ
place_in c [] = 0
place_in c (d ∷ ds) = elim (same_guard c d) [ true ↦ 0 | false ↦ suc (place_in c ds) ]

-- "guards are numbered from 0 by first appearance": those found so far, and then those of more regions (R 3.9, 3.10)
unfoldable pub guards_of : List Cond → List Region → List Cond
guards_of found [] = found
guards_of found (r ∷ rs) =
    elim (ltb (place_in r.guard found) (length found))
    [ true ↦ guards_of found rs | false ↦ guards_of (found ++ (r.guard ∷ [])) rs ]

-- does region r begin a method (R 3.3)
unfoldable pub begins_in : List Method → ℕ → Bool
begins_in [] r = false
begins_in (x ∷ ms) r =
    eqb r 0 || (leb (length (all x.regions)) r && begins_in ms (r - length (all x.regions)))

-- does another region follow it in its method (R 3.3)
unfoldable pub goes_on_in : List Method → ℕ → Bool
goes_on_in [] r = false
goes_on_in (x ∷ ms) r =
    elim (ltb r (length (all x.regions)))
    [ true ↦ ltb (r + 1) (length (all x.regions)) | false ↦ goes_on_in ms (r - length (all x.regions)) ]

-- what stands for a region and a guard that the file lacks: a guard that never holds (R 9.34)
unfoldable pub no_guard : Cond
no_guard = only (just (constant false))

-- (R 9.34)
unfoldable pub no_region : Region
no_region = record { guard = no_guard; body = end }

-- the number of the state after a body; the state's own where it faults, which an accepted file has at no state that
-- counts (R 4.19, 4.20)
unfoldable pub number_after : List Var → ℕ → Option (List ℤ) → ℕ
number_after vs n none = n
number_after vs n (some as') = number_of vs as'

module _ (m : Monitor) where
  -- as they are declared (R 3.11)
  abbrev pub vars : List Var
  vars = all m.vars

  -- (R 3.2)
  unfoldable pub regions : List Region
  regions = regions_of (all m.methods)

  -- (R 3.9)
  unfoldable pub guards : List Cond
  guards = guards_of [] regions

  -- the region with a number (R 3.2, 9.34)
  unfoldable pub region : ℕ → Region
  region r = get_or regions r no_region

  -- the number of a region's guard (R 3.5, 3.9)
  unfoldable pub guard_of : ℕ → ℕ
  guard_of r = place_in (region r).guard guards

  -- does a guard hold in a state (R 3.18, 4.9, 9.34)
  unfoldable pub holds : ℕ → ℕ → Bool
  holds g n = truth (get_or guards g no_guard) vars (state_at vars n)

  -- the kept condition (R 5.1); false of a number that is no state's (R 3.17)
  unfoldable pub kept : ℕ → Bool
  kept n = ltb n (count vars) && kept_at m (state_at vars n)

  -- the state after a body (R 4.19)
  unfoldable pub after : ℕ → ℕ → ℕ
  after r n = number_after vars n (outcome (region r) vars (state_at vars n))

  -- "due at the method's next region, or idle" (R 3.3, 9.22)
  unfoldable pub follows : ℕ → machine.Place
  follows r = elim (goes_on_in (all m.methods) r) [ true ↦ machine.due (r + 1) | false ↦ machine.idle ]

  unfoldable pub model : machine.Monitor
  model =
      record {
        states = count vars;
        regions = length regions;
        guards = length guards;
        guard_of = guard_of;
        holds = holds;
        after = after;
        kept = kept;
        begins = begins_in (all m.methods);
        follows = follows;
      }
