-- The verdicts of a tree, 7, 15, 8 and 9, with their grounds.
use Prim.Native.Nat.{ℕ, ◌≤◌}
use mathlib.Core.Path.{◌≡◌}
use mathlib.Core.Bool.{true, false}
use mathlib.Core.List.{List}
use lib.ListN.{get_or}
use Rattle.syntax.specs.Token.{k_var, k_keep, Token}
use Rattle.syntax.specs.Tree.{Monitor, all}
use Rattle.meaning.specs.State.{count, starts}
use Rattle.meaning.specs.Kept.{kept_at}
use Rattle.meaning.specs.Answer.{answer, Verdict, accepted, refused}
use Rattle.meaning.specs.Decide.Check.{places_of}
use Rattle.meaning.specs.Accepted.{GoodRanges, NoneLacks, Sound, FirstOffends}
use Rattle.meaning.specs.Refusal.{FirstBroken, FirstIllRanged, Unvalued}

-- the verdicts of a tree, by its tokens
pub data Judged (ts : List Token) (m : Monitor) : Verdict → Type 0 where
  sound : Sound m → Judged ts m (accepted m)
  is_ill_ranged : {i : ℕ} → FirstIllRanged (all m.vars) i
      → Judged ts m (refused (answer 7 (get_or (places_of k_var ts) i 0) 0))
  unvalued :
      {k : ℕ} → GoodRanges (all m.vars) → count (all m.vars) ≤ 4096 → FirstOffends (Unvalued m) ts k
      → Judged ts m (refused (answer 15 k 0))
  start_not_kept :
      GoodRanges (all m.vars) → count (all m.vars) ≤ 4096 → NoneLacks m → kept_at m (starts (all m.vars)) ≡ false
      → Judged ts m (refused (answer 8 (get_or (places_of k_keep ts) 0 0) 0))
  broken :
      {k n : ℕ} → GoodRanges (all m.vars) → count (all m.vars) ≤ 4096 → NoneLacks m
      → kept_at m (starts (all m.vars)) ≡ true → FirstBroken m k n → Judged ts m (refused (answer 9 k n))
