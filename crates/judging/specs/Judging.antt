-- What the answer of 3 to 7 says of a file's check: a refusal, or what is known where they do not arise.
use Rattle.std.specs.Prelude.{ℕ, ◌≤◌, ◌≡◌, List, [], ◌∷◌, drop, Result, Ok, Err}
use Rattle.std.proofs.Math.Option.{none}
use Rattle.syntax.specs.Token.{number, key, k_var, k_keep, Token, lexemes}
use Rattle.syntax.specs.Tree.{Monitor, spell}
use Rattle.meaning.specs.Decide.Check.{crowded, past_limit, misnamed, ill_ranged, places_of, check}
use Rattle.meaning.specs.Model.{vars}
use Rattle.meaning.specs.Held.{behind_keep}
use Rattle.variables.specs.Bounded.{Bounded}
use Rattle.meaning.specs.Answer.{refused}
use Rattle.answers.specs.Numbered.{numbered}
use Rattle.answers.specs.declared.Refusal.{Refusal}
use Rattle.judging.specs.declared.Judged.{Judged}

-- 3 to 7 do not arise, of a tree and the variables that were read
pub record Past7 (ts : List Token) (m : Monitor) (j : Judged) : Type 0 where
  pub uncrowded : crowded 0 0 0 ts ≡ none
  pub grammar : spell m ≡ lexemes ts
  pub counts : past_limit 0 0 0 0 ts ≡ none
  pub names : misnamed (number 0) [] [] ts ≡ none
  pub ranges : ill_ranged 1 (vars m) (places_of k_var ts) ≡ none
  pub bounded : Bounded (vars m) j.bounds
  pub keep_stands : drop j.keep (lexemes ts) ≡ key k_keep ∷ behind_keep m

-- what 3 to 7 say: a tree that passes them, or a refusal of the file with a number of 3 to 7
unfoldable pub Judges : List ℕ → List Token → Result Judged Refusal → Type 0
Judges file ts (Ok j) = (m : Monitor) × Past7 ts m j
Judges file ts (Err r) =
    (3 ≤ (numbered r).number) × ((numbered r).number ≤ 7) × (check file ≡ refused (numbered r))
