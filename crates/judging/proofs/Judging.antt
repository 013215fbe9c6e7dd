-- What is known of a file that 3 to 7 pass.
use Prim.Native.Nat.{ℕ, ◌≤◌}
use native.Mathlib.Omega.{arith}
use mathlib.Core.Path.{◌≡◌}
use mathlib.Core.List.{List, [], ◌∷◌}
use mathlib.Core.Option.{none}
use Rattle.std.specs.Prelude.{Ok}
use lib.ListN.{length}
use Rattle.syntax.specs.Token.{number, key, k_keep, Token, lexemes}
use Rattle.syntax.specs.Tree.{Monitor, all, spell}
use Rattle.syntax.specs.Held.Kind.{Words}
use Rattle.meaning.specs.Decide.Check.{crowded, past_limit, misnamed}
use Rattle.meaning.specs.Held.{behind_keep}
use Rattle.variables.specs.Bounded.{Ranged}
use Rattle.variables.specs.Places.{first_var}
use Rattle.variables.specs.declared.Declared.{Declared}
use Rattle.layout.proofs.Same.{lexemes_length}
use Rattle.judging.proofs.Counts.{few_tokens}
use Rattle.judging.proofs.Refusals.{no_7}
use Rattle.judging.specs.Judging.{Past7}

pub few_lexemes : (ts : List Token) → crowded 0 0 0 ts ≡ none → length (lexemes ts) ≤ 8192
few_lexemes ts e = omega (arith, few_tokens ts e, lexemes_length ts)

pub past_7 : {file : List ℕ} {ts : List Token} {kinds values places : List ℕ} → Words file ts kinds values places
    → crowded 0 0 0 ts ≡ none → (m : Monitor) → spell m ≡ lexemes ts → past_limit 0 0 0 0 ts ≡ none
    → misnamed (number 0) [] [] ts ≡ none → (d : Declared)
    → Ranged (all m.vars) (lexemes ts) (key k_keep ∷ behind_keep m) first_var (Ok d)
    → Past7 ts m (record { keep = d.next; bounds = d.bounds })
unfolding Ranged
past_7 w room m spelt few names d r =
    record {
      uncrowded = room;
      grammar = spelt;
      counts = few;
      names = names;
      ranges = no_7 w room m spelt few names d r;
      bounded = r.0;
      keep_stands = r.1;
    }
