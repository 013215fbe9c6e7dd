-- `filling::fill` meets its contract: 8 by keep's truth at the start values, and what is settled behind it.
use Prim.Native.Nat.{ℕ}
use native.Mathlib.Omega.{arith}
use mathlib.Core.Path.{◌≡◌}
use mathlib.Core.Logic.{◌⊎◌, ⊎_elim}
use mathlib.Core.List.{List}
use Rattle.syntax.specs.Token.{Lexeme}
use Rattle.syntax.specs.Tree.{Monitor}
use Rattle.meaning.specs.Value.{truth}
use Rattle.meaning.specs.State.{starts}
use Rattle.meaning.specs.Model.{vars}
use Rattle.mentions.specs.Mentioned.{Mentioned}
use Rattle.rows.specs.Filling.{Filling}
use Rattle.rows.proofs.Texts.{keeping}
use Rattle.filling.specs.Filling.{AsLong, Leaves}
use Rattle.filling.proofs.Fills.{filled_8, filled_on, left_all}
use Rattle.filling.proofs.fill.Goals as goal
use Rattle.filling.proofs.fill.Goals.{After-holds_at}

-- what the function is given, where keep has been evaluated at the start values
abbrev Given : After-holds_at → Monitor → List Lexeme → Type 0
Given c m ls =
    let a = c.args in
    Filling m ls a.kinds.now a.values.now a.bounds a.layout a.tries

holds_at_start : (c : After-holds_at) {m : Monitor} {ls : List Lexeme} → Given c m ls
    → Mentioned m c.args.mentions → c.holds_at.result ≡ truth m.keep (vars m) (starts (vars m))
holds_at_start c {m} {ls} f n =
    let k = keeping f n in
    c.holds_at.ensures (vars m) (starts (vars m)) k.ls k.us _ k.codes k.bounded.start_values k.spelled
    k.ends (omega (arith, k.few))

-- 8 is judged before anything is filled
pub returns-then-not-holds_at : goal.returns-then-not-holds_at
returns-then-not-holds_at c =
    record {
      filled = λ m ls f n l₁ l₂ l₃.
          filled_8 m _ _ _ _ _ (holds_at_start (goal.at.returns-then-not-holds_at c).After-holds_at f n) c.if-not-holds_at.true c.from.ensures;
      leaves = left_all _ _ _ _;
    }

-- behind it the answer is 9 or 0
left : (n : ℕ) (kept₀ holds₀ after₀ kept holds after : List ℕ) → (n ≡ 9) ⊎ (n ≡ 0)
    → AsLong kept₀ holds₀ after₀ kept holds after → Leaves n kept₀ holds₀ after₀ kept holds after
left n kept₀ holds₀ after₀ kept holds after ends long =
    record {
      untouched = λ no-0 no_9. absurd (⊎_elim no_9 no-0 ends);
      as_long = long;
    }

-- without tries no slice is asked for
pub returns-then-tries-eq0 : goal.returns-then-tries-eq0
returns-then-tries-eq0 c =
    record {
      filled = λ m ls f n l₁ l₂ l₃.
          filled_on m _ _ _ _ _ (holds_at_start (goal.at.returns-then-tries-eq0 c).After-holds_at f n) c.if-not-holds_at.false
          (c.fill_states.ensures.settles m ls f n l₁ l₂ l₃ (λ some. absurd (omega (arith, c.if-tries-eq0.true))));
      leaves = left _ _ _ _ _ _ _ c.fill_states.ensures.ends.0 c.fill_states.ensures.ends.1;
    }

pub returns : goal.returns
returns c =
    record {
      filled = λ m ls f n l₁ l₂ l₃.
          filled_on m _ _ _ _ _ (holds_at_start (goal.at.returns c).After-holds_at f n) c.if-not-holds_at.false
          (c.fill_states-2.ensures.settles m ls f n l₁ l₂ l₃ (λ some. omega arith));
      leaves = left _ _ _ _ _ _ _ c.fill_states-2.ensures.ends.0 c.fill_states-2.ensures.ends.1;
    }
