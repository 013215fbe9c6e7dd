-- `layout::Tokens::same_tokens` meets its contract: the chain compares the tokens at each place.
use Prim.Native.Nat.{◌+◌}
use native.Mathlib.Omega.{arith}
use mathlib.Core.Path.{refl, ◌∙◌}
use borrow.Author.Rules.{rules}
use Rattle.std.proofs.lemmas.Iterator.{YieldsList-from_range}
use Rattle.std.proofs.lemmas.Iterator.Search.{all_from_yields_List}
use Rattle.syntax.specs.Token.{lexemes}
use Rattle.meaning.specs.Model.{same_lexeme}
use Rattle.layout.specs.Promises.{lexeme_at}
use Rattle.layout.proofs.Same.{tokens_all, kinds_length}
use Rattle.layout.proofs.Tokens.same_tokens.Goals as goal

pub returns : goal.returns
returns c =
    let a = c.args in
    λ ts w. let l = kinds_length w in
    all_from_yields_List (λ k. same_lexeme (lexeme_at ts (a.a + k)) (lexeme_at ts (a.b + k))) _ _ c.all.result
    c.all.ensures.ran
    (YieldsList-from_range 0 a.n a.n refl (omega arith)) (λ x b q k. search rules)
    ∙ tokens_all (lexemes ts) a.a a.b a.n (omega arith) (omega arith)
