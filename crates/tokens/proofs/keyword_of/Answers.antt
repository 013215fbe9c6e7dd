-- `tokens::keyword_of` meets its contract: the words stand in the order of their numbers.
use mathlib.Core.Path.{◌∙◌}
use Prim.Native.Nat.{ℕ}
use mathlib.Core.List.{List}
use Rattle.std.proofs.Common.{Bor}
use Rattle.std.specs.Str.{bytes_eq}
use Rattle.syntax.specs.Bytes.{bytes}
use Rattle.syntax.specs.Token.{keywords}
use Rattle.tokens.proofs.Words.{texts, position_map, keyword_place}
use Rattle.tokens.proofs.keyword_of.Goals as goal

pub returns : goal.returns
unfolding keywords bytes texts
returns c =
    rw (position_map (λ k. bytes_eq k c.args.part.now) (λ (k : Bor (List ℕ)). k.now)) at c.place_of.ensures
    ∙ keyword_place c.args.part.now
