-- `names::variables` lists the variables: at each turn the titles of the file are those held and those of the tokens
-- that are left.
use native.Mathlib.Omega.{arith}
use Rattle.syntax.specs.Decide.Lexeme.{keyword_number}
use Rattle.syntax.specs.Held.Kind.{kind_of}
use Rattle.passes.proofs.ByIndex.{values_long, places_long}
use Rattle.names.proofs.Listing.{listing_first, listing_next, listing_last}
use Rattle.names.proofs.variables.Goals as goal

pub returns-then-values-kinds : goal.returns-then-values-kinds
returns-then-values-kinds c file ts h n = absurd (c.if-values-kinds.true (values_long h))

pub returns-then-places-kinds : goal.returns-then-places-kinds
returns-then-places-kinds c file ts h n = absurd (c.if-places-kinds.true (places_long h))

pub loop-i-init : goal.loop-i-init
loop-i-init c = λ file ts h n. listing_first file ts _ (c.none-vars.ensures file)

pub loop-i-preserved : goal.loop-i-preserved
unfolding kind_of keyword_number
loop-i-preserved c =
    λ file ts h n.
    listing_next h n _ (c.loop-i.invariant file ts h n) (omega arith)
    c.declares.ensures c.declared-vars.ensures

pub returns : goal.returns
returns c file ts h n = listing_last h (c.loop-i.invariant file ts h n) (omega arith)
