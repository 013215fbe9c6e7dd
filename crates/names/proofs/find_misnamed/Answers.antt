-- `names::find_misnamed` answers `misnamed`: at each turn `misnamed` of the whole file is `misnamed` of the tokens
-- that are left, behind the lexeme before and with the names held.
use native.Mathlib.Omega.{arith}
use Rattle.syntax.specs.Decide.Lexeme.{keyword_number}
use Rattle.syntax.specs.Held.Kind.{kind_of}
use Rattle.passes.proofs.ByIndex.{values_long, places_long}
use Rattle.names.proofs.Misnaming.{naming_first, naming_offends, naming_next, naming_ends}
use Rattle.names.proofs.find_misnamed.Goals as goal

pub returns-then-values-kinds : goal.returns-then-values-kinds
returns-then-values-kinds c ts h n = absurd (c.if-values-kinds.true (values_long h))

pub returns-then-places-kinds : goal.returns-then-places-kinds
returns-then-places-kinds c ts h n = absurd (c.if-places-kinds.true (places_long h))

pub loop-i-init : goal.loop-i-init
loop-i-init c = λ ts h n. naming_first _ ts _ _ (c.none-vars.ensures _) (c.none-methods.ensures _)

pub returns-then-wrong : goal.returns-then-wrong
returns-then-wrong c ts h n = naming_offends h (c.loop-i.invariant ts h n)
    (omega arith) _ c.wrong.ensures c.if-wrong.true

pub loop-i-preserved : goal.loop-i-preserved
unfolding kind_of keyword_number
loop-i-preserved c =
    λ ts h n.
    naming_next h
    (c.loop-i.invariant ts h n) n
    (omega arith) _
    c.wrong.ensures c.if-wrong.false _ _
    c.declares.ensures c.declared-vars.ensures
    c.declares-in-loop-i.ensures c.declared-methods.ensures

pub returns : goal.returns
returns c ts h n = naming_ends h (c.loop-i.invariant ts h n) (omega arith)
