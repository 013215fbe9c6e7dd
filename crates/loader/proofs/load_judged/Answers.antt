-- `loader::load_judged` meets its contract: the file has a tree, what is resolved and linked is what 15 asks, and laid out
-- what `survey` and `fill` ask.
use native.Mathlib.Omega.{arith}
use mathlib.Core.Path.{sym, ◌∙◌}
use Rattle.syntax.specs.Token.{lexemes}
use Rattle.meaning.specs.Model.{vars}
use Rattle.judging.proofs.Refusals.{found_at, found_nothing}
use Rattle.filling.proofs.Fills.{left_all}
use Rattle.loader.proofs.Loads.{sizes, few, is_keep, few_lexemes, kinds_held, resolved_long, filling, resolved}
use Rattle.loader.proofs.Loads.{coded, loads_15, loads}
use Rattle.loader.proofs.load_judged.Goals as goal

-- 15 is judged before anything is filled
pub returns-in-Some : goal.returns-in-Some
returns-in-Some c =
    let j = c.args.judged in
    record {
      loads = λ ts m w p o l₁ l₂ l₃.
          let resolves = c.resolve.ensures ts w p.counts o in
          let x = coded w m j p _ _ resolves (c.link_braces.ensures (lexemes ts) (kinds_held w m j p)
          (resolved_long w m j p _ resolves) (few_lexemes w m j p)) in
          loads_15 w m j p _ _ _ c.from.ensures (found_at _ _ (sym c.in-Some.is ∙ c.find_unvalued.ensures _ ts _ (vars m) w x));
      leaves = left_all _ _ _ _;
    }

pub returns : goal.returns
returns c =
    let j = c.args.judged in
    let t = c.tries_of-tries in
    let l = c.lay_out-layout in
    let s = c.survey-mentions in
    record {
      loads = λ ts m w p o l₁ l₂ l₃.
          let resolves = c.resolve.ensures ts w p.counts o in
          let x = coded w m j p _ _ resolves (c.link_braces.ensures (lexemes ts) (kinds_held w m j p)
          (resolved_long w m j p _ resolves) (few_lexemes w m j p)) in
          let tries = t.ensures m (lexemes ts) (kinds_held w m j p) (few_lexemes w m j p) (sizes w m j p).tries
          (is_keep w m j p) in
          let f = filling w m j p l.result t.result x
          (l.ensures m ts w p.grammar (sizes w m j p).regions (few w m j p) (is_keep w m j p) tries.next) tries in
          let named = s.ensures m (lexemes ts) (resolved w m j p f) in
          let valued = found_nothing _ (sym c.in_default.is ∙ c.find_unvalued.ensures _ ts _ (vars m) w x) in
          loads w m j p l.result t.result s.result c.pairs_of.result c.fill-last.result _ _ _ f named c.pairs_of.ensures
          c.place_of.ensures valued (c.fill-last.ensures.filled m (lexemes ts) f named l₁ l₂ l₃);
      leaves = c.fill-last.ensures.leaves;
    }

-- the operands are as many as they were
pub shape_of-operands-in-Some : goal.shape_of-operands-in-Some
shape_of-operands-in-Some c =
    omega (arith, c.link_braces.auto.operands, c.resolve.auto.operands)

pub shape_of-operands : goal.shape_of-operands
shape_of-operands c =
    omega (arith, c.link_braces.auto.operands, c.resolve.auto.operands)
