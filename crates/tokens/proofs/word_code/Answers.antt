-- `tokens::word_code` meets its contract: a word is a reserved one, by its number, or a name, by its length.
use Prim.Native.Nat.{◌-◌}
use mathlib.Core.Path.{◌≡◌, sym, ◌∙◌}
use native.Mathlib.Omega.{arith}
use lib.ListN.{length, take, drop, length-take, length-drop}
use Rattle.syntax.specs.Token.{keywords}
use Rattle.scanner.proofs.Scanning.{word_or}
use Rattle.tokens.proofs.Coding.{key_few, name_held, key_held}
use Rattle.tokens.proofs.word_code.Goals as goal

pub overflow_cast-result : goal.overflow_cast-result
overflow_cast-result c = omega (arith, key_few (word_or keywords _) (sym c.keyword_of.ensures ∙ c.in-Some.is))

pub overflow_add-result : goal.overflow_add-result
overflow_add-result c = omega (arith, key_few (word_or keywords _) (sym c.keyword_of.ensures ∙ c.in-Some.is))

pub returns-in-Some : goal.returns-in-Some
returns-in-Some c = sym (key_held (word_or keywords _) (sym c.keyword_of.ensures ∙ c.in-Some.is))

pub returns-in-None : goal.returns-in-None
returns-in-None c =
    let a = c.args in
    let n = a.end - a.from in
    let bs = drop a.from a.file.now in
    let e : length (take n bs) ≡ n = omega (arith, length-take n bs, length-drop a.from a.file.now) in
    rw e at (sym (name_held (word_or keywords (take n bs)) (sym c.keyword_of.ensures ∙ c.in-None.is)))
