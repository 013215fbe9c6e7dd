-- `entries::code` meets its contract: each arm is a case of `made`.
use Rattle.logic.specs.Tests.{bit}
use Rattle.machine.specs.Held.{code_of}
use Rattle.entries.specs.Slices.{made}
use Rattle.entries.proofs.code.Goals as goal

pub returns-in-true-true-true : goal.returns-in-true-true-true
unfolding code_of made bit
returns-in-true-true-true c = simp (c.in-true-true-true.is-0, c.in-true-true-true.is-1, c.in-true-true-true.is-2)

pub returns-in-true-true-false : goal.returns-in-true-true-false
unfolding code_of made bit
returns-in-true-true-false c = simp (c.in-true-true-false.is-0, c.in-true-true-false.is-1, c.in-true-true-false.is-2)

pub returns-in-true-false-true : goal.returns-in-true-false-true
unfolding code_of made bit
returns-in-true-false-true c = simp (c.in-true-false-true.is-0, c.in-true-false-true.is-1, c.in-true-false-true.is-2)

pub returns-in-true-false-false : goal.returns-in-true-false-false
unfolding code_of made bit
returns-in-true-false-false c = simp (c.in-true-false-false.is-0, c.in-true-false-false.is-1, c.in-true-false-false.is-2)

pub returns-in-false-default-default : goal.returns-in-false-default-default
unfolding code_of made bit
returns-in-false-default-default c = simp c.in-false-default-default.is-0
