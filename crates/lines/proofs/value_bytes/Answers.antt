-- `lines::value_bytes` meets its contract: each call gives the byte of its value.
use Rattle.std.proofs.Common.{of_calls}
use Rattle.sixteen.proofs.Arrays.{made_each}
use Rattle.lines.proofs.value_bytes.Goals as goal

pub returns-clause-each : goal.returns-clause-each
returns-clause-each c = made_each _ (λ k y q called. search of_calls) 0 c.from_fn.ensures.items
