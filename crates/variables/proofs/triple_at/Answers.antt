-- `variables::triple_at` meets its contract: what the three integers promise makes up the variable's, by `spelled_var`.
use Rattle.std.proofs.Common.{arith}
use Rattle.variables.proofs.Spelled.{spelled_var}
use Rattle.variables.proofs.triple_at.Goals as goal

pub returns : goal.returns
returns c =
    let r₁ = c.int_at-start in
    let r₂ = c.int_at-low in
    let r₃ = c.int_at-high in
    record {
      further = omega arith;
      spelled = λ ls rest v held e.
          spelled_var held v rest c.args.at e
          r₁.result r₂.result r₃.result
          r₁.ensures r₂.ensures r₃.ensures;
    }
