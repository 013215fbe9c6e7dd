-- `lanes::share` meets its contract: what is smaller than the size goes whole to the variable, and else a quotient and
-- a remainder make up the number.
use native.Mathlib.Nat.{div-add-mod', mod-lt, mod-le, div-le_self}
use mathlib.Core.Path.{sym}
use Rattle.lanes.proofs.share.Goals as goal

pub returns-else-rest-size : goal.returns-else-rest-size
returns-else-rest-size c =
    let rest = c.args.rest in
    let size = c.args.size in
    record {
      whole = sym (div-add-mod' rest size);
      small = mod-lt rest c.requires;
      here_less = mod-le rest size;
      rest_less = div-le_self rest size;
    }
