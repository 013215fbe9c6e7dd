-- `names::Name::is_same` compares names that stand in the file: the two parts are the names' bytes.
use native.Mathlib.Omega.{arith}
use Rattle.names.proofs.Naming.{same_parts, stood}
use Rattle.names.proofs.Name.is_same.Goals as goal

pub returns-then-file-end : goal.returns-then-file-end
returns-then-file-end c x y s t = absurd (omega (arith, s.inside))

pub returns-then-file-other_end : goal.returns-then-file-other_end
returns-then-file-other_end c x y s t = absurd (omega (arith, t.inside))

pub returns : goal.returns
returns c x y s t =
    same_parts (stood c.from-start.ensures c.from.ensures s) (stood c.from-other_start.ensures c.from-2.ensures t)
    c.eq.ensures
