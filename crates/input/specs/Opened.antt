-- What stands behind a file that was opened, or was not.
use Rattle.std.specs.Prelude.{ℕ, ◌≡◌, List, [], Option, Some, Result, Ok, Err}
use Rattle.std.specs.declared.io.Error.{Error}
use Rattle.std.specs.declared.io.ErrorKind.TheVariants.{NotFound}
use Rattle.std.specs.IoError.{error_kind}

-- a reader has these bytes; what is missing has none
abbrev pub Has : {R : Type 0} → (R → Option (List ℕ)) → Result R Error → List ℕ → Type 0
Has remaining (Ok r) xs = remaining r ≡ Some xs
Has remaining (Err e) xs = (error_kind e ≡ NotFound) × (xs ≡ [])
