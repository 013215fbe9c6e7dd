-- How many bytes stand at a buffer's start after reading, whether a read failed or not.
use Rattle.std.specs.Prelude.{ℕ, Result, Ok, Err}
use Rattle.input.specs.declared.Stopped.{Stopped}

abbrev pub counted : Result ℕ Stopped → ℕ
counted (Ok n) = n
counted (Err stopped) = stopped.count
