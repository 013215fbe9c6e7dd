-- Tests over the numbers below a bound, and a Boolean as a number.
use Rattle.std.specs.Prelude.{ℕ, zero, suc, Bool, true, false, ◌||◌}

-- some number below n passes a test
unfoldable pub any : ℕ → (ℕ → Bool) → Bool
any zero f = false
any (suc n) f = f n || any n f

-- 1 for true and 0 for false
unfoldable pub bit : Bool → ℕ
bit true = 1
bit false = 0
