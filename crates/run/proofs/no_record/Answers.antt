-- `run::no_record` meets its contract: six slots of 128, all threads idle, and nobody notified.
use Prim.Native.Nat.{ℕ, zero, suc, ◌<◌}
use native.Mathlib.Omega.{arith}
use mathlib.Core.Path.{◌≡◌, refl}
use lib.ListN.{get_or, replicate}
use Rattle.threads.specs.Held.{place_of}
use Rattle.run.proofs.no_record.Goals as goal

each_at : (n a t : ℕ) → t < n → get_or (replicate n a) t 0 ≡ a
each_at zero a t h = absurd (omega arith)
each_at (suc n) a zero h = refl
each_at (suc n) a (suc t) h = each_at n a t (omega arith)

pub returns : goal.returns
unfolding place_of
returns c = record {
  vars = refl;
  values = λ k h. each_at 6 128 k h;
  places = refl;
  turns = refl;
  notified = refl;
  how_many_is = refl;
}
