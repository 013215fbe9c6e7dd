-- `allowed::region_at` meets its contract, by the place.
use Rattle.threads.specs.Held.{place_of}
use Rattle.allowed.specs.Offered.{region_by}
use Rattle.allowed.proofs.region_at.Goals as goal

pub returns-in-Idle : goal.returns-in-Idle
unfolding region_by place_of
returns-in-Idle c = rw c.in-Idle.is

pub returns-in-Waiting : goal.returns-in-Waiting
unfolding region_by place_of
returns-in-Waiting c = rw c.in-Waiting.is

pub returns-in-Due : goal.returns-in-Due
unfolding region_by place_of
returns-in-Due c = rw c.in-Due.is
