-- `lines::place_byte` meets its contract: each arm is the case of its place.
use mathlib.Core.Path.{sym, ap}
use Rattle.threads.specs.Held.{place_of}
use Rattle.threads.specs.declared.Place.{Place}
use Rattle.lines.specs.Written.{byte_of}
use Rattle.lines.proofs.place_byte.Goals as goal

pub returns-in-Idle : goal.returns-in-Idle
unfolding byte_of place_of
returns-in-Idle c = sym (ap (λ (p : Place). byte_of (place_of p)) c.in-Idle.is)

pub returns-in-Waiting : goal.returns-in-Waiting
unfolding byte_of place_of
returns-in-Waiting c = sym (ap (λ (p : Place). byte_of (place_of p)) c.in-Waiting.is)

pub returns-in-Due : goal.returns-in-Due
unfolding byte_of place_of
returns-in-Due c = sym (ap (λ (p : Place). byte_of (place_of p)) c.in-Due.is)
