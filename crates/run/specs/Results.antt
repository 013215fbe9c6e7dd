-- The results of the library's calls against the meanings: every part of each, for every input.
use Rattle.std.specs.Prelude.{ℕ, ◌<◌, ◌≤◌, ◌≡◌, Bool, true, false, map, length, get_or, replicate, pos}
use Rattle.syntax.specs.Limits.{most_vars}
use Rattle.machine.specs.Monitor as machine
use Rattle.threads.specs.Held.{place_of}
use Rattle.meaning.specs.Held.{Offset}
use Rattle.meaning.specs.Answer.{answer}
use Rattle.meaning.specs.Calls.{Machine, plain_machine, table_machine, ran, refused_file, not_run}
use Rattle.meaning.specs.Calls as calls
use Rattle.run.specs.declared.Record as code
use Rattle.run.specs.declared.Running.{Running}
use Rattle.answers.specs.Says.{Says}

-- a record of a run: each value with 128 added, and 128 in the slots without a variable
pub record Records (rec : calls.Record) (r : code.Record) : Type 0 where
  pub vars : r.vars ≡ length rec.values
  pub values : (k : ℕ) → k < length rec.values → Offset (get_or rec.values k (pos 0)) (get_or r.values k 0)
  pub unused : (k : ℕ) → k < most_vars → length rec.values ≤ k → get_or r.values k 0 ≡ 128
  pub places : map (λ t. place_of t.place) r.threads ≡ rec.places
  pub turns : map (λ t. t.turn) r.threads ≡ rec.turns
  pub notified : r.notified ≡ rec.notified
  pub how_many_is : r.how_many ≡ rec.how_many

-- the record that stands beside a refusal: no values, all idle, every turn 0, none notified
pub record NoRecord (r : code.Record) : Type 0 where
  pub vars : r.vars ≡ 0
  pub values : (k : ℕ) → k < most_vars → get_or r.values k 0 ≡ 128
  pub places : map (λ t. place_of t.place) r.threads ≡ replicate 16 machine.idle
  pub turns : map (λ t. t.turn) r.threads ≡ replicate 16 0
  pub notified : r.notified ≡ 0
  pub how_many_is : r.how_many ≡ 0

unfoldable pub Runs : calls.Running → Running → Type 0
Runs (ran rec) r = Says r.answer (answer 0 0 0) × Records rec r.record × (r.of_file ≡ false)
Runs (refused_file a) r = Says r.answer a × NoRecord r.record × (r.of_file ≡ true)
Runs (not_run a) r = Says r.answer a × NoRecord r.record × (r.of_file ≡ false)

-- the choice of a machine
unfoldable pub machine_of : Bool → Machine
machine_of true = table_machine
machine_of false = plain_machine
