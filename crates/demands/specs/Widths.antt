-- What fits its digits in the programs' lines: each part of a record, and of a refusal.
use Rattle.std.specs.Prelude.{ℕ, ◌≤◌, ◌<◌, ◌≡◌, length, get_or, pos, ◌+ℤ◌, nat_abs}
use Rattle.machine.specs.Monitor.{idle, waiting, due}
use Rattle.meaning.specs.Answer.{Answer}
use Rattle.meaning.specs.Calls.{Record, Running, ran, refused_file, not_run}

-- The record of a run

pub record RecordFits (r : Record) : Type 0 where
  pub few : length r.values ≤ 6
  pub values : (k : ℕ) → k < length r.values → nat_abs (get_or r.values k (pos 0) +ℤ pos 128) < 256
  pub sixteen : length r.places ≡ 16
  pub waits : (t w : ℕ) → get_or r.places t idle ≡ waiting w → w < 16
  pub dues : (t w : ℕ) → get_or r.places t idle ≡ due w → w < 16

-- What a run gives

pub record AnswerFits (a : Answer) : Type 0 where
  pub refuses : 1 ≤ a.number
  pub number : a.number ≤ 15
  pub first : a.first < 65536
  pub second : a.second < 65536

unfoldable pub RunFits : Running → Type 0
RunFits (ran r) = RecordFits r
RunFits (refused_file a) = AnswerFits a
RunFits (not_run a) = AnswerFits a
