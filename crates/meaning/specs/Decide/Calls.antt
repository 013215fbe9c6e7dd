-- The library's calls, computed: placing the table of a file into a lent buffer (10), and running a trace from a start
-- state on a machine (11 to 14).
use Rattle.std.specs.Prelude.{ℕ, true, false, List, ◌++◌, length, drop, ltb}
use Rattle.syntax.specs.Tree.{Monitor}
use Rattle.machine.specs.Monitor.{Frame, Run, all_idle, stopped}
use Rattle.machine.specs.Decide.Step.{Told, run, plain_told}
use Rattle.machine.specs.Monitor as machine
use Rattle.machine.specs.Decide.Table.{entry_of, table_told}
use Rattle.meaning.specs.Answer.{answer, accepted, refused}
use Rattle.meaning.specs.Decide.Check.{check}
use Rattle.meaning.specs.Decide.Choice.{chosen_bits}
use Rattle.meaning.specs.Decide.Touch.{pairs_of}
use Rattle.meaning.specs.Model.{kept, model}
use Rattle.meaning.specs.Decide.Table.{table_of}
use Rattle.meaning.specs.Decide.Frames.{Frames, frames, none_at, frames_of}
use Rattle.meaning.specs.Calls.{Machine, plain_machine, table_machine, Placing, not_placed, record_of}
use Rattle.meaning.specs.Calls.{Running, ran, refused_file, not_run}

-- "success writes the table from byte 0 and keeps the bytes behind it"; the chosen tries and the touched pairs are
-- reported beside it
unfoldable pub written : List ℕ → ℕ → ℕ → List ℕ → Placing
written table chosen pairs buffer =
    elim (ltb (length buffer) (length table)) [
      | true ↦ not_placed (answer 10 0 0) buffer
      | false ↦
          record {
            answer = answer 0 0 0;
            length = length table;
            chosen = chosen;
            pairs = pairs;
            buffer = table ++ drop (length table) buffer;
          }
    ]

unfoldable pub place : List ℕ → List ℕ → Placing
place file buffer =
    elim (check file)
    [ accepted m ↦ written (table_of (model m)) (chosen_bits m) (pairs_of m) buffer | refused a ↦ not_placed a buffer ]

unfoldable pub told_by : machine.Monitor → Machine → Told
told_by m plain_machine = plain_told m
told_by m table_machine = table_told m (entry_of m)

unfoldable pub running_of : Monitor → Run → Running
running_of m (machine.accepted c) = ran (record_of m c)
running_of m (stopped a k) = not_run (answer a k 0)

-- a run of a list of frames from a state, all idle and none notified
unfoldable pub run_list : Monitor → Machine → ℕ → List Frame → Run
run_list m w s fs = run (model m) (told_by (model m) w) 0 (all_idle s) fs

-- 12 over the whole trace, before any 13 or 14
unfoldable pub run_frames : Monitor → Machine → ℕ → Frames → Running
run_frames m w s (frames fs) = running_of m (run_list m w s fs)
run_frames m w s (none_at k) = not_run (answer 12 k 0)

-- 11: "start state number not below the count of states, or kept condition false there"
unfoldable pub run_from : Monitor → Machine → ℕ → List ℕ → Running
run_from m w s trace = elim (kept m s) [ true ↦ run_frames m w s (frames_of trace) | false ↦ not_run (answer 11 0 0) ]

unfoldable pub running : List ℕ → List ℕ → ℕ → Machine → Running
running file trace s w = elim (check file) [ accepted m ↦ run_from m w s trace | refused a ↦ refused_file a ]
