-- The point of a machine's run that a record holds, and whom a body notifies anew on either machine.
use Rattle.std.specs.Prelude.{ℕ, Bool, true, false, List}
use Rattle.sets.specs.Set.{member}
use Rattle.machine.specs.Monitor.{Threads, Config}
use Rattle.machine.specs.Decide.Step.{Told}
use Rattle.threads.specs.Held.{threads_of}
use Rattle.waiters.specs.Told.{becomes_at, on_one, new_first}
use Rattle.stepper.specs.declared.Run.{Run}
use Rattle.stepper.specs.Shown.{notices_in}

-- the point of a machine's run that a record holds
unfoldable pub config_of : Bool → Run → Config
config_of w r = record { state = r.state; threads = threads_of r.threads; notified = member (notices_in w r) }

-- whom a machine notifies anew where a body has made some guards true: the table's the first on each or all, the plain one all
unfoldable pub newly_in : List ℕ → List ℕ → (ℕ → Bool) → Bool → Threads → ℕ → ℕ → Bool
newly_in gs es some true p r u = new_first gs es some p r u (p.place u)
newly_in gs es some false p r u = on_one gs some (p.place u)

-- those guards are the ones that hold after the body and did not in the state before it
unfoldable pub newly_at : List ℕ → List ℕ → List ℕ → Bool → ℕ → Told
newly_at hs gs es w s s' p r u = newly_in gs es (becomes_at hs s s') w p r u
