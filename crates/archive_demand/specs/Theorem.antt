-- Demand 3 holds of the collector on any board that obeys the laws. Assumes nothing.
use Rattle.std.specs.Prelude.{ℕ, ◌≡◌, Ok}
use Rattle.collector_phases.specs.declared.Access.TheVariants.{ReadWord}
use Rattle.collector_settings.specs.declared.Settings.{Settings}
use Rattle.collector_phases.specs.declared.Phase.{Phase}
use Rattle.collector_phases.specs.declared.Phase.TheVariants.{Look}
use Rattle.collector_phases.specs.Phases.{access_in}
use Rattle.archive_demand.specs.Log.{Log}
use Rattle.archive_demand.specs.Demand.{Either}
use Rattle.archive_demand.specs.Phases.{Idle, Running}
use Rattle.archive_demand.specs.Starts.{Starting}

-- ---- what each phase says of the log
-- either no run is on, or one is
pub data RunState (p : Phase) (t : Settings) (next : ℕ) (l : Log) : Type 0 where
  idle : Starting p → Idle l → RunState p t next l
  running : Either (p ≡ Look) (access_in p t ≡ Ok (ReadWord 0)) → Running t next l → RunState p t next l
