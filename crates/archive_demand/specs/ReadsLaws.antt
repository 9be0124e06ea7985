-- How a turn counts polls: what the theorem of Polls.antt is made of.
use Rattle.std.specs.Prelude.{ℕ, ◌≡◌, Bool, true}
use Rattle.collector_settings.specs.declared.Settings.{Settings}
use Rattle.collector_phases.specs.declared.Collector.{Collector}
use Rattle.collector_phases.specs.Phases.{phase_of}
use Rattle.collector_phases.specs.Fit.{FitSettings, FitCollector}
use Rattle.collector_phases.specs.Accesses.{access_of}
use Rattle.collector_records.specs.Records.{first_record}
use Rattle.collector.specs.Counts.{counted_on, underway}
use Rattle.archive_turns.specs.Machine.{Machine}
use Rattle.archive_turns.specs.Turn.{Turning}
use Rattle.archive_demand.specs.Run.{System}

-- what a turn leaves and reports, n reads having been counted before it
pub record TurnCounts {B : Type 0} (c : Collector) (z : Bool) (n : ℕ) (t : Turning B) : Type 0 where
  pub left-fit : FitCollector t.collector
  pub told : t.polls ≡ counted_on (access_of c) z t.handed n
  pub kept-polls : underway (phase_of t.collector.phase) ≡ true → t.collector.polls ≡ t.polls

-- ---- a run
module _ (M : Machine) (b : M.Board) (t : Settings) (f : FitSettings t) where
  abbrev pub opening : System M
  opening = record { board = b; collector = first_record t }
