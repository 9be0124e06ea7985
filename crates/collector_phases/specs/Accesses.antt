-- The access that the collector makes now (the specification, "The collector").
use Rattle.std.specs.Prelude.{Result, Err, if◌then◌else◌}
use Rattle.base.specs.declared.Refusal.{Refusal}
use Rattle.base.specs.Checks.{refused_by}
use Rattle.collector_phases.specs.declared.Collector.{Collector}
use Rattle.collector_phases.specs.declared.Access.{Access}
use Rattle.collector_phases.specs.Phases.{phase_of, access_in}
use Rattle.collector_phases.specs.Fit.{fit}

-- an unfit record names none (1), nor does a stuck one (15)
unfoldable pub access_of : Collector → Result Access Refusal
access_of c = if fit c then access_in (phase_of c.phase) c.settings else Err (refused_by 1)
