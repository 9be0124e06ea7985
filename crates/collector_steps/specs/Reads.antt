-- What the answer to a read leads to: of a poll, of a look, of a word read (the specification, "The collector"; request M-108: "goes by EF
-- first, FF next, and reads nothing else").
use Rattle.std.specs.Prelude.{ℕ, ◌-◌, leb, if◌then◌else◌}
use Rattle.collector_phases.specs.declared.Collector.{Collector}
use Rattle.collector_phases.specs.declared.Phase.TheVariants.{Poll, Range, Look, Take, Drain}
use Rattle.collector_phases.specs.Phases.{phase_number}
use Rattle.collector_records.specs.Records.{first_record, entered, poll_counted, draining, passed}
use Rattle.collector_answers.specs.Answers.{STS, EF, FF, sample_at}
use Rattle.collector_steps.specs.declared.Handed.{Handed}
use Rattle.collector_steps.specs.declared.Handed.TheVariants.{OneSample, LastSample}
use Rattle.collector_steps.specs.declared.Taken.{Taken}

-- what is handed over, with the polls of the current start
abbrev pub reports : Collector → Handed → Taken
reports d h = record { collector = d; polls = d.polls; handed = h }

-- the last of a drain: a gap is marked with it, with the polls of the start that ends, and a new start begins
abbrev pub closes : Collector → ℕ → Taken
closes c a = record { collector = first_record c.settings; polls = c.polls; handed = LastSample (sample_at c.next a) }

-- the answer of a poll
abbrev pub polled : Collector → ℕ → Collector
polled c a = if STS a then poll_counted c (phase_number Poll) else poll_counted c (phase_number Range)

-- of a look
abbrev pub looked : Collector → ℕ → Collector
looked c a = if EF a then c else if FF a then draining c else entered c (phase_number Take)

-- of a word read after a look
abbrev pub took : Collector → ℕ → Taken
took c a = reports (passed c (phase_number Look) c.left) (OneSample (sample_at c.next a))

-- of a word read in a drain
abbrev pub drained : Collector → ℕ → Taken
drained c a =
    if leb c.left 1 then closes c a
    else reports (passed c (phase_number Drain) (c.left - 1)) (OneSample (sample_at c.next a))
