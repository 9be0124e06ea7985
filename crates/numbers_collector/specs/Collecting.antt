-- The collector's answers in records of numbers. The specification, "The collector"; what a kind does not have is 0.
use Rattle.std.specs.Prelude.{ℕ, Result, Ok, Err, eqb, pos, if◌then◌else◌}
use Rattle.base.specs.declared.Refusal.{Refusal}
use Rattle.collector_phases.specs.declared.Collector.{Collector}
use Rattle.collector_answers.specs.declared.BusAnswer.{BusAnswer}
use Rattle.collector_answers.specs.declared.BusAnswer.TheVariants as bus
use Rattle.samples.specs.declared.Sample.{Sample}
use Rattle.collector_phases.specs.declared.Access.{Access}
use Rattle.collector_phases.specs.declared.Access.TheVariants.{WriteByte, ReadByte, ReadWord}
use Rattle.collector_steps.specs.declared.Handed.{Handed}
use Rattle.collector_steps.specs.declared.Handed.TheVariants.{Nothing, StartEnd, OneSample, LastSample, Refused}
use Rattle.collector_steps.specs.declared.Taken.{Taken}
use Rattle.collector.specs.Handed.{handed_refusal}
use Rattle.numbers_collector.specs.declared.StartAnswer.{StartAnswer}
use Rattle.numbers_collector.specs.declared.AccessNamed.{AccessNamed}
use Rattle.numbers_collector.specs.declared.BusNumbers.{BusNumbers}
use Rattle.numbers_collector.specs.declared.TakenAnswer.{TakenAnswer}

-- ---- a start
abbrev pub no_collector : Collector
no_collector = record {
  settings = record { low = 0; high = 0; jumpers = 0; range = 0; clock = 0; limit = 0 };
  phase = 0;
  next = 0;
  polls = 0;
  left = 0;
}

abbrev pub start_answer : Result Collector Refusal → StartAnswer
start_answer (Ok c) = record { collector = c; refusal = 0 }
start_answer (Err e) = record { collector = no_collector; refusal = e.number }

-- ---- the access that is named: 0 none, 1 byte write, 2 byte read, 3 word read
abbrev pub access_named : Result Access Refusal → AccessNamed
access_named (Ok (WriteByte offset value)) = record { kind = 1; offset = offset; value = value; refusal = 0 }
access_named (Ok (ReadByte offset)) = record { kind = 2; offset = offset; value = 0; refusal = 0 }
access_named (Ok (ReadWord offset)) = record { kind = 3; offset = offset; value = 0; refusal = 0 }
access_named (Err e) = record { kind = 0; offset = 0; value = 0; refusal = e.number }

-- ---- what came of it: of kind 0 the number that the bus brought; of kind 2 nothing; of any other, the refusal of the board
abbrev pub bus_answer : BusNumbers → BusAnswer
bus_answer n = if eqb n.kind 0 then bus.Number n.number else if eqb n.kind 2 then bus.Nothing else bus.Refused n.refusal

-- ---- what is handed over
abbrev pub kind_handed : Handed → ℕ
kind_handed Nothing = 0
kind_handed StartEnd = 1
kind_handed (OneSample s) = 2
kind_handed (LastSample s) = 3
kind_handed (Refused number) = 4

abbrev pub no_sample : Sample
no_sample = record { channel = 0; code = pos 0 }

abbrev pub sample_handed : Handed → Sample
sample_handed Nothing = no_sample
sample_handed StartEnd = no_sample
sample_handed (OneSample s) = s
sample_handed (LastSample s) = s
sample_handed (Refused number) = no_sample

abbrev pub taken_answer : Taken → TakenAnswer
taken_answer t = record {
  collector = t.collector;
  polls = t.polls;
  handed = kind_handed t.handed;
  refusal = handed_refusal t.handed;
  sample = sample_handed t.handed;
}
