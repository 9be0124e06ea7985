-- What the collector does with what came of its access (the specification, "The collector", and refusals 1, 15 and 17; request M-100: "The
-- collector can now be told "nothing" in a take or a drain .. If it is told so all the same, it keeps its record", refusal 20).
use Rattle.std.specs.Prelude.{ℕ, ◌&&◌, Result, eqb, if◌then◌else◌}
use Rattle.base.specs.Checks.{refusal}
use Rattle.base.specs.declared.Refusal.{Refusal}
use Rattle.collector_phases.specs.declared.Collector.{Collector}
use Rattle.collector_phases.specs.declared.Phase.{Phase}
use Rattle.collector_phases.specs.declared.Phase.TheVariants.{Stop, Poll, Range, Clear, Low, High, Go, Look, Take, Drain, Stuck, Unknown}
use Rattle.collector_phases.specs.declared.Access.{Access}
use Rattle.collector_answers.specs.declared.BusAnswer.{BusAnswer}
use Rattle.collector_answers.specs.declared.BusAnswer.TheVariants as bus
use Rattle.collector_phases.specs.Phases.{phase_number, phase_of, access_in, reads}
use Rattle.collector_records.specs.Records.{entered, poll_counted}
use Rattle.collector_refusals.specs.Refusals.{answer_checks}
use Rattle.collector_steps.specs.declared.Handed.TheVariants.{Nothing, StartEnd, Refused}
use Rattle.collector_steps.specs.declared.Taken.{Taken}
use Rattle.collector_steps.specs.Reads.{reports, polled, looked, took, drained}

-- after a write, whose answer isn't looked at; the other phases make none
abbrev pub after_write : Phase → Collector → Taken
after_write Stop c = reports (entered c (phase_number Poll)) Nothing
after_write Poll c = reports c Nothing
after_write Range c = reports (entered c (phase_number Clear)) Nothing
after_write Clear c = reports (entered c (phase_number Low)) Nothing
after_write Low c = reports (entered c (phase_number High)) Nothing
after_write High c = reports (entered c (phase_number Go)) Nothing
after_write Go c = reports (entered c (phase_number Look)) StartEnd
after_write Look c = reports c Nothing
after_write Take c = reports c Nothing
after_write Drain c = reports c Nothing
after_write Stuck c = reports c Nothing
after_write Unknown c = reports c Nothing

-- a number came: of a poll, STS; of a look, the flags; of a word read, the sample
abbrev pub after_number : Phase → Collector → ℕ → Taken
after_number Stop c a = after_write Stop c
after_number Poll c a = reports (polled c a) Nothing
after_number Range c a = after_write Range c
after_number Clear c a = after_write Clear c
after_number Low c a = after_write Low c
after_number High c a = after_write High c
after_number Go c a = after_write Go c
after_number Look c a = reports (looked c a) Nothing
after_number Take c a = took c a
after_number Drain c a = drained c a
after_number Stuck c a = after_write Stuck c
after_number Unknown c a = after_write Unknown c

-- what came is not refused by a check of the collector: nothing, then, came of a write. Where the board refused the access, the record stays, nothing is
-- handed over, and the number is the board's; it is not looked at whether the access was a read or a write.
abbrev pub answered : Phase → Collector → BusAnswer → Taken
answered p c (bus.Number a) = after_number p c a
answered p c bus.Nothing = after_write p c
answered p c (bus.Refused n) = reports c (Refused n)

-- what stays after a refusal: at the last poll the collector is stuck, and that poll counts; else it is unchanged
abbrev pub staying : ℕ → Result Access Refusal → Collector → Collector
staying n x c = if eqb n 15 && reads 8 x then poll_counted c (phase_number Stuck) else c

abbrev pub decided : ℕ → Phase → Collector → BusAnswer → Taken
decided n p c a =
    if eqb n 0 then answered p c a
    else reports (staying n (access_in p c.settings) c) (Refused n)

abbrev pub replied_in : Phase → Collector → BusAnswer → Taken
replied_in p c a = decided (refusal (answer_checks (access_in p c.settings) c a)) p c a

-- whatever came of the access. A record that names none can't have had one refused: 1 and 15 come first, as with any answer
unfoldable pub replied : Collector → BusAnswer → Taken
replied c a = replied_in (phase_of c.phase) c a
