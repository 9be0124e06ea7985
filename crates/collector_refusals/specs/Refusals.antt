-- Which answers are refused (the specification, "Collector answers: 1, 15 once stuck, 17, 15 at the last poll"; request M-108: "16 goes;
-- the rest keep their order"; request M-100: "20, nothing where a sample is due, after 17 in the collector's order").
use Rattle.std.specs.Prelude.{◌+◌, Bool, not, ◌&&◌, Result, List, [], ◌∷◌, leb}
use Rattle.base.specs.Checks.{Check, ◌refuses◌}
use Rattle.base.specs.declared.Refusal.{Refusal}
use Rattle.collector_phases.specs.declared.Collector.{Collector}
use Rattle.collector_phases.specs.declared.Access.{Access}
use Rattle.collector_phases.specs.Phases.{is_byte_read, is_word_read, reads, is_none}
use Rattle.collector_phases.specs.Fit.{fit}
use Rattle.collector_answers.specs.declared.BusAnswer.{BusAnswer}
use Rattle.collector_answers.specs.Answers.{is_nothing, no_byte, brings, STS}

-- this poll is the last that the limit allows
abbrev pub last_poll : Collector → Bool
last_poll c = leb c.settings.limit (c.polls + 1)

-- nothing where a byte is due is no byte: 17
abbrev pub read_answer_checks : Result Access Refusal → Collector → BusAnswer → List Check
read_answer_checks x c a =
    (is_byte_read x && no_byte a) refuses 17
    ∷ (is_word_read x && is_nothing a) refuses 20
    ∷ (reads 8 x && brings STS a && last_poll c) refuses 15
    ∷ []

abbrev pub answer_checks : Result Access Refusal → Collector → BusAnswer → List Check
answer_checks x c a = not (fit c) refuses 1 ∷ is_none x refuses 15 ∷ read_answer_checks x c a
