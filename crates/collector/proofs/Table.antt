-- Theorems that rest on theorems of specs/Table.antt, and promise as those do. What specs/Table.antt says of itself:
-- The next access, as a table (the specification, "The collector": "Start: 9←0; read 8 until STS=0, each poll counted; 11←range code; 7←02;
-- 2←low; 3←high; 9←02, or 03 for the internal clock. .. Then look: read 7. EF: look again. Not full: one word read .. FF or OVF: 512 word
-- reads handed over, a gap marked with the last, start again"; of a look, request M-108: "goes by EF first, FF next, and reads nothing else"; of a
-- word read, request M-100: told "nothing", "it keeps its record"). It covers every phase of a fit collector and whatever came of its access, so of
-- a look each of the 256 bytes; and none handles its first look and idles afterwards.
use Rattle.std.specs.Prelude.{◌≡◌, refl, true}
use Rattle.std.proofs.Common.{◌∙◌}
use Rattle.collector_phases.specs.declared.Collector.{Collector}
use Rattle.collector_phases.specs.declared.Phase.{Phase}
use Rattle.collector_phases.specs.declared.Phase.TheVariants.{Stop, Poll, Range, Clear, Low, High, Go, Look, Take, Drain, Stuck, Unknown}
use Rattle.collector_steps.specs.declared.Taken.{Taken}
use Rattle.collector_phases.specs.Phases.{phase_of, access_in}
use Rattle.collector_answers.specs.declared.BusAnswer.{BusAnswer}
use Rattle.collector_answers.specs.Answers.{served}
use Rattle.collector_phases.specs.Fit.{FitCollector}
use Rattle.collector_phases.specs.Accesses.{access_of}
use Rattle.collector_replies.specs.Reply.{replied}
use Rattle.collector.specs.Steps.{Step, step, access-fit}
use Rattle.collector.specs.Steps.{stopped, poll_no_byte, poll-free, poll-again, poll-last, ranged, cleared, lowered, raised, went}
use Rattle.collector.specs.Steps.{look_no_byte, look-empty, look-full, look-few, taken, take_nothing, drained, closed, drain_nothing, stands}
use Rattle.collector.specs.Kept.{replied-fit}
use Rattle.collector.specs.Table.{given, kind_in, table}

in_table : (c : Collector) (a : BusAnswer) (p : Phase) (r : Taken) → phase_of c.phase ≡ p → Step c a p r
    → access_in (phase_of r.collector.phase) r.collector.settings ≡ given (table c.settings) p (kind_in p c a)
unfolding phase_of
in_table c a Stop r q stopped = refl
in_table c a Poll r q (poll_no_byte e) = rw (e, q)
in_table c a Poll r q (poll-free e t) = rw (e, t)
in_table c a Poll r q (poll-again e t l) = rw (e, t, l)
in_table c a Poll r q (poll-last e t l) = rw (e, t, l)
in_table c a Range r q ranged = refl
in_table c a Clear r q cleared = refl
in_table c a Low r q lowered = refl
in_table c a High r q raised = refl
in_table c a Go r q went = refl
in_table c a Look r q (look_no_byte e) = rw (e, q)
in_table c a Look r q (look-empty e t) = rw (e, t, q)
in_table c a Look r q (look-full e t l) = rw (e, t, l)
in_table c a Look r q (look-few e t l) = rw (e, t, l)
in_table c a Take r q (taken word i) = rw i
in_table c a Take r q (take_nothing i) = rw (i, q)
in_table c a Drain r q (drained word i e) = rw (i, e)
in_table c a Drain r q (closed word i e) = rw (i, e)
in_table c a Drain r q (drain_nothing i) = rw (i, q)
in_table c a Stuck r q stands = rw q
in_table c a Unknown r q s = elim s [ ]

-- The theorem: whatever a fit collector's phase and whatever comes of an access that the board serves, its next access is the one that the table gives.
pub next-access : (c : Collector) (a : BusAnswer) → served a ≡ true → FitCollector c
    → access_of (replied c a).collector ≡ given (table c.settings) (phase_of c.phase) (kind_in (phase_of c.phase) c a)
next-access c a t w =
    access-fit (replied c a).collector (replied-fit c w a) ∙ in_table c a (phase_of c.phase) (replied c a) refl (step c a t w)
