-- Theorems that rest on theorems of specs/Numbers.antt, and promise as those do. What specs/Numbers.antt says of itself:
-- The collector's answers in the specification's numbers: of a start, of a question for the access and of an answer it is the number of the
-- first check that holds, 0 where none does. And a start ends with its last write.
use Rattle.std.specs.Prelude.{◌≡◌, refl, Bool, true, false, ◌&&◌, eqb}
use Rattle.std.proofs.Common.{sym}
use Rattle.collector_phases.specs.declared.Collector.{Collector}
use Rattle.collector_phases.specs.declared.Phase.{Phase}
use Rattle.collector_phases.specs.declared.Phase.TheVariants.{Stop, Poll, Range, Clear, Low, High, Go, Look, Take, Drain, Stuck, Unknown}
use Rattle.collector_phases.specs.Phases.{phase_of, access_in}
use Rattle.collector_phases.specs.Fit.{fit}
use Rattle.collector_phases.specs.Accesses.{access_of}
use Rattle.collector_answers.specs.declared.BusAnswer.{BusAnswer}
use Rattle.collector_answers.specs.Answers.{served}
use Rattle.collector_steps.specs.declared.Taken.{Taken}
use Rattle.collector_replies.specs.Joined.{fit_of}
use Rattle.collector_replies.specs.Reply.{replied}
use Rattle.collector.specs.Handed.{start_ends, is_go, is-go}
use Rattle.collector.specs.Steps.{Step, Reply, stepped, stays, reply, access-fit, reply-unfit, access-unfit}
use Rattle.collector.specs.Steps.{stopped, poll_no_byte, poll-free, poll-again, poll-last, ranged, cleared, lowered, raised, went}
use Rattle.collector.specs.Steps.{look_no_byte, look-empty, look-full, look-few, taken, take_nothing, drained, closed, drain_nothing, stands}

-- ---- the end of a start: "a start ends with its last write, 9←02 or 03"
step-ends : (c : Collector) (a : BusAnswer) (p : Phase) (r : Taken) → Step c a p r → start_ends r.handed ≡ is_go (access_in p c.settings)
step-ends c a Stop r stopped = refl
step-ends c a Poll r (poll_no_byte e) = refl
step-ends c a Poll r (poll-free e t) = refl
step-ends c a Poll r (poll-again e t l) = refl
step-ends c a Poll r (poll-last e t l) = refl
step-ends c a Range r ranged = refl
step-ends c a Clear r cleared = refl
step-ends c a Low r lowered = refl
step-ends c a High r raised = refl
step-ends c a Go r went = sym (is-go (eqb c.settings.clock 0))
step-ends c a Look r (look_no_byte e) = refl
step-ends c a Look r (look-empty e t) = refl
step-ends c a Look r (look-full e t l) = refl
step-ends c a Look r (look-few e t l) = refl
step-ends c a Take r (taken word n) = refl
step-ends c a Take r (take_nothing n) = refl
step-ends c a Drain r (drained word n e) = refl
step-ends c a Drain r (closed word n e) = refl
step-ends c a Drain r (drain_nothing n) = refl
step-ends c a Stuck r stands = refl
step-ends c a Unknown r s = elim s [ ]

-- the board took it
pub start-ends : (c : Collector) (a : BusAnswer) → start_ends (replied c a).handed ≡ (served a && is_go (access_of c))
start-ends c a = by (fit c) refl
  where
    in_reply : (a : BusAnswer) (r : Taken) → Reply c a r → start_ends r.handed ≡ (served a && is_go (access_in (phase_of c.phase) c.settings))
    in_reply a r (stepped _ _ t s) = rw t (step-ends c a (phase_of c.phase) r s)
    in_reply a r (stays n number) = refl

    none-ends : (t : Bool) → false ≡ (t && false)
    none-ends true = refl
    none-ends false = refl

    by : (t : Bool) → fit c ≡ t → start_ends (replied c a).handed ≡ (served a && is_go (access_of c))
    by true h = rw (access-fit c (fit_of c h)) (in_reply a (replied c a) (reply c a (fit_of c h)))
    by false h = rw (reply-unfit c a h, access-unfit c h) (none-ends (served a))
