-- Theorems that rest on theorems of specs/Counts.antt, and promise as those do. What specs/Counts.antt says of itself:
-- How a step counts polls, and what it leaves of settings and polls; the laws of specs/History.antt are made of these.
use Rattle.std.specs.Prelude.{ℕ, ◌+◌, ◌≡◌, refl, Bool, true, false, eqb, if◌then◌else◌}
use Rattle.std.proofs.Common.{ap}
use Rattle.collector_phases.specs.declared.Collector.{Collector}
use Rattle.collector_phases.specs.declared.Phase.{Phase}
use Rattle.collector_phases.specs.declared.Phase.TheVariants.{Stop, Poll, Range, Clear, Low, High, Go, Look, Take, Drain, Stuck, Unknown}
use Rattle.collector_answers.specs.declared.BusAnswer.{BusAnswer}
use Rattle.collector_answers.specs.Answers.{served}
use Rattle.collector_steps.specs.declared.Handed.{Handed}
use Rattle.collector_steps.specs.declared.Handed.TheVariants.{Refused}
use Rattle.collector_steps.specs.declared.Taken.{Taken}
use Rattle.collector_phases.specs.Phases.{phase_of, access_in}
use Rattle.collector_phases.specs.Fit.{FitIn}
use Rattle.collector.specs.Steps.{Step, Reply, stepped, stays}
use Rattle.collector.specs.Steps.{stopped, poll_no_byte, poll-free, poll-again, poll-last, ranged, cleared, lowered, raised, went}
use Rattle.collector.specs.Steps.{look_no_byte, look-empty, look-full, look-few, taken, take_nothing, drained, closed, drain_nothing, stands}
use Rattle.collector.specs.Counts.{counted_on, underway}

-- ---- one step
-- 9←02 and 9←03 begin no start
go-begins_none : (b : Bool) → eqb (if b then 2 else 3) 0 ≡ false
go-begins_none true = refl
go-begins_none false = refl

-- where the board served no access, the polls of the record are the count
stays-counts : (c : Collector) (p : Phase) (h : Handed) (n : ℕ) → FitIn p c → (underway p ≡ true → c.polls ≡ n)
    → c.polls ≡ counted_on (access_in p c.settings) false h n
stays-counts c Stop h n f k = f
stays-counts c Poll h n f k = k refl
stays-counts c Range h n f k = k refl
stays-counts c Clear h n f k = k refl
stays-counts c Low h n f k = k refl
stays-counts c High h n f k = k refl
stays-counts c Go h n f k = rw (go-begins_none (eqb c.settings.clock 0)) (k refl)
stays-counts c Look h n f k = k refl
stays-counts c Take h n f k = k refl
stays-counts c Drain h n f k = k refl
stays-counts c Stuck h n f k = k refl
stays-counts c Unknown h n f k = k refl

-- a step reports the polls counted on
step_counts : (c : Collector) (a : BusAnswer) (p : Phase) (r : Taken) (n : ℕ) → FitIn p c → (underway p ≡ true → c.polls ≡ n) → Step c a p r
    → r.polls ≡ counted_on (access_in p c.settings) true r.handed n
step_counts c a Stop r n f h stopped = f
step_counts c a Poll r n f h (poll_no_byte e) = h refl
step_counts c a Poll r n f h (poll-free e t) = ap (λ (k : ℕ). k + 1) (h refl)
step_counts c a Poll r n f h (poll-again e t l) = ap (λ (k : ℕ). k + 1) (h refl)
step_counts c a Poll r n f h (poll-last e t l) = ap (λ (k : ℕ). k + 1) (h refl)
step_counts c a Range r n f h ranged = h refl
step_counts c a Clear r n f h cleared = h refl
step_counts c a Low r n f h lowered = h refl
step_counts c a High r n f h raised = h refl
step_counts c a Go r n f h went = rw (go-begins_none (eqb c.settings.clock 0)) (h refl)
step_counts c a Look r n f h (look_no_byte e) = h refl
step_counts c a Look r n f h (look-empty e t) = h refl
step_counts c a Look r n f h (look-full e t l) = h refl
step_counts c a Look r n f h (look-few e t l) = h refl
step_counts c a Take r n f h (taken word i) = h refl
step_counts c a Take r n f h (take_nothing i) = h refl
step_counts c a Drain r n f h (drained word i e) = h refl
step_counts c a Drain r n f h (closed word i e) = h refl
step_counts c a Drain r n f h (drain_nothing i) = h refl
step_counts c a Stuck r n f h stands = h refl
step_counts c a Unknown r n f h _ = elim f [ ]

-- ---- whatever came: a step, or the record stays
module _ (c : Collector) (f : FitIn (phase_of c.phase) c) where
  pub reply-counts : (a : BusAnswer) (r : Taken) (n : ℕ) → (underway (phase_of c.phase) ≡ true → c.polls ≡ n) → Reply c a r
      → r.polls ≡ counted_on (access_in (phase_of c.phase) c.settings) (served a) r.handed n
  reply-counts a r n h (stepped _ _ t s) = rw t (step_counts c a (phase_of c.phase) r n f h s)
  reply-counts a r n h (stays m number) = stays-counts c (phase_of c.phase) (Refused number) n f h
