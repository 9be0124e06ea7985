-- How a step counts polls, and what it leaves of settings and polls; the laws of specs/History.antt are made of these.
use Rattle.std.specs.Prelude.{ℕ, ◌+◌, ◌≤◌, ◌<◌, ◌≡◌, refl, Bool, true, false, ◌&&◌, Result, Ok, Err, eqb, if◌then◌else◌}
use Rattle.std.proofs.Common.{arith}
use Rattle.base.specs.declared.Refusal.{Refusal}
use Rattle.collector_phases.specs.declared.Collector.{Collector}
use Rattle.samples.specs.declared.Sample.{Sample}
use Rattle.collector_phases.specs.declared.Phase.{Phase}
use Rattle.collector_phases.specs.declared.Phase.TheVariants.{Stop, Poll, Range, Clear, Low, High, Go, Look, Take, Drain, Stuck, Unknown}
use Rattle.collector_phases.specs.declared.Access.{Access}
use Rattle.collector_phases.specs.declared.Access.TheVariants.{WriteByte, ReadByte, ReadWord}
use Rattle.collector_answers.specs.declared.BusAnswer.{BusAnswer}
use Rattle.collector_steps.specs.declared.Handed.{Handed}
use Rattle.collector_steps.specs.declared.Handed.TheVariants.{Nothing, StartEnd, OneSample, LastSample, Refused}
use Rattle.collector_steps.specs.declared.Taken.{Taken}
use Rattle.collector_phases.specs.Phases.{phase_of, reads}
use Rattle.collector_phases.specs.Fit.{FitIn}
use Rattle.collector_records.specs.Records.{first_record}
use Rattle.collector.specs.Steps.{Step, Reply, stepped, stays}
use Rattle.collector.specs.Steps.{stopped, poll_no_byte, poll-free, poll-again, poll-last, ranged, cleared, lowered, raised, went}
use Rattle.collector.specs.Steps.{look_no_byte, look-empty, look-full, look-few, taken, take_nothing, drained, closed, drain_nothing, stands}

-- ---- the reads of offset 8 in a history
-- 9←0, with which a start begins
abbrev pub begins_start : Result Access Refusal → Bool
begins_start (Ok (WriteByte o v)) = eqb o 9 && eqb v 0
begins_start (Ok (ReadByte o)) = false
begins_start (Ok (ReadWord o)) = false
begins_start (Err e) = false

-- the answer was taken: a refused one is not, save that of the last poll (15)
abbrev pub answer_taken : Handed → Bool
answer_taken Nothing = true
answer_taken StartEnd = true
answer_taken (OneSample y) = true
answer_taken (LastSample y) = true
answer_taken (Refused n) = eqb n 15

-- the reads of offset 8 whose answers were taken, counting on from n and anew at each start: the board served the read, and the collector took the answer
abbrev pub counted_on : Result Access Refusal → Bool → Handed → ℕ → ℕ
counted_on x is_served h n =
    if begins_start x then 0
    else if reads 8 x && (is_served && answer_taken h) then n + 1
    else n

-- ---- one step
-- a start is under way: its 9←0 has been made
abbrev pub underway : Phase → Bool
underway Stop = false
underway Poll = true
underway Range = true
underway Clear = true
underway Low = true
underway High = true
underway Go = true
underway Look = true
underway Take = true
underway Drain = true
underway Stuck = true
underway Unknown = true

-- no step changes the settings; and the record holds the polls reported, but after a gap, where it stands before its 9←0
step-holds : (c : Collector) (a : BusAnswer) (p : Phase) (r : Taken) → Step c a p r
    → (r.collector.settings ≡ c.settings) × (underway (phase_of r.collector.phase) ≡ true → r.collector.polls ≡ r.polls)
unfolding phase_of
step-holds c a Stop r stopped = (refl, λ u. refl)
step-holds c a Poll r (poll_no_byte e) = (refl, λ u. refl)
step-holds c a Poll r (poll-free e t) = (refl, λ u. refl)
step-holds c a Poll r (poll-again e t l) = (refl, λ u. refl)
step-holds c a Poll r (poll-last e t l) = (refl, λ u. refl)
step-holds c a Range r ranged = (refl, λ u. refl)
step-holds c a Clear r cleared = (refl, λ u. refl)
step-holds c a Low r lowered = (refl, λ u. refl)
step-holds c a High r raised = (refl, λ u. refl)
step-holds c a Go r went = (refl, λ u. refl)
step-holds c a Look r (look_no_byte e) = (refl, λ u. refl)
step-holds c a Look r (look-empty e t) = (refl, λ u. refl)
step-holds c a Look r (look-full e t l) = (refl, λ u. refl)
step-holds c a Look r (look-few e t l) = (refl, λ u. refl)
step-holds c a Take r (taken word i) = (refl, λ u. refl)
step-holds c a Take r (take_nothing i) = (refl, λ u. refl)
step-holds c a Drain r (drained word i e) = (refl, λ u. refl)
step-holds c a Drain r (closed word i e) = (refl, λ u. absurd (let z : ◌≡◌ {A = ℕ} 0 1 = cc in omega arith))
step-holds c a Drain r (drain_nothing i) = (refl, λ u. refl)
step-holds c a Stuck r stands = (refl, λ u. refl)
step-holds c a Unknown r s = elim s [ ]

-- a step that marks a gap leads to the first record of a start
gap-begins : (c : Collector) (a : BusAnswer) (p : Phase) (r : Taken) (y : Sample) → Step c a p r → r.handed ≡ LastSample y
    → r.collector ≡ first_record c.settings
gap-begins c a Stop r y stopped g = absurd (let z : ◌≡◌ {A = ℕ} 0 1 = cc in omega arith)
gap-begins c a Poll r y (poll_no_byte e) g = absurd (let z : ◌≡◌ {A = ℕ} 0 1 = cc in omega arith)
gap-begins c a Poll r y (poll-free e t) g = absurd (let z : ◌≡◌ {A = ℕ} 0 1 = cc in omega arith)
gap-begins c a Poll r y (poll-again e t l) g = absurd (let z : ◌≡◌ {A = ℕ} 0 1 = cc in omega arith)
gap-begins c a Poll r y (poll-last e t l) g = absurd (let z : ◌≡◌ {A = ℕ} 0 1 = cc in omega arith)
gap-begins c a Range r y ranged g = absurd (let z : ◌≡◌ {A = ℕ} 0 1 = cc in omega arith)
gap-begins c a Clear r y cleared g = absurd (let z : ◌≡◌ {A = ℕ} 0 1 = cc in omega arith)
gap-begins c a Low r y lowered g = absurd (let z : ◌≡◌ {A = ℕ} 0 1 = cc in omega arith)
gap-begins c a High r y raised g = absurd (let z : ◌≡◌ {A = ℕ} 0 1 = cc in omega arith)
gap-begins c a Go r y went g = absurd (let z : ◌≡◌ {A = ℕ} 0 1 = cc in omega arith)
gap-begins c a Look r y (look_no_byte e) g = absurd (let z : ◌≡◌ {A = ℕ} 0 1 = cc in omega arith)
gap-begins c a Look r y (look-empty e t) g = absurd (let z : ◌≡◌ {A = ℕ} 0 1 = cc in omega arith)
gap-begins c a Look r y (look-full e t l) g = absurd (let z : ◌≡◌ {A = ℕ} 0 1 = cc in omega arith)
gap-begins c a Look r y (look-few e t l) g = absurd (let z : ◌≡◌ {A = ℕ} 0 1 = cc in omega arith)
gap-begins c a Take r y (taken word i) g = absurd (let z : ◌≡◌ {A = ℕ} 0 1 = cc in omega arith)
gap-begins c a Take r y (take_nothing i) g = absurd (let z : ◌≡◌ {A = ℕ} 0 1 = cc in omega arith)
gap-begins c a Drain r y (drained word i e) g = absurd (let z : ◌≡◌ {A = ℕ} 0 1 = cc in omega arith)
gap-begins c a Drain r y (closed word i e) g = refl
gap-begins c a Drain r y (drain_nothing i) g = absurd (let z : ◌≡◌ {A = ℕ} 0 1 = cc in omega arith)
gap-begins c a Stuck r y stands g = absurd (let z : ◌≡◌ {A = ℕ} 0 1 = cc in omega arith)
gap-begins c a Unknown r y s g = elim s [ ]

-- a step reports at most as many polls as the limit allows
step-within : (c : Collector) (a : BusAnswer) (p : Phase) (r : Taken) → FitIn p c → c.polls ≤ c.settings.limit → Step c a p r
    → r.polls ≤ c.settings.limit
step-within c a Stop r f w stopped = w
step-within c a Poll r f w (poll_no_byte e) = w
step-within c a Poll r f w (poll-free e t) = (let g : c.polls < c.settings.limit = f in omega arith)
step-within c a Poll r f w (poll-again e t l) = (let g : c.polls < c.settings.limit = f in omega arith)
step-within c a Poll r f w (poll-last e t l) = (let g : c.polls < c.settings.limit = f in omega arith)
step-within c a Range r f w ranged = w
step-within c a Clear r f w cleared = w
step-within c a Low r f w lowered = w
step-within c a High r f w raised = w
step-within c a Go r f w went = w
step-within c a Look r f w (look_no_byte e) = w
step-within c a Look r f w (look-empty e t) = w
step-within c a Look r f w (look-full e t l) = w
step-within c a Look r f w (look-few e t l) = w
step-within c a Take r f w (taken word i) = w
step-within c a Take r f w (take_nothing i) = w
step-within c a Drain r f w (drained word i e) = w
step-within c a Drain r f w (closed word i e) = w
step-within c a Drain r f w (drain_nothing i) = w
step-within c a Stuck r f w stands = w
step-within c a Unknown r f w _ = elim f [ ]

-- ---- whatever came: a step, or the record stays
module _ (c : Collector) (f : FitIn (phase_of c.phase) c) where
  pub reply-holds : (a : BusAnswer) (r : Taken) → Reply c a r
      → (r.collector.settings ≡ c.settings) × (underway (phase_of r.collector.phase) ≡ true → r.collector.polls ≡ r.polls)
  reply-holds a r (stepped _ _ t s) = step-holds c a (phase_of c.phase) r s
  reply-holds a r (stays m number) = (refl, λ u. refl)

  pub reply-begins : (a : BusAnswer) (r : Taken) (y : Sample) → Reply c a r → r.handed ≡ LastSample y → r.collector ≡ first_record c.settings
  reply-begins a r y (stepped _ _ t s) g = gap-begins c a (phase_of c.phase) r y s g
  reply-begins a r y (stays m number) g = absurd (let z : ◌≡◌ {A = ℕ} 0 1 = cc in omega arith)

  pub reply-within : (a : BusAnswer) (r : Taken) → c.polls ≤ c.settings.limit → Reply c a r → r.polls ≤ c.settings.limit
  reply-within a r w (stepped _ _ t s) = step-within c a (phase_of c.phase) r f w s
  reply-within a r w (stays m number) = w
