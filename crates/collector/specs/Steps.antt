-- Every step of a fit collector, one by one: the phase, what came of its access, and the collector and what is handed over afterwards.
-- The laws of specs/Kept.antt, History.antt and Table.antt go through this list.
use Rattle.std.specs.Prelude.{ℕ, ◌-◌, ◌≡◌, refl, Bool, true, false, ◌∷◌, Err, leb}
use Rattle.std.proofs.Common.{ap}
use Rattle.base.specs.Checks.{◌refuses◌, refusal, refused_by}
use Rattle.base.specs.Laws.{never}
use Rattle.collector_phases.specs.declared.Collector.{Collector}
use Rattle.collector_phases.specs.declared.Phase.{Phase}
use Rattle.collector_phases.specs.declared.Phase.TheVariants.{Stop, Poll, Range, Clear, Low, High, Go, Look, Take, Drain, Stuck, Unknown}
use Rattle.collector_steps.specs.declared.Handed.TheVariants.{Nothing, StartEnd, OneSample, Refused}
use Rattle.collector_steps.specs.declared.Taken.{Taken}
use Rattle.collector_phases.specs.Phases.{phase_number, phase_of, access_in, is_none}
use Rattle.collector_answers.specs.declared.BusAnswer.{BusAnswer}
use Rattle.collector_answers.specs.declared.BusAnswer.TheVariants as bus
use Rattle.collector_answers.specs.Answers.{served, wide, no_byte, brings, STS, EF, FF, sample_at}
use Rattle.collector_phases.specs.Fit.{FitIn, FitCollector, fit}
use Rattle.collector_replies.specs.Joined.{fit-to}
use Rattle.collector_records.specs.Records.{entered, poll_counted, draining, passed}
use Rattle.collector_steps.specs.Reads.{reports, closes}
use Rattle.collector_replies.specs.Reply.{decided, replied}
use Rattle.collector_refusals.specs.Refusals.{last_poll, read_answer_checks}
use Rattle.collector_phases.specs.Accesses.{access_of}

-- the board served the access
pub data Step (c : Collector) (a : BusAnswer) : Phase → Taken → Type 0 where
  stopped : Step c a Stop (reports (entered c (phase_number Poll)) Nothing)
  poll_no_byte : no_byte a ≡ true → Step c a Poll (reports c (Refused 17))
  poll-free : no_byte a ≡ false → brings STS a ≡ false → Step c a Poll (reports (poll_counted c (phase_number Range)) Nothing)
  poll-again : no_byte a ≡ false → brings STS a ≡ true → last_poll c ≡ false → Step c a Poll (reports (poll_counted c (phase_number Poll)) Nothing)
  poll-last : no_byte a ≡ false → brings STS a ≡ true → last_poll c ≡ true → Step c a Poll (reports (poll_counted c (phase_number Stuck)) (Refused 15))
  ranged : Step c a Range (reports (entered c (phase_number Clear)) Nothing)
  cleared : Step c a Clear (reports (entered c (phase_number Low)) Nothing)
  lowered : Step c a Low (reports (entered c (phase_number High)) Nothing)
  raised : Step c a High (reports (entered c (phase_number Go)) Nothing)
  went : Step c a Go (reports (entered c (phase_number Look)) StartEnd)
  look_no_byte : no_byte a ≡ true → Step c a Look (reports c (Refused 17))
  look-empty : no_byte a ≡ false → brings EF a ≡ true → Step c a Look (reports c Nothing)
  look-full : no_byte a ≡ false → brings EF a ≡ false → brings FF a ≡ true → Step c a Look (reports (draining c) Nothing)
  look-few : no_byte a ≡ false → brings EF a ≡ false → brings FF a ≡ false → Step c a Look (reports (entered c (phase_number Take)) Nothing)
  taken : (word : ℕ) → a ≡ bus.Number word → Step c a Take (reports (passed c (phase_number Look) c.left) (OneSample (sample_at c.next word)))
  take_nothing : a ≡ bus.Nothing → Step c a Take (reports c (Refused 20))
  drained : (word : ℕ) → a ≡ bus.Number word → leb c.left 1 ≡ false
      → Step c a Drain (reports (passed c (phase_number Drain) (c.left - 1)) (OneSample (sample_at c.next word)))
  closed : (word : ℕ) → a ≡ bus.Number word → leb c.left 1 ≡ true → Step c a Drain (closes c word)
  drain_nothing : a ≡ bus.Nothing → Step c a Drain (reports c (Refused 20))
  stands : Step c a Stuck (reports c (Refused 15))

-- a word is one number
pub same_word : (a b : ℕ) → bus.Number a ≡ bus.Number b → a ≡ b
same_word a b e = ap word e
  where
    word : BusAnswer → ℕ
    word (bus.Number n) = n
    word bus.Nothing = 0
    word (bus.Refused n) = 0

-- the reply of a fit collector in phase p
abbrev pub fit_reply : Phase → Collector → BusAnswer → Taken
fit_reply p c a = decided (refusal (is_none (access_in p c.settings) refuses 15 ∷ read_answer_checks (access_in p c.settings) c a)) p c a

-- ---- a number came
module _ (c : Collector) (a : ℕ) where
  abbrev number : BusAnswer
  number = bus.Number a

  poll-step : (w t l : Bool) → wide a ≡ w → STS a ≡ t → last_poll c ≡ l → Step c number Poll (fit_reply Poll c number)
  poll-step true t l e f g = rw e (poll_no_byte e)
  poll-step false true true e f g = rw (e, f, g) (poll-last e f g)
  poll-step false true false e f g = rw (e, f, g) (poll-again e f g)
  poll-step false false l e f g = rw (e, f) (poll-free e f)

  look-step : (w t l : Bool) → wide a ≡ w → EF a ≡ t → FF a ≡ l → Step c number Look (fit_reply Look c number)
  look-step true t l e f g = rw e (look_no_byte e)
  look-step false true l e f g = rw (e, f) (look-empty e f)
  look-step false false true e f g = rw (e, f, g) (look-full e f g)
  look-step false false false e f g = rw (e, f, g) (look-few e f g)

  drain_step : (l : Bool) → leb c.left 1 ≡ l → Step c number Drain (fit_reply Drain c number)
  drain_step true e = rw e (closed a refl e)
  drain_step false e = rw e (drained a refl e)

  number_step : (p : Phase) → FitIn p c → Step c number p (fit_reply p c number)
  number_step Stop w = stopped
  number_step Poll w = poll-step (wide a) (STS a) (last_poll c) refl refl refl
  number_step Range w = ranged
  number_step Clear w = cleared
  number_step Low w = lowered
  number_step High w = raised
  number_step Go w = went
  number_step Look w = look-step (wide a) (EF a) (FF a) refl refl refl
  number_step Take w = taken a refl
  number_step Drain w = drain_step (leb c.left 1) refl
  number_step Stuck w = stands
  number_step Unknown w = absurd w

-- ---- nothing came
nothing-step : (c : Collector) (p : Phase) → FitIn p c → Step c bus.Nothing p (fit_reply p c bus.Nothing)
nothing-step c Stop w = stopped
nothing-step c Poll w = poll_no_byte refl
nothing-step c Range w = ranged
nothing-step c Clear w = cleared
nothing-step c Low w = lowered
nothing-step c High w = raised
nothing-step c Go w = went
nothing-step c Look w = look_no_byte refl
nothing-step c Take w = take_nothing refl
nothing-step c Drain w = drain_nothing refl
nothing-step c Stuck w = stands
nothing-step c Unknown w = absurd w

-- ---- the board refused the access: the record stays, and a number comes back, the board's, or 15 once stuck
pub data Reply (c : Collector) : BusAnswer → Taken → Type 0 where
  stepped : (a : BusAnswer) (r : Taken) → served a ≡ true → Step c a (phase_of c.phase) r → Reply c a r
  stays : (n number : ℕ) → Reply c (bus.Refused n) (reports c (Refused number))

refused-reply : (c : Collector) (n : ℕ) (p : Phase) → FitIn p c → Reply c (bus.Refused n) (fit_reply p c (bus.Refused n))
refused-reply c n Stop w = stays n n
refused-reply c n Poll w = stays n n
refused-reply c n Range w = stays n n
refused-reply c n Clear w = stays n n
refused-reply c n Low w = stays n n
refused-reply c n High w = stays n n
refused-reply c n Go w = stays n n
refused-reply c n Look w = stays n n
refused-reply c n Take w = stays n n
refused-reply c n Drain w = stays n n
refused-reply c n Stuck w = stays n 15
refused-reply c n Unknown w = absurd w

-- the access of a fit collector is that of its phase, and its reply a step of the list
pub access-fit : (c : Collector) → FitCollector c → access_of c ≡ access_in (phase_of c.phase) c.settings
unfolding access_of
access-fit c w = rw (fit-to c w)

step_in : (c : Collector) (a : BusAnswer) (p : Phase) → served a ≡ true → FitIn p c → Step c a p (fit_reply p c a)
step_in c (bus.Number a) p s w = number_step c a p w
step_in c bus.Nothing p s w = nothing-step c p w
step_in c (bus.Refused n) p s w = never s

pub step : (c : Collector) (a : BusAnswer) → served a ≡ true → FitCollector c → Step c a (phase_of c.phase) (replied c a)
unfolding replied
step c a s w = rw (fit-to c w) (step_in c a (phase_of c.phase) s w.phase)

-- whatever came, the reply of a fit collector is a step of the list, or its record stays
pub reply : (c : Collector) (a : BusAnswer) → FitCollector c → Reply c a (replied c a)
unfolding replied
reply c (bus.Number a) w = stepped (bus.Number a) (replied c (bus.Number a)) refl (step c (bus.Number a) refl w)
reply c bus.Nothing w = stepped bus.Nothing (replied c bus.Nothing) refl (step c bus.Nothing refl w)
reply c (bus.Refused n) w = rw (fit-to c w) (refused-reply c n (phase_of c.phase) w.phase)

-- an unfit record stays, and answers 1
pub reply-unfit : (c : Collector) (a : BusAnswer) → fit c ≡ false → replied c a ≡ reports c (Refused 1)
unfolding replied
reply-unfit c a h = rw h

pub access-unfit : (c : Collector) → fit c ≡ false → access_of c ≡ Err (refused_by 1)
unfolding access_of
access-unfit c h = rw h
