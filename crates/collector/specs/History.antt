-- The polls and the history (the specification, "The collector": "The polls reported equal the reads of offset 8 made since this start
-- whose answers were taken. A restart counts anew"; "How firm the contracts are": "It shuts out an invented poll count, since that equals
-- reads in the history").
use Rattle.std.specs.Prelude.{ℕ, ◌≤◌, ◌≡◌, Ok, Result}
use Rattle.std.proofs.Math.Path.{refl, sym, ap}
use Rattle.std.proofs.Common.{◌∙◌, subst}
use Rattle.base.specs.declared.Refusal.{Refusal}
use Rattle.collector_settings.specs.declared.Settings.{Settings}
use Rattle.collector_phases.specs.declared.Collector.{Collector}
use Rattle.samples.specs.declared.Sample.{Sample}
use Rattle.collector_phases.specs.declared.Access.{Access}
use Rattle.collector_answers.specs.declared.BusAnswer.{BusAnswer}
use Rattle.collector_answers.specs.Answers.{served}
use Rattle.collector_steps.specs.declared.Handed.TheVariants.{LastSample}
use Rattle.collector_steps.specs.declared.Taken.{Taken}
use Rattle.collector_phases.specs.Fit.{FitSettings, FitCollector}
use Rattle.collector_records.specs.Records.{first_record, start_of}
use Rattle.collector_phases.specs.Accesses.{access_of}
use Rattle.collector_replies.specs.Reply.{replied}
use Rattle.collector.specs.Steps.{reply}
use Rattle.collector.specs.Kept.{begun-fit, started-begun, replied-fit}
use Rattle.collector.specs.Counts.{counted_on, reply-holds, reply-within, reply-begins}

-- ---- the history
-- what was brought to a collector, in order: numbers, nothing, and refusals of the board
infixl 40 ◌▸◌
pub data Brought : Type 0 where
  begin : Brought
  ◌▸◌ : Brought → BusAnswer → Brought

-- the collector after them
unfoldable pub after_answers : Collector → Brought → Collector
after_answers c begin = c
after_answers c (r ▸ a) = (replied (after_answers c r) a).collector

-- an access made, what it brought, and what became of that
pub record Exchange : Type 0 where
  pub access : Result Access Refusal
  pub answer : BusAnswer
  pub taken : Taken

infixl 40 ◌and◌
pub data History : Type 0 where
  none : History
  ◌and◌ : History → Exchange → History

-- the next exchange of a collector
abbrev pub exchange : Collector → BusAnswer → Exchange
exchange c a = record { access = access_of c; answer = a; taken = replied c a }

unfoldable pub history_of : Collector → Brought → History
history_of c begin = none
history_of c (r ▸ a) = history_of c r and exchange (after_answers c r) a

-- "the reads of offset 8 made since this start whose answers were taken"
unfoldable pub polls_since : History → ℕ
polls_since none = 0
polls_since (h and e) = counted_on e.access (served e.answer) e.taken.handed (polls_since h)

-- ---- the theorems
-- of a start with fit settings, after any run
module _ (s : Settings) (f : FitSettings s) where
  pub fit-after : (r : Brought) → FitCollector (after_answers (first_record s) r)
  unfolding after_answers
  fit-after begin = begun-fit s f
  fit-after (r ▸ a) = replied-fit (after_answers (first_record s) r) (fit-after r) a

  settings-after : (r : Brought) → (after_answers (first_record s) r).settings ≡ s
  unfolding after_answers
  settings-after begin = refl
  settings-after (r ▸ a) =
      let w = fit-after r in (reply-holds (after_answers (first_record s) r) w.phase a _ (reply (after_answers (first_record s) r) a w)).0 ∙ settings-after r

-- a run, and another one after it
infixl 30 ◌then◌
unfoldable pub ◌then◌ : Brought → Brought → Brought
r then begin = r
r then (q ▸ a) = (r then q) ▸ a

-- A collector that a start gave, after any run of answers
module _ (s : Settings) (c : Collector) (h : start_of s ≡ Ok c) where
  -- it is fit, with the settings of its start
  pub always_fit : (r : Brought) → FitCollector (after_answers c r)
  always_fit r = let e = started-begun s c h in rw e.0 (fit-after s e.1 r)

  pub same-settings : (r : Brought) → (after_answers c r).settings ≡ s
  same-settings r = let e = started-begun s c h in rw e.0 (settings-after s e.1 r)

  -- they are at most the limit
  pub polls-within : (r : Brought) (a : BusAnswer) → (replied (after_answers c r) a).polls ≤ s.limit
  polls-within r a =
      let d = after_answers c r in
      let w = always_fit r in
      subst (λ (t : Settings). (replied d a).polls ≤ t.limit) (same-settings r)
      (reply-within d w.phase a (replied d a) w.polls (reply d a w))

  -- a restart counts anew: after a gap the collector is as at its start, and its polls are the reads from there on
  pub gap_restarts : (r : Brought) (a : BusAnswer) (y : Sample) → (replied (after_answers c r) a).handed ≡ LastSample y → after_answers c (r ▸ a) ≡ c
  unfolding after_answers
  gap_restarts r a y g =
      let d = after_answers c r in
      let w = always_fit r in
      reply-begins d w.phase a (replied d a) y (reply d a w) g
      ∙ ap (λ (t : Settings). first_record t) (same-settings r) ∙ sym (started-begun s c h).0
