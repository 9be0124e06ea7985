-- Theorems that rest on theorems of specs/History.antt, and promise as those do. What specs/History.antt says of itself:
-- The polls and the history (the specification, "The collector": "The polls reported equal the reads of offset 8 made since this start
-- whose answers were taken. A restart counts anew"; "How firm the contracts are": "It shuts out an invented poll count, since that equals
-- reads in the history").
use Rattle.std.specs.Prelude.{◌≡◌, true, Ok}
use Rattle.std.proofs.Math.Path.{refl, ap}
use Rattle.std.proofs.Common.{◌∙◌}
use Rattle.collector_settings.specs.declared.Settings.{Settings}
use Rattle.collector_phases.specs.declared.Collector.{Collector}
use Rattle.samples.specs.declared.Sample.{Sample}
use Rattle.collector_answers.specs.declared.BusAnswer.{BusAnswer}
use Rattle.collector_steps.specs.declared.Handed.TheVariants.{LastSample}
use Rattle.collector_phases.specs.Phases.{phase_of}
use Rattle.collector_phases.specs.Fit.{FitSettings}
use Rattle.collector_records.specs.Records.{first_record, start_of}
use Rattle.collector_replies.specs.Reply.{replied}
use Rattle.collector.specs.Steps.{reply, access-fit}
use Rattle.collector.specs.Kept.{started-begun}
use Rattle.collector.specs.Counts.{underway, reply-holds}
use Rattle.collector.proofs.Counts.{reply-counts}
use Rattle.collector.specs.History.{Brought, after_answers, begin, fit-after, gap_restarts, history_of, polls_since, ◌then◌, ◌▸◌}

-- ---- the theorems
-- of a start with fit settings, after any run
module _ (s : Settings) (f : FitSettings s) where
  reported : (r : Brought) (a : BusAnswer)
      → (underway (phase_of (after_answers (first_record s) r).phase) ≡ true
      → (after_answers (first_record s) r).polls ≡ polls_since (history_of (first_record s) r))
      → (replied (after_answers (first_record s) r) a).polls ≡ polls_since (history_of (first_record s) (r ▸ a))
  unfolding polls_since history_of
  reported r a h =
      let c = after_answers (first_record s) r in
      let w = fit-after s f r in
      rw (access-fit c w) (reply-counts c w.phase a (replied c a) (polls_since (history_of (first_record s) r)) h (reply c a w))

  held : (r : Brought) → underway (phase_of (after_answers (first_record s) r).phase) ≡ true
      → (after_answers (first_record s) r).polls ≡ polls_since (history_of (first_record s) r)
  unfolding after_answers polls_since history_of
  held begin u = refl
  held (r ▸ a) u =
      let w = fit-after s f r in
      (reply-holds (after_answers (first_record s) r) w.phase a _ (reply (after_answers (first_record s) r) a w)).1 u ∙ reported r a (held r)

after_then : (c : Collector) (r q : Brought) → after_answers c (r then q) ≡ after_answers (after_answers c r) q
unfolding after_answers ◌then◌
after_then c r begin = refl
after_then c r (q ▸ a) = ap (λ (d : Collector). (replied d a).collector) (after_then c r q)

-- A collector that a start gave, after any run of answers
module _ (s : Settings) (c : Collector) (h : start_of s ≡ Ok c) where
  -- the polls reported are the reads of offset 8 made since this start whose answers were taken
  pub polls_are_reads : (r : Brought) (a : BusAnswer) → (replied (after_answers c r) a).polls ≡ polls_since (history_of c (r ▸ a))
  polls_are_reads r a = let e = started-begun s c h in rw e.0 (reported s e.1 r a (held s e.1 r))

  pub counts-anew : (r : Brought) (a : BusAnswer) (y : Sample) → (replied (after_answers c r) a).handed ≡ LastSample y
      → (q : Brought) (b : BusAnswer) → (replied (after_answers c ((r ▸ a) then q)) b).polls ≡ polls_since (history_of c (q ▸ b))
  counts-anew r a y g q b = rw (after_then c (r ▸ a) q, gap_restarts s c h r a y g) (polls_are_reads q b)
