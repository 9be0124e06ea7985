-- Theorems that rest on theorems of specs/ReadsLaws.antt, and promise as those do. What specs/ReadsLaws.antt says of itself:
-- How a turn counts polls: what the theorem of Polls.antt is made of.
use Rattle.std.specs.Prelude.{ℕ, ◌≡◌, refl, true, false, Result, Ok, Err}
use Rattle.std.proofs.Common.{◌∙◌}
use Rattle.base.specs.declared.Refusal.{Refusal}
use Rattle.board_events.specs.declared.Event.{Event}
use Rattle.collector_settings.specs.declared.Settings.{Settings}
use Rattle.collector_phases.specs.declared.Collector.{Collector}
use Rattle.collector_phases.specs.Phases.{phase_of}
use Rattle.collector_phases.specs.Fit.{FitSettings, FitCollector}
use Rattle.collector_answers.specs.declared.BusAnswer.{BusAnswer}
use Rattle.collector_answers.specs.declared.BusAnswer.TheVariants as bus
use Rattle.collector_answers.specs.Answers.{served}
use Rattle.collector_replies.specs.Reply.{replied}
use Rattle.collector_steps.specs.declared.Handed.TheVariants as handed
use Rattle.collector_steps.specs.Reads.{reports}
use Rattle.collector.specs.Steps.{stays, reply, access-fit}
use Rattle.collector.specs.Kept.{begun-fit, replied-fit}
use Rattle.collector.specs.Counts.{underway, reply-holds}
use Rattle.collector.proofs.Counts.{reply-counts}
use Rattle.archive_turns.specs.Machine.{Machine}
use Rattle.archive_turns.specs.Hosts.{words}
use Rattle.archive_turns.specs.Turn.{event_of, brought_by, taken_by, unturned, turn_by}
use Rattle.archive_demand.specs.Run.{Run, begin, ◌▸◌, turn, world, System, turning, after}
use Rattle.archive_demand.specs.Log.{asks, brings_by}
use Rattle.archive_demand.specs.Reads.{is_served, reads_since}
use Rattle.archive_demand.specs.ReadsLaws.{TurnCounts, opening}

module _ {B : Type 0} (c : Collector) (w : FitCollector c) (n : ℕ) (k : underway (phase_of c.phase) ≡ true → c.polls ≡ n) (b : B) where
  -- the collector is told what the access brought
  brought-counts : (a : BusAnswer) → TurnCounts c (served a) n (taken_by (replied c a) b)
  brought-counts a =
      record {
        left-fit = replied-fit c w a;
        told = rw (access-fit c w) (reply-counts c w.phase a (replied c a) n k (reply c a w));
        kept-polls = (reply-holds c w.phase a (replied c a) (reply c a w)).1;
      }

  -- none is named
  unturned-counts : (number : ℕ) → TurnCounts c false n (unturned c b number)
  unturned-counts number =
      record {
        left-fit = w;
        told = rw (access-fit c w) (reply-counts c w.phase (bus.Refused 0) (reports c (handed.Refused number)) n k (stays 0 number));
        kept-polls = λ u. refl;
      }

module _ (M : Machine) (c : Collector) (w : FitCollector c) (n : ℕ) (k : underway (phase_of c.phase) ≡ true → c.polls ≡ n) (b : M.Board) where
  turn-counts : (q : Result Event Refusal) → TurnCounts c (served (brings_by M b q)) n (turn_by M words q c b)
  turn-counts (Ok ev) = brought-counts c w n k (M.stepped b ev) (brought_by (M.answered b ev))
  turn-counts (Err e) = unturned-counts c w n k b e.number

-- ---- a run
module _ (M : Machine) (b : M.Board) (t : Settings) (f : FitSettings t) where
  abbrev standing : Run → System M
  standing r = after M words (opening M b t f) r

  -- the collector is fit, and its record holds the count while a start is under way
  abbrev Counted : Run → Type 0
  Counted r =
      FitCollector (standing r).collector
      × (underway (phase_of (standing r).collector.phase) ≡ true → (standing r).collector.polls ≡ reads_since M (opening M b t f) r)

  turn-after : (r : Run) → Counted r
      → TurnCounts (standing r).collector (is_served M (standing r)) (reads_since M (opening M b t f) r) (turning M words (standing r))
  turn-after r k = turn-counts M (standing r).collector k.0 (reads_since M (opening M b t f) r) k.1 (standing r).board (event_of (asks M words (standing r)))

  counted-after : (r : Run) → Counted r
  unfolding after reads_since
  counted-after begin = (begun-fit t f, λ u. refl)
  counted-after (r ▸ turn) = let k = turn-after r (counted-after r) in (k.left-fit, λ u. k.kept-polls u ∙ k.told)
  counted-after (r ▸ world v) = counted-after r

  pub reported-after : (r : Run) → (turning M words (standing r)).polls ≡ reads_since M (opening M b t f) (r ▸ turn)
  unfolding reads_since
  reported-after r = (turn-after r (counted-after r)).told
