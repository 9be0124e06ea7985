-- What holds in each phase holds after every run. Assumes nothing.
use Rattle.std.specs.Prelude.{[], ◌≡◌, Result, Ok, Err}
use Rattle.std.proofs.Math.Path.{refl}
use Rattle.std.proofs.Common.{◌∙◌}
use Rattle.base.specs.declared.Refusal.{Refusal}
use Rattle.board_events.specs.declared.Event.{Event}
use Rattle.collector_phases.specs.declared.Collector.{Collector}
use Rattle.collector_settings.specs.declared.Settings.{Settings}
use Rattle.collector_phases.specs.Phases.{phase_of}
use Rattle.collector_phases.specs.Fit.{FitSettings, FitCollector}
use Rattle.collector_phases.specs.Accesses.{access_of}
use Rattle.collector_replies.specs.Reply.{replied}
use Rattle.collector_records.specs.Records.{first_record}
use Rattle.collector.specs.Counts.{reply-holds}
use Rattle.collector.specs.Steps.{reply}
use Rattle.collector.specs.Kept.{begun-fit, replied-fit}
use Rattle.archive_turns.specs.Machine.{Machine}
use Rattle.collector_answers.specs.declared.BusAnswer.{BusAnswer}
use Rattle.archive_turns.specs.Turn.{event_of, brought_by, turn_by}
use Rattle.archive_turns.specs.Hosts.{words}
use Rattle.archive_demand.specs.World.{event_in}
use Rattle.archive_demand.specs.Run.{Happening, turn, world, Run, begin, ◌▸◌, System, next, after}
use Rattle.archive_demand.specs.Log.{log}
use Rattle.archive_demand.specs.Laws.{Laws}
use Rattle.archive_demand.specs.Phases.{FactOf}

module _ (M : Machine) (Working : M.Board → Type 0) (laws : Laws M Working) where
  -- the board works, and the collector is fit and has these settings
  pub record Sound (t : Settings) (x : System M) : Type 0 where
    pub works : Working x.board
    pub fit : FitCollector x.collector
    pub same : x.collector.settings ≡ t

  module _ (c : Collector) (fc : FitCollector c) (b : M.Board) (wk : Working b) where
    turn-sound : (x : Result Event Refusal) → Sound c.settings (record { board = (turn_by M words x c b).board; collector = (turn_by M words x c b).collector })
    turn-sound (Ok ev) =
        let y : BusAnswer = brought_by (M.answered b ev) in
        record { works = laws.works b ev wk; fit = replied-fit c fc y; same = (reply-holds c fc.phase y (replied c y) (reply c y fc)).0 }
    turn-sound (Err e) = record { works = wk; fit = fc; same = refl }

  sound-next : (t : Settings) (x : System M) (e : Happening) → Sound t x → Sound t (next M words x e)
  sound-next t x turn s =
      let k = turn-sound x.collector s.fit x.board s.works (event_of (access_of x.collector)) in
      record { works = k.works; fit = k.fit; same = k.same ∙ s.same }
  sound-next t x (world w) s = record { works = laws.works x.board (event_in w) s.works; fit = s.fit; same = s.same }

  pub sound : (t : Settings) (s : System M) (r : Run) → Sound t s → Sound t (after M words s r)
  unfolding after
  sound t s begin k = k
  sound t s (r ▸ e) k = sound-next t (after M words s r) e (sound t s r k)

  -- a start on a working board
  module _ (b : M.Board) (wk : Working b) (t : Settings) (f : FitSettings t) where
    abbrev pub s₀ : System M
    s₀ = record { board = b; collector = first_record t }

    pub sound₀ : Sound t s₀
    sound₀ = record { works = wk; fit = begun-fit t f; same = refl }

    pub fact₀ : FactOf (first_record t) (M.view b) (log M words s₀ begin)
    unfolding log phase_of
    fact₀ = (record { prefix = λ w. ([], refl); since = refl; runs = refl }, refl)
