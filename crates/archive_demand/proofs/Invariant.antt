-- Theorems that rest on theorems of specs/Invariant.antt, and promise as those do. What specs/Invariant.antt says of itself:
-- What holds in each phase holds after every run. Assumes nothing.
use Rattle.std.proofs.Math.Path.{refl}
use Rattle.collector_settings.specs.declared.Settings.{Settings}
use Rattle.collector_phases.specs.Phases.{phase_of}
use Rattle.collector.specs.Steps.{access-fit}
use Rattle.archive_turns.specs.Machine.{Machine}
use Rattle.archive_turns.specs.Hosts.{words}
use Rattle.archive_demand.specs.World.{event_in}
use Rattle.archive_demand.specs.Run.{Happening, turn, world, Run, begin, ◌▸◌, System, next, after}
use Rattle.archive_demand.specs.Log.{Log, note, log}
use Rattle.archive_demand.specs.Laws.{Laws}
use Rattle.archive_demand.specs.Phases.{FactOf}
use Rattle.archive_demand.proofs.Worlds.{world-kept}
use Rattle.archive_demand.proofs.Kept.{turn-kept}
use Rattle.archive_demand.specs.Invariant.{Sound, sound}

module _ (M : Machine) (Working : M.Board → Type 0) (laws : Laws M Working) where
  -- the facts of the phase
  fact-next : (t : Settings) (x : System M) (l : Log) (e : Happening) → Sound M Working laws t x → FactOf x.collector (M.view x.board) l
      → FactOf (next M words x e).collector (M.view (next M words x e).board) (note M words x e l)
  fact-next t x l turn s k =
      rw (access-fit x.collector s.fit)
      (turn-kept M Working laws x.board s.works x.collector s.fit l (phase_of x.collector.phase) refl k)
  fact-next t x l (world w) s k =
      world-kept x.collector.settings x.collector.next x.collector.left s.fit.settings (M.view x.board) l
      (M.begins x.board (event_in w)) (M.ends x.board (event_in w)) (M.view (M.stepped x.board (event_in w)))
      (laws.happens x.board w s.works) (phase_of x.collector.phase) k

  pub facts : (t : Settings) (s : System M) (r : Run) → Sound M Working laws t s → FactOf s.collector (M.view s.board) (log M words s begin)
      → FactOf (after M words s r).collector (M.view (after M words s r).board) (log M words s r)
  unfolding after log
  facts t s begin a k = k
  facts t s (r ▸ e) a k = fact-next t (after M words s r) (log M words s r) e (sound M Working laws t s r a) (facts t s r a k)
