-- A board with a collector alone on its bus, and the runs of the two: a happening is an event of the world, or a turn of the collector. No other
-- happening makes a bus access, so the collector is alone on the bus.
use Rattle.std.specs.Prelude.{ℕ, suc, ◌+◌, Bool, false, List, [], ◌++◌, if◌then◌else◌}
use Rattle.collector_phases.specs.declared.Collector.{Collector}
use Rattle.samples.specs.declared.Sample.{Sample}
use Rattle.collector.specs.Handed.{samples_of, gap_marked}
use Rattle.archive_turns.specs.Machine.{Machine, Host}
use Rattle.archive_turns.specs.Turn.{Turning, turn_of}
use Rattle.archive_demand.specs.World.{World, event_in}

pub data Happening : Type 0 where
  turn : Happening
  world : World → Happening

infixl 40 ◌▸◌
pub data Run : Type 0 where
  begin : Run
  ◌▸◌ : Run → Happening → Run

pub record System (M : Machine) : Type 0 where
  pub board : M.Board
  pub collector : Collector

module _ (M : Machine) (H : Host) where
  -- the turn that the collector makes now
  abbrev pub turning : System M → Turning M.Board
  turning x = turn_of M H x.collector x.board

  -- the system after a happening, the samples handed over by it, and whether it marks a gap
  abbrev pub next : System M → Happening → System M
  next x turn = record { board = (turning x).board; collector = (turning x).collector }
  next x (world w) = record { board = M.stepped x.board (event_in w); collector = x.collector }

  abbrev pub given : System M → Happening → List Sample
  given x turn = samples_of (turning x).handed
  given x (world w) = []

  abbrev pub gap : System M → Happening → Bool
  gap x turn = gap_marked (turning x).handed
  gap x (world w) = false

  -- the system after a run, all samples handed over in it, and the gaps marked in it
  unfoldable pub after : System M → Run → System M
  after s begin = s
  after s (r ▸ e) = next (after s r) e

  unfoldable pub given_in : System M → Run → List Sample
  given_in s begin = []
  given_in s (r ▸ e) = given_in s r ++ given (after s r) e

  unfoldable pub gaps_in : System M → Run → ℕ
  gaps_in s begin = 0
  gaps_in s (r ▸ e) = gaps_in s r + (if gap (after s r) e then 1 else 0)

-- the turns of a run
unfoldable pub turns : Run → ℕ
turns begin = 0
turns (r ▸ turn) = suc (turns r)
turns (r ▸ world w) = turns r
