-- The reads of offset 8 in a run of board and collector, for Polls.antt (the specification, "The collector": "the reads of offset 8 made since this start
-- whose answers were taken"). A board's refusal is no answer, and a collector takes no answer that it refuses, save that of the last poll (15).
use Rattle.std.specs.Prelude.{ℕ, Bool}
use Rattle.collector_answers.specs.Answers.{served}
use Rattle.collector.specs.Counts.{counted_on}
use Rattle.archive_turns.specs.Machine.{Machine}
use Rattle.archive_turns.specs.Hosts.{words}
use Rattle.archive_turns.specs.Turn.{event_of}
use Rattle.archive_demand.specs.Run.{Run, begin, ◌▸◌, turn, world, System, turning, after}
use Rattle.archive_demand.specs.Log.{asks, brings_by}

module _ (M : Machine) where
  -- an access is made, and the board serves it
  abbrev pub is_served : System M → Bool
  is_served x = served (brings_by M x.board (event_of (asks M words x)))

  -- ---- a run: "the reads of offset 8 made since this start whose answers were taken"
  unfoldable pub reads_since : System M → Run → ℕ
  reads_since s begin = 0
  reads_since s (r ▸ turn) =
      counted_on (asks M words (after M words s r)) (is_served (after M words s r)) (turning M words (after M words s r)).handed (reads_since s r)
  reads_since s (r ▸ world w) = reads_since s r
