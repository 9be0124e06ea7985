-- The polls that a turn reports, on any board: whatever the board does, answers and refuses, and whatever events fall between the turns. (The specification,
-- "The collector"; "How firm the contracts are": "It shuts out an invented poll count, since that equals reads in the history".)
use Rattle.std.specs.Prelude.{◌≡◌, Ok}
use Rattle.std.proofs.Common.{sym, subst}
use Rattle.collector_settings.specs.declared.Settings.{Settings}
use Rattle.collector_phases.specs.declared.Collector.{Collector}
use Rattle.collector_records.specs.Records.{start_of}
use Rattle.collector.specs.Kept.{started-begun}
use Rattle.archive_turns.specs.Machine.{Machine}
use Rattle.archive_turns.specs.Hosts.{words}
use Rattle.archive_demand.specs.Run.{Run, ◌▸◌, turn, System, turning, after}
use Rattle.archive_demand.specs.Reads.{reads_since}
use Rattle.archive_demand.proofs.ReadsLaws.{reported-after}

-- A collector that a start gave, on any board, after any run
module _ (M : Machine) (b : M.Board) (settings : Settings) (c : Collector) (h : start_of settings ≡ Ok c) where
  abbrev together : System M
  together = record { board = b; collector = c }

  -- "The polls reported equal the reads of offset 8 made since this start whose answers were taken. A restart counts anew"
  pub polls_are_reads : (r : Run) → (turning M words (after M words together r)).polls ≡ reads_since M together (r ▸ turn)
  polls_are_reads =
      let e = started-begun settings c h in
      subst (λ (d : Collector). (r : Run)
      → (turning M words (after M words (record { board = b; collector = d }) r)).polls ≡ reads_since M (record { board = b; collector = d }) (r ▸ turn))
      (sym e.0) (reported-after M b settings e.1)
