-- What the archives rest on: condition 3 of acceptance, of the product's own board and collector. Whatever working board stands at the start, in
-- the middle of a scan, with stale samples, OVF set, on any page, with any counters; whatever settings a start takes, whether or not its jumpers
-- are the board's.
use Rattle.std.specs.Prelude.{ℕ, List, ◌≡◌, Ok, length}
use Rattle.std.proofs.Common.{sym, subst}
use Rattle.machine_record.specs.declared.Board.{Board}
use Rattle.board_refusal.specs.Working.{WorkingBoard}
use Rattle.collector_phases.specs.declared.Collector.{Collector}
use Rattle.collector_settings.specs.declared.Settings.{Settings}
use Rattle.collector_records.specs.Records.{start_of}
use Rattle.collector.specs.Kept.{started-begun}
use Rattle.board_step.specs.States.{Works}
use Rattle.archive_turns.specs.Real.{lent, real}
use Rattle.archive_turns.specs.Hosts.{words}
use Rattle.archive_demand.specs.Demand.{Demand3}
use Rattle.archive.specs.Real.{real_laws}
use Rattle.archive_demand.proofs.Theorem.{demand3}

pub archive : (b : Board) (memory eeprom : List ℕ) (settings : Settings) (c : Collector) → WorkingBoard b memory → length eeprom ≡ 128
    → start_of settings ≡ Ok c → Demand3 real words (record { board = lent b memory eeprom; collector = c })
archive b memory eeprom settings c w e h =
    let s = started-begun settings c h in
    subst (λ (d : Collector). Demand3 real words (record { board = lent b memory eeprom; collector = d })) (sym s.0)
    (demand3 real Works real_laws (lent b memory eeprom) (record { working = w; long = e }) settings s.1)
