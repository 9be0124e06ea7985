-- Theorems that rest on theorems of specs/Archive.antt, and promise as those do. What specs/Archive.antt says of itself:
-- What the archives rest on: condition 3 of acceptance, of the product's own board and collector. Whatever working board stands at the start, in
-- the middle of a scan, with stale samples, OVF set, on any page, with any counters; whatever settings a start takes, whether or not its jumpers
-- are the board's.
use Rattle.std.specs.Prelude.{ℕ, List, ◌≡◌, Ok, Result, length}
use Rattle.std.proofs.Common.{sym, ap, ◌∙◌}
use Rattle.base.specs.Laws.{never}
use Rattle.base.specs.declared.Refusal.{Refusal}
use Rattle.machine_record.specs.declared.Board.{Board}
use Rattle.board_refusal.specs.Working.{WorkingBoard}
use Rattle.board_events.specs.declared.Answer.TheVariants.{Nothing}
use Rattle.board_events.specs.declared.Event.TheVariants.{ReadWord}
use Rattle.collector_answers.specs.Answers.{is_nothing}
use Rattle.collector_phases.specs.declared.Access.{Access}
use Rattle.collector_phases.specs.declared.Collector.{Collector}
use Rattle.collector_phases.specs.Accesses.{access_of}
use Rattle.collector_settings.specs.declared.Settings.{Settings}
use Rattle.collector_records.specs.Records.{start_of}
use Rattle.board_step.specs.States.{State, answer_at}
use Rattle.archive_turns.specs.Real.{lent, real}
use Rattle.archive_turns.specs.Turn.{event_of, brought_by}
use Rattle.archive_turns.specs.Hosts.{words}
use Rattle.archive_demand.specs.Run.{Run, after}
use Rattle.archive_demand.specs.Log.{brings_by}
use Rattle.archive_demand.specs.Demand.{word_read}
use Rattle.archive.specs.Archive.{archive}

-- Request M-100: on its own bus the collector is never told "nothing" where a sample is due, whatever the run. No limit is asked of it.
pub never-nothing : (b : Board) (memory eeprom : List ℕ) (settings : Settings) (c : Collector) → WorkingBoard b memory → length eeprom ≡ 128
    → start_of settings ≡ Ok c → (r : Run) → let x = after real words (record { board = lent b memory eeprom; collector = c }) r in
    access_of x.collector ≡ word_read → answer_at x.board (ReadWord 0) ≡ Nothing → ⊥
never-nothing b memory eeprom settings c w e h r asked answered =
    let found = (archive b memory eeprom settings c w e h).finds r asked in
    let s : State = (after real words (record { board = lent b memory eeprom; collector = c }) r).board in
    never (sym (ap is_nothing (sym (ap brought_by answered) ∙ sym (ap (λ (x : Result Access Refusal). brings_by real s (event_of x)) asked) ∙ found.1)))
