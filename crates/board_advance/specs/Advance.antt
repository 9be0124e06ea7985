-- Ticks one after another, each an event of its own, as far as the first with which the host has something to do. The specification, "Conversions, edges
-- and requests": a tick may begin a conversion or set a request flag.
use Rattle.std.specs.Prelude.{ℕ, zero, suc, List, eqb, if◌then◌else◌}
use Rattle.machine_record.specs.declared.Board.{Board}
use Rattle.board_step.specs.News.{news}
use Rattle.board_step.specs.Step.{refusal_of, step_of, memory_after, eeprom_after}
use Rattle.board_events.specs.declared.Answer.TheVariants.{Refused, Done}
use Rattle.board_events.specs.declared.Event.TheVariants.{Tick}
use Rattle.board_advance.specs.declared.Advanced.{Advanced}

-- ---- at most n ticks more, d done
abbrev pub advanced_from : ℕ → ℕ → Board → List ℕ → List ℕ → Advanced
advanced_from zero d b memory eeprom = record { board = b; progress = record { answer = Done; done = d } }
advanced_from (suc n) d b memory eeprom =
    if news b (step_of b memory eeprom Tick).board
    then record { board = (step_of b memory eeprom Tick).board; progress = record { answer = (step_of b memory eeprom Tick).answer; done = suc d } }
    else advanced_from n (suc d) (step_of b memory eeprom Tick).board (memory_after b memory eeprom Tick) (eeprom_after b memory eeprom Tick)

-- ---- `ticks` at the utmost; refused as a tick is, by 2 or 1, with nothing changed and none done
unfoldable pub advanced_of : Board → List ℕ → List ℕ → ℕ → Advanced
advanced_of b memory eeprom ticks =
    if eqb (refusal_of b memory eeprom Tick) 0 then advanced_from ticks 0 b memory eeprom
    else record { board = b; progress = record { answer = Refused (refusal_of b memory eeprom Tick); done = 0 } }
