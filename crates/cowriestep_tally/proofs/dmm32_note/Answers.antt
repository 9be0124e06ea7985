-- `cowriestep_tally::dmm32_note` meets its contract where a memory has a wrong length. Assumes nothing.
use Rattle.numbers_events.specs.Events.{event_of}
use Rattle.tally.proofs.Adding.{wrong_lengths-noted}
use Rattle.cowriestep_tally.proofs.dmm32_note.Goals as goal

pub returns-then-memory-eeprom : goal.returns-then-memory-eeprom
returns-then-memory-eeprom c =
    wrong_lengths-noted c.args.tally c.args.board c.args.memory.now c.args.eeprom.now (event_of c.args.event) c.if-memory-eeprom.true
