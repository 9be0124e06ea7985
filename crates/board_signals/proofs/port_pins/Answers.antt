-- `board_signals::port_pins` meets its contract, by a law for each way out. Assumes nothing.
use Rattle.std.proofs.Common.{ap, not}
use Rattle.board_signals.proofs.Arms as arms
use Rattle.board_step.specs.Ways as ways
use Rattle.board_signals.proofs.port_pins.Goals as goal

pub returns-then-memory-eeprom : goal.returns-then-memory-eeprom
returns-then-memory-eeprom c =
    ways.wrong c.args.board c.args.memory.now c.args.eeprom.now _
    c.if-memory-eeprom.true

pub returns-then-not-is_working : goal.returns-then-not-is_working
returns-then-not-is_working c =
    ways.broken c.args.board c.args.memory.now
    c.args.eeprom.now _ c.if-memory-eeprom.false c.is_working.ensures
    (ap not c.if-not-is_working.true)

pub returns-else-not-is_working : goal.returns-else-not-is_working
returns-else-not-is_working c =
    arms.port c.args.board
    c.args.memory.now
    c.args.eeprom.now c.args.port
    c.args.pins
    (ways.opened c.if-memory-eeprom.false c.is_working.ensures (ap not c.if-not-is_working.false)) c.set_pins-c.ensures
