-- `board_signals::transfer_end` meets its contract, by a law for each way out. Assumes nothing.
use Rattle.std.proofs.Common.{ap, not}
use borrow.Author.Rules.{rules}
use Rattle.board_signals.proofs.Arms as arms
use Rattle.board_step.specs.Ways as ways
use Rattle.board_signals.proofs.transfer_end.Goals as goal

pub end_transfer-c-requires : goal.end_transfer-c-requires
end_transfer-c-requires c = (
  ways.eeprom-long c.args.memory.now
      c.args.eeprom.now
      c.if-memory-eeprom.false,
  (ways.works c.is_working.ensures (ap not c.if-not-is_working.false)).machine.calibration,
)

pub returns-then-memory-eeprom : goal.returns-then-memory-eeprom
returns-then-memory-eeprom c =
    ways.wrong c.args.board c.args.memory.now c.args.eeprom.now _
    c.if-memory-eeprom.true

pub returns-then-not-is_working : goal.returns-then-not-is_working
returns-then-not-is_working c =
    ways.broken c.args.board c.args.memory.now
    c.args.eeprom.now _ c.if-memory-eeprom.false c.is_working.ensures
    (ap not c.if-not-is_working.true)

pub returns-then-is_idle : goal.returns-then-is_idle
returns-then-is_idle c =
    arms.transfer-refused c.args.board
    c.args.memory.now
    c.args.eeprom.now
    (ways.opened c.if-memory-eeprom.false c.is_working.ensures (ap not c.if-not-is_working.false))
    c.is_idle.ensures c.if-is_idle.true

pub returns-else-is_idle : goal.returns-else-is_idle
returns-else-is_idle c =
    arms.transfer c.args.board
    c.args.memory.now
    c.args.eeprom.now
    (ways.opened c.if-memory-eeprom.false c.is_working.ensures (ap not c.if-not-is_working.false))
    c.is_idle.ensures c.if-is_idle.false (c.end_transfer-c.ensures.value, c.end_transfer-c.ensures.eeprom_after)
