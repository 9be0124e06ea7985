-- `board_signals::conversion_end` meets its contract, by a law for each way out. Assumes nothing.
use Rattle.std.proofs.Common.{ap, not}
use mir.Facts.{to_z-of_z}
use Rattle.board_signals.proofs.Ends as ends
use Rattle.board_step.specs.Ways as ways
use Rattle.board_signals.proofs.conversion_end.Goals as goal

pub push-f-requires : goal.push-f-requires
push-f-requires c = (ways.works c.is_working.ensures (ap not c.if-not-is_working.false)).fifo

pub returns-then-memory-eeprom : goal.returns-then-memory-eeprom
returns-then-memory-eeprom c =
    ways.wrong c.args.board c.args.memory.now c.args.eeprom.now _
    c.if-memory-eeprom.true

pub returns-then-not-is_working : goal.returns-then-not-is_working
returns-then-not-is_working c =
    ways.broken c.args.board c.args.memory.now
    c.args.eeprom.now _ c.if-memory-eeprom.false c.is_working.ensures
    (ap not c.if-not-is_working.true)

pub returns-then-c-ne1 : goal.returns-then-c-ne1
returns-then-c-ne1 c =
    ends.end_refused c.args.board
    c.args.memory.now
    c.args.eeprom.now _
    (ways.opened c.if-memory-eeprom.false c.is_working.ensures (ap not c.if-not-is_working.false))
    c.if-c-ne1.true

pub returns-then-is_last : goal.returns-then-is_last
returns-then-is_last c =
    ends.end-over
    c.args.board
    c.args.memory.now
    c.args.eeprom.now _
    (ways.opened c.if-memory-eeprom.false c.is_working.ensures (ap not c.if-not-is_working.false))
    c.if-c-ne1.false
    (rw (to_z-of_z
    c.ranges.code) at
    c.sample.ensures) c.push-f.ensures
    c.is_last.ensures c.if-is_last.true c.ask_ad-c.ensures

pub returns-else-is_last : goal.returns-else-is_last
returns-else-is_last c =
    ends.end_goes
    c.args.board
    c.args.memory.now
    c.args.eeprom.now _
    (ways.opened c.if-memory-eeprom.false c.is_working.ensures (ap not c.if-not-is_working.false))
    c.if-c-ne1.false
    (rw (to_z-of_z
    c.ranges.code) at
    c.sample.ensures) c.push-f.ensures
    c.is_last.ensures c.if-is_last.false c.start-c.ensures
