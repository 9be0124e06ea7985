-- `board_reads::read_word` meets its contract, by a law for each way out. Assumes nothing.
use Rattle.std.proofs.Common.{ap, not}
use Rattle.board_reads.proofs.Arms as arms
use Rattle.board_step.specs.Ways as ways
use Rattle.board_reads.proofs.read_word.Goals as goal

pub oldest-requires : goal.oldest-requires
oldest-requires c = (ways.works c.is_working.ensures (ap not c.if-not-is_working.false)).fifo

pub pop-c-requires : goal.pop-c-requires
pop-c-requires c =
    (ways.works c.is_working.ensures (ap not c.if-not-is_working.false)).fifo

pub returns-then-memory-eeprom : goal.returns-then-memory-eeprom
returns-then-memory-eeprom c =
    ways.wrong c.args.board c.args.memory.now c.args.eeprom.now _
    c.if-memory-eeprom.true

pub returns-then-not-is_working : goal.returns-then-not-is_working
returns-then-not-is_working c =
    ways.broken c.args.board c.args.memory.now
    c.args.eeprom.now _ c.if-memory-eeprom.false c.is_working.ensures
    (ap not c.if-not-is_working.true)

pub returns-then-offset-ne0 : goal.returns-then-offset-ne0
returns-then-offset-ne0 c =
    arms.word-outside c.args.board
    c.args.memory.now
    c.args.eeprom.now c.args.offset
    (ways.opened c.if-memory-eeprom.false c.is_working.ensures (ap not c.if-not-is_working.false)) c.if-offset-ne0.true

pub returns-in-None : goal.returns-in-None
returns-in-None c =
    arms.word-nothing c.args.board
    c.args.memory.now
    c.args.eeprom.now
    c.args.offset
    (ways.opened c.if-memory-eeprom.false c.is_working.ensures (ap not c.if-not-is_working.false))
    c.if-offset-ne0.false c.oldest.ensures c.in-None.is

pub returns-in-Some : goal.returns-in-Some
returns-in-Some c =
    arms.word c.args.board
    c.args.memory.now
    c.args.eeprom.now
    c.args.offset
    (ways.opened c.if-memory-eeprom.false c.is_working.ensures (ap not c.if-not-is_working.false))
    c.if-offset-ne0.false
    c.oldest.ensures c.in-Some.is
    c.pop-c.ensures
