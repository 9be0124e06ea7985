-- `tally::counts` meets its contract, by a law for each way out. Assumes nothing.
use Rattle.std.proofs.Common.{ap, not}
use mathlib.Core.Path.{◌∙◌}
use Rattle.tally.proofs.Arms as arms
use Rattle.board_step.specs.Ways as ways
use Rattle.tally.proofs.counts.Goals as goal

pub returns-then-memory-eeprom : goal.returns-then-memory-eeprom
returns-then-memory-eeprom c =
    c.none.ensures
    ∙ arms.wrong c.args.board c.args.memory.now
    c.args.eeprom.now c.args.event c.if-memory-eeprom.true

pub returns-then-not-is_working : goal.returns-then-not-is_working
returns-then-not-is_working c =
    c.none-then-not-is_working.ensures
    ∙ arms.broken c.args.board c.args.memory.now
    c.args.eeprom.now c.args.event
    c.if-memory-eeprom.false c.is_working.ensures (ap not c.if-not-is_working.true)

pub of_working-requires : goal.of_working-requires
of_working-requires c = (ways.works c.is_working.ensures (ap not c.if-not-is_working.false)).machine

pub returns : goal.returns
returns c =
    arms.counted c.args.board c.args.memory.now
    c.args.eeprom.now c.args.event
    (ways.opened c.if-memory-eeprom.false c.is_working.ensures (ap not c.if-not-is_working.false)) c.of_working.ensures
