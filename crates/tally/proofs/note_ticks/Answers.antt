-- `tally::note_ticks` meets its contract, by a law for each way out. Assumes nothing.
use Rattle.std.proofs.Math.Path.{sym}
use mathlib.Core.Path.{◌∙◌}
use Rattle.tally.proofs.Arms as arms
use Rattle.board_step.specs.Ways as ways
use Rattle.tally.proofs.note_ticks.Goals as goal

pub returns-then-is_err : goal.returns-then-is_err
returns-then-is_err c =
    arms.no_ticks c.args.board c.args.memory.now c.args.eeprom.now
    c.args.tally c.args.ticks c.check.ensures (sym c.is_err.ensures.value ∙ c.if-is_err.true)

pub begins_in-requires : goal.begins_in-requires
begins_in-requires c =
    let o : ways.Opened c.args.board c.args.memory.now c.args.eeprom.now =
    ways.unstopped c.check.ensures (sym c.is_err.ensures.value ∙ c.if-is_err.false) in
    (ways.working o).machine

pub returns : goal.returns
returns c =
    arms.some_ticks c.args.board
    c.args.memory.now
    c.args.eeprom.now
    c.args.tally
    c.args.ticks
    (ways.unstopped c.check.ensures (sym c.is_err.ensures.value ∙ c.if-is_err.false)) c.begins_in.ensures c.begun_if.ensures c.add_all.ensures
