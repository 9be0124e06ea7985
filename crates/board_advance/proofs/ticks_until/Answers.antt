-- `board_advance::ticks_until` meets its contract, by a law for each way out. Assumes nothing.
use Rattle.std.proofs.Common.{ap, not, ◌∙◌}
use Rattle.std.proofs.Math.Path.{sym}
use Rattle.board_advance.proofs.Ends as ends
use Rattle.board_step.specs.Ways as ways
use Rattle.board_advance.proofs.ticks_until.Goals as goal

pub returns-then-is_err : goal.returns-then-is_err
returns-then-is_err c =
    ends.none_done c.args.board c.args.memory.now c.args.eeprom.now c.args.most c.check.ensures
    (sym c.is_err.ensures.value ∙ c.if-is_err.true)

pub returns-then-not-heeds_0-heeds_2 : goal.returns-then-not-heeds_0-heeds_2
returns-then-not-heeds_0-heeds_2 c =
    ends.muted c.args.board
    c.args.memory.now
    c.args.eeprom.now
    c.args.most
    (ways.unstopped c.check.ensures (sym c.is_err.ensures.value ∙ c.if-is_err.false))
    c.heeds_0.ensures c.heeds_2.ensures (ap not c.if-not-heeds_0-heeds_2.true)

pub stride-s-requires : goal.stride-s-requires
stride-s-requires c =
    let o : ways.Opened c.args.board c.args.memory.now c.args.eeprom.now =
    ways.unstopped c.check.ensures (sym c.is_err.ensures.value ∙ c.if-is_err.false) in
    (ways.working o).machine

pub returns : goal.returns
returns c =
    ends.until c.args.board
    c.args.memory.now
    c.args.eeprom.now
    c.args.most
    (ways.unstopped c.check.ensures (sym c.is_err.ensures.value ∙ c.if-is_err.false)) c.stride-s.ensures
