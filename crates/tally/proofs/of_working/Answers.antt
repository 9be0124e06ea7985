-- `tally::of_working` meets its contract, by a law for each way out. Assumes nothing. Written by tools/ways.py.
use mathlib.Core.Path.{◌∙◌}
use Rattle.tally.proofs.Arms as arms
use Rattle.tally.proofs.of_working.Goals as goal

pub begins_in-requires : goal.begins_in-requires
begins_in-requires c = c.requires

pub returns-in-WriteByte : goal.returns-in-WriteByte
returns-in-WriteByte c =
    arms.as_kind c.args.b c.in-WriteByte.is
    (c.written.ensures ∙ arms.write-taken c.args.b _ _)

pub returns-in-ReadByte : goal.returns-in-ReadByte
returns-in-ReadByte c =
    arms.as_kind c.args.b c.in-ReadByte.is
    (c.read_if.ensures ∙ arms.byte-taken c.args.b _)

pub returns-in-ReadWord : goal.returns-in-ReadWord
returns-in-ReadWord c =
    arms.as_kind c.args.b c.in-ReadWord.is
    (c.read_if-in-ReadWord.ensures ∙ arms.word-taken c.args.b _)

pub returns-then-b-eq1 : goal.returns-then-b-eq1
returns-then-b-eq1 c =
    arms.as_kind c.args.b c.in-ConversionEnd.is
    (c.ended.ensures ∙ arms.end-taken c.args.b _ c.if-b-eq1.true)

pub returns-else-b-eq1 : goal.returns-else-b-eq1
returns-else-b-eq1 c =
    arms.as_kind c.args.b c.in-ConversionEnd.is
    (c.none.ensures ∙ arms.no_end_taken c.args.b _ c.if-b-eq1.false)

pub returns-then-lines-gt15 : goal.returns-then-lines-gt15
returns-then-lines-gt15 c =
    arms.as_kind c.args.b c.in-DinPins.is
    (c.none-then-lines-gt15.ensures ∙ arms.high_taken c.args.b _ c.if-lines-gt15.true)

pub returns-else-lines-gt15 : goal.returns-else-lines-gt15
returns-else-lines-gt15 c =
    arms.as_kind c.args.b c.in-DinPins.is
    (c.begun_if.ensures
    ∙ arms.din-taken c.args.b _ c.if-lines-gt15.false c.by_din.ensures)

pub returns-in-LatchLevel : goal.returns-in-LatchLevel
returns-in-LatchLevel c =
    arms.as_kind c.args.b c.in-LatchLevel.is
    (c.none-in-LatchLevel.ensures ∙ arms.latch-taken c.args.b _)

pub returns-in-PortPins : goal.returns-in-PortPins
returns-in-PortPins c =
    arms.as_kind c.args.b c.in-PortPins.is
    (c.none-in-PortPins.ensures ∙ arms.port-taken c.args.b _ _)

pub returns-in-Tick : goal.returns-in-Tick
returns-in-Tick c =
    arms.as_kind c.args.b c.in-Tick.is
    (c.begun_if-in-Tick.ensures ∙ arms.tick-taken c.args.b c.begins_in.ensures)

pub returns-in-TransferEnd : goal.returns-in-TransferEnd
returns-in-TransferEnd c =
    arms.as_kind c.args.b c.in-TransferEnd.is
    (c.none-in-TransferEnd.ensures ∙ arms.transfer-taken c.args.b)
