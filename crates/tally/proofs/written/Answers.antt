-- `tally::written` meets its contract, by a law for each way out. Assumes nothing. Written by tools/ways.py.
use Rattle.tally.proofs.Arms as arms
use Rattle.tally.proofs.written.Goals as goal

pub returns : goal.returns
returns c =
    arms.writes c.args.b c.args.offset
    c.args.value c.by_write-begins.ensures
    c.is_reset.ensures c.is_fiforst.ensures c.cleared_if.ensures
