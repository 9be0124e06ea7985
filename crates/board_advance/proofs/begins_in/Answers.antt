-- `board_advance::begins_in` meets its contract, by a law for each way out. Assumes nothing. Written by tools/ways.py.
use Rattle.std.proofs.Common.{ap, not}
use Rattle.board_advance.proofs.Ends as ends
use Rattle.board_advance.proofs.begins_in.Goals as goal

pub returns-then-not-heeds_2 : goal.returns-then-not-heeds_2
returns-then-not-heeds_2 c = ends.unheard c.args.b c.args.ticks c.heeds_2.ensures (ap not c.if-not-heeds_2.true)

pub tick_clocks-l-requires : goal.tick_clocks-l-requires
tick_clocks-l-requires c = c.requires.clocks

pub returns-then-ticks-eq1 : goal.returns-then-ticks-eq1
returns-then-ticks-eq1 c =
    ends.one-tick c.args.b
    c.heeds_2.ensures (ap not c.if-not-heeds_2.false)
    c.if-ticks-eq1.true c.gates_at-g.ensures
    c.tick_clocks-l.ensures c.has_fallen.ensures

pub returns : goal.returns
returns c =
    ends.heard c.args.b c.args.ticks c.heeds_2.ensures
    (ap not c.if-not-heeds_2.false) c.stride-s.ensures
