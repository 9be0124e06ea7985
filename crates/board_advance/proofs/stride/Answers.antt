-- `board_advance::stride` meets its contract, by a law for each way out. Assumes nothing. Written by tools/ways.py.
use Rattle.board_advance.proofs.Ends as ends
use Rattle.board_advance.proofs.stride.Goals as goal

pub run-requires : goal.run-requires
run-requires c = c.requires.clocks

pub returns : goal.returns
returns c =
    ends.strides c.args.b c.args.ticks c.gates_at.ensures
    c.heeds_0.ensures c.heeds_2.ensures c.run.ensures
