-- `fifo::ends_are_zero` meets its contract. Assumes nothing.
use Rattle.fifo.proofs.Zeros.{ends_zero}
use Rattle.fifo.proofs.ends_are_zero.Goals as goal

pub returns : goal.returns
returns c =
    let a = c.bits_of in
    let b = c.bits_of-2 in
    ends_zero c.args.memory.now c.args.from c.args.count c.args.n a.result b.result c.requires.0 c.requires.2 c.requires.3 a.ensures
    b.ensures
