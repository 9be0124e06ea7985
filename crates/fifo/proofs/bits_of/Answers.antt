-- `fifo::bits_of` meets its contract: the bits joined are none where every place is 0. Assumes nothing.
use mathlib.Core.Path.{◌≡◌, ap, ◌∙◌}
use Prim.Native.Nat.{ℕ}
use borrow.Author.Rules.{rules}
use lib.Bits.{bit_or}
use lib.Dec.{eqb}
use lib.ListN.{take, drop}
use Rattle.std.specs.List.{fold}
use Rattle.fifo.proofs.Zeros.{joined-all}
use Rattle.fifo.proofs.bits_of.Goals as goal

pub returns : goal.returns
returns c =
    let all : c.fold.result ≡ fold bit_or 0 (take c.args.n (drop c.args.at c.args.memory.now)) = search rules in
    ap (λ (bits : ℕ). eqb bits 0) all ∙ joined-all (take c.args.n (drop c.args.at c.args.memory.now)) 0
