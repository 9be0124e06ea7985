-- `fifo::clear` meets its contract: every place is 0. Assumes nothing.
use mathlib.Core.Path.{◌≡◌, ap, sym, ◌∙◌}
use Prim.Native.Nat.{ℕ}
use borrow.Author.Rules.{rules}
use lib.ListN.{length, replicate}
use Rattle.fifo.specs.Queue.Places.{layout-empty}
use Rattle.fifo.proofs.clear.Goals as goal

pub returns : goal.returns
returns c =
    let filled : c.fill.new.self ≡ replicate (length c.args.memory.now) 0 = search rules in
    record { fifo = c.empty.ensures; laid = filled ∙ ap (λ (n : ℕ). replicate n 0) c.requires ∙ sym layout-empty }
