-- `fifo::flag_bits` meets its contract. Assumes nothing.
use borrow.Author.Rules.{rules}
use Rattle.fifo.specs.Flags.{flag_bits}
use Rattle.fifo.proofs.flag_bits.Goals as goal

pub is_empty-requires : goal.is_empty-requires
unfolding flag_bits
is_empty-requires c = search rules

pub weight-requires : goal.weight-requires
unfolding flag_bits
weight-requires c = search rules

pub is_half_full-requires : goal.is_half_full-requires
unfolding flag_bits
is_half_full-requires c = search rules

pub weight-requires-2 : goal.weight-requires-2
unfolding flag_bits
weight-requires-2 c = search rules

pub overflow_add-result : goal.overflow_add-result
unfolding flag_bits
overflow_add-result c = search rules

pub is_full-requires : goal.is_full-requires
unfolding flag_bits
is_full-requires c = search rules

pub weight-requires-3 : goal.weight-requires-3
unfolding flag_bits
weight-requires-3 c = search rules

pub overflow_add-result-2 : goal.overflow_add-result-2
unfolding flag_bits
overflow_add-result-2 c = search rules

pub weight-requires-4 : goal.weight-requires-4
unfolding flag_bits
weight-requires-4 c = search rules

pub overflow_add-result-3 : goal.overflow_add-result-3
unfolding flag_bits
overflow_add-result-3 c = search rules

pub returns : goal.returns
unfolding flag_bits
returns c =
    simp (
      c.weight-4.ensures.0,
      c.weight-3.ensures.0,
      c.is_full.ensures,
      c.weight-2.ensures.0,
      c.is_half_full.ensures,
      c.weight.ensures.0,
      c.is_empty.ensures,
    )
