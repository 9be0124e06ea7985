-- `fifo::free_are_zero` meets its contract. Assumes nothing.
use mathlib.Core.Path.{◌∙◌}
use Rattle.fifo.proofs.Zeros.{free_behind, no_place, free_around, free-between}
use Rattle.fifo.proofs.free_are_zero.Goals as goal

pub returns-then-place-eq0 : goal.returns-then-place-eq0
returns-then-place-eq0 c = c.are_zero.ensures ∙ free_behind c.args.memory.now c.args.place c.args.held c.requires.0 c.requires.1 c.if-place-eq0.true

pub returns-then-place-ge512 : goal.returns-then-place-ge512
returns-then-place-ge512 c = no_place c.args.memory.now c.args.place c.args.held c.requires.0 c.requires.1 c.if-place-ge512.true

pub returns-then-place-held-lt512 : goal.returns-then-place-held-lt512
returns-then-place-held-lt512 c =
    rw (c.are_zero-then-place-held-lt512.ensures, c.are_zero-then-place-held-lt512-2.ensures)
    (free_around c.args.memory.now c.args.place c.args.held c.requires.0 c.requires.1 c.if-place-held-lt512.true)

pub returns-else-place-held-lt512 : goal.returns-else-place-held-lt512
returns-else-place-held-lt512 c =
    c.are_zero-else-place-held-lt512.ensures
    ∙ free-between c.args.memory.now c.args.place c.args.held c.requires.0 c.requires.1 c.if-place-ge512.false c.if-place-held-lt512.false
