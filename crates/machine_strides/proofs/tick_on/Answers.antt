-- `machine_strides::tick_on` meets its contract, by a law for each way out. Assumes nothing.
use mathlib.Core.Path.{sym, ◌∙◌}
use Rattle.machine_strides.specs.Settled.{are_settled}
use Rattle.machine_strides.proofs.tick_on.Goals as goal

pub is_settled-requires : goal.is_settled-requires
is_settled-requires c = c.requires

pub tick_faces-requires : goal.tick_faces-requires
tick_faces-requires c =
    are_settled c.args.by.counting c.args.by.gates c.args.ticks c.args.l
    c.requires (sym c.is_settled.ensures ∙ c.if-is_settled.true)

pub tick_each-requires : goal.tick_each-requires
tick_each-requires c = c.requires

pub returns-then-is_settled : goal.returns-then-is_settled
returns-then-is_settled c = c.tick_faces.ensures c.args.heard0

pub returns-else-is_settled : goal.returns-else-is_settled
returns-else-is_settled c = c.tick_each.ensures
