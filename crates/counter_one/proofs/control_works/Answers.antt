-- `counter_one::control_works` meets its contract: Control has the bits that it lists. Assumes nothing.
use Rattle.counter_modes.specs.Control.{command, setup_of}
use Rattle.counter_one.specs.Working.{control_works}
use Rattle.counter_one.proofs.Control.{in_mode_0, in_mode_2, not_listed}
use Rattle.counter_one.proofs.control_works.Goals as goal

pub returns-then-control-eq0 : goal.returns-then-control-eq0
unfolding control_works setup_of command
returns-then-control-eq0 c = rw c.if-control-eq0.true

pub returns-in-16 : goal.returns-in-16
returns-in-16 c = in_mode_0 _ _ _ c.in-16.is

pub returns-in-20 : goal.returns-in-20
returns-in-20 c = in_mode_2 _ _ _ c.in-20.is

pub returns-in_default : goal.returns-in_default
returns-in_default c = search not_listed
