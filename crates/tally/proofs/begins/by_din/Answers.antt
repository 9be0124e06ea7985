-- `tally::begins::by_din` meets its contract. Assumes nothing.
use mathlib.Core.Path.{refl}
use Rattle.machine_pins.specs.Pins.{din_moved}
use Rattle.tally.proofs.begins.by_din.Goals as goal

pub returns : goal.returns
unfolding din_moved
returns c = refl
