-- `numbers::stepping::port_pins` meets its contract. Assumes nothing.
use Rattle.numbers.proofs.Arms.{in_numbers}
use Rattle.numbers.proofs.stepping.port_pins.Goals as goal

pub returns : goal.returns
returns c = in_numbers c.in_numbers.ensures c.port_pins.ensures
