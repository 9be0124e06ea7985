-- `numbers::stepping::conversion_end` meets its contract. Assumes nothing.
use mir.Facts.{to_z-of_z}
use Rattle.numbers.proofs.Arms.{in_numbers}
use Rattle.numbers.proofs.stepping.conversion_end.Goals as goal

pub returns : goal.returns
returns c =
    in_numbers c.in_numbers.ensures
    (rw (to_z-of_z c.ranges.code) at
    c.conversion_end.ensures)
