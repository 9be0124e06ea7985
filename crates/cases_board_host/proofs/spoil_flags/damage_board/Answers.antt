-- `cases_board_host::spoil_flags::damage_board` meets its contract. Assumes nothing.
use Rattle.cases_board_host.specs.SpoiledFlags.{damaged}
use Rattle.cases_board_host.proofs.spoil_flags.damage_board.Goals as goal

pub returns : goal.returns
unfolding damaged
returns c =
    simp (
      c.damage_wiring.ensures,
      c.damage_pins.ensures,
      c.damage_calibration.ensures,
      c.damage_clocks.ensures,
      c.damage_outputs.ensures,
      c.damage_fifo.ensures,
      c.damage_requests.ensures,
      c.damage_converter.ensures,
    )
