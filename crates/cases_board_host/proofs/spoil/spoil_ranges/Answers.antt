-- `cases_board_host::spoil::spoil_ranges` meets its contract. Assumes nothing.
use Rattle.cases_board_host.specs.Spoils.{spoiled_ranges}
use Rattle.cases_board_host.proofs.spoil.spoil_ranges.Goals as goal

pub returns : goal.returns
unfolding spoiled_ranges
returns c =
    simp (
      c.spoil_wiring.ensures,
      c.spoil_pins.ensures,
      c.spoil_registers.ensures,
      c.spoil_calibration.ensures,
      c.spoil_ports.ensures,
      c.spoil_outputs.ensures,
      c.spoil_clocks.ensures,
      c.spoil_channels.ensures,
      c.spoil_fifo.ensures,
    )
