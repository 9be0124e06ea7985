-- Base+8 write: RESETA bit 5, RESETD bit 4, INTRST bit 3, page bits 1-0 (manual, Base+8; the specification, register 8). Manual 16.1 and
-- 17.3 say that a reset bit leaves the page bits; the specification zeroes the page.
use Rattle.std.specs.Prelude.{ℕ, ◌%◌, Bool, ◌||◌, if◌then◌else◌}
use Rattle.base.specs.Flags.{on}
use Rattle.base.specs.Fields.{bit}
use Rattle.converter.specs.Registers.{fresh_converter}
use Rattle.requests.specs.Registers.{fresh_requests}
use Rattle.requests.specs.Requests.{flags_cleared}
use Rattle.outputs.specs.Outputs.{reset_a, reset_d}
use Rattle.outputs.specs.declared.Outputs.{Outputs}
use Rattle.timer.specs.Timer.{gates_moved}
use Rattle.ports.specs.Ports.{reset_ports}
use Rattle.calibration_registers.specs.Registers.{key_forgotten, reset_calibration}
use Rattle.machine_record.specs.Parts.{with_requests, with_registers, with_calibration}
use Rattle.machine_record.specs.Fresh.{fresh_registers}
use Rattle.machine_clock.specs.Clock.{gates, gates_at, with_timer}
use Rattle.machine_record.specs.declared.Registers.{Registers}
use Rattle.machine_record.specs.declared.Board.{Board}

-- "RESETA also sets outputs to 2048, or 0 by jumper"
abbrev pub outputs_reset : Outputs → Bool → Bool → Outputs
outputs_reset o analog zeroscale = if analog then reset_a zeroscale else reset_d o

-- "A reset zeroes all registers, page, selected channel and request flags, forgets the key, ..., abandons conversion and transfer, ends
-- DACBUSY and drops its load, makes ports inputs ... Counters, dividers, pins, TrimDAC and EEPROM remain", but for gates that Base+10 = 0
-- moves. The sample memory is emptied by the board.
unfoldable pub board_reset : Board → Bool → Board
board_reset b analog = record {
  converter = fresh_converter;
  requests = fresh_requests;
  fifo = b.fifo;
  registers = fresh_registers;
  outputs = outputs_reset b.outputs analog (on b.wiring.zeroscale);
  clocks = with_timer b.clocks (gates_moved b.clocks.timer (gates b) (gates_at 0 b.pins.din));
  ports = reset_ports b.ports;
  calibration = reset_calibration b.calibration;
  pins = b.pins;
  wiring = b.wiring;
}

-- "INTRST clears all three request flags and leaves page and key alone"
unfoldable pub requests_cleared : Board → Board
requests_cleared b = with_requests b (flags_cleared b.requests)

-- "Otherwise the page is set and the key forgotten"
abbrev pub with_page : Registers → ℕ → Registers
with_page r page = record { page = page; dout = r.dout; counting = r.counting; range = r.range }

unfoldable pub page_set : Board → ℕ → Board
page_set b v = with_calibration (with_registers b (with_page b.registers (v % 4))) (key_forgotten b.calibration)

abbrev pub is_reset : ℕ → Bool
is_reset v = bit v 5 || bit v 4

-- "If both, RESETA"; "Reset beats INTRST"
unfoldable pub misc_written : Board → ℕ → Board
misc_written b v =
    if is_reset v then board_reset b (bit v 5)
    else if bit v 3 then requests_cleared b
    else page_set b v
