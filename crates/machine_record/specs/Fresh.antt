-- A fresh board. The specification, "What is delivered": "A fresh board is as after RESETA, with counters unprogrammed, dividers at 0,
-- DIN 15, Latch and port pins 0, EEPROM and TrimDAC 0."
use Rattle.std.specs.Prelude.{ℕ, Bool, eqb, if◌then◌else◌}
use Rattle.base.specs.Flags.{flag}
use Rattle.converter.specs.Registers.{fresh_converter}
use Rattle.requests.specs.Registers.{fresh_requests}
use Rattle.fifo.specs.Queue.{empty_fifo}
use Rattle.outputs.specs.Outputs.{reset_a}
use Rattle.timer.specs.Timer.{unprogrammed_timer}
use Rattle.ports.specs.Ports.{fresh_ports}
use Rattle.calibration_registers.specs.Registers.{fresh_calibration}
use Rattle.machine_record.specs.declared.Jumpers.{Jumpers}
use Rattle.machine_record.specs.declared.Jumpers.TheVariants.{A, B, C, D}
use Rattle.machine_record.specs.declared.Registers.{Registers}
use Rattle.machine_record.specs.declared.Board.{Board}

-- how the record keeps the channel configuration of manual 5.4
abbrev pub jumpers_number : Jumpers → ℕ
jumpers_number A = 0
jumpers_number B = 1
jumpers_number C = 2
jumpers_number D = 3

-- and back; of any other number, D
abbrev pub jumpers_of : ℕ → Jumpers
jumpers_of n =
    if eqb n 0 then A
    else if eqb n 1 then B
    else if eqb n 2 then C
    else D

abbrev pub fresh_registers : Registers
fresh_registers = record { page = 0; dout = 0; counting = 0; range = 0 }

abbrev pub fresh_board : Jumpers → Bool → Board
fresh_board j zeroscale = record {
  converter = fresh_converter;
  requests = fresh_requests;
  fifo = empty_fifo;
  registers = fresh_registers;
  outputs = reset_a zeroscale;
  clocks = record { timer = unprogrammed_timer; hundred = 0; thousand = 0 };
  ports = fresh_ports;
  calibration = fresh_calibration;
  pins = record { din = 15; latch = 0 };
  wiring = record { inputs = jumpers_number j; zeroscale = flag zeroscale };
}
