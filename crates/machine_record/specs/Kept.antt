-- A working board with one part replaced by a working one is working; a fresh board is working.
use Rattle.std.specs.Prelude.{◌≤◌, ◌≡◌, Bool}
use Rattle.std.proofs.Common.{arith}
use Rattle.base.specs.Flags.{flag-le}
use Rattle.converter.specs.Working as converter
use Rattle.requests.specs.Working as requests
use Rattle.requests.specs.Working.{WorkingRequests}
use Rattle.converter.specs.declared.channels.Converter.{Converter}
use Rattle.outputs.specs.Working.{WorkingOutputs}
use Rattle.outputs.specs.Laws as outputs
use Rattle.outputs.specs.declared.Outputs.{Outputs}
use Rattle.timer.specs.Kept.{unprogrammed-timer_works}
use Rattle.ports.specs.Laws as ports
use Rattle.ports.specs.Working.{WorkingPorts}
use Rattle.ports.specs.declared.Ports.{Ports}
use Rattle.calibration_registers.specs.Laws as calibration
use Rattle.calibration_registers.specs.Working.{WorkingCalibration}
use Rattle.calibration_registers.specs.declared.Calibration.{Calibration}
use Rattle.machine_record.specs.Parts.{with_converter, with_registers, with_outputs, with_clocks, with_ports, with_calibration}
use Rattle.machine_record.specs.Fresh.{fresh_board, jumpers_number}
use Rattle.machine_record.specs.Working.{WorkingRegisters, WorkingClocks, WorkingMachine}
use Rattle.machine_record.specs.declared.Jumpers.{Jumpers}
use Rattle.machine_record.specs.declared.Jumpers.TheVariants.{A, B, C, D}
use Rattle.machine_record.specs.declared.Registers.{Registers}
use Rattle.machine_record.specs.declared.Clocks.{Clocks}
use Rattle.machine_record.specs.declared.Board.{Board}

-- ---- a working board with one part replaced by a working one
module _ (b : Board) (w : WorkingMachine b) where
  pub converter-kept : (x : Converter) → converter.WorkingConverter x → WorkingMachine (with_converter b x)
  converter-kept x k = record {
    converter = k;
    requests = w.requests;
    registers = w.registers;
    outputs = w.outputs;
    clocks = w.clocks;
    ports = w.ports;
    calibration = w.calibration;
    din = w.din;
    latch = w.latch;
    inputs = w.inputs;
    zeroscale = w.zeroscale;
  }

  pub registers-kept : (x : Registers) → WorkingRegisters x → WorkingMachine (with_registers b x)
  registers-kept x k = record {
    converter = w.converter;
    requests = w.requests;
    registers = k;
    outputs = w.outputs;
    clocks = w.clocks;
    ports = w.ports;
    calibration = w.calibration;
    din = w.din;
    latch = w.latch;
    inputs = w.inputs;
    zeroscale = w.zeroscale;
  }

  pub outputs-kept : (x : Outputs) → WorkingOutputs x → WorkingMachine (with_outputs b x)
  outputs-kept x k = record {
    converter = w.converter;
    requests = w.requests;
    registers = w.registers;
    outputs = k;
    clocks = w.clocks;
    ports = w.ports;
    calibration = w.calibration;
    din = w.din;
    latch = w.latch;
    inputs = w.inputs;
    zeroscale = w.zeroscale;
  }

  pub clocks-kept : (x : Clocks) → WorkingClocks x → WorkingMachine (with_clocks b x)
  clocks-kept x k = record {
    converter = w.converter;
    requests = w.requests;
    registers = w.registers;
    outputs = w.outputs;
    clocks = k;
    ports = w.ports;
    calibration = w.calibration;
    din = w.din;
    latch = w.latch;
    inputs = w.inputs;
    zeroscale = w.zeroscale;
  }

  pub ports-kept : (x : Ports) → WorkingPorts x → WorkingMachine (with_ports b x)
  ports-kept x k = record {
    converter = w.converter;
    requests = w.requests;
    registers = w.registers;
    outputs = w.outputs;
    clocks = w.clocks;
    ports = k;
    calibration = w.calibration;
    din = w.din;
    latch = w.latch;
    inputs = w.inputs;
    zeroscale = w.zeroscale;
  }

  pub calibration-kept : (x : Calibration) → WorkingCalibration x → WorkingMachine (with_calibration b x)
  calibration-kept x k = record {
    converter = w.converter;
    requests = w.requests;
    registers = w.registers;
    outputs = w.outputs;
    clocks = w.clocks;
    ports = w.ports;
    calibration = k;
    din = w.din;
    latch = w.latch;
    inputs = w.inputs;
    zeroscale = w.zeroscale;
  }

-- with a sample memory of any kind, working requests, DIN within its width and a Latch level
pub same-working : (b c : Board) → WorkingMachine b → WorkingRequests c.requests → c.pins.din ≤ 15 → c.pins.latch ≤ 1
    → c.converter ≡ b.converter → c.registers ≡ b.registers → c.outputs ≡ b.outputs → c.clocks ≡ b.clocks → c.ports ≡ b.ports
    → c.calibration ≡ b.calibration → c.wiring ≡ b.wiring → WorkingMachine c
same-working b c w r d l p0 p1 p2 p3 p4 p5 p6 = record {
  converter = rw p0 w.converter;
  requests = r;
  registers = rw p1 w.registers;
  outputs = rw p2 w.outputs;
  clocks = rw p3 w.clocks;
  ports = rw p4 w.ports;
  calibration = rw p5 w.calibration;
  din = d;
  latch = l;
  inputs = rw p6 w.inputs;
  zeroscale = rw p6 w.zeroscale;
}

-- ---- the fresh board
inputs_in_range : (j : Jumpers) → jumpers_number j ≤ 3
inputs_in_range A = omega arith
inputs_in_range B = omega arith
inputs_in_range C = omega arith
inputs_in_range D = omega arith

pub fresh-working : (j : Jumpers) (zeroscale : Bool) → WorkingMachine (fresh_board j zeroscale)
fresh-working j zeroscale = record {
  converter = converter.fresh-works;
  requests = requests.fresh-works;
  registers = record { page = omega arith; dout = omega arith; range = omega arith };
  outputs = outputs.reset-a_works zeroscale;
  clocks = record { timer = unprogrammed-timer_works; hundred = omega arith; thousand = omega arith };
  ports = ports.fresh-works;
  calibration = calibration.fresh-works;
  din = omega arith;
  latch = omega arith;
  inputs = inputs_in_range j;
  zeroscale = flag-le zeroscale;
}
