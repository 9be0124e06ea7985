-- The board with one part replaced.
use Rattle.converter.specs.declared.channels.Converter.{Converter}
use Rattle.requests.specs.declared.Requests.{Requests}
use Rattle.fifo.specs.declared.Fifo.{Fifo}
use Rattle.machine_record.specs.declared.Registers.{Registers}
use Rattle.outputs.specs.declared.Outputs.{Outputs}
use Rattle.machine_record.specs.declared.Clocks.{Clocks}
use Rattle.ports.specs.declared.Ports.{Ports}
use Rattle.calibration_registers.specs.declared.Calibration.{Calibration}
use Rattle.machine_record.specs.declared.Pins.{Pins}
use Rattle.machine_record.specs.declared.Board.{Board}

abbrev pub with_converter : Board → Converter → Board
with_converter b x = record {
  converter = x;
  requests = b.requests;
  fifo = b.fifo;
  registers = b.registers;
  outputs = b.outputs;
  clocks = b.clocks;
  ports = b.ports;
  calibration = b.calibration;
  pins = b.pins;
  wiring = b.wiring;
}

abbrev pub with_requests : Board → Requests → Board
with_requests b x = record {
  converter = b.converter;
  requests = x;
  fifo = b.fifo;
  registers = b.registers;
  outputs = b.outputs;
  clocks = b.clocks;
  ports = b.ports;
  calibration = b.calibration;
  pins = b.pins;
  wiring = b.wiring;
}

abbrev pub with_fifo : Board → Fifo → Board
with_fifo b x = record {
  converter = b.converter;
  requests = b.requests;
  fifo = x;
  registers = b.registers;
  outputs = b.outputs;
  clocks = b.clocks;
  ports = b.ports;
  calibration = b.calibration;
  pins = b.pins;
  wiring = b.wiring;
}

abbrev pub with_registers : Board → Registers → Board
with_registers b x = record {
  converter = b.converter;
  requests = b.requests;
  fifo = b.fifo;
  registers = x;
  outputs = b.outputs;
  clocks = b.clocks;
  ports = b.ports;
  calibration = b.calibration;
  pins = b.pins;
  wiring = b.wiring;
}

abbrev pub with_outputs : Board → Outputs → Board
with_outputs b x = record {
  converter = b.converter;
  requests = b.requests;
  fifo = b.fifo;
  registers = b.registers;
  outputs = x;
  clocks = b.clocks;
  ports = b.ports;
  calibration = b.calibration;
  pins = b.pins;
  wiring = b.wiring;
}

abbrev pub with_clocks : Board → Clocks → Board
with_clocks b x = record {
  converter = b.converter;
  requests = b.requests;
  fifo = b.fifo;
  registers = b.registers;
  outputs = b.outputs;
  clocks = x;
  ports = b.ports;
  calibration = b.calibration;
  pins = b.pins;
  wiring = b.wiring;
}

abbrev pub with_ports : Board → Ports → Board
with_ports b x = record {
  converter = b.converter;
  requests = b.requests;
  fifo = b.fifo;
  registers = b.registers;
  outputs = b.outputs;
  clocks = b.clocks;
  ports = x;
  calibration = b.calibration;
  pins = b.pins;
  wiring = b.wiring;
}

abbrev pub with_calibration : Board → Calibration → Board
with_calibration b x = record {
  converter = b.converter;
  requests = b.requests;
  fifo = b.fifo;
  registers = b.registers;
  outputs = b.outputs;
  clocks = b.clocks;
  ports = b.ports;
  calibration = x;
  pins = b.pins;
  wiring = b.wiring;
}

abbrev pub with_pins : Board → Pins → Board
with_pins b x = record {
  converter = b.converter;
  requests = b.requests;
  fifo = b.fifo;
  registers = b.registers;
  outputs = b.outputs;
  clocks = b.clocks;
  ports = b.ports;
  calibration = b.calibration;
  pins = x;
  wiring = b.wiring;
}
