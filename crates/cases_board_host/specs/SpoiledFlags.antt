-- What damages a flag of a board's record, by numbers 24 to 49 hex in the order of the record (struct dmm32_board of include/cowriestep.h):
-- the flag of that number becomes 2, and all else stays. 4A and 4B damage the place of the oldest sample. Another number leaves the whole record.
use Rattle.std.specs.Prelude.{ℕ, ◌-◌, eqb, ltb, if◌then◌else◌}
use Rattle.calibration_registers.specs.declared.Calibration.{Calibration}
use Rattle.converter.specs.declared.channels.Converter.{Converter}
use Rattle.counter_one.specs.declared.Counter.{Counter}
use Rattle.counter_bytes.specs.declared.Bus.{Bus}
use Rattle.counter_element.specs.declared.Count.{Count}
use Rattle.fifo.specs.declared.Fifo.{Fifo}
use Rattle.machine_record.specs.declared.Board.{Board}
use Rattle.machine_record.specs.declared.Clocks.{Clocks}
use Rattle.machine_record.specs.declared.Pins.{Pins}
use Rattle.machine_record.specs.declared.Wiring.{Wiring}
use Rattle.outputs.specs.declared.Load.{Load}
use Rattle.outputs.specs.declared.Outputs.{Outputs}
use Rattle.requests.specs.declared.Flags.{Flags}
use Rattle.requests.specs.declared.Requests.{Requests}
use Rattle.timer.specs.declared.Timer.{Timer}

-- a flag whose own number is `own`
unfoldable pub damaged_flag : ℕ → ℕ → ℕ → ℕ
damaged_flag v n own = if eqb n own then 2 else v

-- ---- channels and conversions: 24 to 26
unfoldable pub damaged_converter : Converter → ℕ → Converter
damaged_converter c n = record {
  low = c.low;
  high = c.high;
  selected = c.selected;
  channel = c.channel;
  converting = damaged_flag c.converting n 0x24;
  scanen = damaged_flag c.scanen n 0x25;
  clken = damaged_flag c.clken n 0x26;
}

-- ---- requests: 27 to 2B, and the request flags 2C to 2E
abbrev pub damaged_asked : Flags → ℕ → Flags
damaged_asked f n = record {
  adint = damaged_flag f.adint n 0x2C;
  dint = damaged_flag f.dint n 0x2D;
  tint = damaged_flag f.tint n 0x2E;
}

unfoldable pub damaged_requests : Requests → ℕ → Requests
damaged_requests r n = record {
  threshold = r.threshold;
  fifoen = damaged_flag r.fifoen n 0x27;
  clksel = damaged_flag r.clksel n 0x28;
  adinte = damaged_flag r.adinte n 0x29;
  dinte = damaged_flag r.dinte n 0x2A;
  tinte = damaged_flag r.tinte n 0x2B;
  flags = damaged_asked r.flags n;
}

-- ---- sample memory: 2F; 4A, the place of the oldest is 512; 4B, none held and the place 5
unfoldable pub damaged_fifo : Fifo → ℕ → Fifo
damaged_fifo f n = record {
  held = if eqb n 0x4B then 0 else f.held;
  place = if eqb n 0x4A then 512 else if eqb n 0x4B then 5 else f.place;
  ovf = damaged_flag f.ovf n 0x2F;
}

-- ---- outputs: 30

abbrev pub damaged_load : Load → ℕ → Load
damaged_load l n = record { loaded = damaged_flag l.loaded n 0x30; channel = l.channel; code = l.code }

unfoldable pub damaged_outputs : Outputs → ℕ → Outputs
damaged_outputs o n = record { codes = o.codes; load = damaged_load o.load n; lsb = o.lsb; busy = o.busy }

-- ---- counters: each has seven flags, and the first has number 31, 38, 3F in counters 0, 1, 2
-- the place of a number among them: 0 to 6, or 7 and more where it is of no flag of this counter
unfoldable pub place_from : ℕ → ℕ → ℕ
place_from n first = if ltb n first then 7 else n - first

unfoldable pub damaged_count : Count → ℕ → Count
damaged_count c at = record {
  register = c.register;
  element = c.element;
  out = damaged_flag c.out at 1;
  waiting = damaged_flag c.waiting at 2;
  loaded = damaged_flag c.loaded at 3;
}

unfoldable pub damaged_bus : Bus → ℕ → Bus
damaged_bus s at = record {
  latch = s.latch;
  latched = damaged_flag s.latched at 4;
  halfread = damaged_flag s.halfread at 5;
  first = s.first;
  halfwritten = damaged_flag s.halfwritten at 6;
}

unfoldable pub damaged_counter : Counter → ℕ → Counter
damaged_counter c at = record {
  control = c.control;
  trigger = damaged_flag c.trigger at 0;
  count = damaged_count c.count at;
  bus = damaged_bus c.bus at;
}

unfoldable pub damaged_timer : Timer → ℕ → Timer
damaged_timer t n = record {
  counter0 = damaged_counter t.counter0 (place_from n 0x31);
  counter1 = damaged_counter t.counter1 (place_from n 0x38);
  counter2 = damaged_counter t.counter2 (place_from n 0x3F);
}

unfoldable pub damaged_clocks : Clocks → ℕ → Clocks
damaged_clocks k n = record { timer = damaged_timer k.timer n; hundred = k.hundred; thousand = k.thousand }

-- ---- calibration, the Latch pin and the zero-scale jumper: 46 to 49
unfoldable pub damaged_calibration : Calibration → ℕ → Calibration
damaged_calibration c n = record {
  value = c.value;
  address = c.address;
  transfer = c.transfer;
  key = damaged_flag c.key n 0x46;
  cmuxen = damaged_flag c.cmuxen n 0x47;
  trim = c.trim;
}

abbrev pub damaged_pins : Pins → ℕ → Pins
damaged_pins p n = record { din = p.din; latch = damaged_flag p.latch n 0x48 }

abbrev pub damaged_wiring : Wiring → ℕ → Wiring
damaged_wiring w n = record { inputs = w.inputs; zeroscale = damaged_flag w.zeroscale n 0x49 }

-- ---- the board
unfoldable pub damaged : Board → ℕ → Board
damaged b n = record {
  converter = damaged_converter b.converter n;
  requests = damaged_requests b.requests n;
  fifo = damaged_fifo b.fifo n;
  registers = b.registers;
  outputs = damaged_outputs b.outputs n;
  clocks = damaged_clocks b.clocks n;
  ports = b.ports;
  calibration = damaged_calibration b.calibration n;
  pins = damaged_pins b.pins n;
  wiring = damaged_wiring b.wiring n;
}
