-- What spoils a board's record, by numbers 05 to 4B hex: 05 to 23 stand here, those of the flags and of the place of the oldest sample in SpoiledFlags. Every
-- spoil acts on the record as it stands and leaves all that it does not name; another number leaves the whole record.
use Rattle.std.specs.Prelude.{ℕ, eqb, ltb, if◌then◌else◌}
use Rattle.calibration_registers.specs.declared.Calibration.{Calibration}
use Rattle.converter.specs.declared.channels.Converter.{Converter}
use Rattle.counter_one.specs.Counter.{unprogrammed, commanded}
use Rattle.counter_one.specs.declared.Counter.{Counter}
use Rattle.fifo.specs.declared.Fifo.{Fifo}
use Rattle.machine_record.specs.declared.Board.{Board}
use Rattle.machine_record.specs.declared.Clocks.{Clocks}
use Rattle.machine_record.specs.declared.Pins.{Pins}
use Rattle.machine_record.specs.declared.Registers.{Registers}
use Rattle.machine_record.specs.declared.Wiring.{Wiring}
use Rattle.outputs.specs.declared.Codes.{Codes}
use Rattle.outputs.specs.declared.Load.{Load}
use Rattle.outputs.specs.declared.Outputs.{Outputs}
use Rattle.ports.specs.declared.Ports.{Ports}
use Rattle.timer.specs.declared.Timer.{Timer}
use Rattle.cases_board_host.specs.SpoiledFlags.{damaged}

-- ---- sample memory
-- 05: 513 samples held. 06: 511 samples held and OVF set. 21: no sample held and OVF set
unfoldable pub spoiled_fifo : Fifo → ℕ → Fifo
spoiled_fifo f n =
    if eqb n 0x05 then record { held = 513; place = f.place; ovf = f.ovf }
    else if eqb n 0x06 then record { held = 511; place = f.place; ovf = 1 }
    else if eqb n 0x21 then record { held = 0; place = f.place; ovf = 1 }
    else f

-- ---- channels
-- 07: channel selected is 32. 08: low channel is 32. 09: high channel is 32. 0A: a conversion of channel 32 is in progress
unfoldable pub spoiled_converter : Converter → ℕ → Converter
spoiled_converter c n = record {
  low = if eqb n 0x08 then 32 else c.low;
  high = if eqb n 0x09 then 32 else c.high;
  selected = if eqb n 0x07 then 32 else c.selected;
  channel = if eqb n 0x0A then 32 else c.channel;
  converting = if eqb n 0x0A then 1 else c.converting;
  scanen = c.scanen;
  clken = c.clken;
}

-- ---- counters
abbrev pub with_one_to_load : Counter → Counter
with_one_to_load c = record {
  control = c.control;
  trigger = c.trigger;
  count = record {
    register = 1;
    element = c.count.element;
    out = c.count.out;
    waiting = c.count.waiting;
    loaded = c.count.loaded;
  };
  bus = c.bus;
}

abbrev pub with_out_low : Counter → Counter
with_out_low c = record {
  control = c.control;
  trigger = c.trigger;
  count = record {
    register = c.count.register;
    element = c.count.element;
    out = 0;
    waiting = c.count.waiting;
    loaded = c.count.loaded;
  };
  bus = c.bus;
}

-- control word 12 asks for mode 1
abbrev pub with_mode1 : Counter → Counter
with_mode1 c = record { control = 0x12; trigger = c.trigger; count = c.count; bus = c.bus }

-- as after control word 14, but has 1 to load. Control words 54 and 94 leave counters 1 and 2 so too: SC only names the counter
unfoldable pub one_to_load : Counter
one_to_load = with_one_to_load (commanded unprogrammed 0x14)

-- as on a fresh board, but its OUT is low
unfoldable pub out_low : Counter
out_low = with_out_low unprogrammed

-- as after control word 14, but its mode is 1
unfoldable pub mode1 : Counter
mode1 = with_mode1 (commanded unprogrammed 0x14)

-- a counter whose number for 1 to load is `one`, and for OUT low `low`
unfoldable pub spoiled_counter : Counter → ℕ → ℕ → ℕ → Counter
spoiled_counter c n one low = if eqb n one then one_to_load else if eqb n low then out_low else c

-- 1B: mode 1
unfoldable pub spoiled_counter0 : Counter → ℕ → Counter
spoiled_counter0 c n = if eqb n 0x1B then mode1 else spoiled_counter c n 0x0E 0x0F

-- 1 to load: 0E, 1D and 1E for counters 0, 1 and 2. OUT low: 0F, 1F and 20
unfoldable pub spoiled_timer : Timer → ℕ → Timer
spoiled_timer t n = record {
  counter0 = spoiled_counter0 t.counter0 n;
  counter1 = spoiled_counter t.counter1 n 0x1D 0x1F;
  counter2 = spoiled_counter t.counter2 n 0x1E 0x20;
}

-- ---- dividers
-- 0C: divider of 100 stands at 100. 0D: divider of 1,000 stands at 1,000
unfoldable pub spoiled_clocks : Clocks → ℕ → Clocks
spoiled_clocks k n = record {
  timer = spoiled_timer k.timer n;
  hundred = if eqb n 0x0C then 100 else k.hundred;
  thousand = if eqb n 0x0D then 1000 else k.thousand;
}

-- ---- outputs
-- 13: output channel 4 is loaded with code 0. 14: output channel 0 is loaded with code 4096
abbrev pub spoiled_load : Load → ℕ → Load
spoiled_load l n =
    if eqb n 0x13 then record { loaded = 1; channel = 4; code = 0 }
    else if eqb n 0x14 then record { loaded = 1; channel = 0; code = 4096 }
    else l

-- 12: code of output 0 is 4096. 1C: code of output 3 is 4096
abbrev pub spoiled_codes : Codes → ℕ → Codes
spoiled_codes k n = record {
  out0 = if eqb n 0x12 then 4096 else k.out0;
  out1 = k.out1;
  out2 = k.out2;
  out3 = if eqb n 0x1C then 4096 else k.out3;
}

-- 0B: DACBUSY has 101 ticks left
unfoldable pub spoiled_outputs : Outputs → ℕ → Outputs
spoiled_outputs o n = record {
  codes = spoiled_codes o.codes n;
  load = spoiled_load o.load n;
  lsb = o.lsb;
  busy = if eqb n 0x0B then 101 else o.busy;
}

-- ---- 8255
-- 15: bit 7 clear. 16: ModeC set. 22: ModeA set. 23: ModeB set
abbrev pub spoiled_control : ℕ → ℕ → ℕ
spoiled_control v n =
    if eqb n 0x15 then 0x1B
    else if eqb n 0x16 then 0xDB
    else if eqb n 0x22 then 0xBB
    else if eqb n 0x23 then 0x9F
    else v

unfoldable pub spoiled_ports : Ports → ℕ → Ports
spoiled_ports p n = record { control = spoiled_control p.control n; latches = p.latches; pins = p.pins }

-- ---- calibration
-- 17: a transfer of unknown kind runs. 18: calibration address is 128
unfoldable pub spoiled_calibration : Calibration → ℕ → Calibration
spoiled_calibration c n = record {
  value = c.value;
  address = if eqb n 0x18 then 128 else c.address;
  transfer = if eqb n 0x17 then 99 else c.transfer;
  key = c.key;
  cmuxen = c.cmuxen;
  trim = c.trim;
}

-- ---- registers, pins and jumpers
-- 11: page is 4. 1A: range code is 16
unfoldable pub spoiled_registers : Registers → ℕ → Registers
spoiled_registers r n = record {
  page = if eqb n 0x11 then 4 else r.page;
  dout = r.dout;
  counting = r.counting;
  range = if eqb n 0x1A then 16 else r.range;
}

-- 10: DIN is 16
unfoldable pub spoiled_pins : Pins → ℕ → Pins
spoiled_pins p n = record { din = if eqb n 0x10 then 16 else p.din; latch = p.latch }

-- 19: jumpers are 4
unfoldable pub spoiled_wiring : Wiring → ℕ → Wiring
spoiled_wiring w n = record { inputs = if eqb n 0x19 then 4 else w.inputs; zeroscale = w.zeroscale }

-- ---- the board
-- 05 to 23: something out of its range
unfoldable pub spoiled_ranges : Board → ℕ → Board
spoiled_ranges b n = record {
  converter = spoiled_converter b.converter n;
  requests = b.requests;
  fifo = spoiled_fifo b.fifo n;
  registers = spoiled_registers b.registers n;
  outputs = spoiled_outputs b.outputs n;
  clocks = spoiled_clocks b.clocks n;
  ports = spoiled_ports b.ports n;
  calibration = spoiled_calibration b.calibration n;
  pins = spoiled_pins b.pins n;
  wiring = spoiled_wiring b.wiring n;
}

-- 24 and more: a flag that is neither 0 nor 1
unfoldable pub spoiled : Board → ℕ → Board
spoiled b n = if ltb n 0x24 then spoiled_ranges b n else damaged b n
