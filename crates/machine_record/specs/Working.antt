-- A working board, its sample memory apart. The specification, "What is delivered": "Every register, channel, port, counter and divider is
-- within its width or range, DACBUSY has at most 100 ticks left, ...; no mode 2 counter has 1 to load, and an unprogrammed counter's OUT is high."
use Rattle.std.specs.Prelude.{◌≤◌, ◌≡◌, Bool, true, ◌&&◌, List, [], ◌∷◌, leb}
use Rattle.std.proofs.Common.{leb-true, le-leb}
use Rattle.base.specs.Laws.{both}
use Rattle.base.specs.Tests.{all, each, every}
use Rattle.converter.specs.Working as converter
use Rattle.requests.specs.Working.{WorkingRequests, is_working_requests, requests_of, requests-to}
use Rattle.outputs.specs.Working.{WorkingOutputs, is_working_outputs}
use Rattle.outputs.specs.Laws.{outputs_of, outputs-to}
use Rattle.timer.specs.Working.{WorkingTimer, timer_flags_work, controls_work, timer_of, timer-to}
use Rattle.ports.specs.Working.{WorkingPorts, is_working_ports}
use Rattle.ports.specs.Laws.{ports_of, ports-to}
use Rattle.calibration_registers.specs.Working.{WorkingCalibration, is_working_calibration}
use Rattle.calibration_registers.specs.Laws.{calibration_of, calibration-to}
use Rattle.machine_record.specs.declared.Registers.{Registers}
use Rattle.machine_record.specs.declared.Clocks.{Clocks}
use Rattle.machine_record.specs.declared.Pins.{Pins}
use Rattle.machine_record.specs.declared.Wiring.{Wiring}
use Rattle.machine_record.specs.declared.Board.{Board}

-- four pages, three DOUT bits, four bits of Base+11; Base+10 is any byte
pub record WorkingRegisters (r : Registers) : Type 0 where
  pub page : r.page ≤ 3
  pub dout : r.dout ≤ 7
  pub range : r.range ≤ 15

pub record WorkingClocks (k : Clocks) : Type 0 where
  pub timer : WorkingTimer k.timer
  pub hundred : k.hundred ≤ 99
  pub thousand : k.thousand ≤ 999

pub record WorkingMachine (b : Board) : Type 0 where
  pub converter : converter.WorkingConverter b.converter
  pub requests : WorkingRequests b.requests
  pub registers : WorkingRegisters b.registers
  pub outputs : WorkingOutputs b.outputs
  pub clocks : WorkingClocks b.clocks
  pub ports : WorkingPorts b.ports
  pub calibration : WorkingCalibration b.calibration
  pub din : b.pins.din ≤ 15
  pub latch : b.pins.latch ≤ 1
  pub inputs : b.wiring.inputs ≤ 3
  pub zeroscale : b.wiring.zeroscale ≤ 1

-- the tests; the timer's control bits are looked at last
abbrev pub register_tests : Registers → List Bool
register_tests r = leb r.page 3 ∷ leb r.dout 7 ∷ leb r.range 15 ∷ []

abbrev pub pin_tests : Pins → Wiring → List Bool
pin_tests p w = leb p.din 15 ∷ leb p.latch 1 ∷ leb w.inputs 3 ∷ leb w.zeroscale 1 ∷ []

abbrev pub most_tests : Board → List Bool
most_tests b =
    converter.is_working_converter b.converter
    ∷ is_working_requests b.requests
    ∷ all (register_tests b.registers)
    ∷ is_working_outputs b.outputs
    ∷ leb b.clocks.hundred 99
    ∷ leb b.clocks.thousand 999
    ∷ is_working_ports b.ports
    ∷ is_working_calibration b.calibration
    ∷ all (pin_tests b.pins b.wiring)
    ∷ timer_flags_work b.clocks.timer
    ∷ []

unfoldable pub is_working_machine : Board → Bool
is_working_machine b = all (most_tests b) && controls_work b.clocks.timer

-- ---- the test holds where the facts do, and only there
pub machine_of : (b : Board) → is_working_machine b ≡ true → WorkingMachine b
unfolding is_working_machine
machine_of b h =
    let w = both (all (most_tests b)) (controls_work b.clocks.timer) h in
    let e = each (most_tests b) w.0 in
    let r = each (register_tests b.registers) e.1.1.0 in
    let p = each (pin_tests b.pins b.wiring) e.1.1.1.1.1.1.1.1.0 in
    record {
      converter = converter.converter_of _ e.0;
      requests = requests_of _ e.1.0;
      registers = record { page = leb-true _ _ r.0; dout = leb-true _ _ r.1.0; range = leb-true _ _ r.1.1.0 };
      outputs = outputs_of _ e.1.1.1.0;
      clocks =
          record {
            timer = timer_of _ (rw e.1.1.1.1.1.1.1.1.1.0 w.1);
            hundred = leb-true _ _ e.1.1.1.1.0;
            thousand = leb-true _ _ e.1.1.1.1.1.0;
          };
      ports = ports_of _ e.1.1.1.1.1.1.0;
      calibration = calibration_of _ e.1.1.1.1.1.1.1.0;
      din = leb-true _ _ p.0;
      latch = leb-true _ _ p.1.0;
      inputs = leb-true _ _ p.1.1.0;
      zeroscale = leb-true _ _ p.1.1.1.0;
    }

pub machine-to : (b : Board) → WorkingMachine b → is_working_machine b ≡ true
unfolding is_working_machine
machine-to b w =
    let c = converter.converter-to _ w.converter in
    let r = requests-to _ w.requests in
    let g = every (register_tests b.registers) (search le-leb) in
    let o = outputs-to _ w.outputs in
    let p = ports-to _ w.ports in
    let k = calibration-to _ w.calibration in
    let i = every (pin_tests b.pins b.wiring) (search le-leb) in
    let t = both (timer_flags_work b.clocks.timer) (controls_work b.clocks.timer) (timer-to _ w.clocks.timer) in
    let f = t.0 in
    rw (every (most_tests b) (search (le-leb, c, r, g, o, p, k, i, f) depth 24)) t.1
