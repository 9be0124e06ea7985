-- The pins keep a working board working.
use Rattle.std.specs.Prelude.{ℕ, ◌≤◌, refl, Bool, not, ◌&&◌}
use Rattle.base.specs.Flags.{on, flag-le}
use Rattle.requests.specs.Working as requests
use Rattle.converter.proofs.Working as converter
use Rattle.converter.specs.Channels.{external_trigger}
use Rattle.timer.specs.Kept.{clocked-works}
use Rattle.timer.specs.declared.Select.TheVariants.{Counter0}
use Rattle.ports.specs.Laws as ports
use Rattle.ports.specs.declared.Port.{Port}
use Rattle.machine_clock.specs.Clock.{gates, gates_at}
use Rattle.machine_pins.specs.Pins.{din_moved, din0_clocked, triggers_stopped, din3_triggered, din_set, latch_set, port_set}
use Rattle.machine_record.specs.Working.{WorkingMachine}
use Rattle.machine_record.specs.declared.Board.{Board}
use Rattle.machine_record.specs.Kept.{converter-kept, ports-kept, same-working}
use Rattle.machine_clock.specs.Kept.{gates-kept, timer-moved_works}

din-moved_works : (b : Board) (n : ℕ) → n ≤ 15 → WorkingMachine b → WorkingMachine (din_moved b n)
unfolding din_moved
din-moved_works b n h w = same-working _ _ (gates-kept b (gates_at b.registers.counting n) w) w.requests h w.latch refl refl refl refl refl refl refl

din0_works : (b : Board) (fell : Bool) → WorkingMachine b → WorkingMachine (din0_clocked b fell)
unfolding din0_clocked
din0_works b fell w = timer-moved_works b _ w (clocked-works _ Counter0 (gates b) _ w.clocks.timer)

din3_works : (b : Board) (fell : Bool) → WorkingMachine b → WorkingMachine (din3_triggered b fell)
unfolding din3_triggered
din3_works b fell w =
    converter-kept b w _
    (converter.triggered-works b.converter (external_trigger b.converter (on b.requests.clksel) fell (triggers_stopped b)) w.converter)

pub din-works : (b : Board) (n : ℕ) → n ≤ 15 → WorkingMachine b → WorkingMachine (din_set b n)
unfolding din_set
din-works b n h w = din3_works _ _ (din0_works _ _ (din-moved_works b n h w))

pub latch-works : (b : Board) (high : Bool) → WorkingMachine b → WorkingMachine (latch_set b high)
unfolding latch_set
latch-works b high w =
    same-working b _ w (requests.latch-works b.requests (not (on b.pins.latch) && high) w.requests) w.din (flag-le high) refl refl refl refl refl
    refl refl

pub port-works : (b : Board) (q : Port) (v : ℕ) → WorkingMachine b → WorkingMachine (port_set b q v)
unfolding port_set
port-works b q v w = ports-kept b w _ (ports.pins_works b.ports q v w.ports)
