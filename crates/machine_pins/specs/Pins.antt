-- Pins (manual, Base+4, Base+9, Base+10 and 16.5; the specification, "Conversions, edges and requests").
use Rattle.std.specs.Prelude.{ℕ, Bool, not, ◌&&◌}
use Rattle.base.specs.Flags.{on, flag}
use Rattle.base.specs.Fields.{bit}
use Rattle.converter.specs.Channels.{external_triggered}
use Rattle.requests.specs.Requests.{asked_latch}
use Rattle.timer.specs.Timer.{clocked_if, gates_moved}
use Rattle.timer.specs.declared.Select.TheVariants.{Counter0}
use Rattle.ports.specs.Ports.{pins_set}
use Rattle.ports.specs.declared.Port.{Port}
use Rattle.machine_record.specs.Parts.{with_converter, with_requests, with_clocks, with_ports, with_pins}
use Rattle.machine_clock.specs.Clock.{gates, gates_at, with_timer, timer_moved}
use Rattle.machine_record.specs.declared.Board.{Board}

-- ---- DIN3-0: "In a pin event gates change first, then counter 0's clock, then the trigger"
-- the line of weight w falls
abbrev pub fell_from : ℕ → ℕ → ℕ → Bool
fell_from was is n = bit was n && not (bit is n)

-- all lines take their levels together, and the gates follow
unfoldable pub din_moved : Board → ℕ → Board
din_moved b din =
    with_pins
    (with_clocks b (with_timer b.clocks (gates_moved b.clocks.timer (gates b) (gates_at b.registers.counting din))))
    (record { din = din; latch = b.pins.latch })

-- "SRC0=1 clocks counter 0 by falling DIN0"
unfoldable pub din0_clocked : Board → Bool → Board
din0_clocked b fallen = timer_moved b (clocked_if b.clocks.timer Counter0 (gates b) (bit b.registers.counting 1 && fallen))

-- "GT12EN with DIN2=0 stops DIN3 triggers"
abbrev pub triggers_stopped : Board → Bool
triggers_stopped b = bit b.registers.counting 0 && not (bit b.pins.din 2)

unfoldable pub din3_triggered : Board → Bool → Board
din3_triggered b fallen =
    with_converter b (external_triggered b.converter (on b.requests.clksel) fallen (triggers_stopped b))

unfoldable pub din_set : Board → ℕ → Board
din_set b din = din3_triggered (din0_clocked (din_moved b din) (fell_from b.pins.din din 0)) (fell_from b.pins.din din 3)

-- ---- the Latch pin: "DINTE: rising Latch"
unfoldable pub latch_set : Board → Bool → Board
latch_set b high =
    with_pins
    (with_requests b (asked_latch b.requests (not (on b.pins.latch) && high)))
    (record { din = b.pins.din; latch = flag high })

-- ---- the pins of a port
unfoldable pub port_set : Board → Port → ℕ → Board
port_set b q v = with_ports b (pins_set b.ports q v)
