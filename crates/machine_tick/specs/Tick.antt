-- A tick of the 10 MHz clock, and the clocks of the counters (manual, Base+10 and 17.1; the specification, "Conversions, edges and
-- requests"). It is a row of small steps, each Board → Board. Base+10 is FREQ12 FREQ0 OUT2EN OUT0EN RSVD GT0EN SRC0 GT12EN. Its page gives
-- the FREQ0 clock to SRC0 = 1 and DIN0's rising edge to 0; the specification has DIN0's falling edge for SRC0 = 1, and so FREQ0's clock for 0.
use Rattle.std.specs.Prelude.{ℕ, ◌+◌, Bool, not, ◌&&◌, ◌||◌, eqb, ltb, if◌then◌else◌}
use Rattle.base.specs.Fields.{bit}
use Rattle.outputs.specs.Outputs as outputs
use Rattle.timer.specs.Timer.{clocked_if}
use Rattle.timer.specs.declared.Select.TheVariants.{Counter0, Counter1}
use Rattle.machine_record.specs.Parts.{with_outputs, with_clocks}
use Rattle.machine_record.specs.declared.Board.{Board}
use Rattle.machine_clock.specs.Clock.{gates, timer_moved}

-- ---- the clocks in a tick: counter 0 has 10 MHz or, with FREQ0, 10 kHz, and none with SRC0 = 1; counter 1 has 10 MHz or, with FREQ12, 100 kHz
-- by the byte of Base+10 and the divider
abbrev pub clock0 : ℕ → ℕ → Bool
clock0 counting thousand = not (bit counting 1) && (not (bit counting 6) || eqb thousand 0)

abbrev pub clock1 : ℕ → ℕ → Bool
clock1 counting hundred = not (bit counting 7) || eqb hundred 0

-- ---- a tick: "counter 0, counter 1, counter 2, then DACBUSY"; "the 100 kHz and 10 kHz dividers run free from power-up and clock on every
-- 100th and 1,000th tick"
abbrev pub next_tick : ℕ → ℕ → ℕ
next_tick n last = if ltb n last then n + 1 else 0

unfoldable pub dividers_ticked : Board → Board
dividers_ticked b =
    with_clocks b (record {
      timer = b.clocks.timer;
      hundred = next_tick b.clocks.hundred 99;
      thousand = next_tick b.clocks.thousand 999;
    })

unfoldable pub counter0_ticked : Board → Board
counter0_ticked b = timer_moved b (clocked_if b.clocks.timer Counter0 (gates b) (clock0 b.registers.counting b.clocks.thousand))

-- a falling OUT1 clocks counter 2 within it
unfoldable pub counter1_ticked : Board → Board
counter1_ticked b = timer_moved b (clocked_if b.clocks.timer Counter1 (gates b) (clock1 b.registers.counting b.clocks.hundred))

unfoldable pub outputs_ticked : Board → Board
outputs_ticked b = with_outputs b (outputs.dac_ticked b.outputs)

unfoldable pub ticked : Board → Board
ticked b = outputs_ticked (counter1_ticked (counter0_ticked (dividers_ticked b)))
