-- The gates of the counters, and a timer that moves (manual, Base+10 and 17.1; the specification, "Conversions, edges and requests").
-- Base+10 is FREQ12 FREQ0 OUT2EN OUT0EN RSVD GT0EN SRC0 GT12EN.
use Rattle.std.specs.Prelude.{ℕ, not, ◌||◌, Result, Ok, Err}
use Rattle.base.specs.Flags.{on}
use Rattle.base.specs.Fields.{bit}
use Rattle.converter.specs.Channels.{internal_triggered}
use Rattle.requests.specs.Requests.{asked_timer}
use Rattle.counter_one.specs.Falls.{fell}
use Rattle.timer.specs.Timer.{out, gates_moved}
use Rattle.timer.specs.declared.Timer.{Timer}
use Rattle.timer.specs.declared.Gates.{Gates}
use Rattle.timer.specs.declared.Select.TheVariants.{Counter0, Counter2}
use Rattle.base.specs.declared.Refusal.{Refusal}
use Rattle.machine_record.specs.Parts.{with_converter, with_requests, with_registers, with_clocks}
use Rattle.machine_record.specs.declared.Registers.{Registers}
use Rattle.machine_record.specs.declared.Clocks.{Clocks}
use Rattle.machine_record.specs.declared.Board.{Board}

-- ---- the gates: DIN1 with GT0EN gates counter 0, DIN2 with GT12EN counters 1 and 2; without, a counter "runs freely with no gating"
abbrev pub gates_at : ℕ → ℕ → Gates
gates_at counting din = record { gate0 = not (bit counting 2) || bit din 1; gate12 = not (bit counting 0) || bit din 2 }

abbrev pub gates : Board → Gates
gates b = gates_at b.registers.counting b.pins.din

-- ---- the timer becomes t: every change of it goes through here but a gate's and a read's, by which no OUT falls
abbrev pub with_timer : Clocks → Timer → Clocks
with_timer k t = record { timer = t; hundred = k.hundred; thousand = k.thousand }

-- with TINTE a falling OUT0 sets TINT; with CLKEN and CLKSEL = 1 a falling OUT2 is a trigger
unfoldable pub timer_moved : Board → Timer → Board
timer_moved b t =
    with_converter
    (with_requests
    (with_clocks b (with_timer b.clocks t))
    (asked_timer b.requests (fell (out b.clocks.timer Counter0) (out t Counter0))))
    (internal_triggered b.converter (on b.requests.clksel) (fell (out b.clocks.timer Counter2) (out t Counter2)))

-- by a write of page 0
abbrev pub timer_moved_by : Board → Result Timer Refusal → Board
timer_moved_by b (Ok t) = timer_moved b t
timer_moved_by b (Err r) = b

-- ---- a write of 10 "may move a gate but is no clock edge or trigger"
abbrev pub with_counting : Registers → ℕ → Registers
with_counting r v = record { page = r.page; dout = r.dout; counting = v; range = r.range }

unfoldable pub counting_written : Board → ℕ → Board
counting_written b v =
    with_registers
    (with_clocks b (with_timer b.clocks (gates_moved b.clocks.timer (gates b) (gates_at v b.pins.din))))
    (with_counting b.registers v)
