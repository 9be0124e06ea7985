-- What a host sees of DOUT, and what a guest reads of the jumpers (manual, Base+1, Base+8, Base+10, 5.4 and 16.5).
use Rattle.std.specs.Prelude.{ℕ, ◌+◌, Bool, not, ◌&&◌, ◌||◌, eqb, if◌then◌else◌}
use Rattle.base.specs.Flags.{on}
use Rattle.base.specs.Fields.{bit}
use Rattle.base.specs.Weights.{weight_of}
use Rattle.machine_record.specs.declared.Board.{Board}

-- a pin that shows OUT where it is enabled, and its DOUT bit otherwise
abbrev pub shows : Bool → Bool → Bool → Bool
shows enabled out dout = enabled && out || not enabled && dout

-- DOUT2-0 on their pins: OUT2EN (bit 5 of Base+10) brings OUT2 to the pin of DOUT2, OUT0EN (bit 4) OUT0 to that of DOUT0
abbrev pub dout_pins : Board → ℕ
dout_pins b =
    weight_of (shows (bit b.registers.counting 5) (on b.clocks.timer.counter2.count.out) (bit b.registers.dout 2)) 4
    + weight_of (bit b.registers.dout 1) 2
    + weight_of (shows (bit b.registers.counting 4) (on b.clocks.timer.counter0.count.out) (bit b.registers.dout 0)) 1

-- Base+8 read, bits 6 and 5: S/D1 speaks of channels 8-15 and 24-31, S/D0 of 0-7 and 16-23; 1 is single-ended. Configurations A to D of 5.4
abbrev pub single_ended : ℕ → ℕ
single_ended inputs =
    if eqb inputs 0 then 96
    else if eqb inputs 1 then 0
    else if eqb inputs 2 then 64
    else if eqb inputs 3 then 32
    else 0
