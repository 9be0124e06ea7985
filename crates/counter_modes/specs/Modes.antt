-- What the modes differ in. Data sheet (manual, chapter 19): "Mode Definitions", figure 15 "Gate pin operations summary", figure 16
-- "Minimum and maximum initial counts". A mode is a line in each table, and one way of counting in Element.
use Rattle.std.specs.Prelude.{Bool, true, false}
use Rattle.counter_modes.specs.declared.Mode.{Mode}
use Rattle.counter_modes.specs.declared.Mode.TheVariants.{TerminalCount, RateGenerator}

-- OUT after a control word. Mode 0: "OUT is initially low"; mode 2: "OUT will initially be high"
abbrev pub first_out : Mode → Bool
first_out TerminalCount = false
first_out RateGenerator = true

-- OUT after a count is loaded. Mode 0: it "will remain low until the Counter reaches zero"; mode 2: "OUT then goes high again, the
-- Counter reloads the initial count"
abbrev pub load_out : Mode → Bool
load_out TerminalCount = false
load_out RateGenerator = true

-- Whether a written byte sets OUT low at once, and the first of two stops the counting. Mode 0: "Writing the first byte disables
-- counting. Out is set low immediately"; mode 2: "does not affect the current counting sequence"
abbrev pub byte_stops : Mode → Bool
byte_stops TerminalCount = true
byte_stops RateGenerator = false

-- Whether a count that is written while another runs is loaded on the next CLK pulse, or waits for the end of the period
abbrev pub loads_at_once : Mode → Bool
loads_at_once TerminalCount = true
loads_at_once RateGenerator = false

-- Figure 15, "rising": whether a trigger, a rising GATE, reloads the count on the next CLK pulse
abbrev pub trigger_loads : Mode → Bool
trigger_loads TerminalCount = false
trigger_loads RateGenerator = true

-- Figure 15, "low or going low": whether a falling GATE "sets output immediately high"
abbrev pub gate_raises : Mode → Bool
gate_raises TerminalCount = false
gate_raises RateGenerator = true

-- Figure 16: whether the minimum count is 2, so that 1 is not taken
abbrev pub from_two : Mode → Bool
from_two TerminalCount = false
from_two RateGenerator = true
