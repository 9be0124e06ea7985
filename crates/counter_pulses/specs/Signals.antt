-- What comes to the pins of one counter over many steps, and its count. Data sheet (manual, chapter 19), "Mode Definitions": "CLK PULSE: a rising edge, then
-- a falling edge, in that order, of a Counter's CLK input", "TRIGGER: a rising edge of a Counter's Gate input"; "Operation Common to All Modes".
use Rattle.std.specs.Prelude.{ℕ, zero, suc, Bool, true, false, List, [], ◌∷◌, ◌==◌, if◌then◌else◌}
use Rattle.counter_one.specs.Counter.{pulsed, gate_moved}
use Rattle.counter_one.specs.declared.Counter.{Counter}
use Rattle.counter_pulses.specs.Pulses.{one_more}

-- "The largest possible initial count is 0; this is equivalent to 2^16": the N of a count that was written
abbrev pub initial_count : ℕ → ℕ
initial_count n = if n == 0 then 65536 else n

-- a CLK pulse; GATE goes to a level, or stays at it
pub data Signal : Type 0 where
  clk : Signal
  gate : Bool → Signal

-- the counter after signals, one after another; GATE has the level g before the first
abbrev pub after_signals : Counter → Bool → List Signal → Counter
after_signals k g [] = k
after_signals k g (clk ∷ s) = after_signals (pulsed k g) g s
after_signals k g (gate h ∷ s) = after_signals (gate_moved k g h) h s

-- the CLK pulses among them at which GATE is high
abbrev pub high_pulses : Bool → List Signal → ℕ
high_pulses g [] = 0
high_pulses g (clk ∷ s) = one_more g (high_pulses g s)
high_pulses g (gate h ∷ s) = high_pulses h s

-- those of them that follow the first CLK pulse, which has any GATE
abbrev pub high_pulses_later : Bool → List Signal → ℕ
high_pulses_later g [] = 0
high_pulses_later g (clk ∷ s) = high_pulses g s
high_pulses_later g (gate h ∷ s) = high_pulses_later h s

-- whether a CLK pulse is among them
abbrev pub any_pulse : List Signal → Bool
any_pulse [] = false
any_pulse (clk ∷ s) = true
any_pulse (gate h ∷ s) = any_pulse s

-- p CLK pulses, and GATE stays
abbrev pub clks : ℕ → List Signal
clks zero = []
clks (suc p) = clk ∷ clks p
