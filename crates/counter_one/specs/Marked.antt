-- Cases 9 and 10 of the specification's "Marked for proof", of one counter: GATE is high, the count comes by its least significant byte.
use Rattle.std.specs.Prelude.{◌≡◌, ℕ, Bool, true, false, List, [], ◌∷◌, refl}
use Rattle.base.specs.Flags.{on}
use Rattle.counter_modes.specs.Control.{command, setup_of}
use Rattle.counter_element.specs.Element.{counted_by}
use Rattle.counter_one.specs.Counter.{unprogrammed, commanded, byte_written, pulsed}
use Rattle.counter_one.specs.declared.Counter.{Counter}

-- a counter with a control word and one byte of a count
abbrev pub started_with : ℕ → ℕ → Counter
started_with word byte = byte_written (commanded unprogrammed word) byte

-- the counter after as many CLK pulses as the list is long, and OUT after each
abbrev pub after_pulses : Counter → List Bool → Counter
after_pulses c [] = c
after_pulses c (gate ∷ gates) = after_pulses (pulsed c gate) gates

abbrev pub outs : Counter → List Bool → List Bool
outs c [] = []
outs c (gate ∷ gates) = on (pulsed c gate).count.out ∷ outs (pulsed c gate) gates

-- case 9: mode 2 (control word 14), count 3: H H L H H L
pub case_9 : outs (started_with 0x14 3) (true ∷ true ∷ true ∷ true ∷ true ∷ true ∷ [])
    ≡ true ∷ true ∷ false ∷ true ∷ true ∷ false ∷ []
unfolding command setup_of counted_by commanded byte_written pulsed
case_9 = refl

-- case 10: mode 0 (control word 10), count 2: L L H H; the count is 65,535 after the fourth
pub case_10 : outs (started_with 0x10 2) (true ∷ true ∷ true ∷ true ∷ []) ≡ false ∷ false ∷ true ∷ true ∷ []
unfolding command setup_of counted_by commanded byte_written pulsed
case_10 = refl

pub case_10_count : (after_pulses (started_with 0x10 2) (true ∷ true ∷ true ∷ true ∷ [])).count.element ≡ 65535
unfolding command setup_of counted_by commanded byte_written pulsed
case_10_count = refl
