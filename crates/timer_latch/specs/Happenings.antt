-- What happens to the three counters over many steps: CLK pulses, moves of the gates, and what the bus writes and reads, in any order.
use Rattle.std.specs.Prelude.{ℕ, ◌+◌, ◌*◌, ◌≡◌, Bool, true, false, not, ◌&&◌, ◌||◌, List, [], ◌∷◌, Some, Result, Ok, Err}
use Rattle.base.specs.Flags.{on}
use Rattle.base.specs.Fields.{field}
use Rattle.counter_modes.specs.Control.{command, setup_of}
use Rattle.counter_modes.specs.declared.Mode.{Mode}
use Rattle.counter_modes.specs.declared.Format.TheVariants.{TwoBytes}
use Rattle.counter_modes.specs.declared.ControlCommand.{ControlCommand}
use Rattle.counter_modes.specs.declared.ControlCommand.TheVariants.{LatchCount, Program, NotModelled}
use Rattle.counter_one.specs.declared.Counter.{Counter}
use Rattle.timer.specs.Timer.{clocked, gates_moved}
use Rattle.timer.specs.declared.Timer.{Timer}
use Rattle.timer.specs.declared.Gates.{Gates}
use Rattle.timer.specs.declared.Select.{Select}
use Rattle.timer.specs.declared.Select.TheVariants.{Counter0, Counter1, Counter2}
use Rattle.timer.specs.Bus.{selected, control_word_refused, control_word_written, count_written, timer_read}
use Rattle.base.specs.declared.Refusal.{Refusal}

-- the three counters, and the levels that their gates have
pub record Chip : Type 0 where
  pub timer : Timer
  pub levels : Gates

-- a CLK pulse at a counter; the gates go to levels; a read of a counter; a byte of a count for a counter; a control word
pub data ChipEvent : Type 0 where
  clock : Select → ChipEvent
  gates : Gates → ChipEvent
  read : Select → ChipEvent
  count : Select → ℕ → ChipEvent
  control : ℕ → ChipEvent

-- a refused write leaves the timer
abbrev pub after_write : Timer → Result Timer Refusal → Timer
after_write t (Ok d) = d
after_write t (Err r) = t

abbrev pub next : Chip → ChipEvent → Chip
next c (clock s) = record { timer = clocked c.timer s c.levels; levels = c.levels }
next c (gates g) = record { timer = gates_moved c.timer c.levels g; levels = g }
next c (read s) = record { timer = (timer_read c.timer s).timer; levels = c.levels }
next c (count s b) = record { timer = after_write c.timer (count_written c.timer s b c.levels); levels = c.levels }
next c (control w) = record { timer = after_write c.timer (control_word_written c.timer w c.levels); levels = c.levels }

abbrev pub chip_after : Chip → List ChipEvent → Chip
chip_after c [] = c
chip_after c (h ∷ x) = chip_after (next c h) x

-- the byte that a read of the counter s gives now
abbrev pub byte_now : Chip → Select → ℕ
byte_now c s = (timer_read c.timer s).byte

-- ---- which happenings neither read a counter nor program it anew
abbrev pub same_counter : Select → Select → Bool
same_counter Counter0 Counter0 = true
same_counter Counter0 Counter1 = false
same_counter Counter0 Counter2 = false
same_counter Counter1 Counter0 = false
same_counter Counter1 Counter1 = true
same_counter Counter1 Counter2 = false
same_counter Counter2 Counter0 = false
same_counter Counter2 Counter1 = false
same_counter Counter2 Counter2 = true

abbrev pub programs : ControlCommand → Bool
programs LatchCount = false
programs (Program f m) = true
programs NotModelled = false

-- a control word that is refused, is for another counter or programs nothing leaves a counter programmed as it is
abbrev pub spares_counter : Select → ChipEvent → Bool
spares_counter s (clock x) = true
spares_counter s (gates g) = true
spares_counter s (read x) = not (same_counter s x)
spares_counter s (count x b) = true
spares_counter s (control w) = control_word_refused w || not (same_counter s (selected (field w 6 2)) && programs (command w))

abbrev pub all_spare : Select → List ChipEvent → Bool
all_spare s [] = true
all_spare s (h ∷ x) = spares_counter s h && all_spare s x

-- ---- "SC1 SC0 0 0 X X X X": the Counter Latch Command for the counter s, with any number of 4 bits below
abbrev pub sc_of : Select → ℕ
sc_of Counter0 = 0
sc_of Counter1 = 1
sc_of Counter2 = 2

abbrev pub latch_command : Select → ℕ → ℕ
latch_command s x = sc_of s * 64 + x

-- ---- a counter that is programmed for two-byte counts, with no count latched and no second byte left to read
pub record Unread (m : Mode) (c : Counter) : Type 0 where
  pub set : setup_of c.control ≡ Some (TwoBytes, m)
  pub unlatched : on c.bus.latched ≡ false
  pub whole : on c.bus.halfread ≡ false
