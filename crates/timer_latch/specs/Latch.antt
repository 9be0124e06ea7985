-- A two-byte count that is read by the latch. Data sheet (manual, chapter 19), "Counter Latch Command": "The selected Counter's output latch (OL) latches the
-- count when the Counter Latch Command is received. This count is held in the latch until it is read by the CPU (or until the Counter is reprogrammed)".
use Rattle.std.specs.Prelude.{ℕ, ◌≡◌, refl, List, ◌∷◌, ◌++◌}
use Rattle.counter_modes.specs.Control.{command}
use Rattle.counter_modes.specs.declared.Mode.{Mode}
use Rattle.counter_modes.specs.declared.Format.TheVariants.{TwoBytes}
use Rattle.counter_modes.specs.declared.ControlCommand.TheVariants.{Program}
use Rattle.counter_one.specs.Counter.{commanded}
use Rattle.counter_one.specs.Kept.{setup_programmed}
use Rattle.counter_one.specs.declared.Counter.{Counter}
use Rattle.timer.specs.declared.Select.{Select}
use Rattle.timer_latch.specs.Happenings.{ChipEvent, read, control, latch_command, Unread}

-- what happens up to the first read of the counter s, the latch command and a, and what up to the second, b after the first read
abbrev pub to_first_read : Select → ℕ → List ChipEvent → List ChipEvent
to_first_read s x a = control (latch_command s x) ∷ a

abbrev pub to_second_read : Select → ℕ → List ChipEvent → List ChipEvent → List ChipEvent
to_second_read s x a b = to_first_read s x a ++ (read s ∷ b)

-- and so does the first latch command after a control word for two-byte counts
pub unread-at_first : (k : Counter) (w : ℕ) (m : Mode) → command w ≡ Program TwoBytes m → Unread m (commanded k w)
unfolding commanded
unread-at_first k w m e = rw e (record { set = setup_programmed w TwoBytes m e; unlatched = refl; whole = refl })
