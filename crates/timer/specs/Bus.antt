-- What the bus writes to and reads of the three counters. Data sheet (chapter 19): "Control Word Format", SC. The specification: "A falling OUT1
-- clocks counter 2, whether a tick or a write caused it."
use Rattle.std.specs.Prelude.{ℕ, Bool, ◌||◌, eqb, if◌then◌else◌, Result, Ok, Err}
use Rattle.base.specs.Fields.{field}
use Rattle.counter_modes.specs.Control.{word_refused}
use Rattle.counter_one.specs.Counter.{commanded, counter_read, byte_refused, byte_written}
use Rattle.timer.specs.Timer.{counter_of, put, moved}
use Rattle.timer.specs.declared.Timer.{Timer}
use Rattle.timer.specs.declared.Gates.{Gates}
use Rattle.timer.specs.declared.Select.{Select}
use Rattle.timer.specs.declared.Select.TheVariants.{Counter0, Counter1, Counter2}
use Rattle.base.specs.Checks.{refused_by}
use Rattle.base.specs.declared.Refusal.{Refusal}
use Rattle.timer.specs.declared.accesses.TimerRead.{TimerRead}

-- ---- a control word. SC - Select Counter: 00, 01, 10 select counter 0, 1, 2; 11 is the read-back command, which is not modelled
abbrev pub selected : ℕ → Select
selected sc = if eqb sc 0 then Counter0 else if eqb sc 1 then Counter1 else Counter2

unfoldable pub control_word_refused : ℕ → Bool
control_word_refused w = eqb (field w 6 2) 3 || word_refused w

-- the specification's refusal 7, "setting not modelled: ... listed 8254 ... cases"
unfoldable pub control_word_written : Timer → ℕ → Gates → Result Timer Refusal
control_word_written t w g =
    if control_word_refused w then Err (refused_by 7)
    else Ok (moved t (selected (field w 6 2)) (commanded (counter_of t (selected (field w 6 2))) w) g)

-- ---- a byte of a count for the counter s
unfoldable pub count_refused : Timer → Select → ℕ → Bool
count_refused t s b = byte_refused (counter_of t s) b

unfoldable pub count_written : Timer → Select → ℕ → Gates → Result Timer Refusal
count_written t s b g =
    if count_refused t s b then Err (refused_by 7)
    else Ok (moved t s (byte_written (counter_of t s) b) g)

-- ---- a read of the counter s, which moves no OUT
unfoldable pub timer_read : Timer → Select → TimerRead
timer_read t s = record { byte = (counter_read (counter_of t s)).byte; timer = put t s (counter_read (counter_of t s)).counter }
