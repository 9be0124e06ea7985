-- Each access keeps a working timer working. A refused write leaves the caller's timer as it was.
use Rattle.std.specs.Prelude.{ℕ, Result, Ok, Err}
use Rattle.base.specs.Fields.{field}
use Rattle.base.specs.Laws.{by_choice}
use Rattle.counter_one.specs.Counter.{commanded, byte_written}
use Rattle.counter_one.specs.Kept.{commanded-works, counter-read_works, byte-written_works}
use Rattle.timer.specs.Timer.{counter_of, moved}
use Rattle.timer.specs.Working.{WorkingTimer}
use Rattle.timer.specs.Kept.{counter-works, put-works, moved-works}
use Rattle.timer.specs.declared.Timer.{Timer}
use Rattle.timer.specs.declared.Gates.{Gates}
use Rattle.timer.specs.declared.Select.{Select}
use Rattle.timer.specs.Bus.{selected, control_word_refused, control_word_written, count_refused, count_written, timer_read}
use Rattle.base.specs.Checks.{refused_by}
use Rattle.base.specs.declared.Refusal.{Refusal}

pub timer-read_works : (t : Timer) (s : Select) → WorkingTimer t → WorkingTimer (timer_read t s).timer
unfolding timer_read
timer-read_works t s w = put-works t s _ w (counter-read_works _ (counter-works t s w))

-- what an accepted write leaves is working
abbrev pub WorkingWritten : Result Timer Refusal → Type 0
WorkingWritten (Ok t) = WorkingTimer t
WorkingWritten (Err r) = Unit {0}

pub control-word_works : (t : Timer) (w : ℕ) (g : Gates) → WorkingTimer t → WorkingWritten (control_word_written t w g)
unfolding control_word_written
control-word_works t w g k =
    let s = selected (field w 6 2) in
    by_choice WorkingWritten (control_word_refused w) {x = Err (refused_by 7)} {y = Ok (moved t s (commanded (counter_of t s) w) g)} tt
    (moved-works t s _ g k (commanded-works _ w (counter-works t s k)))

pub count-works : (t : Timer) (s : Select) (b : ℕ) (g : Gates) → WorkingTimer t → WorkingWritten (count_written t s b g)
unfolding count_written
count-works t s b g k =
    by_choice WorkingWritten (count_refused t s b) {x = Err (refused_by 7)} {y = Ok (moved t s (byte_written (counter_of t s) b) g)} tt
    (moved-works t s _ g k (byte-written_works _ b (counter-works t s k)))
