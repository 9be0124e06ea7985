-- An event begins a conversion, ends one, or leaves whether one runs, just as `begins`, `ends` and `resets` say.
use Rattle.std.specs.Prelude.{ℕ, ◌≡◌, refl, Bool, true, false, not, ◌&&◌, List, Result, Ok, Err, Option}
use Rattle.std.proofs.Common.{sym, ap, ◌∙◌}
use Rattle.base.specs.Flags.{on}
use Rattle.base.specs.Fields.{bit}
use Rattle.base.specs.Laws.{by_choice, never}
use Rattle.converter.specs.Channels.{started, idle, triggered, software_trigger, internal_trigger, external_trigger, external_triggered}
use Rattle.converter.specs.Begins.{trigger-begins, trigger-lost, end-begins, end-over}
use Rattle.converter.specs.declared.channels.Converter.{Converter}
use Rattle.counter_one.specs.Falls.{fell, no_fall}
use Rattle.timer.specs.Timer.{out, moved, clocked_if}
use Rattle.timer.specs.Bus.{count_written, control_word_written}
use Rattle.timer.specs.declared.Timer.{Timer}
use Rattle.timer.specs.declared.Gates.{Gates}
use Rattle.timer.specs.declared.Select.TheVariants.{Counter0, Counter1, Counter2}
use Rattle.base.specs.declared.Refusal.{Refusal}
use Rattle.machine_clock.specs.Clock.{gates, timer_moved, timer_moved_by, counting_written}
use Rattle.machine_tick.specs.InPlace.{no_edge}
use Rattle.machine_tick.specs.Tick.{clock1, dividers_ticked, counter0_ticked, counter1_ticked, outputs_ticked, ticked}
use Rattle.machine_pins.specs.Pins.{fell_from, din_moved, din0_clocked, triggers_stopped, din3_triggered, din_set, latch_set, port_set}
use Rattle.machine_reset.specs.Reset.{is_reset, requests_cleared, page_set, misc_written}
use Rattle.machine_record.specs.declared.Board.{Board}
use Rattle.bus.specs.Place.{place_of}
use Rattle.bus.specs.Registers.{written_at}
use Rattle.bus.specs.declared.Place.{Place}
use Rattle.bus.specs.declared.Place.TheVariants.{Base0, Base1, Base2, Base3, Base4, Base5, Base6, Base7}
use Rattle.bus.specs.declared.Place.TheVariants.{Base8, Base9, Base10, Base11, Count, ControlWord, PortData, PortControl}
use Rattle.bus.specs.declared.Place.TheVariants.{Reserved, Auxiliary, CalData, CalAddress, CalBase14, CalBase15, Outside}
use Rattle.board_step.specs.Act.{din_levels, acted}
use Rattle.board_laws.specs.Reads.{read-leaves}
use Rattle.board_laws.specs.Resets.{place_resets, place-resets}
use Rattle.board_laws.specs.Begins.{written_begins, write_begins, tick_begins, begins, ends, resets}
use Rattle.board_events.specs.declared.Event.{Event}
use Rattle.board_events.specs.declared.Event.TheVariants.{WriteByte, ReadByte, ReadWord, ConversionEnd, DinPins, LatchLevel, PortPins, Tick, TransferEnd}

-- ---- a clock of counter 0 moves no OUT2, and no edge is no trigger
out2-stays : (t : Timer) (g : Gates) (p : Bool) → out (clocked_if t Counter0 g p) Counter2 ≡ out t Counter2
unfolding clocked_if moved
out2-stays t g true = rw (no_fall (on t.counter1.count.out))
out2-stays t g false = refl

-- the converter is what it was where no OUT2 falls
timer-moved_same : (b : Board) (t : Timer) → out t Counter2 ≡ out b.clocks.timer Counter2 → (timer_moved b t).converter ≡ b.converter
unfolding timer_moved
timer-moved_same b t h =
    no_edge b.converter (fell (out b.clocks.timer Counter2) (out t Counter2)) (on b.requests.clksel)
    (rw h (no_fall (out b.clocks.timer Counter2)))

pub counter0-same : (b : Board) → (counter0_ticked (dividers_ticked b)).converter ≡ b.converter
unfolding counter0_ticked dividers_ticked
counter0-same b = timer-moved_same _ _ (out2-stays b.clocks.timer _ _)

din0_same : (b : Board) (n : ℕ) (fell : Bool) → (din0_clocked (din_moved b n) fell).converter ≡ b.converter
unfolding din0_clocked din_moved
din0_same b n fell = timer-moved_same _ _ (out2-stays _ _ _)

-- ---- what begins a conversion starts it on the selected channel
-- the trigger by a timer that goes to t
abbrev pub out2_trigger : Board → Timer → Bool
out2_trigger b t = internal_trigger b.converter (on b.requests.clksel) (fell (out b.clocks.timer Counter2) (out t Counter2))

-- where none was in progress
pub free : (t running : Bool) → t && not running ≡ true → running ≡ false
free true true h = never h
free true false h = refl
free false running h = never h

-- c is b with a conversion begun, where none was in progress
pub record BeginsOne (b c : Board) : Type 0 where
  pub starts : c.converter ≡ started b.converter
  pub none_before : on b.converter.converting ≡ false

trigger-begun : (b c : Board) (t : Bool) → t && not (on b.converter.converting) ≡ true → c.converter ≡ triggered b.converter t → BeginsOne b c
trigger-begun b c t h e = record { starts = e ∙ trigger-begins b.converter t h; none_before = free t (on b.converter.converting) h }

written-begun : (b : Board) (w : Result Timer Refusal) → written_begins b w ≡ true → BeginsOne b (timer_moved_by b w)
unfolding timer_moved
written-begun b (Ok t) h = trigger-begun b (timer_moved_by b (Ok t)) (out2_trigger b t) h refl
written-begun b (Err r) h = never h

pub write-begun : (b : Board) (p : Place) (v : ℕ) → write_begins b p v ≡ true → BeginsOne b (written_at b p v)
unfolding written_at
write-begun b Base0 v h = trigger-begun b (written_at b Base0 v) (software_trigger b.converter) h refl
write-begun b Base1 v h = never h
write-begun b Base2 v h = never h
write-begun b Base3 v h = never h
write-begun b Base4 v h = never h
write-begun b Base5 v h = never h
write-begun b Base6 v h = never h
write-begun b Base7 v h = never h
write-begun b Base8 v h = never h
write-begun b Base9 v h = never h
write-begun b Base10 v h = never h
write-begun b Base11 v h = never h
write-begun b (Count s) v h = written-begun b (count_written b.clocks.timer s v (gates b)) h
write-begun b ControlWord v h = written-begun b (control_word_written b.clocks.timer v (gates b)) h
write-begun b (PortData q) v h = never h
write-begun b PortControl v h = never h
write-begun b Reserved v h = never h
write-begun b Auxiliary v h = never h
write-begun b CalData v h = never h
write-begun b CalAddress v h = never h
write-begun b CalBase14 v h = never h
write-begun b CalBase15 v h = never h
write-begun b Outside v h = never h

-- the converter after DIN levels and after a tick: a trigger, where there is one
pub din-triggered : (b : Board) (n : ℕ)
    → (din_set b n).converter
    ≡ external_triggered b.converter (on b.requests.clksel) (fell_from b.pins.din n 3) (triggers_stopped (din_moved b n))
unfolding din_set din3_triggered din0_clocked din_moved timer_moved
din-triggered b n =
    ap (λ (c : Converter). external_triggered c (on b.requests.clksel) (fell_from b.pins.din n 3) (triggers_stopped (din_moved b n)))
    (din0_same b n (fell_from b.pins.din n 0))

-- the timer after the tick of counter 1, and what it makes of the converter
abbrev pub clocked1 : Board → Timer
clocked1 c = clocked_if c.clocks.timer Counter1 (gates c) (clock1 c.registers.counting c.clocks.hundred)

tick-begun : (b : Board) → tick_begins b ≡ true → (ticked b).converter ≡ started b.converter
unfolding ticked outputs_ticked counter1_ticked timer_moved
tick-begun b h =
    let c = counter0_ticked (dividers_ticked b) in
    trigger-begins c.converter (out2_trigger c (clocked1 c)) h ∙ ap started (counter0-same b)

pub tick-lost : (b : Board) → tick_begins b ≡ false → (ticked b).converter ≡ b.converter
unfolding ticked outputs_ticked counter1_ticked timer_moved
tick-lost b h =
    let c = counter0_ticked (dividers_ticked b) in
    trigger-lost c.converter (out2_trigger c (clocked1 c)) h ∙ counter0-same b

abbrev pub din_trigger : Board → ℕ → Bool
din_trigger b n = external_trigger b.converter (on b.requests.clksel) (fell_from b.pins.din n 3) (triggers_stopped (din_moved b n))

pub begun : (b : Board) (o : Option ℕ) (e : List ℕ) (ev : Event) → begins b ev ≡ true → (acted b o e ev).board.converter ≡ started b.converter
unfolding acted begins
begun b o e (WriteByte n v) h = (write-begun b (place_of b.registers.page n) v h).starts
begun b o e (ReadByte n) h = never h
begun b o e (ReadWord n) h = never h
begun b o e (ConversionEnd code) h = end-begins b.converter h
begun b o e (DinPins d) h = din-triggered b (din_levels d) ∙ trigger-begins b.converter (din_trigger b (din_levels d)) h
begun b o e (LatchLevel level) h = never h
begun b o e (PortPins q v) h = never h
begun b o e Tick h = tick-begun b h
begun b o e TransferEnd h = never h

-- ---- an end that begins none leaves none in progress
pub over : (b : Board) (o : Option ℕ) (e : List ℕ) (ev : Event) → begins b ev ≡ false → ends ev ≡ true
    → (acted b o e ev).board.converter ≡ idle b.converter
unfolding acted begins ends
over b o e (WriteByte n v) h k = never k
over b o e (ReadByte n) h k = never k
over b o e (ReadWord n) h k = never k
over b o e (ConversionEnd code) h k = end-over b.converter h
over b o e (DinPins d) h k = never k
over b o e (LatchLevel level) h k = never k
over b o e (PortPins q v) h k = never k
over b o e Tick h k = never k
over b o e TransferEnd h k = never k

-- ---- every other event leaves whether a conversion runs, and its channel
pub record Same (c d : Converter) : Type 0 where
  pub converting : on d.converting ≡ on c.converting
  pub channel : d.channel ≡ c.channel

alike : (c : Converter) → Same c c
alike c = record { converting = refl; channel = refl }

equal : (c d : Converter) → d ≡ c → Same c d
equal c d h = record { converting = ap (λ (x : Converter). on x.converting) h; channel = ap (λ (x : Converter). x.channel) h }

written-lost : (b : Board) (w : Result Timer Refusal) → written_begins b w ≡ false → (timer_moved_by b w).converter ≡ b.converter
unfolding timer_moved
written-lost b (Ok t) h = trigger-lost b.converter (out2_trigger b t) h
written-lost b (Err r) h = refl

misc_same : (b : Board) (v : ℕ) → is_reset v ≡ false → (misc_written b v).converter ≡ b.converter
unfolding misc_written requests_cleared page_set
misc_same b v h = rw h (by_choice (λ (c : Board). c.converter ≡ b.converter) (bit v 3) refl refl)

write_same : (b : Board) (p : Place) (v : ℕ) → write_begins b p v ≡ false → place_resets p v ≡ false
    → Same b.converter (written_at b p v).converter
unfolding written_at counting_written
write_same b Base0 v h k = equal _ _ (trigger-lost b.converter (software_trigger b.converter) h)
write_same b Base1 v h k = alike b.converter
write_same b Base2 v h k = record { converting = refl; channel = refl }
write_same b Base3 v h k = record { converting = refl; channel = refl }
write_same b Base4 v h k = alike b.converter
write_same b Base5 v h k = alike b.converter
write_same b Base6 v h k = alike b.converter
write_same b Base7 v h k = record { converting = refl; channel = refl }
write_same b Base8 v h k = equal _ _ (misc_same b v k)
write_same b Base9 v h k = record { converting = refl; channel = refl }
write_same b Base10 v h k = alike b.converter
write_same b Base11 v h k = alike b.converter
write_same b (Count s) v h k = equal _ _ (written-lost b (count_written b.clocks.timer s v (gates b)) h)
write_same b ControlWord v h k = equal _ _ (written-lost b (control_word_written b.clocks.timer v (gates b)) h)
write_same b (PortData q) v h k = alike b.converter
write_same b PortControl v h k = alike b.converter
write_same b Reserved v h k = alike b.converter
write_same b Auxiliary v h k = alike b.converter
write_same b CalData v h k = alike b.converter
write_same b CalAddress v h k = alike b.converter
write_same b CalBase14 v h k = alike b.converter
write_same b CalBase15 v h k = alike b.converter
write_same b Outside v h k = alike b.converter

pub stays_same : (b : Board) (o : Option ℕ) (e : List ℕ) (ev : Event) → begins b ev ≡ false → ends ev ≡ false → resets ev ≡ false
    → Same b.converter (acted b o e ev).board.converter
unfolding acted begins ends resets latch_set port_set
stays_same b o e (WriteByte n v) h k a = write_same b (place_of b.registers.page n) v h (place-resets b.registers.page n v ∙ a)
stays_same b o e (ReadByte n) h k a = equal _ _ (read-leaves b (place_of b.registers.page n)).converter
stays_same b o e (ReadWord n) h k a = alike b.converter
stays_same b o e (ConversionEnd code) h k a = never (sym k)
stays_same b o e (DinPins d) h k a = equal _ _ (din-triggered b (din_levels d) ∙ trigger-lost b.converter (din_trigger b (din_levels d)) h)
stays_same b o e (LatchLevel level) h k a = alike b.converter
stays_same b o e (PortPins q v) h k a = alike b.converter
stays_same b o e Tick h k a = equal _ _ (tick-lost b h)
stays_same b o e TransferEnd h k a = alike b.converter
