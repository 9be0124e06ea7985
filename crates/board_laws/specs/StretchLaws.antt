-- What an event leaves of DACBUSY's count and of the dividers, place by place and event by event: laws for the theorems over stretches of events.
use Rattle.std.specs.Prelude.{ℕ, zero, suc, ◌-◌, ◌≡◌, true, false, List, eqb, Result, Ok, Err, Option}
use Rattle.std.proofs.Math.Path.{refl}
use Rattle.std.proofs.Common.{sym, ◌∙◌, arith}
use Rattle.base.specs.Fields.{bit}
use Rattle.base.specs.Laws.{by_choice, under_and, never}
use Rattle.timer.specs.Bus.{count_written, control_word_written}
use Rattle.base.specs.declared.Refusal.{Refusal}
use Rattle.timer.specs.declared.Timer.{Timer}
use Rattle.machine_clock.specs.Clock.{gates, timer_moved, timer_moved_by, counting_written}
use Rattle.machine_tick.specs.Tick.{next_tick, dividers_ticked, counter0_ticked, counter1_ticked, outputs_ticked, ticked}
use Rattle.machine_pins.specs.Pins.{din_moved, din0_clocked, din3_triggered, din_set, latch_set, port_set}
use Rattle.machine_reset.specs.Reset.{is_reset, board_reset, requests_cleared, page_set, misc_written}
use Rattle.machine_record.specs.declared.Board.{Board}
use Rattle.bus.specs.Place.{place_of}
use Rattle.bus.specs.Registers.{written_at}
use Rattle.bus.specs.declared.Place.{Place}
use Rattle.bus.specs.declared.Place.TheVariants.{Base0, Base1, Base2, Base3, Base4, Base5, Base6, Base7}
use Rattle.bus.specs.declared.Place.TheVariants.{Base8, Base9, Base10, Base11, Count, ControlWord, PortData, PortControl}
use Rattle.bus.specs.declared.Place.TheVariants.{Reserved, Auxiliary, CalData, CalAddress, CalBase14, CalBase15, Outside}
use Rattle.board_step.specs.Act.{acted}
use Rattle.board_laws.specs.Begins.{resets}
use Rattle.board_laws.specs.Offsets.{Above, of_offset}
use Rattle.board_laws.specs.Reads.{read-leaves}
use Rattle.board_laws.specs.Stretches.{ticks_of, is_load}
use Rattle.board_events.specs.declared.Event.{Event}
use Rattle.board_events.specs.declared.Event.TheVariants.{WriteByte, ReadByte, ReadWord, ConversionEnd, DinPins, LatchLevel, PortPins, Tick, TransferEnd}

-- ---- the dividers: every write leaves them, a reset too
pub record Free (b c : Board) : Type 0 where
  pub hundred : c.clocks.hundred ≡ b.clocks.hundred
  pub thousand : c.clocks.thousand ≡ b.clocks.thousand

written-free : (b : Board) (w : Result Timer Refusal) → Free b (timer_moved_by b w)
unfolding timer_moved
written-free b (Ok t) = record { hundred = refl; thousand = refl }
written-free b (Err r) = record { hundred = refl; thousand = refl }

misc_free : (b : Board) (v : ℕ) → Free b (misc_written b v)
unfolding misc_written board_reset requests_cleared page_set
misc_free b v =
    by_choice (Free b) (is_reset v) (record { hundred = refl; thousand = refl })
    (by_choice (Free b) (bit v 3) (record { hundred = refl; thousand = refl }) (record { hundred = refl; thousand = refl }))

write-free : (b : Board) (p : Place) (v : ℕ) → Free b (written_at b p v)
unfolding written_at counting_written
write-free b Base0 v = record { hundred = refl; thousand = refl }
write-free b Base1 v = record { hundred = refl; thousand = refl }
write-free b Base2 v = record { hundred = refl; thousand = refl }
write-free b Base3 v = record { hundred = refl; thousand = refl }
write-free b Base4 v = record { hundred = refl; thousand = refl }
write-free b Base5 v = record { hundred = refl; thousand = refl }
write-free b Base6 v = record { hundred = refl; thousand = refl }
write-free b Base7 v = record { hundred = refl; thousand = refl }
write-free b Base8 v = misc_free b v
write-free b Base9 v = record { hundred = refl; thousand = refl }
write-free b Base10 v = record { hundred = refl; thousand = refl }
write-free b Base11 v = record { hundred = refl; thousand = refl }
write-free b (Count s) v = written-free b (count_written b.clocks.timer s v (gates b))
write-free b ControlWord v = written-free b (control_word_written b.clocks.timer v (gates b))
write-free b (PortData q) v = record { hundred = refl; thousand = refl }
write-free b PortControl v = record { hundred = refl; thousand = refl }
write-free b Reserved v = record { hundred = refl; thousand = refl }
write-free b Auxiliary v = record { hundred = refl; thousand = refl }
write-free b CalData v = record { hundred = refl; thousand = refl }
write-free b CalAddress v = record { hundred = refl; thousand = refl }
write-free b CalBase14 v = record { hundred = refl; thousand = refl }
write-free b CalBase15 v = record { hundred = refl; thousand = refl }
write-free b Outside v = record { hundred = refl; thousand = refl }

-- a tick moves them on, and no other event does: the divider that counts to `last`, after t ticks
abbrev pub moved_on : ℕ → ℕ → ℕ → ℕ
moved_on zero n last = n
moved_on (suc t) n last = moved_on t (next_tick n last) last

pub record Moves (b c : Board) (t : ℕ) : Type 0 where
  pub hundred : c.clocks.hundred ≡ moved_on t b.clocks.hundred 99
  pub thousand : c.clocks.thousand ≡ moved_on t b.clocks.thousand 999

pub dividers_move : (b : Board) (o : Option ℕ) (e : List ℕ) (ev : Event) → Moves b (acted b o e ev).board (ticks_of ev)
unfolding acted din_set din3_triggered din0_clocked din_moved timer_moved latch_set port_set ticked outputs_ticked counter1_ticked counter0_ticked
    dividers_ticked
dividers_move b o e (WriteByte n v) = let f = write-free b (place_of b.registers.page n) v in record { hundred = f.hundred; thousand = f.thousand }
dividers_move b o e (ReadByte n) = let f = read-leaves b (place_of b.registers.page n) in record { hundred = f.hundred; thousand = f.thousand }
dividers_move b o e (ReadWord n) = record { hundred = refl; thousand = refl }
dividers_move b o e (ConversionEnd code) = record { hundred = refl; thousand = refl }
dividers_move b o e (DinPins d) = record { hundred = refl; thousand = refl }
dividers_move b o e (LatchLevel level) = record { hundred = refl; thousand = refl }
dividers_move b o e (PortPins q v) = record { hundred = refl; thousand = refl }
dividers_move b o e Tick = record { hundred = refl; thousand = refl }
dividers_move b o e TransferEnd = record { hundred = refl; thousand = refl }

-- ---- DACBUSY's count: a write leaves it but for a write of 5 and a reset
module _ (b : Board) (n v : ℕ) where
  abbrev Stays : Place → Type 0
  Stays p = (written_at b p v).outputs.busy ≡ b.outputs.busy

  written-stays : (w : Result Timer Refusal) → (timer_moved_by b w).outputs.busy ≡ b.outputs.busy
  unfolding timer_moved
  written-stays (Ok t) = refl
  written-stays (Err r) = refl

  misc_stays : is_reset v ≡ false → (misc_written b v).outputs.busy ≡ b.outputs.busy
  unfolding misc_written requests_cleared page_set
  misc_stays h = rw h (by_choice (λ (c : Board). c.outputs.busy ≡ b.outputs.busy) (bit v 3) refl refl)

  above-stays : Above Stays
  unfolding written_at
  above-stays = record {
    count = λ s. written-stays (count_written b.clocks.timer s v (gates b));
    control_word = written-stays (control_word_written b.clocks.timer v (gates b));
    port_data = λ q. refl;
    port_control = refl;
    reserved = refl;
    auxiliary = refl;
    cal_data = refl;
    cal_address = refl;
    cal_base14 = refl;
    cal_base15 = refl;
    outside = refl;
  }

  write-stays : eqb n 5 ≡ false → (eqb n 8 ≡ true → is_reset v ≡ false) → Stays (place_of b.registers.page n)
  unfolding written_at counting_written
  write-stays h k =
      of_offset Stays n
      (record {
        base0 = λ _. refl;
        base1 = λ _. refl;
        base2 = λ _. refl;
        base3 = λ _. refl;
        base4 = λ _. refl;
        base5 = λ t. never (sym h ∙ t);
        base6 = λ _. refl;
        base7 = λ _. refl;
        base8 = λ t. misc_stays (k t);
        base9 = λ _. refl;
        base10 = λ _. refl;
        base11 = λ _. refl;
        above = λ _. above-stays;
      })
      b.registers.page

less_none : {x y : ℕ} → x ≡ y → x ≡ y - 0
less_none {x} {y} h = omega arith

-- a tick takes one off it, and no other event changes it
pub busy-moves : (b : Board) (o : Option ℕ) (e : List ℕ) (ev : Event) → resets ev ≡ false → is_load ev ≡ false
    → (acted b o e ev).board.outputs.busy ≡ b.outputs.busy - ticks_of ev
unfolding acted resets din_set din3_triggered din0_clocked din_moved timer_moved latch_set port_set ticked outputs_ticked counter1_ticked counter0_ticked
    dividers_ticked
busy-moves b o e (WriteByte n v) r l = less_none (write-stays b n v l (under_and (eqb n 8) (is_reset v) r))
busy-moves b o e (ReadByte n) r l = less_none (read-leaves b (place_of b.registers.page n)).busy
busy-moves b o e (ReadWord n) r l = less_none refl
busy-moves b o e (ConversionEnd code) r l = less_none refl
busy-moves b o e (DinPins d) r l = less_none refl
busy-moves b o e (LatchLevel level) r l = less_none refl
busy-moves b o e (PortPins q v) r l = less_none refl
busy-moves b o e Tick r l = refl
busy-moves b o e TransferEnd r l = less_none refl
