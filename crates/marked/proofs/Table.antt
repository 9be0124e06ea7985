-- Theorems that rest on theorems of specs/Table.antt, and promise as those do. What specs/Table.antt says of itself:
-- The specification, "Marked for proof (as one table)": each board case starts fresh, with what it says besides.
use Rattle.std.specs.Prelude.{◌≡◌, refl, List, [], ◌∷◌, ◌++◌, pos, neg_ℤ}
use Rattle.std.proofs.Common.{ap, ◌∙◌}
use Rattle.std.specs.Float.Ieee.{round}
use Rattle.counter_modes.specs.Control.{command, word_refused, setup_of}
use Rattle.counter_element.specs.Element.{counted_by}
use Rattle.counter_one.specs.Counter.{commanded, pulsed, gate_moved, counter_read, byte_refused, byte_written}
use Rattle.timer.specs.Timer.{moved, clocked_if, gates_moved}
use Rattle.timer.specs.Bus.{control_word_refused, control_word_written, count_refused, count_written, timer_read}
use Rattle.fifo.specs.Samples.{pushed}
use Rattle.fifo.specs.Queue.{pushed_to, popped_from}
use Rattle.fifo.specs.Flags.{flag_bits}
use Rattle.converter.specs.Channels.{next_channel}
use Rattle.machine_record.specs.declared.Board.{Board}
use Rattle.machine_clock.specs.Clock.{timer_moved, counting_written}
use Rattle.machine_tick.specs.Tick.{dividers_ticked, counter0_ticked, counter1_ticked, outputs_ticked, ticked}
use Rattle.machine_reset.specs.Reset.{board_reset, requests_cleared, page_set, misc_written}
use Rattle.bus.specs.Place.{place_of}
use Rattle.bus.specs.Registers.{write_checks, written_at, write_effect, read_checks, byte_at, after_read, read_effect}
use Rattle.board_step.specs.Act.{acted, eeprom_acted}
use Rattle.board_refusal.specs.Refusals.{event_checks}
use Rattle.board_step.specs.Step.{ran}
use Rattle.board_laws.specs.Held.{held_answer, happened}
use Rattle.board_laws.specs.Stretches.{after_events}
use Rattle.board_events.specs.declared.Event.{Event}
use Rattle.board_events.specs.declared.Event.TheVariants.{WriteByte, ReadByte, ReadWord, ConversionEnd, Tick}
use Rattle.collector_settings.specs.Settings.{start_refusal}
use Rattle.collector_records.specs.Records.{start_of}
use Rattle.marked.specs.Runs.{fresh, full, answers, shown_after, OUT0, channel, times, conversions, beginnings, each_tick}
use Rattle.marked.specs.RunsLaws as runs
use Rattle.marked.proofs.RunsLaws as runs_proved
use Rattle.marked.specs.Table.{Marked, counter0, range}

-- ---- the cases on a fresh board, by what it holds
said : (es : List Event) → answers fresh es ≡ runs.held_answers runs.fresh_held es
said es = runs.answers-held fresh runs.fresh_held es runs.fresh_holds

left : (es : List Event) → (after_events fresh es).board ≡ (runs.held_after runs.fresh_held es).board
left es = runs.board-held _ _ (runs.events_hold fresh runs.fresh_held es runs.fresh_holds)

seen : {X : Type 0} (look : Board → X) (es : List Event) (ess : List (List Event))
    → shown_after look (after_events fresh es) ess ≡ runs.held_shown look (runs.held_after runs.fresh_held es) ess
seen look es ess = runs.shown-held look _ _ ess (runs.events_hold fresh runs.fresh_held es runs.fresh_holds)

pub marked : Marked
unfolding start_of start_refusal command word_refused setup_of counted_by commanded pulsed gate_moved counter_read byte_refused byte_written moved clocked_if
    gates_moved control_word_refused control_word_written count_refused count_written timer_read pushed pushed_to popped_from flag_bits next_channel
    timer_moved dividers_ticked counter0_ticked counter1_ticked outputs_ticked ticked counting_written board_reset requests_cleared page_set misc_written
    place_of byte_at after_read read_effect written_at write_effect write_checks read_checks acted eeprom_acted event_checks ran held_answer happened times
    conversions beginnings round
marked =
    record {
      fresh-works = runs.fresh-works;
      full-works = runs.full-works;
      case_1 = said (WriteByte 7 0x0A ∷ ReadByte 7 ∷ []);
      case_2 = λ oldest others l.
          runs.answers-held (full (oldest ∷ others)) (runs.full_held (oldest ∷ others))
          (ReadByte 7 ∷ WriteByte 0 0 ∷ ConversionEnd (pos 1) ∷ ReadByte 7 ∷ ReadWord 0 ∷ []) (runs_proved.full-holds (oldest ∷ others) l) ∙ rw l;
      case_2_held = λ samples l.
          ap (λ (b : Board). b.fifo)
          (runs.board-held _ _ (runs.events_hold (full samples) (runs.full_held samples)
          (WriteByte 0 0 ∷ ConversionEnd (pos 1) ∷ ReadWord 0 ∷ []) (runs_proved.full-holds samples l)));
      case_3 = seen channel (range 3 5) (beginnings 5);
      case_3_selected = ap (λ (b : Board). b.converter.selected) (left (range 3 5 ++ conversions 5));
      case_4 = seen channel (range 30 1) (beginnings 5);
      case_5 = ap (λ (b : Board). b.registers.page) (left (WriteByte 8 1 ∷ WriteByte 8 0x0B ∷ []));
      case_6 = refl;
      case_6_bytes =
          runs.answers-held _ _ (ReadByte 0 ∷ ReadByte 1 ∷ [])
          (runs.events_hold fresh runs.fresh_held (WriteByte 0 0 ∷ ConversionEnd (neg_ℤ (pos 15008)) ∷ []) runs.fresh_holds);
      case_6_volts = refl;
      case_6_decimal = (refl, refl);
      case_6_hex = (refl, refl);
      case_7 = refl;
      case_7_bytes = refl;
      case_8_top = refl;
      case_8_above = refl;
      case_8_low = refl;
      case_8_below = refl;
      case_9 = seen OUT0 (counter0 0x14 3) (each_tick 6);
      case_10 = seen OUT0 (counter0 0x10 2) (each_tick 4);
      case_10_count = ap (λ (b : Board). b.clocks.timer.counter0.count.element) (left (counter0 0x10 2 ++ times 4 Tick));
      case_11_taken = refl;
      case_11_refused = refl;
    }
