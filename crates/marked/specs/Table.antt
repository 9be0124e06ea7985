-- The specification, "Marked for proof (as one table)": each board case starts fresh, with what it says besides.
use Rattle.std.specs.Prelude.{ℕ, ◌+◌, ◌*◌, ◌^◌, ◌≡◌, true, false, List, [], ◌∷◌, ◌++◌, Ok, Err, pos, negsuc, neg_ℤ, length}
use Rattle.std.specs.Float.{fin}
use Rattle.std.specs.Float.Ieee.Exact.{HasValue}
use Rattle.base.specs.Checks.{refused_by}
use Rattle.converter.specs.Codes.{code_of}
use Rattle.board_step.specs.States.{Works}
use Rattle.board_laws.specs.Stretches.{after_events}
use Rattle.board_events.specs.declared.Answer.TheVariants.{Done, Byte, Word}
use Rattle.board_events.specs.declared.Event.{Event}
use Rattle.board_events.specs.declared.Event.TheVariants.{WriteByte, ReadByte, ReadWord, ConversionEnd, Tick}
use Rattle.volts.specs.declared.Voltage.TheVariants.{Volts}
use Rattle.volts.specs.Volts.{input_voltage_of, voltage}
use Rattle.codes.specs.Output.{given, refused, output_of, bytes_of}
use Rattle.collector_records.specs.Records.{first_record, start_of}
use Rattle.marked.specs.Runs.{fresh, full, answers, shown_after, OUT0, channel, times, conversions, beginnings, each_tick, jumpers_c}

-- channels low to high are written
abbrev pub range : ℕ → ℕ → List Event
range low high = WriteByte 2 low ∷ WriteByte 3 high ∷ []

-- a control word and one byte of a count for counter 0
abbrev pub counter0 : ℕ → ℕ → List Event
counter0 word byte = WriteByte 15 word ∷ WriteByte 12 byte ∷ []

pub record Marked : Type 0 where
  -- the boards that the cases start on work: a fresh one, and a fresh one with any 512 samples held
  pub fresh-works : Works fresh
  pub full-works : (samples : List ℕ) → length samples ≡ 512 → Works (full samples)
  -- 1. 7←0A on an empty board: 7 reads 88
  pub case_1 : answers fresh (WriteByte 7 0x0A ∷ ReadByte 7 ∷ []) ≡ Done ∷ Byte 0x88 ∷ []
  -- 2. 512 held: 7 reads 60; one more end: 70; word read: 511 held, OVF clear
  pub case_2 : (oldest : ℕ) (others : List ℕ) → length (oldest ∷ others) ≡ 512
      → answers (full (oldest ∷ others)) (ReadByte 7 ∷ WriteByte 0 0 ∷ ConversionEnd (pos 1) ∷ ReadByte 7 ∷ ReadWord 0 ∷ [])
      ≡ Byte 0x60 ∷ Done ∷ Done ∷ Byte 0x70 ∷ Word oldest ∷ []
  pub case_2_held : (samples : List ℕ) → length samples ≡ 512
      → (after_events (full samples) (WriteByte 0 0 ∷ ConversionEnd (pos 1) ∷ ReadWord 0 ∷ [])).board.fifo ≡ record { held = 511; place = 1; ovf = 0 }
  -- 3. Channels 3-5, five conversions: 3,4,5,3,4; selected 5
  pub case_3 : shown_after channel (after_events fresh (range 3 5)) (beginnings 5) ≡ 3 ∷ 4 ∷ 5 ∷ 3 ∷ 4 ∷ []
  pub case_3_selected : (after_events fresh (range 3 5 ++ conversions 5)).board.converter.selected ≡ 5
  -- 4. Low 30, high 1: 30,31,0,1,30
  pub case_4 : shown_after channel (after_events fresh (range 30 1)) (beginnings 5) ≡ 30 ∷ 31 ∷ 0 ∷ 1 ∷ 30 ∷ []
  -- 5. Page 1, 8←0B: page 1
  pub case_5 : (after_events fresh (WriteByte 8 1 ∷ WriteByte 8 0x0B ∷ [])).board.registers.page ≡ 1
  -- 6. Bytes 60, C5: -15008; ±5 V: -2.2900390625. The manual's 17762 is hex 4562, not 4560
  pub case_6 : code_of (0x60 + 256 * 0xC5) ≡ neg_ℤ (pos 15008)
  pub case_6_bytes : answers (after_events fresh (WriteByte 0 0 ∷ ConversionEnd (neg_ℤ (pos 15008)) ∷ [])) (ReadByte 0 ∷ ReadByte 1 ∷ [])
      ≡ Byte 0x60 ∷ Byte 0xC5 ∷ []
  pub case_6_volts : voltage (input_voltage_of (neg_ℤ (pos 15008)) 0) ≡ Volts (fin true 2345 (negsuc 9))
  pub case_6_decimal : HasValue (fin true 2345 (negsuc 9)) true 22900390625 (10 ^ 10)
  pub case_6_hex : (◌≡◌ {A = ℕ} 17762 0x4562) × (◌≡◌ {A = ℕ} 17760 0x4560)
  -- 7. 3,000,000 µV, ±5: 3277, for channel 1 bytes 205, 76
  pub case_7 : output_of (pos 3000000) 0 ≡ given 3277
  pub case_7_bytes : bytes_of (pos 3000000) 0 1 ≡ given (205 + 256 * 76)
  -- 8. 4,998,779: 4095; 4,998,780: 18. -5,000,000: 0; -5,000,001: 18
  pub case_8_top : output_of (pos 4998779) 0 ≡ given 4095
  pub case_8_above : output_of (pos 4998780) 0 ≡ refused 18
  pub case_8_low : output_of (neg_ℤ (pos 5000000)) 0 ≡ given 0
  pub case_8_below : output_of (neg_ℤ (pos 5000001)) 0 ≡ refused 18
  -- 9. Counter 0, mode 2, count 3, OUT after ticks: H H L H H L
  pub case_9 : shown_after OUT0 (after_events fresh (counter0 0x14 3)) (each_tick 6) ≡ true ∷ true ∷ false ∷ true ∷ true ∷ false ∷ []
  -- 10. Counter 0, mode 0, count 2: L L H H; count 65,535 after the fourth
  pub case_10 : shown_after OUT0 (after_events fresh (counter0 0x10 2)) (each_tick 4) ≡ false ∷ false ∷ true ∷ true ∷ []
  pub case_10_count : (after_events fresh (counter0 0x10 2 ++ times 4 Tick)).board.clocks.timer.counter0.count.element ≡ 65535
  -- 11. Jumpers C, 8-15 taken; 15-24 refused 12
  pub case_11_taken : start_of (jumpers_c 8 15) ≡ Ok (first_record (jumpers_c 8 15))
  pub case_11_refused : start_of (jumpers_c 15 24) ≡ Err (refused_by 12)
