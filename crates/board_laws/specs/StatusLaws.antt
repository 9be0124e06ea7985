-- The byte that a board shows at 7, bit by bit: laws for the theorem about it and for the collector's look.
use Rattle.std.specs.Prelude.{ℕ, ◌+◌, ◌≤◌, ◌≡◌}
use Rattle.std.proofs.Common.{arith}
use Rattle.base.specs.Fields.{bit, lowest}
use Rattle.base.specs.Flags.{on}
use Rattle.base.specs.Weights.{weight_of, weight_le}
use Rattle.base.specs.Shown.{scaled, shows}
use Rattle.fifo.specs.Flags.{EF, HF, FF, OVF, flag_bits, flags-fit}
use Rattle.fifo.specs.declared.Fifo.{Fifo}
use Rattle.requests.specs.Registers.{mode_bits}
use Rattle.machine_record.specs.declared.Board.{Board}
use Rattle.bus.specs.Place.{place_of}
use Rattle.bus.specs.Bytes.{fifo_bits}
use Rattle.bus.specs.Registers.{read_checks, byte_at}
use Rattle.board_refusal.specs.Refusals.{event_checks}
use Rattle.board_step.specs.Act.{acted}
use Rattle.board_step.specs.Step.{ran}
use Rattle.board_step.specs.States.{State, Works, answer_at}
use Rattle.board_laws.specs.Held.{held_answer, step-held}
use Rattle.board_events.specs.declared.Answer.TheVariants.{Byte}
use Rattle.board_events.specs.declared.Event.TheVariants.{ReadByte}

module _ (b : Board) where
  abbrev pub status_byte : ℕ
  status_byte = fifo_bits b.fifo b.converter b.requests b.registers.page

  abbrev f : Fifo
  f = b.fifo

  -- FIFOEN, SCANEN and the page, below the four flags
  abbrev low : ℕ
  low = mode_bits b.converter b.requests + lowest 2 b.registers.page

  low_fits : low ≤ 15
  low_fits = omega (arith, weight_le (on b.requests.fifoen) 8, weight_le (on b.converter.scanen) 4)

  pub status-narrow : status_byte ≤ 255
  status-narrow = omega (arith, low_fits, flags-fit f)

  -- ---- EF, HF, FF and OVF are bits 7 to 4
  pub ef-shown : bit status_byte 7 ≡ EF f
  unfolding flag_bits
  ef-shown =
      shows status_byte 0 7 (weight_of (HF f) 64 + weight_of (FF f) 32 + weight_of (OVF f) 16 + low) (EF f) (omega arith)
      (omega (arith, low_fits, weight_le (HF f) 64, weight_le (FF f) 32, weight_le (OVF f) 16))

  pub hf_shown : bit status_byte 6 ≡ HF f
  unfolding flag_bits
  hf_shown =
      shows status_byte (weight_of (EF f) 1) 6 (weight_of (FF f) 32 + weight_of (OVF f) 16 + low) (HF f) (omega (arith, scaled (EF f) 1 128))
      (omega (arith, low_fits, weight_le (FF f) 32, weight_le (OVF f) 16))

  pub ff-shown : bit status_byte 5 ≡ FF f
  unfolding flag_bits
  ff-shown =
      shows status_byte (weight_of (EF f) 2 + weight_of (HF f) 1) 5 (weight_of (OVF f) 16 + low) (FF f)
      (omega (arith, scaled (EF f) 2 64, scaled (HF f) 1 64)) (omega (arith, low_fits, weight_le (OVF f) 16))

  pub ovf-shown : bit status_byte 4 ≡ OVF f
  unfolding flag_bits
  ovf-shown =
      shows status_byte (weight_of (EF f) 4 + weight_of (HF f) 2 + weight_of (FF f) 1) 4 low (OVF f)
      (omega (arith, scaled (EF f) 4 32, scaled (HF f) 2 32, scaled (FF f) 1 32)) (omega (arith, low_fits))

-- a working board answers a read of 7 by it, on every page
pub status-answered : (s : State) → Works s → answer_at s (ReadByte 7) ≡ Byte (status_byte s.board)
unfolding held_answer event_checks read_checks place_of ran acted byte_at
status-answered s w = (step-held s.board s.memory s.eeprom (ReadByte 7) w.working w.long).answer
