-- A write of 8 that resets the board, and the jumpers of a working one: laws for the theorem about resets.
use Rattle.std.specs.Prelude.{ℕ, zero, suc, ◌≤◌, ◌≡◌, refl, true, replicate, eqb}
use Rattle.std.proofs.Common.{arith}
use borrow.Author.Tests.{eq-eqb}
use Rattle.base.specs.Fields.{bit}
use Rattle.base.specs.Flags.{on, flag, flag-on}
use Rattle.fifo.specs.Queue.{empty_fifo}
use Rattle.fifo.specs.Queue.Places.{layout-empty}
use Rattle.machine_record.specs.Parts.{with_fifo}
use Rattle.machine_record.specs.Fresh.{jumpers_number, jumpers_of}
use Rattle.machine_record.specs.Working.{WorkingMachine}
use Rattle.machine_record.specs.declared.Board.{Board}
use Rattle.machine_reset.specs.Reset.{is_reset, board_reset, misc_written}
use Rattle.bus.specs.Place.{place_of}
use Rattle.bus.specs.Registers.{write_checks, written_at, write_effect}
use Rattle.board_refusal.specs.Refusals.{event_checks}
use Rattle.board_step.specs.Act.{acted, eeprom_acted}
use Rattle.board_step.specs.Step.{ran, step_of, memory_after, eeprom_after}
use Rattle.board_step.specs.States.{State, Works, refusal_at, answer_at, after_event}
use Rattle.board_laws.specs.Held.{number-working}
use Rattle.board_events.specs.declared.Answer.TheVariants.{Done}
use Rattle.board_events.specs.declared.Event.TheVariants.{WriteByte}

-- a working record keeps its jumpers as their number
kept_as : (n : ℕ) → n ≤ 3 → jumpers_number (jumpers_of n) ≡ n
kept_as zero h = refl
kept_as (suc zero) h = refl
kept_as (suc (suc zero)) h = refl
kept_as (suc (suc (suc zero))) h = refl
kept_as (suc (suc (suc (suc n)))) h = absurd (omega arith)

pub wiring_whole : (b : Board) → WorkingMachine b
    → record { inputs = jumpers_number (jumpers_of b.wiring.inputs); zeroscale = flag (on b.wiring.zeroscale) } ≡ b.wiring
wiring_whole b w = rw (kept_as b.wiring.inputs w.inputs, flag-on b.wiring.zeroscale w.zeroscale)

module _ (s : State) (v : ℕ) (w : Works s) where
  taken : eqb (refusal_at s (WriteByte 8 v)) 0 ≡ true
  unfolding event_checks place_of write_checks
  taken = eq-eqb _ _ (number-working s.board s.memory s.eeprom (WriteByte 8 v) w.working w.long)

  pub reset-leaves : is_reset v ≡ true
      → after_event s (WriteByte 8 v) ≡ record { board = with_fifo (board_reset s.board (bit v 5)) empty_fifo; memory = replicate 512 0; eeprom = s.eeprom }
  unfolding step_of memory_after eeprom_after ran acted eeprom_acted place_of written_at misc_written write_effect
  reset-leaves h = rw (taken, h, layout-empty)

  pub reset-done : answer_at s (WriteByte 8 v) ≡ Done
  unfolding step_of ran acted
  reset-done = rw (taken, answer_at)
