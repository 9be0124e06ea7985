-- What a reset leaves (manual, Base+8; the specification, "Registers", 8 write). "A reset zeroes all registers, page, selected channel and request flags,
-- forgets the key, empties memory, clears OVF, abandons conversion and transfer, ends DACBUSY and drops its load, makes ports inputs; RESETA also sets outputs
-- to 2048, or 0 by jumper. If both, RESETA. Counters, dividers, pins, TrimDAC and EEPROM remain. Reset beats INTRST." So the board is as a fresh one of its
-- jumpers but for those.
use Rattle.std.specs.Prelude.{ℕ, ◌≡◌, true, false, replicate}
use Rattle.std.proofs.Common.{◌∙◌}
use Rattle.base.specs.Fields.{bit}
use Rattle.base.specs.Flags.{on}
use Rattle.timer.specs.Timer.{gates_moved}
use Rattle.machine_clock.specs.Clock.{gates, gates_at}
use Rattle.machine_reset.specs.Reset.{board_reset}
use Rattle.machine_record.specs.Parts.{with_outputs}
use Rattle.machine_record.specs.Fresh.{jumpers_of, fresh_board}
use Rattle.machine_record.specs.declared.Board.{Board}
use Rattle.board_step.specs.States.{State, Works, answer_at, after_event}
use Rattle.board_laws.specs.ResetLaws.{wiring_whole, reset-leaves, reset-done}
use Rattle.board_events.specs.declared.Answer.TheVariants.{Done}
use Rattle.board_events.specs.declared.Event.TheVariants.{WriteByte}

-- a fresh board of the same jumpers and zero scale
abbrev pub fresh_like : Board → Board
fresh_like b = fresh_board (jumpers_of b.wiring.inputs) (on b.wiring.zeroscale)

-- the same, with what remains of b: the counters, whose gates all go high as Base+10 becomes 0, the dividers, the pins, the port pins among them, and the
-- TrimDAC
abbrev pub started_anew : Board → Board
started_anew b = record {
  converter = (fresh_like b).converter;
  requests = (fresh_like b).requests;
  fifo = (fresh_like b).fifo;
  registers = (fresh_like b).registers;
  outputs = (fresh_like b).outputs;
  clocks = record { timer = gates_moved b.clocks.timer (gates b) (gates_at 0 b.pins.din); hundred = b.clocks.hundred; thousand = b.clocks.thousand };
  ports = record { control = (fresh_like b).ports.control; latches = (fresh_like b).ports.latches; pins = b.ports.pins };
  calibration = record {
    value = (fresh_like b).calibration.value;
    address = (fresh_like b).calibration.address;
    transfer = (fresh_like b).calibration.transfer;
    key = (fresh_like b).calibration.key;
    cmuxen = (fresh_like b).calibration.cmuxen;
    trim = b.calibration.trim;
  };
  pins = b.pins;
  wiring = (fresh_like b).wiring;
}

-- with b's output codes besides; DACBUSY has ended, and the load and the holding byte are a fresh board's
abbrev pub started_but_outputs : Board → Board
started_but_outputs b =
    with_outputs (started_anew b) (record {
      codes = b.outputs.codes;
      load = (fresh_like b).outputs.load;
      lsb = (fresh_like b).outputs.lsb;
      busy = (fresh_like b).outputs.busy;
    })

-- of any working board, with memories of the right lengths, and any byte with that bit: an empty sample memory of zeros, and the EEPROM as it was
module _ (s : State) (v : ℕ) (w : Works s) where
  -- RESETA, bit 5
  pub reseta : bit v 5 ≡ true
      → after_event s (WriteByte 8 v) ≡ record { board = started_anew s.board; memory = replicate 512 0; eeprom = s.eeprom }
  unfolding board_reset
  reseta a = reset-leaves s v w (rw a) ∙ rw (a, wiring_whole s.board w.working.machine)

  -- RESETD, bit 4, without RESETA
  pub resetd : bit v 5 ≡ false → bit v 4 ≡ true
      → after_event s (WriteByte 8 v) ≡ record { board = started_but_outputs s.board; memory = replicate 512 0; eeprom = s.eeprom }
  unfolding board_reset
  resetd a d = reset-leaves s v w (rw (a, d)) ∙ rw (a, wiring_whole s.board w.working.machine)

  -- either is taken
  pub reset-taken : answer_at s (WriteByte 8 v) ≡ Done
  reset-taken = reset-done s v w
