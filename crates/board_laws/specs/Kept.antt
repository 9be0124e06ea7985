-- Every event keeps a working board working, and a fresh board with fresh stores is one. The specification, "What is delivered"; condition 1
-- of acceptance: what is refused leaves board record, sample memory and EEPROM as they were.
use Rattle.std.specs.Prelude.{ℕ, ◌≡◌, Bool, List, [], if◌then◌else◌, Option}
use Rattle.std.proofs.Math.Path.{refl}
use Rattle.std.proofs.Math.Bool.{true, false}
use borrow.Author.Tests.{eqb-true, ne_eqb}
use Rattle.std.proofs.Math.ListN.{length}
use Rattle.std.proofs.Math.Dec.{eqb}
use Rattle.base.specs.Checks.{refusal}
use Rattle.fifo.specs.Samples.{oldest_of}
use Rattle.fifo.specs.Queue.{queue, layout, empty_fifo, pushed_to}
use Rattle.fifo.specs.Queue.Laws.{clear-works}
use Rattle.converter.proofs.Working.{ended-works}
use Rattle.calibration_end.specs.Laws as ends
use Rattle.counter_modes.specs.Control.{command, setup_of}
use Rattle.counter_one.specs.Counter.{gate_moved}
use Rattle.timer.specs.Timer.{gates_moved}
use Rattle.machine_record.specs.Fresh.{fresh_board}
use Rattle.machine_reset.specs.Reset.{board_reset}
use Rattle.machine_record.specs.Working.{WorkingMachine}
use Rattle.base.specs.Flags.{nonzero, on-flag}
use Rattle.converter.specs.Channels.{is_last}
use Rattle.requests.specs.Working as requests
use Rattle.machine_record.specs.Kept.{converter-kept, calibration-kept, same-working, fresh-working}
use Rattle.machine_tick.specs.Kept.{ticked-works}
use Rattle.machine_pins.specs.Kept.{din-works, latch-works, port-works}
use Rattle.machine_record.specs.declared.Board.{Board}
use Rattle.machine_record.specs.declared.Jumpers.{Jumpers}
use Rattle.bus.specs.Place.{place_of}
use Rattle.bus.proofs.Kept.{written-works}
use Rattle.bus.proofs.Kept.{read-works}
use Rattle.board_refusal.specs.Working.{WorkingBoard}
use Rattle.board_refusal.specs.Refusals.{event_checks}
use Rattle.board_step.specs.Sampled.{effect-works, effect-holds}
use Rattle.board_step.specs.Passed.{Passed, all-passed, din-levels_le}
use Rattle.board_step.specs.Act.{din_levels, acted, eeprom_acted}
use Rattle.board_step.specs.Step.{ran, ran_from, refusal_of, refused_by, step_of, memory_after, eeprom_after}
use Rattle.board_events.specs.declared.Event.{Event}
use Rattle.board_events.specs.declared.Event.TheVariants.{WriteByte, ReadByte, ReadWord, ConversionEnd, DinPins, LatchLevel, PortPins, Tick, TransferEnd}

-- ---- the record
pub acted-works : (b : Board) (o : Option ℕ) (e : List ℕ) (ev : Event) → WorkingMachine b → refusal (event_checks b ev) ≡ 0
    → WorkingMachine (acted b o e ev).board
unfolding acted
acted-works b o e (WriteByte n v) w h = written-works b (place_of b.registers.page n) v w
acted-works b o e (ReadByte n) w h = read-works b (place_of b.registers.page n) w
acted-works b o e (ReadWord n) w h = w
acted-works b o e (ConversionEnd code) w h =
    same-working _ _ (converter-kept b w _ (ended-works b.converter w.converter))
    (requests.ad_works b.requests (is_last b.converter) (pushed_to b.fifo).held w.requests) w.din w.latch refl refl refl refl refl refl refl
acted-works b o e (DinPins d) w h = din-works b (din_levels d) (din-levels_le d) w
acted-works b o e (LatchLevel level) w h = latch-works b (nonzero level) w
acted-works b o e (PortPins q v) w h = port-works b q v w
acted-works b o e Tick w h = ticked-works b w
acted-works b o e TransferEnd w h = calibration-kept b w _ (ends.ended-works b.calibration e w.calibration)

-- ---- an event that is not refused
pub ran-works : (b : Board) (m e : List ℕ) (ev : Event) → Passed b m e ev
    → WorkingBoard (ran_from b m e ev).board (layout (ran_from b m e ev).board.fifo (ran_from b m e ev).samples)
unfolding ran
ran-works b m e ev p =
    let a = acted b (oldest_of (queue b.fifo m)) e ev in
    let w = acted-works b (oldest_of (queue b.fifo m)) e ev p.works.machine p.event in
    record {
      machine = same-working a.board _ w w.requests w.din w.latch refl refl refl refl refl refl refl;
      fifo = effect-works b.fifo m p.works.fifo a.effect;
    }

pub ran-holds : (b : Board) (m e : List ℕ) (ev : Event) → Passed b m e ev
    → queue (ran_from b m e ev).board.fifo (layout (ran_from b m e ev).board.fifo (ran_from b m e ev).samples) ≡ (ran_from b m e ev).samples
unfolding ran
ran-holds b m e ev p = effect-holds b.fifo m p.works.fifo (acted b (oldest_of (queue b.fifo m)) e ev).effect

eeprom-long : (b : Board) (e : List ℕ) (ev : Event) → length (eeprom_acted b e ev) ≡ length e
unfolding eeprom_acted
eeprom-long b e (WriteByte n v) = refl
eeprom-long b e (ReadByte n) = refl
eeprom-long b e (ReadWord n) = refl
eeprom-long b e (ConversionEnd code) = refl
eeprom-long b e (DinPins d) = refl
eeprom-long b e (LatchLevel level) = refl
eeprom-long b e (PortPins q v) = refl
eeprom-long b e Tick = refl
eeprom-long b e TransferEnd = ends.eeprom_length b.calibration e

-- ---- any event
module _ (b : Board) (m e : List ℕ) (ev : Event) where
  -- a working board stays working, and its EEPROM keeps its length
  pub step_kept : WorkingBoard b m → WorkingBoard (step_of b m e ev).board (memory_after b m e ev)
  unfolding step_of memory_after
  step_kept w = by (eqb (refusal_of b m e ev) 0) refl
    where
      by : (t : Bool) → eqb (refusal_of b m e ev) 0 ≡ t
          → WorkingBoard
          (if t then record { board = (ran_from b m e ev).board; answer = (ran_from b m e ev).answer } else refused_by b (refusal_of b m e ev)).board
          (if t then layout (ran_from b m e ev).board.fifo (ran_from b m e ev).samples else m)
      by true h = ran-works b m e ev (all-passed b m e ev (eqb-true _ _ h))
      by false h = w

  pub eeprom-kept : length (eeprom_after b m e ev) ≡ length e
  unfolding eeprom_after ran
  eeprom-kept = by (eqb (refusal_of b m e ev) 0)
    where
      by : (t : Bool) → length (if t then (ran_from b m e ev).eeprom else e) ≡ length e
      by true = eeprom-long b e ev
      by false = refl

  -- what is refused changes nothing: the record, the sample memory and the EEPROM are as they were
  pub refused_unchanged : (refusal_of b m e ev ≡ 0 → ⊥)
      → (step_of b m e ev ≡ refused_by b (refusal_of b m e ev)) × (memory_after b m e ev ≡ m) × (eeprom_after b m e ev ≡ e)
  unfolding step_of memory_after eeprom_after
  refused_unchanged h =
      let t : eqb (refusal_of b m e ev) 0 ≡ false = ne_eqb _ _ h in
      (rw t, rw t, rw t)

-- ---- the fresh board with fresh stores
pub fresh-works : (j : Jumpers) (zeroscale : Bool) → WorkingBoard (fresh_board j zeroscale) (layout empty_fifo [])
fresh-works j zeroscale = record { machine = fresh-working j zeroscale; fifo = clear-works }

-- "A fresh board is as after RESETA"
pub fresh-reset : (j : Jumpers) (zeroscale : Bool) → board_reset (fresh_board j zeroscale) true ≡ fresh_board j zeroscale
unfolding board_reset gates_moved gate_moved setup_of command
fresh-reset j zeroscale = simp on-flag
