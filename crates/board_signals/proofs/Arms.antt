-- The ways out of the pins' events and of a transfer's end, over plain values. Assumes nothing.
use mathlib.Core.Path.{◌≡◌, refl, sym, ◌∙◌}
use mathlib.Core.Bool.{Bool, true, false, not, ◌&&◌}
use mathlib.Core.List.{List}
use Prim.Native.Nat.{ℕ, ◌<◌, ◌≤◌, ◌%◌}
use borrow.Author.Tests.{lt-ltb, le-ltb}
use lib.Dec.{eqb}
use Rattle.base.specs.Flags.{on, flag}
use Rattle.requests.specs.Requests.{asked_latch}
use Rattle.requests.specs.declared.Requests.{Requests}
use Rattle.ports.specs.Ports.{pins_set}
use Rattle.ports.specs.declared.Ports.{Ports}
use Rattle.ports.specs.declared.Port.{Port}
use Rattle.calibration_registers.specs.Registers.{nothing_runs}
use Rattle.calibration_registers.specs.declared.Calibration.{Calibration}
use Rattle.calibration_end.specs.Ends as transfers
use Rattle.machine_record.specs.Parts.{with_requests, with_ports, with_pins, with_calibration}
use Rattle.machine_record.specs.declared.Board.{Board}
use Rattle.machine_clock.specs.Clock.{timer_moved}
use Rattle.machine_pins.specs.Pins.{din_moved, din0_clocked, din3_triggered, din_set, latch_set, port_set}
use Rattle.board_refusal.specs.Refusals.{event_checks}
use Rattle.board_step.specs.Act.{acted, eeprom_acted}
use Rattle.board_step.specs.Step.{ran}
use Rattle.board_step.specs.Ways.{Promised, Opened, laid, refused, done}
use Rattle.board_events.specs.declared.Answer.TheVariants.{Refused, Done}
use Rattle.board_events.specs.declared.Event.TheVariants.{DinPins, LatchLevel, PortPins, TransferEnd}

module _ (b : Board) (m e : List ℕ) where
  -- ---- the DIN pins, the Latch pin, the pins of a port
  pub din-refused : {n : ℕ} → Opened b m e → 15 < n → Promised b m e (DinPins (record { lines = n })) (record { board = b; answer = Refused 5 }) m e
  unfolding event_checks
  din-refused {n} o h = refused b m e (DinPins (record { lines = n })) o (rw (lt-ltb 15 n h)) refl

  pub din : {n : ℕ} {d : Board} → Opened b m e → n ≤ 15 → d ≡ din_set b (n % 16)
      → Promised b m e (DinPins (record { lines = n })) (record { board = d; answer = Done }) m e
  unfolding event_checks ran acted eeprom_acted din_set din3_triggered din0_clocked din_moved timer_moved
  din {n} o h d =
      done b m e (DinPins (record { lines = n })) o (rw (le-ltb 15 n h)) (record { outcome = rw d; memory = laid o; eeprom = refl })

  pub latch : (level : ℕ) {q : Requests} → Opened b m e → q ≡ asked_latch b.requests (not (on b.pins.latch) && not (eqb level 0))
      → Promised b m e (LatchLevel level)
      (record { board = with_pins (with_requests b q) (record { din = b.pins.din; latch = flag (not (eqb level 0)) }); answer = Done }) m e
  unfolding event_checks ran acted eeprom_acted latch_set
  latch level o q = done b m e (LatchLevel level) o refl (record { outcome = rw q; memory = laid o; eeprom = refl })

  pub port : (q : Port) (v : ℕ) {k : Ports} → Opened b m e → k ≡ pins_set b.ports q v
      → Promised b m e (PortPins q v) (record { board = with_ports b k; answer = Done }) m e
  unfolding event_checks ran acted eeprom_acted port_set
  port q v o k = done b m e (PortPins q v) o refl (record { outcome = rw k; memory = laid o; eeprom = refl })

  -- ---- the end of a transfer
  pub transfer-refused : {t : Bool} → Opened b m e → t ≡ nothing_runs b.calibration → t ≡ true
      → Promised b m e TransferEnd (record { board = b; answer = Refused 10 }) m e
  unfolding event_checks
  transfer-refused o k h = refused b m e TransferEnd o (rw (sym k ∙ h)) refl

  pub transfer : {t : Bool} {x : Calibration} {e' : List ℕ} → Opened b m e → t ≡ nothing_runs b.calibration → t ≡ false
      → (x ≡ transfers.calibration_ended b.calibration e) × (e' ≡ transfers.eeprom_ended b.calibration e)
      → Promised b m e TransferEnd (record { board = with_calibration b x; answer = Done }) m e'
  unfolding event_checks ran acted eeprom_acted
  transfer o k h x =
      done b m e TransferEnd o (rw (sym k ∙ h)) (record { outcome = rw x.0; memory = laid o; eeprom = x.1 })
