-- A board with another place of its oldest sample: no register shows the place, and no event but by the sample memory itself moves it. Assumes nothing.
use Rattle.std.specs.Prelude.{ℕ, ◌+◌, ◌≡◌, Bool, List, ltb, if◌then◌else◌, Result, Ok, Err, Option}
use Rattle.std.proofs.Math.Path.{refl}
use Rattle.std.proofs.Math.Bool.{true, false}
use Rattle.base.specs.Fields.{bit}
use Rattle.fifo.specs.Queue.{pushed_to}
use Rattle.fifo.specs.Flags.{flag_bits}
use Rattle.fifo.specs.declared.Fifo.{Fifo}
use Rattle.timer.specs.Bus as timer
use Rattle.base.specs.declared.Refusal.{Refusal}
use Rattle.timer.specs.declared.Timer.{Timer}
use Rattle.machine_record.specs.Parts.{with_fifo}
use Rattle.machine_record.specs.declared.Board.{Board}
use Rattle.machine_clock.specs.Clock.{gates, timer_moved, timer_moved_by, counting_written}
use Rattle.machine_tick.specs.Tick.{dividers_ticked, counter0_ticked, counter1_ticked, outputs_ticked, ticked}
use Rattle.machine_pins.specs.Pins.{din_moved, din0_clocked, din3_triggered, din_set, latch_set, port_set}
use Rattle.machine_reset.specs.Reset.{is_reset, board_reset, requests_cleared, page_set, misc_written}
use Rattle.bus.specs.Place.{place_of}
use Rattle.bus.specs.Registers.{register_at, write_checks, written_at, byte_at, after_read}
use Rattle.bus.specs.declared.Place.{Place}
use Rattle.bus.specs.declared.Place.TheVariants.{Base0, Base1, Base2, Base3, Base4, Base5, Base6, Base7}
use Rattle.bus.specs.declared.Place.TheVariants.{Base8, Base9, Base10, Base11, Count, ControlWord, PortData, PortControl}
use Rattle.bus.specs.declared.Place.TheVariants.{Reserved, Auxiliary, CalData, CalAddress, CalBase14, CalBase15, Outside}
use Rattle.board_refusal.specs.Refusals.{event_checks}
use Rattle.board_step.specs.Act.{acted, eeprom_acted}
use Rattle.board_events.specs.declared.Event.{Event}
use Rattle.board_events.specs.declared.Event.TheVariants.{WriteByte, ReadByte, ReadWord, ConversionEnd, DinPins, LatchLevel, PortPins, Tick, TransferEnd}

-- the same board, its oldest sample at another place
abbrev pub placed : Board → ℕ → Board
placed b p = with_fifo b (record { held = b.fifo.held; place = p; ovf = b.fifo.ovf })

module _ (b : Board) (p : ℕ) where
  timer-placed : (r : Result Timer Refusal) → timer_moved_by (placed b p) r ≡ placed (timer_moved_by b r) p
  unfolding timer_moved
  timer-placed (Ok t) = refl
  timer-placed (Err r) = refl

  misc_placed : (v : ℕ) → misc_written (placed b p) v ≡ placed (misc_written b v) p
  unfolding misc_written board_reset requests_cleared page_set
  misc_placed v = by (is_reset v) (bit v 3)
    where
      by : (r i : Bool) → (if r then board_reset (placed b p) (bit v 5) else if i then requests_cleared (placed b p) else page_set (placed b p) v)
          ≡ placed (if r then board_reset b (bit v 5) else if i then requests_cleared b else page_set b v) p
      by true i = refl
      by false true = refl
      by false false = refl

  -- ---- the row of each place of the bus: a byte written and its checks, a read and the byte that it shows
  pub record RowPlaced (q : Place) : Type 0 where
    pub written : (v : ℕ) → written_at (placed b p) q v ≡ placed (written_at b q v) p
    pub checks : (v : ℕ) → write_checks (placed b p) q v ≡ write_checks b q v
    pub read : after_read (placed b p) q ≡ placed (after_read b q) p
    pub shown : (o : Option ℕ) → byte_at (placed b p) o q ≡ byte_at b o q

  pub row-placed : (q : Place) → RowPlaced q
  unfolding written_at write_checks after_read byte_at register_at counting_written flag_bits
  row-placed Base0 = record { written = λ v. refl; checks = λ v. refl; read = refl; shown = λ o. refl }
  row-placed Base1 = record { written = λ v. refl; checks = λ v. refl; read = refl; shown = λ o. refl }
  row-placed Base2 = record { written = λ v. refl; checks = λ v. refl; read = refl; shown = λ o. refl }
  row-placed Base3 = record { written = λ v. refl; checks = λ v. refl; read = refl; shown = λ o. refl }
  row-placed Base4 = record { written = λ v. refl; checks = λ v. refl; read = refl; shown = λ o. refl }
  row-placed Base5 = record { written = λ v. refl; checks = λ v. refl; read = refl; shown = λ o. refl }
  row-placed Base6 = record { written = λ v. refl; checks = λ v. refl; read = refl; shown = λ o. refl }
  row-placed Base7 = record { written = λ v. refl; checks = λ v. refl; read = refl; shown = λ o. refl }
  row-placed Base8 = record { written = misc_placed; checks = λ v. refl; read = refl; shown = λ o. refl }
  row-placed Base9 = record { written = λ v. refl; checks = λ v. refl; read = refl; shown = λ o. refl }
  row-placed Base10 = record { written = λ v. refl; checks = λ v. refl; read = refl; shown = λ o. refl }
  row-placed Base11 = record { written = λ v. refl; checks = λ v. refl; read = refl; shown = λ o. refl }
  row-placed (Count s) =
      record { written = λ v. timer-placed (timer.count_written b.clocks.timer s v (gates b)); checks = λ v. refl; read = refl; shown = λ o. refl }
  row-placed ControlWord =
      record { written = λ v. timer-placed (timer.control_word_written b.clocks.timer v (gates b)); checks = λ v. refl; read = refl; shown = λ o. refl }
  row-placed (PortData q) = record { written = λ v. refl; checks = λ v. refl; read = refl; shown = λ o. refl }
  row-placed PortControl = record { written = λ v. refl; checks = λ v. refl; read = refl; shown = λ o. refl }
  row-placed Reserved = record { written = λ v. refl; checks = λ v. refl; read = refl; shown = λ o. refl }
  row-placed Auxiliary = record { written = λ v. refl; checks = λ v. refl; read = refl; shown = λ o. refl }
  row-placed CalData = record { written = λ v. refl; checks = λ v. refl; read = refl; shown = λ o. refl }
  row-placed CalAddress = record { written = λ v. refl; checks = λ v. refl; read = refl; shown = λ o. refl }
  row-placed CalBase14 = record { written = λ v. refl; checks = λ v. refl; read = refl; shown = λ o. refl }
  row-placed CalBase15 = record { written = λ v. refl; checks = λ v. refl; read = refl; shown = λ o. refl }
  row-placed Outside = record { written = λ v. refl; checks = λ v. refl; read = refl; shown = λ o. refl }

  -- ---- an end of a conversion counts the samples held
  held-placed : (pushed_to (placed b p).fifo).held ≡ (pushed_to b.fifo).held
  unfolding pushed_to
  held-placed = by (ltb b.fifo.held 512)
    where
      by : (t : Bool)
          → (if◌then◌else◌ {A = Fifo} t (record { held = b.fifo.held + 1; place = p; ovf = b.fifo.ovf })
          (record { held = b.fifo.held; place = p; ovf = 1 })).held
          ≡ (if◌then◌else◌ {A = Fifo} t (record { held = b.fifo.held + 1; place = b.fifo.place; ovf = b.fifo.ovf })
          (record { held = b.fifo.held; place = b.fifo.place; ovf = 1 })).held
      by true = refl
      by false = refl

  -- ---- any event
  pub acted-placed : (o : Option ℕ) (e : List ℕ) (ev : Event)
      → acted (placed b p) o e ev ≡ record { board = placed (acted b o e ev).board p; answer = (acted b o e ev).answer; effect = (acted b o e ev).effect }
  unfolding acted din_moved din0_clocked din3_triggered din_set latch_set port_set dividers_ticked counter0_ticked counter1_ticked outputs_ticked ticked
      timer_moved
  acted-placed o e (WriteByte n v) = rw ((row-placed (place_of b.registers.page n)).written v)
  acted-placed o e (ReadByte n) = let row = row-placed (place_of b.registers.page n) in rw (row.read, row.shown o)
  acted-placed o e (ReadWord n) = refl
  acted-placed o e (ConversionEnd code) = rw held-placed
  acted-placed o e (DinPins d) = refl
  acted-placed o e (LatchLevel level) = refl
  acted-placed o e (PortPins q v) = refl
  acted-placed o e Tick = refl
  acted-placed o e TransferEnd = refl

  pub eeprom-placed : (e : List ℕ) (ev : Event) → eeprom_acted (placed b p) e ev ≡ eeprom_acted b e ev
  unfolding eeprom_acted
  eeprom-placed e (WriteByte n v) = refl
  eeprom-placed e (ReadByte n) = refl
  eeprom-placed e (ReadWord n) = refl
  eeprom-placed e (ConversionEnd code) = refl
  eeprom-placed e (DinPins d) = refl
  eeprom-placed e (LatchLevel level) = refl
  eeprom-placed e (PortPins q v) = refl
  eeprom-placed e Tick = refl
  eeprom-placed e TransferEnd = refl

  -- ---- what is refused
  pub checks-placed : (ev : Event) → event_checks (placed b p) ev ≡ event_checks b ev
  unfolding event_checks
  checks-placed (WriteByte n v) = (row-placed (place_of b.registers.page n)).checks v
  checks-placed (ReadByte n) = refl
  checks-placed (ReadWord n) = refl
  checks-placed (ConversionEnd code) = refl
  checks-placed (DinPins d) = refl
  checks-placed (LatchLevel level) = refl
  checks-placed (PortPins q v) = refl
  checks-placed Tick = refl
  checks-placed TransferEnd = refl
