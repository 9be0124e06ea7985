-- The ways out of a byte write, over plain values: one law serves every place that is written alike. Assumes nothing.
use mathlib.Core.Path.{◌≡◌, refl, sym, ap, ap₂, ◌∙◌}
use mathlib.Core.Bool.{Bool, true, false}
use mathlib.Core.List.{List, []}
use Prim.Native.Nat.{ℕ, ◌/◌, ◌%◌}
use borrow.Author.Tests.{ne_eqb}
use lib.Dec.{eqb}
use Rattle.std.specs.Prelude.{Result, Ok, Err}
use Rattle.base.specs.Checks.{refusal}
use Rattle.base.specs.Fields.{bit}
use Rattle.bus.specs.Place.{place_of}
use Rattle.bus.specs.Effects.{Keep, Empty}
use Rattle.bus.specs.Bytes.{fifo_written}
use Rattle.bus.specs.Registers.{write_checks, written_at, write_effect}
use Rattle.bus.specs.declared.Place.{Place}
use Rattle.fifo.specs.Queue.{Leaves, empty_fifo}
use Rattle.fifo.specs.declared.Fifo.{Fifo}
use Rattle.converter.specs.Registers.{written_scanen}
use Rattle.converter.specs.declared.channels.Converter.{Converter}
use Rattle.requests.specs.Registers.{written_fifoen}
use Rattle.requests.specs.Requests.{flags_cleared}
use Rattle.requests.specs.declared.Requests.{Requests}
use Rattle.calibration_registers.specs.Registers.{key_forgotten}
use Rattle.calibration_registers.specs.declared.Calibration.{Calibration}
use Rattle.timer.specs.Timer.{gates_move}
use Rattle.timer.specs.Still.{gates-still}
use Rattle.timer.specs.Working.{WorkingTimer}
use Rattle.timer.specs.declared.Gates.{Gates}
use Rattle.base.specs.declared.Refusal.{Refusal}
use Rattle.timer.specs.declared.Timer.{Timer}
use Rattle.machine_record.specs.Parts.{with_fifo, with_converter, with_requests, with_registers, with_calibration}
use Rattle.machine_record.specs.declared.Board.{Board}
use Rattle.machine_clock.specs.Clock.{gates, gates_at, with_counting, counting_written, timer_moved, timer_moved_by}
use Rattle.machine_reset.specs.Reset.{is_reset, board_reset, requests_cleared, with_page, page_set, misc_written}
use Rattle.board_refusal.specs.Refusals.{event_checks}
use Rattle.board_step.specs.Act.{acted, eeprom_acted}
use Rattle.board_step.specs.Step.{ran}
use Rattle.board_step.specs.Ways.{Promised, Opened, laid, refused, done, chosen}
use Rattle.board_events.specs.declared.Answer.TheVariants.{Refused, Done}
use Rattle.board_events.specs.declared.Event.TheVariants.{WriteByte}

module _ (b : Board) (m e : List ℕ) (n v : ℕ) {p k : Place} (o : Opened b m e) (at : p ≡ place_of b.registers.page n) (told : p ≡ k) where
  place : place_of b.registers.page n ≡ k
  place = sym at ∙ told

  pub write-refused : {i : ℕ} → refusal (write_checks b k v) ≡ i → eqb i 0 ≡ false
      → Promised b m e (WriteByte n v) (record { board = b; answer = Refused i }) m e
  unfolding event_checks
  write-refused r z = refused b m e (WriteByte n v) o (rw place r) z

  -- the samples stay
  pub write_kept : {d : Board} → refusal (write_checks b k v) ≡ 0 → write_effect k v ≡ Keep → d.fifo ≡ b.fifo → d ≡ written_at b k v
      → Promised b m e (WriteByte n v) (record { board = d; answer = Done }) m e
  unfolding event_checks ran acted eeprom_acted
  write_kept {d} r keep f a =
      done b m e (WriteByte n v) o (rw place r)
      (record { outcome = rw (place, keep, ← a, ← f); memory = rw (place, keep) (laid o); eeprom = refl })

  -- none is left
  pub write-emptied : {d : Board} {f : Fifo} {m' : List ℕ} → refusal (write_checks b k v) ≡ 0 → write_effect k v ≡ Empty → d ≡ written_at b k v
      → Leaves empty_fifo [] f m'
      → Promised b m e (WriteByte n v) (record { board = with_fifo d f; answer = Done }) m' e
  unfolding event_checks ran acted eeprom_acted
  write-emptied {d} r empty a l =
      done b m e (WriteByte n v) o (rw place r)
      (record { outcome = rw (place, empty, ← a, l.fifo); memory = rw (place, empty) l.laid; eeprom = refl })

-- ---- a timer that moves leaves the sample memory's record
timer-moved_fifo : (b : Board) (w : Result Timer Refusal) → (timer_moved_by b w).fifo ≡ b.fifo
unfolding timer_moved
timer-moved_fifo b (Ok t) = refl
timer-moved_fifo b (Err r) = refl

pub timer-moved_kept : (b : Board) (w : Result Timer Refusal) {d : Board} → d ≡ timer_moved_by b w → d.fifo ≡ b.fifo
timer-moved_kept b w h = ap (λ (z : Board). z.fifo) h ∙ timer-moved_fifo b w

-- ---- 7, its two parts
pub fifo-put : (b : Board) (v : ℕ) {q : Requests} {k : Converter} → q ≡ written_fifoen b.requests v → k ≡ written_scanen b.converter v
    → with_converter (with_requests b q) k ≡ fifo_written b v
fifo-put b v q k = rw (q, k)

-- ---- 10, where no gate moves
pub gates-stay : (b : Board) (v : ℕ) {was is : Gates} {t : Bool} → WorkingTimer b.clocks.timer → was ≡ gates b → is ≡ gates_at v b.pins.din
    → t ≡ gates_move was is → t ≡ false → with_registers b (with_counting b.registers v) ≡ counting_written b v
unfolding counting_written
gates-stay b v w i j k h =
    rw (gates-still b.clocks.timer (gates b) (gates_at v b.pins.din) w (ap₂ (λ (x y : Gates). gates_move x y) (sym i) (sym j) ∙ sym k ∙ h))

-- ---- 8, by its three cases
module _ (b : Board) (v : ℕ) {t : Bool} (k : t ≡ is_reset v) where
  pub misc_reset : {d : Board} → t ≡ true → d ≡ board_reset b (bit v 5) → d ≡ misc_written b v
  unfolding misc_written
  misc_reset h d = d ∙ sym (chosen _ _ k h)

  pub misc_cleared : {q : Requests} → t ≡ false → v / 8 % 2 ≡ 1 → q ≡ flags_cleared b.requests → with_requests b q ≡ misc_written b v
  unfolding misc_written requests_cleared
  misc_cleared h i q = rw (q, sym k ∙ h, i)

  pub misc_paged : {c : Calibration} → t ≡ false → (v / 8 % 2 ≡ 1 → ⊥) → c ≡ key_forgotten b.calibration
      → with_calibration (with_registers b (with_page b.registers (v % 4))) c ≡ misc_written b v
  unfolding misc_written page_set
  misc_paged h i c = rw (c, sym k ∙ h, ne_eqb (v / 8 % 2) 1 i)
