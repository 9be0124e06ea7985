-- The ways out of a read, over plain values: one law serves every place that is read alike. Assumes nothing.
use mathlib.Core.Path.{◌≡◌, refl, sym, ◌∙◌}
use mathlib.Core.Bool.{false}
use mathlib.Core.List.{List}
use Prim.Native.Nat.{ℕ}
use borrow.Author.Tests.{eq-eqb, ne_eqb}
use lib.Dec.{eqb}
use Rattle.std.specs.Prelude.{Option, Some, None}
use Rattle.base.specs.Checks.{refusal}
use Rattle.bus.specs.Place.{place_of}
use Rattle.bus.specs.Effects.{Keep, Take}
use Rattle.bus.specs.Registers.{read_checks, byte_at, after_read, read_effect}
use Rattle.bus.specs.declared.Place.{Place}
use Rattle.fifo.specs.Queue.{queue, Leaves, popped_from}
use Rattle.fifo.specs.Queue.Steps.{pop_none, none_found}
use Rattle.fifo.specs.Samples.{oldest_of, popped}
use Rattle.fifo.specs.declared.Fifo.{Fifo}
use Rattle.machine_record.specs.Parts.{with_fifo}
use Rattle.machine_record.specs.declared.Board.{Board}
use Rattle.board_refusal.specs.Refusals.{event_checks}
use Rattle.board_step.specs.Act.{acted, eeprom_acted}
use Rattle.board_step.specs.Step.{ran}
use Rattle.board_step.specs.Ways.{Promised, Opened, working, laid, refused, done}
use Rattle.board_events.specs.declared.Answer.TheVariants.{Refused, Byte, Word, Nothing}
use Rattle.board_events.specs.declared.Event.TheVariants.{ReadByte, ReadWord}

-- ---- a byte is read at a place
module _ (b : Board) (m e : List ℕ) (n : ℕ) {p k : Place} (o : Opened b m e) (at : p ≡ place_of b.registers.page n) (told : p ≡ k) where
  place : place_of b.registers.page n ≡ k
  place = sym at ∙ told

  pub read-refused : {i : ℕ} → refusal (read_checks k) ≡ i → eqb i 0 ≡ false → Promised b m e (ReadByte n) (record { board = b; answer = Refused i }) m e
  unfolding event_checks
  read-refused r z = refused b m e (ReadByte n) o (rw place r) z

  -- the samples stay
  pub read_kept : {x : ℕ} {d : Board} → refusal (read_checks k) ≡ 0 → read_effect k ≡ Keep → d.fifo ≡ b.fifo → d ≡ after_read b k
      → x ≡ byte_at b (oldest_of (queue b.fifo m)) k
      → Promised b m e (ReadByte n) (record { board = d; answer = Byte x }) m e
  unfolding event_checks ran acted eeprom_acted
  read_kept {x} {d} r keep f a x≡ =
      done b m e (ReadByte n) o (rw place r)
      (record { outcome = rw (place, keep, ← a, ← x≡, ← f); memory = rw (place, keep) (laid o); eeprom = refl })

  -- the oldest leaves
  pub read_taken : {x : ℕ} {f : Fifo} {m' : List ℕ} → refusal (read_checks k) ≡ 0 → read_effect k ≡ Take → b ≡ after_read b k
      → x ≡ byte_at b (oldest_of (queue b.fifo m)) k
      → Leaves (popped_from b.fifo) (popped (queue b.fifo m)) f m'
      → Promised b m e (ReadByte n) (record { board = with_fifo b f; answer = Byte x }) m' e
  unfolding event_checks ran acted eeprom_acted
  read_taken {x} r take a x≡ l =
      done b m e (ReadByte n) o (rw place r)
      (record { outcome = rw (place, take, ← a, ← x≡, l.fifo); memory = rw (place, take) l.laid; eeprom = refl })

-- ---- a word is read
module _ (b : Board) (m e : List ℕ) (n : ℕ) where
  pub word-outside : Opened b m e → (n ≡ 0 → ⊥) → Promised b m e (ReadWord n) (record { board = b; answer = Refused 3 }) m e
  unfolding event_checks
  word-outside o h = refused b m e (ReadWord n) o (rw (ne_eqb n 0 h)) refl

  -- a sample, which leaves
  pub word : {x : Option ℕ} {v : ℕ} {f : Fifo} {m' : List ℕ} → Opened b m e → n ≡ 0 → x ≡ oldest_of (queue b.fifo m) → x ≡ Some v
      → Leaves (popped_from b.fifo) (popped (queue b.fifo m)) f m'
      → Promised b m e (ReadWord n) (record { board = with_fifo b f; answer = Word v }) m' e
  unfolding event_checks ran acted eeprom_acted
  word o h x k l =
      done b m e (ReadWord n) o (rw (eq-eqb n 0 h))
      (record { outcome = rw (l.fifo, sym x ∙ k); memory = l.laid; eeprom = refl })

  -- nothing, and then nothing changes
  pub word-nothing : {x : Option ℕ} → Opened b m e → n ≡ 0 → x ≡ oldest_of (queue b.fifo m) → x ≡ None
      → Promised b m e (ReadWord n) (record { board = b; answer = Nothing }) m e
  unfolding event_checks ran acted eeprom_acted
  word-nothing o h x k =
      let w = (working o).fifo in
      let l = pop_none b.fifo m w (none_found b.fifo m w (sym k ∙ x)) in
      done b m e (ReadWord n) o (rw (eq-eqb n 0 h))
      (record { outcome = rw (sym l.fifo, sym x ∙ k); memory = l.laid; eeprom = refl })
