-- The ways out of `written`, `of_working`, `counts` and `note_ticks`, over plain values. Assumes nothing.
use Prim.Native.Nat.{ℕ, ◌%◌, ◌≤◌, ◌<◌}
use mathlib.Core.Path.{◌≡◌, refl, sym, ap, ◌∙◌}
use mathlib.Core.Bool.{Bool, true, false, not, ◌&&◌, ◌||◌}
use mathlib.Core.List.{List}
use borrow.Author.Tests.{eq-eqb, ne_eqb, lt-ltb, le-ltb}
use lib.IntN.{ℤ}
use lib.Dec.{eqb}
use Rattle.std.specs.Prelude.{Result, is_err, if◌then◌else◌}
use Rattle.base.specs.declared.Refusal.{Refusal}
use Rattle.base.specs.Checks.{refusal, checked}
use Rattle.base.specs.Flags.{on, flag}
use Rattle.base.specs.Laws.{never, not_true}
use Rattle.timer.specs.Bus.{count_refused, count_written, control_word_refused, control_word_written}
use Rattle.ports.specs.declared.Port.{Port}
use Rattle.requests.specs.Registers.{FIFORST}
use Rattle.machine_reset.specs.Reset.{is_reset}
use Rattle.machine_record.specs.declared.Board.{Board}
use Rattle.bus.specs.Place.{place_of}
use Rattle.bus.specs.Registers.{write_checks, read_checks}
use Rattle.bus.specs.declared.Place.{Place}
use Rattle.bus.specs.declared.Place.TheVariants.{Base0, Base1, Base2, Base3, Base4, Base5, Base6, Base7}
use Rattle.bus.specs.declared.Place.TheVariants.{Base8, Base9, Base10, Base11, Count, ControlWord, PortData, PortControl}
use Rattle.bus.specs.declared.Place.TheVariants.{Reserved, Auxiliary, CalData, CalAddress, CalBase14, CalBase15, Outside}
use Rattle.board_stores.specs.Stores.{wrong_lengths}
use Rattle.board_refusal.specs.Refusals.{event_checks, checks, first_checks}
use Rattle.board_refusal.specs.Working.{is_working_board}
use Rattle.board_step.specs.Ways.{Opened, stops}
use Rattle.board_advance.specs.Advance.{advanced_of}
use Rattle.board_advance.specs.Strided.{begins_in}
use Rattle.board_laws.specs.Begins.{write_begins, din_begins, begins, ends, resets}
use Rattle.tally_counts.specs.Counts.{no_counts, reads, loses, clears, counts_of, counts_at, held}
use Rattle.tally_counts.specs.declared.Tally.{Tally}
use Rattle.tally.specs.Tally.{state_of, added, noted_ticks}
use Rattle.tally.specs.Made.{begun_if, read_if, end_counts, taken}
use Rattle.tally.specs.TickLaws.{one-begins}
use Rattle.tally.specs.Ticks.{no_more, tick-counts}
use Rattle.tally.proofs.Ticks.{ticks_noted}
use Rattle.board_events.specs.declared.Din.{Din}
use Rattle.board_events.specs.declared.Event.{Event}
use Rattle.board_events.specs.declared.Event.TheVariants.{WriteByte, ReadByte, ReadWord, ConversionEnd, DinPins, LatchLevel, PortPins, Tick, TransferEnd}

-- ---- the event as it is told
pub as_kind : (b : Board) {event kind : Event} {r : Tally} → event ≡ kind → r ≡ taken b kind → r ≡ taken b event
as_kind b k e = e ∙ ap (taken b) (sym k)

-- ---- a byte written: one that is refused begins no conversion
module _ (b : Board) (v : ℕ) where
  unbegun : (p : Place) → eqb (refusal (write_checks b p v)) 0 ≡ false → write_begins b p v ≡ false
  unfolding write_checks count_written control_word_written
  unbegun Base0 h = never (sym h)
  unbegun Base1 h = refl
  unbegun Base2 h = refl
  unbegun Base3 h = refl
  unbegun Base4 h = refl
  unbegun Base5 h = refl
  unbegun Base6 h = refl
  unbegun Base7 h = refl
  unbegun Base8 h = refl
  unbegun Base9 h = refl
  unbegun Base10 h = refl
  unbegun Base11 h = refl
  unbegun (Count s) h = by (count_refused b.clocks.timer s v) refl
    where
      by : (t : Bool) → count_refused b.clocks.timer s v ≡ t → write_begins b (Count s) v ≡ false
      by true r = rw r
      by false r = never (sym (rw r at h))
  unbegun ControlWord h = by (control_word_refused v) refl
    where
      by : (t : Bool) → control_word_refused v ≡ t → write_begins b ControlWord v ≡ false
      by true r = rw r
      by false r = never (sym (rw r at h))
  unbegun (PortData q) h = refl
  unbegun PortControl h = refl
  unbegun Reserved h = refl
  unbegun Auxiliary h = refl
  unbegun CalData h = refl
  unbegun CalAddress h = refl
  unbegun CalBase14 h = refl
  unbegun CalBase15 h = refl
  unbegun Outside h = refl

module _ (b : Board) (n v : ℕ) where
  -- no write of 7 or 8 is refused
  record Refused : Type 0 where
    no7 : eqb n 7 ≡ false
    no8 : eqb n 8 ≡ false
    begins-none : begins b (WriteByte n v) ≡ false

  refused-at : (k : ℕ) → eqb (refusal (event_checks b (WriteByte k v))) 0 ≡ true → eqb (refusal (event_checks b (WriteByte n v))) 0 ≡ false → eqb n k ≡ false
  refused-at k p h = ne_eqb n k (λ z. never (sym h ∙ ap (λ (x : ℕ). eqb (refusal (event_checks b (WriteByte x v))) 0) z ∙ p))

  refused : eqb (refusal (event_checks b (WriteByte n v))) 0 ≡ false → Refused
  unfolding begins event_checks place_of write_checks
  refused h = record { no7 = refused-at 7 refl h; no8 = refused-at 8 refl h; begins-none = unbegun b v (place_of b.registers.page n) h }

  none_written : Refused → counts_of b (WriteByte n v) ≡ no_counts
  unfolding counts_of ends resets reads loses clears
  none_written r = rw (r.begins-none, r.no7, r.no8, no_more (on b.converter.converting))

  pub write-taken : counts_of b (WriteByte n v) ≡ taken b (WriteByte n v)
  write-taken = by (eqb (refusal (event_checks b (WriteByte n v))) 0) refl
    where
      by : (t : Bool) → eqb (refusal (event_checks b (WriteByte n v))) 0 ≡ t
          → counts_of b (WriteByte n v) ≡ (if t then counts_of b (WriteByte n v) else no_counts)
      by true h = refl
      by false h = none_written (refused h)

  -- what the code makes of it
  pub writes : {begun reset fiforst : Bool} {c : ℕ} → begun ≡ write_begins b (place_of b.registers.page n) v → reset ≡ is_reset v → fiforst ≡ FIFORST v
      → c ≡ (if eqb n 7 && fiforst || eqb n 8 && reset then held b else 0)
      → record { begun = flag begun; ended = 0; abandoned = flag (on b.converter.converting && (eqb n 8 && reset)); read = 0; lost = 0; cleared = c }
      ≡ counts_of b (WriteByte n v)
  unfolding counts_of begins ends resets reads loses clears
  writes s r f c = rw (c, s, r, f)

-- ---- reads
module _ (b : Board) (n : ℕ) where
  low-taken : (t : Bool) → eqb (refusal (event_checks b (ReadByte n))) 0 ≡ t → read_if b (eqb n 1) ≡ (if t then counts_of b (ReadByte n) else no_counts)
  unfolding counts_of begins ends resets reads loses clears event_checks place_of read_checks
  low-taken true h = rw (no_more (on b.converter.converting))
  low-taken false h =
      let m : eqb n 1 ≡ false = ne_eqb n 1 (λ z. never (sym h ∙ ap (λ (x : ℕ). eqb (refusal (event_checks b (ReadByte x))) 0) z)) in rw m

  pub byte-taken : read_if b (eqb n 1) ≡ taken b (ReadByte n)
  byte-taken = low-taken (eqb (refusal (event_checks b (ReadByte n))) 0) refl

  pub word-taken : read_if b (eqb n 0) ≡ taken b (ReadWord n)
  unfolding counts_of begins ends resets reads loses clears event_checks
  word-taken = by (eqb n 0) refl
    where
      by : (t : Bool) → eqb n 0 ≡ t → read_if b (eqb n 0) ≡ taken b (ReadWord n)
      by true h = rw (h, no_more (on b.converter.converting))
      by false h = rw h

-- ---- ends of conversions
module _ (b : Board) (code : ℤ) where
  pub end-taken : b.converter.converting ≡ 1 → end_counts b ≡ taken b (ConversionEnd code)
  unfolding counts_of begins ends resets reads loses clears event_checks
  end-taken h = rw (eq-eqb b.converter.converting 1 h)

  pub no_end_taken : (b.converter.converting ≡ 1 → ⊥) → no_counts ≡ taken b (ConversionEnd code)
  unfolding event_checks
  no_end_taken h = rw (ne_eqb b.converter.converting 1 h)

-- ---- DIN3-0
module _ (b : Board) (d : Din) where
  pub high_taken : 15 < d.lines → no_counts ≡ taken b (DinPins d)
  unfolding event_checks
  high_taken h = rw (lt-ltb 15 d.lines h)

  pub din-taken : d.lines ≤ 15 → {begun : Bool} → begun ≡ din_begins b (d.lines % 16) → begun_if begun ≡ taken b (DinPins d)
  unfolding counts_of begins ends resets reads loses clears event_checks
  din-taken h s = rw (s, le-ltb 15 d.lines h, no_more (on b.converter.converting))

-- ---- events that count nothing, and a tick
module _ (b : Board) where
  pub latch-taken : (level : ℕ) → no_counts ≡ taken b (LatchLevel level)
  unfolding counts_of begins ends resets reads loses clears event_checks
  latch-taken level = rw (no_more (on b.converter.converting))

  pub port-taken : (q : Port) (v : ℕ) → no_counts ≡ taken b (PortPins q v)
  unfolding counts_of begins ends resets reads loses clears event_checks
  port-taken q v = rw (no_more (on b.converter.converting))

  pub transfer-taken : no_counts ≡ taken b TransferEnd
  unfolding counts_of begins ends resets reads loses clears
  transfer-taken = by (eqb (refusal (event_checks b TransferEnd)) 0)
    where
      by : (t : Bool) → no_counts ≡ (if t then counts_of b TransferEnd else no_counts)
      by true = rw (no_more (on b.converter.converting))
      by false = refl

  pub tick-taken : {begun : Bool} → begun ≡ begins_in b 1 → begun_if begun ≡ taken b Tick
  unfolding event_checks
  tick-taken s = rw (s, one-begins b) (sym (tick-counts b))

-- ---- any record and memories
module _ (b : Board) (m e : List ℕ) where
  pub stopped : (event : Event) {x : Result (Unit {0}) Refusal} → x ≡ checked (first_checks b m e) → is_err x ≡ true
      → no_counts ≡ counts_at (state_of b m e) event
  unfolding counts_at
  stopped event k h = rw (stops b m e event k h)

  pub wrong : (event : Event) → wrong_lengths m e ≡ true → no_counts ≡ counts_at (state_of b m e) event
  unfolding counts_at checks
  wrong event h = rw h

  pub broken : (event : Event) {w : Bool} → wrong_lengths m e ≡ false → w ≡ is_working_board b m → not w ≡ true → no_counts ≡ counts_at (state_of b m e) event
  unfolding counts_at checks
  broken event {w} l k h = let f : is_working_board b m ≡ false = sym k ∙ not_true w h in rw (l, f)

  pub counted : (event : Event) {r : Tally} → Opened b m e → r ≡ taken b event → r ≡ counts_at (state_of b m e) event
  unfolding counts_at checks
  counted event o h = rw (o.long, o.working) h

  -- ---- many ticks
  pub no_ticks : (t : Tally) (n : ℕ) {x : Result (Unit {0}) Refusal} → x ≡ checked (first_checks b m e) → is_err x ≡ true → t ≡ noted_ticks t b m e n
  unfolding advanced_of
  no_ticks t n k h = rw (stops b m e Tick k h)

  pub some_ticks : (t : Tally) (n : ℕ) {begun : Bool} {c r : Tally} → Opened b m e → begun ≡ begins_in b n → c ≡ begun_if begun → r ≡ added t c
      → r ≡ noted_ticks t b m e n
  some_ticks t n o s c r = r ∙ ap (added t) (c ∙ ap begun_if s) ∙ ticks_noted t b m e n o
