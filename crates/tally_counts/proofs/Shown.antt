-- Theorems that rest on theorems of specs/Shown.antt, and promise as those do. What specs/Shown.antt says of itself:
-- Read and cleared are told apart by the answer: a sample that an event counts as read is shown, so no event that is answered by done counts one; and what an
-- event clears is not, so none that shows something, or is refused, counts any as cleared.
use Rattle.std.specs.Prelude.{ℕ, ◌≡◌, Bool, List, Option, Some, None}
use Rattle.std.proofs.Math.Path.{refl}
use Rattle.std.proofs.Common.{sym, ap, ◌∙◌}
use Rattle.std.proofs.Math.Bool.{true, false}
use Rattle.std.proofs.Math.Dec.{eqb}
use Rattle.base.specs.Laws.{never}
use Rattle.machine_record.specs.declared.Board.{Board}
use Rattle.board_step.specs.Act.{acted}
use Rattle.board_step.specs.Step.{ran, step_of}
use Rattle.board_step.specs.States.{State, refusal_at, answer_at}
use Rattle.tally_counts.specs.Counts.{reads, clears, counts_of, counts_at}
use Rattle.board_events.specs.declared.Event.{Event}
use Rattle.board_events.specs.declared.Event.TheVariants.{WriteByte, ReadByte, ReadWord, ConversionEnd, DinPins, LatchLevel, PortPins, Tick, TransferEnd}
use Rattle.tally_counts.specs.Shown.{is_done, oldest}

-- ---- an event that is not refused
module _ (b : Board) (e : List ℕ) where
  unread : (o : Option ℕ) (ev : Event) → is_done (acted b o e ev).answer ≡ true → (counts_of b ev).read ≡ 0
  unfolding acted counts_of reads
  unread o (WriteByte n v) h = refl
  unread o (ReadByte n) h = never h
  unread None (ReadWord n) h = never h
  unread (Some sample) (ReadWord n) h = never h
  unread o (ConversionEnd code) h = refl
  unread o (DinPins d) h = refl
  unread o (LatchLevel level) h = refl
  unread o (PortPins q v) h = refl
  unread o Tick h = refl
  unread o TransferEnd h = refl

  uncleared : (o : Option ℕ) (ev : Event) → is_done (acted b o e ev).answer ≡ false → (counts_of b ev).cleared ≡ 0
  unfolding acted counts_of clears
  uncleared o (WriteByte n v) h = never (sym h)
  uncleared o (ReadByte n) h = refl
  uncleared o (ReadWord n) h = refl
  uncleared o (ConversionEnd code) h = refl
  uncleared o (DinPins d) h = refl
  uncleared o (LatchLevel level) h = refl
  uncleared o (PortPins q v) h = refl
  uncleared o Tick h = refl
  uncleared o TransferEnd h = refl

-- ---- any event of any board
module _ (s : State) (ev : Event) where
  answered : eqb (refusal_at s ev) 0 ≡ true → answer_at s ev ≡ (acted s.board (oldest s ev) s.eeprom ev).answer
  unfolding step_of ran
  answered k = rw (k, answer_at)

  pub done-unread : is_done (answer_at s ev) ≡ true → (counts_at s ev).read ≡ 0
  unfolding counts_at
  done-unread = by (eqb (refusal_at s ev) 0) refl
    where
      by : (t : Bool) → eqb (refusal_at s ev) 0 ≡ t → is_done (answer_at s ev) ≡ true → (counts_at s ev).read ≡ 0
      by true k h = rw k (unread s.board s.eeprom (oldest s ev) ev (sym (ap is_done (answered k)) ∙ h))
      by false k h = rw k

  pub shown-uncleared : is_done (answer_at s ev) ≡ false → (counts_at s ev).cleared ≡ 0
  unfolding counts_at
  shown-uncleared = by (eqb (refusal_at s ev) 0) refl
    where
      by : (t : Bool) → eqb (refusal_at s ev) 0 ≡ t → is_done (answer_at s ev) ≡ false → (counts_at s ev).cleared ≡ 0
      by true k h = rw k (uncleared s.board s.eeprom (oldest s ev) ev (sym (ap is_done (answered k)) ∙ h))
      by false k h = rw k
