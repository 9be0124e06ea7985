-- No status byte contradicts itself (manual, chapter 7, Base+7 read; the specification, "Registers", 7: "EF held=0, HF held≥256, FF held=512, OVF"; request
-- M-108: "an empty memory that is also half full, and .. an overflow without a full memory .. no working board gives such a byte after any events"). From every
-- working board, with memories of the right lengths, and after every row of events, refused ones among them.
use Rattle.std.specs.Prelude.{ℕ, ◌≡◌, Bool, true, false, List}
use Rattle.std.proofs.Common.{sym, ap, ◌∙◌, arith, eqb-true, eq-eqb, ne_eqb}
use Rattle.std.proofs.lemmas.Bool.{lt-leb}
use Rattle.base.specs.Fields.{bit}
use Rattle.fifo.specs.Flags.{EF, OVF}
use Rattle.fifo.specs.declared.Fifo.{Fifo}
use Rattle.board_step.specs.States.{State, Works, answer_at}
use Rattle.board_laws.specs.Stretches.{after_events}
use Rattle.board_laws.specs.StretchSteps.{stretch-works}
use Rattle.board_laws.specs.StatusLaws.{status_byte, ef-shown, hf_shown, ff-shown, ovf-shown, status-answered}
use Rattle.board_events.specs.Answers.{value_read}
use Rattle.board_events.specs.declared.Answer.TheVariants.{Byte}
use Rattle.board_events.specs.declared.Event.{Event}
use Rattle.board_events.specs.declared.Event.TheVariants.{ReadByte}

module _ (s : State) (w : Works s) (events : List Event) where
  abbrev now : State
  now = after_events s events

  -- the byte that is read at 7 then: EF, HF, FF and OVF are its bits 7 to 4
  abbrev pub status : ℕ
  status = value_read (answer_at now (ReadByte 7))

  works : Works now
  works = stretch-works s w events

  abbrev f : Fifo
  f = now.board.fifo

  is_byte : status ≡ status_byte now.board
  is_byte = ap value_read (status-answered now works)

  shown : (n : ℕ) (t : Bool) → bit (status_byte now.board) n ≡ t → bit status n ≡ t
  shown n t e = ap (λ (k : ℕ). bit k n) is_byte ∙ e

  -- the read is not refused
  pub status-read : answer_at now (ReadByte 7) ≡ Byte status
  status-read = status-answered now works ∙ ap Byte (sym is_byte)

  -- EF excludes HF and FF
  pub ef_excludes : bit status 7 ≡ true → (bit status 6 ≡ false) × (bit status 5 ≡ false)
  ef_excludes h =
      let none : f.held ≡ 0 = eqb-true _ _ (sym (shown 7 (EF f) (ef-shown now.board)) ∙ h) in (
        shown 6 false (hf_shown now.board ∙ lt-leb 256 f.held (omega arith)),
        shown 5 false (ff-shown now.board ∙ ne_eqb f.held 512 (λ e. omega arith)),
      )

  -- OVF brings FF
  pub ovf-brings_ff : bit status 4 ≡ true → bit status 5 ≡ true
  ovf-brings_ff h =
      let lost : OVF f ≡ true = sym (shown 4 (OVF f) (ovf-shown now.board)) ∙ h in
      shown 5 true (ff-shown now.board ∙ eq-eqb f.held 512 (works.working.fifo.ovf lost))
