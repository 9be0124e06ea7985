-- A word read (manual, Base+0 and Base+1 read; the specification, "Registers", 0): "0 read: low byte of the oldest sample, no change. 1 read: its high byte,
-- and the sample leaves; OVF clears. Empty: FF, no change. A word read is 0 then 1 as one event." Request M-100: "The word read shall say which it was: a
-- sample, or nothing there. The two byte reads stay as they are". Of every record and memories, also those that are refused: then nothing changes, and no
-- value (0) comes back.
use Rattle.std.specs.Prelude.{◌+◌, ◌*◌, ◌≡◌}
use Rattle.std.proofs.Common.{sym, ap, ◌∙◌, arith}
use Rattle.board_step.specs.States.{State, Works, refusal_at, answer_at, after_event}
use Rattle.board_laws.specs.Answers.{answer-number}
use Rattle.board_laws.specs.WordLaws.{low-number, high-number, low_keeps, high-takes, word_of, low_of, high_of, oldest, whole, bytes-joined, none-leaves}
use Rattle.board_laws.specs.WordLaws.{none_read, some_read, none-held, by-word_read, left_alone}
use Rattle.board_events.specs.Answers.{refusal_number, value_read}
use Rattle.board_events.specs.declared.Answer.TheVariants.{Word, Nothing}
use Rattle.board_events.specs.declared.Event.{Event}
use Rattle.board_events.specs.declared.Event.TheVariants.{ReadByte, ReadWord}

module _ (s : State) where
  -- what the read of 0 leaves
  abbrev low : State
  low = after_event s (ReadByte 0)

  -- ---- "A word read is 0 then 1 as one event": the same record, sample memory and EEPROM
  pub word_read : after_event s (ReadWord 0) ≡ after_event low (ReadByte 1)
  word_read = high-takes s ∙ ap (λ (x : State). after_event x (ReadByte 1)) (sym (low_keeps s))

  -- the word that a guest is shown is the low byte and 256 times the high byte
  pub word_value : value_read (answer_at s (ReadWord 0)) ≡ value_read (answer_at s (ReadByte 0)) + 256 * value_read (answer_at low (ReadByte 1))
  word_value =
      let second : value_read (answer_at low (ReadByte 1)) ≡ value_read (answer_at s (ReadByte 1)) =
      ap (λ (x : State). value_read (answer_at x (ReadByte 1))) (low_keeps s) in
      omega (arith, word_of s, low_of s, high_of s, second, bytes-joined (whole s) (oldest s))

  -- and it is refused as each of the two is, by the same number
  pub word-refused : (refusal_number (answer_at s (ReadWord 0)) ≡ refusal_number (answer_at s (ReadByte 0)))
      × (refusal_number (answer_at s (ReadWord 0)) ≡ refusal_number (answer_at low (ReadByte 1)))
  word-refused = (
    number (ReadWord 0) ∙ sym (number (ReadByte 0) ∙ low-number s),
    number (ReadWord 0) ∙ sym (ap (λ (x : State). refusal_number (answer_at x (ReadByte 1))) (low_keeps s) ∙ number (ReadByte 1) ∙ high-number s),
  )
    where
      number : (ev : Event) → refusal_number (answer_at s ev) ≡ refusal_at s ev
      number ev = answer-number s.board s.memory s.eeprom ev

  -- ---- "nothing there": whatever the record and the memories, no event but the word read of 0 answers so, and it changes nothing
  module _ (event : Event) (answered : answer_at s event ≡ Nothing) where
    pub nothing-by_word_read : event ≡ ReadWord 0
    nothing-by_word_read = by-word_read s event answered

    pub nothing_changes : after_event s event ≡ s
    nothing_changes = left_alone s event answered

  module _ (w : Works s) where
    -- ---- "which it was": a working board that answers so holds no sample, and one that holds none answers so (`empty-word`)
    pub nothing-held : answer_at s (ReadWord 0) ≡ Nothing → s.board.fifo.held ≡ 0
    nothing-held = none-held s w

    -- ---- "a sample": with some held the word read answers both bytes of the oldest
    module _ (some : s.board.fifo.held ≡ 0 → ⊥) where
      pub sample-read : answer_at s (ReadWord 0) ≡ Word (value_read (answer_at s (ReadByte 0)) + 256 * value_read (answer_at low (ReadByte 1)))
      sample-read =
          some_read s w some
          ∙ ap (λ (x : State). Word (value_read (answer_at s (ReadByte 0)) + 256 * value_read (answer_at x (ReadByte 1)))) (sym (low_keeps s))

      -- "Minus one is not empty": FF in both bytes is then the sample FFFF
      pub minus_one : value_read (answer_at s (ReadByte 0)) ≡ 0xFF → value_read (answer_at low (ReadByte 1)) ≡ 0xFF → answer_at s (ReadWord 0) ≡ Word 0xFFFF
      minus_one l h = sample-read ∙ rw (l, h)

    -- ---- "Empty: FF, no change": no sample is held
    module _ (empty : s.board.fifo.held ≡ 0) where
      pub empty-word : (answer_at s (ReadWord 0) ≡ Nothing) × (after_event s (ReadWord 0) ≡ s)
      empty-word = ((none_read s w empty).0, high-takes s ∙ none-leaves s w empty)

      pub empty-bytes : (value_read (answer_at s (ReadByte 0)) ≡ 0xFF) × (value_read (answer_at low (ReadByte 1)) ≡ 0xFF) × (after_event low (ReadByte 1) ≡ s)
      empty-bytes =
          let k = none_read s w empty in (
            k.1,
            ap (λ (x : State). value_read (answer_at x (ReadByte 1))) (low_keeps s) ∙ k.2,
            ap (λ (x : State). after_event x (ReadByte 1)) (low_keeps s) ∙ none-leaves s w empty,
          )
