-- Reads of 0, of 1 and of a word: laws for the theorem about word reads.
use Rattle.std.specs.Prelude.{ℕ, ◌+◌, ◌*◌, ◌/◌, ◌%◌, ◌≡◌, Bool, not, get_or, if◌then◌else◌, Option, Some, None}
use Rattle.std.proofs.Math.Path.{refl, sym}
use Rattle.std.proofs.Common.{ap, ◌∙◌, arith}
use Rattle.std.proofs.Math.Bool.{true, false}
use mathlib.Core.List.{List, []}
use borrow.Author.Tests.{eqb-true, eq-eqb}
use Rattle.std.proofs.Math.Dec.{eqb}
use Rattle.base.specs.Checks.{refusal}
use Rattle.base.specs.Laws.{not_not, by-test, never}
use Rattle.base.specs.Unrefused.{passes}
use Rattle.fifo.specs.Samples.{oldest_of, low_byte_of, high_byte_of}
use Rattle.fifo.specs.Queue.{queue}
use Rattle.fifo.specs.Queue.Laws.{layout-queue}
use Rattle.fifo.specs.Queue.Steps.{pop_none, oldest-none, oldest-some, none_found}
use Rattle.machine_record.specs.declared.Board.{Board}
use Rattle.bus.specs.Place.{place_of}
use Rattle.bus.specs.Registers.{read_checks, byte_at, after_read, read_effect}
use Rattle.board_refusal.specs.Refusals.{event_checks, checks}
use Rattle.board_step.specs.Acted.{word_read_answer}
use Rattle.board_step.specs.Sampled.{says-which}
use Rattle.board_step.specs.Act.{acted, eeprom_acted}
use Rattle.board_step.specs.Passed.{all-passed}
use Rattle.board_step.specs.Step.{ran, step_of, memory_after, eeprom_after}
use Rattle.board_step.specs.declared.Outcome.{Outcome}
use Rattle.board_step.specs.States.{State, Works, refusal_at, answer_at, after_event}
use Rattle.board_laws.specs.Answers.{value_brought, answer-number, answer-value}
use Rattle.board_laws.specs.Held.{held_answer, number-working, step-held}
use Rattle.board_laws.specs.StretchSteps.{taken-works}
use Rattle.board_events.specs.Answers.{refusal_number, value_read}
use Rattle.board_events.specs.declared.Answer.{Answer}
use Rattle.board_events.specs.declared.Answer.TheVariants.{Done, Byte, Word, Nothing, Refused}
use Rattle.board_events.specs.declared.Event.{Event}
use Rattle.board_events.specs.declared.Event.TheVariants.{WriteByte, ReadByte, ReadWord, ConversionEnd, DinPins, LatchLevel, PortPins, Tick, TransferEnd}

module _ (s : State) where
  -- ---- the three are refused by one number
  pub low-number : refusal_at s (ReadByte 0) ≡ refusal_at s (ReadWord 0)
  unfolding checks event_checks place_of read_checks
  low-number = refl

  pub high-number : refusal_at s (ReadByte 1) ≡ refusal_at s (ReadWord 0)
  unfolding checks event_checks place_of read_checks
  high-number = refl

  -- ---- the read of 0 changes nothing, that of 1 does what the word read does
  pub low_keeps : after_event s (ReadByte 0) ≡ s
  unfolding step_of memory_after eeprom_after ran acted eeprom_acted place_of read_effect after_read
  low_keeps = by (eqb (refusal_at s (ReadByte 0)) 0) refl
    where
      by : (t : Bool) → eqb (refusal_at s (ReadByte 0)) 0 ≡ t → after_event s (ReadByte 0) ≡ s
      by true h =
          let w = taken-works s (ReadByte 0) (eqb-true _ _ h) in
          rw h (ap (λ (m : List ℕ). record { board = s.board; memory = m; eeprom = s.eeprom }) (layout-queue s.board.fifo s.memory w.working.fifo))
      by false h = rw h

  pub high-takes : after_event s (ReadWord 0) ≡ after_event s (ReadByte 1)
  unfolding step_of memory_after eeprom_after ran acted eeprom_acted place_of read_effect after_read
  high-takes = by (eqb (refusal_at s (ReadWord 0)) 0) refl
    where
      by : (t : Bool) → eqb (refusal_at s (ReadWord 0)) 0 ≡ t → after_event s (ReadWord 0) ≡ after_event s (ReadByte 1)
      by true h = rw (high-number, h)
      by false h = rw (high-number, h)

  -- ---- their values
  abbrev pub oldest : Option ℕ
  oldest = oldest_of (queue s.board.fifo s.memory)

  abbrev pub whole : Bool
  whole = eqb (refusal_at s (ReadWord 0)) 0

  pub word_of : value_read (answer_at s (ReadWord 0)) ≡ (if whole then value_read (word_read_answer oldest) else 0)
  unfolding value_brought
  word_of = answer-value s.board s.memory s.eeprom (ReadWord 0)

  pub low_of : value_read (answer_at s (ReadByte 0)) ≡ (if whole then low_byte_of oldest else 0)
  unfolding value_brought byte_at place_of checks event_checks read_checks
  low_of = answer-value s.board s.memory s.eeprom (ReadByte 0)

  pub high_of : value_read (answer_at s (ReadByte 1)) ≡ (if whole then high_byte_of oldest else 0)
  unfolding value_brought byte_at place_of checks event_checks read_checks
  high_of = answer-value s.board s.memory s.eeprom (ReadByte 1)

  -- ---- with none held
  pub none-leaves : Works s → s.board.fifo.held ≡ 0 → after_event s (ReadByte 1) ≡ s
  unfolding checks event_checks read_checks step_of memory_after eeprom_after ran acted eeprom_acted place_of read_effect after_read
  none-leaves w h =
      let n = number-working s.board s.memory s.eeprom (ReadByte 1) w.working w.long in
      let k = pop_none s.board.fifo s.memory w.working.fifo h in
      rw (eq-eqb _ _ n, sym k.laid, sym k.fifo)

  -- ---- a working board takes them
  taken : Works s → whole ≡ true
  unfolding event_checks
  taken w = eq-eqb _ _ (number-working s.board s.memory s.eeprom (ReadWord 0) w.working w.long)

  pub word-answered : Works s → answer_at s (ReadWord 0) ≡ word_read_answer oldest
  unfolding held_answer event_checks ran acted
  word-answered w = (step-held s.board s.memory s.eeprom (ReadWord 0) w.working w.long).answer

  pub none_read : Works s → s.board.fifo.held ≡ 0
      → (answer_at s (ReadWord 0) ≡ Nothing) × (value_read (answer_at s (ReadByte 0)) ≡ 255) × (value_read (answer_at s (ReadByte 1)) ≡ 255)
  none_read w h =
      let n : whole ≡ true = taken w in
      let o : oldest ≡ None = sym (oldest-none s.board.fifo s.memory h) in
      (word-answered w ∙ ap word_read_answer o, low_of ∙ rw (n, o), high_of ∙ rw (n, o))

  -- ---- with some held: the word is both bytes
  pub some_read : Works s → (s.board.fifo.held ≡ 0 → ⊥)
      → answer_at s (ReadWord 0) ≡ Word (value_read (answer_at s (ReadByte 0)) + 256 * value_read (answer_at s (ReadByte 1)))
  some_read w h =
      let v = get_or s.memory s.board.fifo.place 0 in
      let n : whole ≡ true = taken w in
      let o : oldest ≡ Some v = sym (oldest-some s.board.fifo s.memory w.working.fifo h) in
      let l : value_read (answer_at s (ReadByte 0)) ≡ v % 256 = low_of ∙ rw (n, o) in
      let k : value_read (answer_at s (ReadByte 1)) ≡ v / 256 = high_of ∙ rw (n, o) in
      let j : v ≡ value_read (answer_at s (ReadByte 0)) + 256 * value_read (answer_at s (ReadByte 1)) = omega arith in
      word-answered w ∙ ap word_read_answer o ∙ ap Word j

-- ---- nothing is answered
abbrev answers_nothing : Answer → Bool
answers_nothing Done = false
answers_nothing (Byte value) = false
answers_nothing (Word value) = false
answers_nothing Nothing = true
answers_nothing (Refused number) = false

-- by an event that is not refused: a word read of 0 alone
acted-nothing : (b : Board) (o : Option ℕ) (e : List ℕ) (ev : Event) → refusal (event_checks b ev) ≡ 0 → (acted b o e ev).answer ≡ Nothing → ev ≡ ReadWord 0
unfolding acted event_checks
acted-nothing b o e (WriteByte n v) r h = never (ap answers_nothing h)
acted-nothing b o e (ReadByte n) r h = never (ap answers_nothing h)
acted-nothing b o e (ReadWord n) r h = ap ReadWord (eqb-true n 0 (not_not _ (passes (not (eqb n 0)) 3 [] (omega arith) r).0))
acted-nothing b o e (ConversionEnd code) r h = never (ap answers_nothing h)
acted-nothing b o e (DinPins d) r h = never (ap answers_nothing h)
acted-nothing b o e (LatchLevel level) r h = never (ap answers_nothing h)
acted-nothing b o e (PortPins q v) r h = never (ap answers_nothing h)
acted-nothing b o e Tick r h = never (ap answers_nothing h)
acted-nothing b o e TransferEnd r h = never (ap answers_nothing h)

module _ (s : State) where
  -- a working board holds none
  pub none-held : Works s → answer_at s (ReadWord 0) ≡ Nothing → s.board.fifo.held ≡ 0
  none-held w h = none_found s.board.fifo s.memory w.working.fifo (says-which None (oldest s) (sym h ∙ word-answered s w))

  module _ (ev : Event) where
    pub by-word_read : answer_at s ev ≡ Nothing → ev ≡ ReadWord 0
    unfolding step_of ran
    by-word_read =
        by-test (λ (o : Outcome). o.answer ≡ Nothing → ev ≡ ReadWord 0) (eqb (refusal_at s ev) 0)
        (λ t. acted-nothing s.board (oldest s) s.eeprom ev (all-passed s.board s.memory s.eeprom ev (eqb-true _ _ t)).event)
        (λ t h. never (ap answers_nothing h))

    -- and it changes nothing
    pub left_alone : answer_at s ev ≡ Nothing → after_event s ev ≡ s
    left_alone h =
        let e : ev ≡ ReadWord 0 = by-word_read h in
        let k : answer_at s (ReadWord 0) ≡ Nothing = ap (λ (v : Event). answer_at s v) (sym e) ∙ h in
        let n : refusal_at s (ReadWord 0) ≡ 0 = sym (answer-number s.board s.memory s.eeprom (ReadWord 0)) ∙ ap refusal_number k in
        let w = taken-works s (ReadWord 0) n in
        ap (λ (v : Event). after_event s v) e ∙ high-takes s ∙ none-leaves s w (none-held w k)

-- ---- the word that a guest is shown is both bytes
pub bytes-joined : (t : Bool) (o : Option ℕ)
    → (if t then value_read (word_read_answer o) else 0) ≡ (if t then low_byte_of o else 0) + 256 * (if t then high_byte_of o else 0)
bytes-joined true None = refl
bytes-joined true (Some v) = omega arith
bytes-joined false o = refl
