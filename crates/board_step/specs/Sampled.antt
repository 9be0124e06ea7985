-- The sample memory after an event: what an effect leaves is a working board's, and holds the samples that the definition says; which reads leave it;
-- that a word read changes nothing else; and that it tells every sample from none.
use Rattle.std.specs.Prelude.{◌≡◌, Bool, true, false, List, ℕ, eqb, if◌then◌else◌, Option, Some, None}
use Rattle.std.proofs.Math.Path.{refl}
use Rattle.std.proofs.Common.{sym, ap, subst, ◌∙◌}
use Rattle.fifo.specs.Queue.{queue, layout, WorkingFifo}
use Rattle.fifo.specs.Queue.Laws.{queue-clear, clear-works}
use Rattle.fifo.proofs.Queue.Laws.{queue_push, push_works, queue_pop, pop_works}
use Rattle.fifo.specs.declared.Fifo.{Fifo}
use Rattle.machine_record.specs.Parts.{with_fifo}
use Rattle.machine_record.specs.declared.Board.{Board}
use Rattle.bus.specs.Place.{place_of}
use Rattle.bus.specs.Effects.{Effect, Keep, Take, Store, Empty}
use Rattle.bus.specs.Registers.{after_read, read_effect}
use Rattle.board_step.specs.Act.{acted}
use Rattle.board_step.specs.Acted.{word_read_answer}
use Rattle.board_step.specs.Step.{samples_after, fifo_after, ran, ran_from, refusal_of, refused_by, step_of}
use Rattle.board_step.specs.declared.Outcome.{Outcome}
use Rattle.board_events.specs.declared.Answer.{Answer}
use Rattle.board_events.specs.declared.Answer.TheVariants.{Done, Byte, Word, Nothing, Refused}
use Rattle.board_events.specs.declared.Event.TheVariants.{ReadByte, ReadWord}

module _ (f : Fifo) (m : List ℕ) (w : WorkingFifo f m) where
  pub effect-works : (x : Effect) → WorkingFifo (fifo_after x f) (layout (fifo_after x f) (samples_after x (queue f m)))
  effect-works Keep = subst (λ (l : List ℕ). WorkingFifo f l) w.laid w
  effect-works Take = pop_works f m w
  effect-works (Store s) = push_works f m s w
  effect-works Empty = clear-works

  -- what the memory then holds is what the definition says
  pub effect-holds : (x : Effect) → queue (fifo_after x f) (layout (fifo_after x f) (samples_after x (queue f m))) ≡ samples_after x (queue f m)
  effect-holds Keep = rw (sym w.laid)
  effect-holds Take = queue_pop f m w
  effect-holds (Store s) = queue_push f m s w
  effect-holds Empty = queue-clear

-- ---- reads that change nothing: "0 read: low byte of the oldest sample, no change". Other models were seen to clear OVF by reading status, or by reading
-- offset 0, and to take the offset 0 read as the one that removes a sample
module _ (b : Board) (samples eeprom : List ℕ) where
  pub low-read_keeps : ((ran b samples eeprom (ReadByte 0)).samples ≡ samples) × ((ran b samples eeprom (ReadByte 0)).board ≡ b)
  unfolding ran acted place_of read_effect after_read
  low-read_keeps = (refl, refl)

  pub status-read_keeps : ((ran b samples eeprom (ReadByte 7)).samples ≡ samples) × ((ran b samples eeprom (ReadByte 7)).board ≡ b)
  unfolding ran acted place_of read_effect after_read
  status-read_keeps = (refl, refl)

-- ---- a word read changes the sample memory's part of the record, and no other, whatever record and offset it is given
module _ (b : Board) where
  -- the board of an outcome is b in all other parts
  abbrev Rest_stays : Outcome → Type 0
  Rest_stays o = with_fifo b o.board.fifo ≡ o.board

  either : (t : Bool) (o p : Outcome) → Rest_stays o → Rest_stays p → Rest_stays (if t then o else p)
  either true o p first second = first
  either false o p first second = second

  pub word-read_keeps : (memory eeprom : List ℕ) (offset : ℕ) → Rest_stays (step_of b memory eeprom (ReadWord offset))
  unfolding step_of ran acted
  word-read_keeps memory eeprom offset =
      let event = ReadWord offset in
      either (eqb (refusal_of b memory eeprom event) 0)
      (record { board = (ran_from b memory eeprom event).board; answer = (ran_from b memory eeprom event).answer })
      (refused_by b (refusal_of b memory eeprom event)) refl refl

-- ---- the word read says which it was: what is answered alike is the same
pub says-which : (o p : Option ℕ) → word_read_answer o ≡ word_read_answer p → o ≡ p
says-which o p h = sym (found-again o) ∙ ap found h ∙ found-again p
  where
    found : Answer → Option ℕ
    found Done = None
    found (Byte value) = None
    found (Word value) = Some value
    found Nothing = None
    found (Refused number) = None

    found-again : (q : Option ℕ) → found (word_read_answer q) ≡ q
    found-again None = refl
    found-again (Some sample) = refl
