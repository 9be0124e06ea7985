-- Theorems that rest on theorems of specs/TypedLaws.antt, and promise as those do. What specs/TypedLaws.antt says of itself:
-- The value in a step's answer is one of 16 bits: a read shows registers and counts within their types, bits of a byte, or a byte of the oldest sample; a word
-- read the oldest sample; either all ones where none is held. Bounds for Decoded.antt.
use Rattle.std.specs.Prelude.{ℕ, ◌<◌, ◌≡◌, refl, Bool, true, false, List, eqb, if◌then◌else◌}
use Rattle.std.proofs.Common.{arith, eqb-true}
use Rattle.fifo.specs.Queue.{queue}
use Rattle.machine_record.specs.declared.Board.{Board}
use Rattle.board_events.specs.declared.Event.{Event}
use Rattle.board_events.specs.Answers.{value_read}
use Rattle.board_step.specs.Step.{refusal_of, step_of}
use Rattle.board_step.specs.Passed.{all-passed}
use Rattle.board_laws.specs.Answers.{value_brought, answer-value}
use Rattle.numbers.specs.Typed.{Recorded, Sixteen}
use Rattle.numbers.specs.TypedLaws.{brought-below, oldest-below}

-- ---- what an event brings
-- the value in a step's answer is one of 16 bits
pub value-below : (b : Board) (m e : List ℕ) (ev : Event) → Recorded b → Sixteen m → value_read (step_of b m e ev).answer < 65536
value-below b m e ev r s = rw (answer-value b m e ev) (by (eqb (refusal_of b m e ev) 0) refl)
  where
    by : (t : Bool) → eqb (refusal_of b m e ev) 0 ≡ t → (if t then value_brought b (queue b.fifo m) ev else 0) < 65536
    by true z = brought-below b m ev r (oldest-below b.fifo m (all-passed b m e ev (eqb-true _ _ z)).works.fifo s)
    by false z = omega arith
