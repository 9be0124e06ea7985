-- Samples that stay put: request M-105, "Show that, read from the oldest on, it always holds what the earlier layout held, and that every event
-- answers the same." A board of the earlier layout (EarlierBoard) and one whose sample memory is the circle go side by side through any row of
-- events, refused ones among them. `Same` says of the two that all of their records but the place of the oldest sample is equal, that both hold the
-- same samples, oldest first, that their EEPROMs are equal, of any length, and that each is a working board of its layout.
use Rattle.std.specs.Prelude.{ℕ, ◌≡◌, true, List, [], ◌∷◌}
use Rattle.std.proofs.Math.Path.{refl}
use Rattle.std.proofs.Math.Bool.{Bool}
use Rattle.base.specs.Tests.{each}
use Rattle.fifo.specs.Earlier.{earlier_queue, is_earlier_fifo}
use Rattle.fifo.specs.Queue.{queue}
use Rattle.fifo.specs.Queue.FromZero.{queue-from_0, works-from_0}
use Rattle.machine_record.specs.Working.{is_working_machine, machine_of}
use Rattle.machine_record.specs.declared.Board.{Board}
use Rattle.machine_record.specs.declared.Jumpers.{Jumpers}
use Rattle.board_refusal.specs.Working.{WorkingBoard}
use Rattle.board_step.specs.States.{State, answer_at, after_event}
use Rattle.board_laws.specs.Stretches.{after_events, fresh_state}
use Rattle.board_laws.specs.EarlierBoard.{earlier_held, is_earlier_board, earlier_answer, earlier_after}
use Rattle.board_laws.specs.EarlierBoard.{earlier_after_events, earlier_answers}
use Rattle.board_laws.specs.Placed.{placed}
use Rattle.board_laws.specs.SameLaws.{Same}
use Rattle.board_events.specs.declared.Answer.{Answer}
use Rattle.board_events.specs.declared.Event.{Event}

-- the answers of a row of events
abbrev pub answers_of : State → List Event → List Answer
answers_of s [] = []
answers_of s (event ∷ events) = answer_at s event ∷ answers_of (after_event s event) events

-- ---- one event: it answers the same, refusals included, and leaves the same samples
pub record Together (earlier circle : State) (event : Event) : Type 0 where
  pub answer : answer_at circle event ≡ earlier_answer earlier event
  pub after : Same (earlier_after earlier event) (after_event circle event)

module _ (b : Board) (p : ℕ) (m m' e : List ℕ) (ev : Event) (w : WorkingBoard (placed b p) m) (w' : is_earlier_board b m' ≡ true)
    (same : queue (placed b p).fifo m ≡ earlier_queue b.fifo m') where
  abbrev pub earlier : State
  earlier = record { board = b; memory = m'; eeprom = e }

  abbrev pub circle : State
  circle = record { board = placed b p; memory = m; eeprom = e }

-- ---- which pairs there are
-- a board of the earlier layout is a working one with place 0: it stands beside itself
pub same-from_0 : (s : State) → is_earlier_board s.board s.memory ≡ true → s.board.fifo.place ≡ 0 → Same s s
same-from_0 s w e =
    let t = each (is_working_machine s.board ∷ is_earlier_fifo s.board.fifo s.memory ∷ []) w in
    record {
      board = refl;
      samples = queue-from_0 s.board.fifo s.memory e;
      eeprom = refl;
      works = record { machine = machine_of s.board t.0; fifo = works-from_0 s.board.fifo s.memory e t.1.0 };
      worked = w;
    }

-- ---- the theorem: from a fresh board on, both hold the same samples and give the same answers
pub record Sameness : Type 0 where
  pub holds : (j : Jumpers) (zeroscale : Bool) (events : List Event)
      → queue (after_events (fresh_state j zeroscale) events).board.fifo (after_events (fresh_state j zeroscale) events).memory
      ≡ earlier_held (earlier_after_events (fresh_state j zeroscale) events)
  pub answers : (j : Jumpers) (zeroscale : Bool) (events : List Event)
      → answers_of (fresh_state j zeroscale) events ≡ earlier_answers (fresh_state j zeroscale) events
