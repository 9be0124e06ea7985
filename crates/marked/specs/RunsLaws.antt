-- Runs of a working board go by what its record and memories hold, which computes: laws for the table's proofs.
use Rattle.std.specs.Prelude.{ℕ, ◌≡◌, refl, false, List, [], ◌∷◌, length}
use Rattle.std.proofs.Common.{sym, ap, ◌∙◌, arith}
use Rattle.fifo.specs.Cases.{full_fifo}
use Rattle.fifo.specs.Queue.{layout}
use Rattle.fifo.specs.Queue.Places.{queue-layout, length_layout}
use Rattle.fifo.specs.Queue.Laws.{queue-clear}
use Rattle.machine_record.specs.Fresh.{fresh_board}
use Rattle.machine_record.specs.Kept.{fresh-working, same-working}
use Rattle.machine_record.specs.declared.Board.{Board}
use Rattle.machine_record.specs.declared.Jumpers.TheVariants.{A}
use Rattle.board_laws.specs.Held.{Held, held_answer, happened, held_in, step-held}
use Rattle.board_events.specs.declared.Answer.{Answer}
use Rattle.board_events.specs.declared.Event.{Event}
use Rattle.board_step.specs.States.{State, Works, answer_at, after_event}
use Rattle.board_laws.specs.Stretches.{after_events}
use Rattle.board_laws.specs.StretchSteps.{works-on, fresh-state_works}
use Rattle.marked.specs.Runs.{fresh, full, answers, shown_after}

-- ---- both boards work
pub fresh-works : Works fresh
fresh-works = fresh-state_works A false

pub full-works : (samples : List ℕ) → length samples ≡ 512 → Works (full samples)
full-works samples l =
    let w = fresh-working A false in
    record {
      working =
          record {
            machine = same-working (fresh_board A false) _ w w.requests w.din w.latch refl refl refl refl refl refl refl;
            fifo =
                record {
                  long = length_layout full_fifo samples (omega arith);
                  held = omega arith;
                  place = omega arith;
                  empty = λ e. refl;
                  flag = omega arith;
                  ovf = λ e. refl;
                  laid = ap (layout full_fifo) (sym (queue-layout full_fifo samples l (omega arith) (omega arith)));
                };
          };
      long = refl;
    }

-- ---- runs over what is held
abbrev pub held_after : Held → List Event → Held
held_after h [] = h
held_after h (e ∷ es) = held_after (happened h e) es

abbrev pub held_answers : Held → List Event → List Answer
held_answers h [] = []
held_answers h (e ∷ es) = held_answer h e ∷ held_answers (happened h e) es

abbrev pub held_shown : {X : Type 0} → (Board → X) → Held → List (List Event) → List X
held_shown look h [] = []
held_shown look h (es ∷ more) = look (held_after h es).board ∷ held_shown look (held_after h es) more

-- a working board that holds this
pub record Holds (s : State) (h : Held) : Type 0 where
  pub works : Works s
  pub held : held_in s.board s.memory s.eeprom ≡ h

pub event-holds : (s : State) (h : Held) (e : Event) → Holds s h → Holds (after_event s e) (happened h e)
event-holds s h e k =
    let w = k.works in
    record {
      works = works-on s e w;
      held = (step-held s.board s.memory s.eeprom e w.working w.long).held ∙ ap (λ (x : Held). happened x e) k.held;
    }

pub events_hold : (s : State) (h : Held) (es : List Event) → Holds s h → Holds (after_events s es) (held_after h es)
events_hold s h [] k = k
events_hold s h (e ∷ es) k = events_hold (after_event s e) (happened h e) es (event-holds s h e k)

pub board-held : (s : State) (h : Held) → Holds s h → s.board ≡ h.board
board-held s h k = ap (λ (x : Held). x.board) k.held

pub answer-held : (s : State) (h : Held) (e : Event) → Holds s h → answer_at s e ≡ held_answer h e
answer-held s h e k =
    (step-held s.board s.memory s.eeprom e k.works.working k.works.long).answer ∙ ap (λ (x : Held). held_answer x e) k.held

pub answers-held : (s : State) (h : Held) (es : List Event) → Holds s h → answers s es ≡ held_answers h es
answers-held s h [] k = refl
answers-held s h (e ∷ es) k = rw (answer-held s h e k, answers-held (after_event s e) (happened h e) es (event-holds s h e k))

pub shown-held : {X : Type 0} (look : Board → X) (s : State) (h : Held) (ess : List (List Event)) → Holds s h
    → shown_after look s ess ≡ held_shown look h ess
shown-held look s h [] k = refl
shown-held look s h (es ∷ more) k =
    let q = events_hold s h es k in
    rw (board-held (after_events s es) (held_after h es) q, shown-held look (after_events s es) (held_after h es) more q)

-- ---- the fresh board, and the full one
abbrev pub fresh_held : Held
fresh_held = record { board = fresh.board; samples = []; eeprom = fresh.eeprom }

abbrev pub full_held : List ℕ → Held
full_held samples = record { board = (full samples).board; samples = samples; eeprom = (full samples).eeprom }

pub fresh_holds : Holds fresh fresh_held
fresh_holds = record { works = fresh-works; held = ap (λ (l : List ℕ). record { board = fresh.board; samples = l; eeprom = fresh.eeprom }) queue-clear }
