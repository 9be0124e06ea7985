-- Theorems that rest on theorems of specs/Same.antt, and promise as those do. What specs/Same.antt says of itself:
-- Samples that stay put: request M-105, "Show that, read from the oldest on, it always holds what the earlier layout held, and that every event
-- answers the same." A board of the earlier layout (EarlierBoard) and one whose sample memory is the circle go side by side through any row of
-- events, refused ones among them. `Same` says of the two that all of their records but the place of the oldest sample is equal, that both hold the
-- same samples, oldest first, that their EEPROMs are equal, of any length, and that each is a working board of its layout.
use Rattle.std.specs.Prelude.{ℕ, ◌≡◌, true, false, List, [], ◌∷◌, eqb, if◌then◌else◌}
use Rattle.std.proofs.Math.Path.{refl}
use Rattle.std.proofs.Common.{ap, sym, subst, ◌∙◌}
use Rattle.std.proofs.Math.Bool.{Bool}
use Rattle.std.proofs.lemmas.Bool.{eqb-false}
use Rattle.fifo.specs.Earlier.{earlier_queue}
use Rattle.fifo.specs.Queue.{queue}
use Rattle.machine_record.specs.declared.Board.{Board}
use Rattle.board_refusal.specs.Working.{WorkingBoard}
use Rattle.board_step.specs.Step.{memory_after, eeprom_after}
use Rattle.board_step.specs.declared.Outcome.{Outcome}
use Rattle.board_step.specs.States.{State, refusal_at, after_event}
use Rattle.board_laws.specs.Stretches.{after_events}
use Rattle.board_laws.specs.EarlierBoard.{earlier_held, is_earlier_board, earlier_refusal, earlier_acted, earlier_ran, earlier_answer, earlier_after}
use Rattle.board_laws.specs.EarlierBoard.{earlier_after_events, earlier_answers}
use Rattle.board_laws.specs.Kept.{refused_unchanged}
use Rattle.board_laws.specs.Placed.{placed}
use Rattle.board_laws.specs.SameLaws.{Same}
use Rattle.board_laws.proofs.SameLaws.{refused-alike, left_is, answered, left-same}
use Rattle.board_events.specs.declared.Answer.{Answer}
use Rattle.board_events.specs.declared.Answer.TheVariants.{Refused}
use Rattle.board_events.specs.declared.Event.{Event}
use Rattle.board_laws.specs.Same.{Together, answers_of, circle, earlier}

-- ---- one event: it answers the same, refusals included, and leaves the same samples
module _ (b : Board) (p : ℕ) (m m' e : List ℕ) (ev : Event) (w : WorkingBoard (placed b p) m) (w' : is_earlier_board b m' ≡ true)
    (same : queue (placed b p).fifo m ≡ earlier_queue b.fifo m') where
  number : refusal_at (circle b p m m' e ev w w' same) ev ≡ earlier_refusal (earlier b p m m' e ev w w' same) ev
  number = refused-alike b p m m' e ev w w' same

  step-at : Together (earlier b p m m' e ev w w' same) (circle b p m m' e ev w w' same) ev
  unfolding earlier_answer earlier_after
  step-at = by (eqb (earlier_refusal (earlier b p m m' e ev w w' same) ev) 0) refl
    where
      said : Bool → Answer
      said t = if t then (earlier_acted (earlier b p m m' e ev w w' same) ev).answer else Refused (earlier_refusal (earlier b p m m' e ev w w' same) ev)

      leaves : Bool → State
      leaves t = if t then earlier_ran (earlier b p m m' e ev w w' same) ev else (earlier b p m m' e ev w w' same)

      by : (t : Bool) → eqb (earlier_refusal (earlier b p m m' e ev w w' same) ev) 0 ≡ t
          → Together (earlier b p m m' e ev w w' same) (circle b p m m' e ev w w' same) ev
      by true t =
          record {
            answer = answered b p m m' e ev w w' same t ∙ ap said (sym t);
            after =
                subst (λ (s : State). Same s (after_event (circle b p m m' e ev w w' same) ev)) (ap leaves (sym t))
                (subst (λ (s : State). Same (earlier_ran (earlier b p m m' e ev w w' same) ev) s) (sym (left_is b p m m' e ev w w' same t))
                (left-same b p m m' e ev w w' same t));
          }
      by false t =
          let k = refused_unchanged (placed b p) m e ev (λ z. eqb-false (earlier_refusal (earlier b p m m' e ev w w' same) ev) 0 t (sym number ∙ z)) in
          let stays : (circle b p m m' e ev w w' same) ≡ after_event (circle b p m m' e ev w w' same) ev =
          sym (
          ap (λ (o : Outcome). record { board = o.board; memory = memory_after (placed b p) m e ev; eeprom = eeprom_after (placed b p) m e ev }) k.0
          ∙ ap (λ (l : List ℕ). record { board = placed b p; memory = l; eeprom = eeprom_after (placed b p) m e ev }) k.1
          ∙ ap (λ (l : List ℕ). record { board = placed b p; memory = m; eeprom = l }) k.2
          )
          in
          record {
            answer = ap (λ (o : Outcome). o.answer) k.0 ∙ ap Refused number ∙ ap said (sym t);
            after =
                subst (λ (s : State). Same s (after_event (circle b p m m' e ev w w' same) ev)) (ap leaves (sym t))
                (subst (λ (s : State). Same (earlier b p m m' e ev w w' same) s) stays
                (record { board = refl; samples = same; eeprom = refl; works = w; worked = w' }));
          }

pub same_step : (earlier circle : State) (event : Event) → Same earlier circle → Together earlier circle event
same_step s t event k =
    let p = t.board.fifo.place in
    let parts : t ≡ record { board = placed s.board p; memory = t.memory; eeprom = s.eeprom } =
    ap (λ (b : Board). record { board = b; memory = t.memory; eeprom = t.eeprom }) k.board
    ∙ ap (λ (e : List ℕ). record { board = placed s.board p; memory = t.memory; eeprom = e }) k.eeprom in
    subst (λ (c : State). Together s c event) (sym parts)
    (step-at s.board p t.memory s.memory s.eeprom event (subst (λ (b : Board). WorkingBoard b t.memory) k.board k.works) k.worked
    (subst (λ (b : Board). queue b.fifo t.memory ≡ earlier_held s) k.board k.samples))

-- ---- any row of events
pub same_after : (earlier circle : State) (events : List Event) → Same earlier circle → Same (earlier_after_events earlier events) (after_events circle events)
same_after s t [] k = k
same_after s t (event ∷ events) k = same_after (earlier_after s event) (after_event t event) events (same_step s t event k).after

pub same-answers : (earlier circle : State) (events : List Event) → Same earlier circle → answers_of circle events ≡ earlier_answers earlier events
same-answers s t [] k = refl
same-answers s t (event ∷ events) k =
    let one = same_step s t event k in
    ap (λ (a : Answer). a ∷ answers_of (after_event t event) events) one.answer
    ∙ ap (λ (rest : List Answer). earlier_answer s event ∷ rest) (same-answers (earlier_after s event) (after_event t event) events one.after)
