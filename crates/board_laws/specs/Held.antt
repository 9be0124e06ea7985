-- An event of a working board over its record, the samples held and the EEPROM, apart from how the memory keeps the samples: what theorems
-- about runs of events go by. `step-held` says that the step does just this.
use Rattle.std.specs.Prelude.{ℕ, ◌≡◌, refl, Bool, true, false, List, length, eqb, if◌then◌else◌}
use Rattle.std.proofs.Common.{ap, ◌∙◌, eqb-true, eq-eqb}
use Rattle.base.specs.Checks.{refusal}
use Rattle.fifo.specs.Queue.{queue}
use Rattle.machine_record.specs.declared.Board.{Board}
use Rattle.board_refusal.specs.Working.{WorkingBoard, board-to}
use Rattle.board_refusal.specs.Refusals.{event_checks, checks}
use Rattle.board_step.specs.Passed.{Passed}
use Rattle.board_step.specs.Step.{Ran, ran, refusal_of, step_of, memory_after, eeprom_after}
use Rattle.board_laws.specs.Kept.{ran-holds}
use Rattle.board_events.specs.declared.Answer.{Answer}
use Rattle.board_events.specs.declared.Answer.TheVariants.{Refused}
use Rattle.board_events.specs.declared.Event.{Event}

pub record Held : Type 0 where
  pub board : Board
  pub samples : List ℕ
  pub eeprom : List ℕ

-- the number that a working board refuses an event by; 0: not refused
abbrev pub event_number : Held → Event → ℕ
event_number h event = refusal (event_checks h.board event)

abbrev pub ran_held : Held → Event → Ran
ran_held h event = ran h.board h.samples h.eeprom event

unfoldable pub held_answer : Held → Event → Answer
held_answer h event = if eqb (event_number h event) 0 then (ran_held h event).answer else Refused (event_number h event)

unfoldable pub happened : Held → Event → Held
happened h event =
    if eqb (event_number h event) 0
    then record { board = (ran_held h event).board; samples = (ran_held h event).samples; eeprom = (ran_held h event).eeprom }
    else h

-- ---- what a record and memories hold, and that the step goes by it
abbrev pub held_in : Board → List ℕ → List ℕ → Held
held_in b memory eeprom = record { board = b; samples = queue b.fifo memory; eeprom = eeprom }

pub number-working : (b : Board) (m e : List ℕ) (ev : Event) → WorkingBoard b m → length e ≡ 128 → refusal_of b m e ev ≡ refusal (event_checks b ev)
unfolding checks
number-working b m e ev w l = rw (eq-eqb (length m) 512 w.fifo.long, eq-eqb (length e) 128 l, board-to b m w)

pub record AsHeld (b : Board) (m e : List ℕ) (ev : Event) : Type 0 where
  pub answer : (step_of b m e ev).answer ≡ held_answer (held_in b m e) ev
  pub held : held_in (step_of b m e ev).board (memory_after b m e ev) (eeprom_after b m e ev) ≡ happened (held_in b m e) ev

pub step-held : (b : Board) (m e : List ℕ) (ev : Event) → WorkingBoard b m → length e ≡ 128 → AsHeld b m e ev
unfolding step_of memory_after eeprom_after held_answer happened
step-held b m e ev w l = by (eqb (refusal (event_checks b ev)) 0) refl
  where
    same : refusal_of b m e ev ≡ refusal (event_checks b ev)
    same = number-working b m e ev w l

    by : (t : Bool) → eqb (refusal (event_checks b ev)) 0 ≡ t → AsHeld b m e ev
    by true h =
        let n : eqb (refusal_of b m e ev) 0 ≡ true = ap (λ (x : ℕ). eqb x 0) same ∙ h in
        let p : Passed b m e ev = record { works = w; long = l; event = eqb-true _ _ h } in
        record { answer = rw (n, h); held = rw (n, h, ran-holds b m e ev p) }
    by false h =
        let n : eqb (refusal_of b m e ev) 0 ≡ false = ap (λ (x : ℕ). eqb x 0) same ∙ h in
        record { answer = rw (n, h, same); held = rw (n, h) }
