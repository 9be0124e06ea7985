-- What a call over a lent board leaves. The specification, "What is delivered": "The core passes the record by value; above it, the hypervisor lends
-- one board record and finds it updated."
use Rattle.std.specs.Prelude.{ℕ, ◌≡◌, refl, List}
use Rattle.std.proofs.Common.{sym, ◌∙◌}
use Rattle.machine_record.specs.declared.Board.{Board}
use Rattle.board_step.specs.Step.{step_of, memory_after, eeprom_after}
use Rattle.board_events.specs.declared.Answer.{Answer}
use Rattle.board_events.specs.declared.Event.{Event}

-- From the record b, the memories m and e and an event: the answer, in the form that `form` gives it, and the record and both memories at exit
pub record Stepped {X : Type 0} (form : Answer → X) (b : Board) (m e : List ℕ) (event : Event) (answer' : X) (b' : Board) (m' e' : List ℕ) : Type 0 where
  pub answer : answer' ≡ form (step_of b m e event).answer
  pub board : b' ≡ (step_of b m e event).board
  pub memory : m' ≡ memory_after b m e event
  pub eeprom : e' ≡ eeprom_after b m e event

-- the answer as it is
abbrev pub itself : {X : Type 0} → X → X
itself a = a

-- what the step by value gives is such an outcome
pub stepped-by_value : {X : Type 0} (form : Answer → X) (b : Board) (m e : List ℕ) (event : Event)
    → Stepped form b m e event (form (step_of b m e event).answer) (step_of b m e event).board (memory_after b m e event) (eeprom_after b m e event)
stepped-by_value form b m e event = record { answer = refl; board = refl; memory = refl; eeprom = refl }

-- and the only one: two outcomes that the promise permits are equal
pub determined : {X : Type 0} {form : Answer → X} {b : Board} {m e : List ℕ} {event : Event} {x x' : X} {b₁ b₂ : Board} {m₁ m₂ e₁ e₂ : List ℕ}
    → Stepped form b m e event x b₁ m₁ e₁ → Stepped form b m e event x' b₂ m₂ e₂ → (x ≡ x') × (b₁ ≡ b₂) × (m₁ ≡ m₂) × (e₁ ≡ e₂)
determined s t =
    (s.answer ∙ sym t.answer, s.board ∙ sym t.board, s.memory ∙ sym t.memory, s.eeprom ∙ sym t.eeprom)
