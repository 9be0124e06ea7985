-- Laws of the two ways out of `turn`, over plain values. Assumes nothing.
use Prim.Native.Nat.{ℕ}
use Rattle.std.specs.Prelude.{Ok, Err}
use Rattle.base.specs.declared.Refusal.{Refusal}
use mathlib.Core.Path.{◌≡◌, refl, ◌∙◌}
use mathlib.Core.List.{List}
use Rattle.machine_record.specs.declared.Board.{Board}
use Rattle.board_step.specs.Step.{step_of, memory_after, eeprom_after}
use Rattle.board_events.specs.declared.Event.{Event}
use Rattle.board_step.specs.declared.Outcome.{Outcome}
use Rattle.collector_phases.specs.declared.Collector.{Collector}
use Rattle.collector_phases.specs.Accesses.{access_of}
use Rattle.archive_turns.specs.declared.Turned.{Turned}
use Rattle.archive_turns.specs.Turn.{event_of, brought_by, taken_by, unturned}
use Rattle.archive_turns.specs.Real.{as_struct, lent_turn, Left}
use Rattle.archive_turns.specs.Hosts.{words}

pub made : (c : Collector) (b : Board) (m e : List ℕ) (ev : Event) (o : Outcome) (r : Turned) (m' e' : List ℕ)
    → event_of (access_of c) ≡ Ok ev → o ≡ step_of b m e ev → m' ≡ memory_after b m e ev → e' ≡ eeprom_after b m e ev
    → r ≡ as_struct (taken_by (words.reply c (brought_by o.answer)) o.board) → Left (lent_turn c b m e) r m' e'
made c b m e ev o r m' e' h p q s t = rw h (record { turned = t ∙ rw p; memory = q; eeprom = s })

pub unmade : (c : Collector) (b : Board) (m e : List ℕ) (n : Refusal) (r : Turned)
    → event_of (access_of c) ≡ Err n → r ≡ as_struct (unturned c b n.number) → Left (lent_turn c b m e) r m e
unmade c b m e n r h t = rw h (record { turned = t; memory = refl; eeprom = refl })
