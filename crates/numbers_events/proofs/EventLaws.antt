-- Theorems that rest on theorems of specs/EventLaws.antt, and promise as those do. What specs/EventLaws.antt says of itself:
-- Every event has its numbers, so a host can let any event happen by them; and a kind that names no event is refused and changes nothing, whatever the record
-- and the memories. Condition 1 of acceptance; the specification, "Refusal numbers": "Check order: 2, 1, then 3 or 5".
use Rattle.std.specs.Prelude.{ℕ, ◌≡◌, Bool, true, false, not, List, [], ◌∷◌, eqb}
use Rattle.std.proofs.Math.Path.{refl}
use Rattle.std.proofs.Common.{sym, ap, ◌∙◌, arith, eqb-true}
use Rattle.base.specs.Checks.{refusal, ◌refuses◌}
use Rattle.ports.specs.declared.Port.TheVariants.{PortA, PortB, PortC}
use Rattle.machine_record.specs.declared.Board.{Board}
use Rattle.bus.specs.Place.{place_of}
use Rattle.bus.specs.Registers.{register_at, read_checks}
use Rattle.board_stores.specs.Stores.{wrong_lengths}
use Rattle.board_refusal.specs.Working.{is_working_board}
use Rattle.board_refusal.specs.Refusals.{event_checks, checks}
use Rattle.board_events.specs.declared.Event.{Event}
use Rattle.board_events.specs.declared.Event.TheVariants.{WriteByte, ReadByte, ReadWord, ConversionEnd, DinPins, LatchLevel, PortPins, Tick, TransferEnd}
use Rattle.board_step.specs.Step.{refusal_of, refused_by, step_of, memory_after, eeprom_after}
use Rattle.board_laws.specs.Kept.{refused_unchanged}
use Rattle.numbers_events.specs.declared.EventNumbers.{EventNumbers}
use Rattle.numbers_events.specs.Events.{names_event, outside, event_of, numbers_of}
use Rattle.numbers_events.specs.EventLaws.{no_event, outside_refusal}

-- ---- what it is refused by: 2 and 1 come before 3
module _ (b : Board) (m e : List ℕ) where
  outside-refused : refusal_of b m e outside ≡ outside_refusal b m e
  unfolding checks event_checks place_of read_checks register_at
  outside-refused = refl

  some_number : outside_refusal b m e ≡ 0 → ⊥
  some_number = by (wrong_lengths m e) (is_working_board b m)
    where
      by : (lengths works : Bool) → refusal (lengths refuses 2 ∷ not works refuses 1 ∷ true refuses 3 ∷ []) ≡ 0 → ⊥
      by true works h = omega (arith, h)
      by false true h = omega (arith, h)
      by false false h = omega (arith, h)

  -- no event: refused by 2, 1 or 3, and the record and both memories stay
  pub no_event_refused : (n : EventNumbers) → names_event n.kind ≡ false
      → (step_of b m e (event_of n) ≡ refused_by b (outside_refusal b m e)) × (memory_after b m e (event_of n) ≡ m) × (eeprom_after b m e (event_of n) ≡ e)
  no_event_refused n h =
      let p = refused_unchanged b m e outside (λ z. some_number (sym outside-refused ∙ z)) in
      rw (no_event n h) (p.0 ∙ ap (refused_by b) outside-refused, p.1, p.2)
