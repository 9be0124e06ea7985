-- Every event has its numbers, so a host can let any event happen by them; and a kind that names no event is refused and changes nothing, whatever the record
-- and the memories. Condition 1 of acceptance; the specification, "Refusal numbers": "Check order: 2, 1, then 3 or 5".
use Rattle.std.specs.Prelude.{ℕ, ◌≡◌, Bool, true, false, not, List, [], ◌∷◌, eqb}
use Rattle.std.proofs.Math.Path.{refl}
use Rattle.std.proofs.Common.{sym, ap, ◌∙◌, arith, eqb-true}
use Rattle.base.specs.Checks.{refusal, ◌refuses◌}
use Rattle.ports.specs.declared.Port.TheVariants.{PortA, PortB, PortC}
use Rattle.machine_record.specs.declared.Board.{Board}
use Rattle.bus.specs.Place.{place_of}
use Rattle.bus.specs.Registers.{register_at, read_checks}
use Rattle.board_stores.specs.Stores.{wrong_lengths}
use Rattle.board_refusal.specs.Working.{is_working_board}
use Rattle.board_refusal.specs.Refusals.{event_checks, checks}
use Rattle.board_events.specs.declared.Event.{Event}
use Rattle.board_events.specs.declared.Event.TheVariants.{WriteByte, ReadByte, ReadWord, ConversionEnd, DinPins, LatchLevel, PortPins, Tick, TransferEnd}
use Rattle.board_step.specs.Step.{refusal_of, refused_by, step_of, memory_after, eeprom_after}
use Rattle.board_laws.specs.Kept.{refused_unchanged}
use Rattle.numbers_events.specs.declared.EventNumbers.{EventNumbers}
use Rattle.numbers_events.specs.Events.{names_event, outside, event_of, numbers_of}

-- ---- every event has its numbers
pub event_numbers : (ev : Event) → event_of (numbers_of ev) ≡ ev
unfolding event_of
event_numbers (WriteByte offset value) = refl
event_numbers (ReadByte offset) = refl
event_numbers (ReadWord offset) = refl
event_numbers (ConversionEnd code) = refl
event_numbers (DinPins d) = refl
event_numbers (LatchLevel level) = refl
event_numbers (PortPins PortA pins) = refl
event_numbers (PortPins PortB pins) = refl
event_numbers (PortPins PortC pins) = refl
event_numbers Tick = refl
event_numbers TransferEnd = refl

-- their kind is one that names an event
pub event-named : (ev : Event) → names_event (numbers_of ev).kind ≡ true
event-named (WriteByte offset value) = refl
event-named (ReadByte offset) = refl
event-named (ReadWord offset) = refl
event-named (ConversionEnd code) = refl
event-named (DinPins d) = refl
event-named (LatchLevel level) = refl
event-named (PortPins PortA pins) = refl
event-named (PortPins PortB pins) = refl
event-named (PortPins PortC pins) = refl
event-named Tick = refl
event-named TransferEnd = refl

-- ---- a kind that names none is none of the kinds that do
apart : (kind k : ℕ) → names_event kind ≡ false → names_event k ≡ true → eqb kind k ≡ false
apart kind k none some = by (eqb kind k) refl
  where
    by : (t : Bool) → eqb kind k ≡ t → t ≡ false
    by true e = sym some ∙ ap names_event (sym (eqb-true kind k e)) ∙ none
    by false e = refl

pub no_event : (n : EventNumbers) → names_event n.kind ≡ false → event_of n ≡ outside
unfolding event_of
no_event n h =
    simp (
      apart n.kind 1 h refl,
      apart n.kind 2 h refl,
      apart n.kind 3 h refl,
      apart n.kind 4 h refl,
      apart n.kind 5 h refl,
      apart n.kind 6 h refl,
      apart n.kind 7 h refl,
      apart n.kind 8 h refl,
      apart n.kind 9 h refl,
      apart n.kind 10 h refl,
      apart n.kind 11 h refl,
    )

-- ---- what it is refused by: 2 and 1 come before 3
abbrev pub outside_refusal : Board → List ℕ → List ℕ → ℕ
outside_refusal b memory eeprom =
    refusal (wrong_lengths memory eeprom refuses 2 ∷ not (is_working_board b memory) refuses 1 ∷ true refuses 3 ∷ [])
