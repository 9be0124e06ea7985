-- What happens to a board beside its bus (the specification, "What is delivered": "An event is one of ..."): every event that is no bus access.
use Rattle.std.specs.Prelude.{ℕ, ℤ}
use Rattle.std.specs.Int.{w16}
use Rattle.std.proofs.Common.{SFits}
use Rattle.ports.specs.declared.Port.{Port}
use Rattle.board_events.specs.declared.Din.{Din}
use Rattle.board_events.specs.declared.Event.{Event}
use Rattle.board_events.specs.declared.Event.TheVariants.{ConversionEnd, DinPins, LatchLevel, PortPins, Tick, TransferEnd}

pub data World : Type 0 where
  -- with a signed code of 16 bits
  conversion_end : (code : ℤ) → SFits w16 code → World
  din_pins : Din → World
  latch-level : ℕ → World
  port_pins : Port → ℕ → World
  tick : World
  transfer-end : World

abbrev pub event_in : World → Event
event_in (conversion_end code fits) = ConversionEnd code
event_in (din_pins d) = DinPins d
event_in (latch-level level) = LatchLevel level
event_in (port_pins q v) = PortPins q v
event_in tick = Tick
event_in transfer-end = TransferEnd
