-- A board as the collector and an onlooker see it, and whatever drives it by bus accesses. The product's own are in Real and Hosts; the theorem about
-- them is stated over any board and any driver, so that wrong ones can be refuted too.
use Rattle.std.specs.Prelude.{ℕ, Bool, List, Result, ℤ}
use Rattle.std.proofs.Math.Option.{Option}
use Rattle.base.specs.declared.Refusal.{Refusal}
use Rattle.converter.specs.declared.channels.Converter.{Converter}
use Rattle.board_events.specs.declared.Answer.{Answer}
use Rattle.board_events.specs.declared.Event.{Event}
use Rattle.collector_answers.specs.declared.BusAnswer.{BusAnswer}
use Rattle.collector_phases.specs.declared.Access.{Access}
use Rattle.collector_phases.specs.declared.Collector.{Collector}
use Rattle.collector_steps.specs.declared.Taken.{Taken}

-- what conversions and samples depend on: low, high and selected channel, the conversion in progress (STS) and its channel, SCANEN and CLKEN;
-- the samples held, oldest first
pub record View : Type 0 where
  pub converter : Converter
  pub held : List ℕ

pub record Machine : Type 1 where
  -- the record with both memories
  pub Board : Type 0
  -- what an event makes of it, and answers
  pub stepped : Board → Event → Board
  pub answered : Board → Event → Answer
  pub view : Board → View
  -- whether an event begins a conversion, which is of the selected channel; and the code of the conversion that it ends, if it ends one
  pub begins : Board → Event → Bool
  pub ends : Board → Event → Option ℤ

pub record Host : Type 0 where
  -- the access that it makes now
  pub access : Collector → Result Access Refusal
  -- what it does with what the access brought: a number, nothing, or a refusal of the board
  pub reply : Collector → BusAnswer → Taken
