-- Theorems that rest on theorems of specs/Working.antt, and promise as those do. What specs/Working.antt says of itself:
-- What a working board's converter is (the specification, "What is delivered": every register and channel is within its range).
use Rattle.std.specs.Prelude.{Bool}
use Rattle.std.proofs.Common.{arith}
use Rattle.base.specs.Laws.{by_choice}
use Rattle.converter.specs.declared.channels.Converter.{Converter}
use Rattle.converter.specs.Channels.{started, trigger_starts, triggered, end_starts, ended}
use Rattle.converter.specs.Working.{WorkingConverter, next_in_range}

-- ---- what keeps it so
pub started-works : (c : Converter) → WorkingConverter c → WorkingConverter (started c)
started-works c w = let n = next_in_range c.low c.high c.selected w.low in omega arith

-- of a software trigger and of the clock's too
pub triggered-works : (c : Converter) (trigger : Bool) → WorkingConverter c → WorkingConverter (triggered c trigger)
triggered-works c trigger w = by_choice WorkingConverter (trigger_starts c trigger) (started-works c w) w

pub ended-works : (c : Converter) → WorkingConverter c → WorkingConverter (ended c)
ended-works c w = by_choice WorkingConverter (end_starts c) (started-works c w) (omega arith)
