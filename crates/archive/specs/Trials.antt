-- A start and runs to try demand 3 on: channels 3 to 5 by the external clock, DIN3.
use Rattle.std.specs.Prelude.{ℕ, zero, suc, ◌%◌, ◌≡◌, refl, Ok, pos}
use Rattle.std.proofs.Common.{arith}
use Rattle.collector_settings.specs.declared.Settings.{Settings}
use Rattle.collector_settings.specs.Settings.{start_refusal}
use Rattle.collector_records.specs.Records.{first_record, start_of}
use Rattle.archive_turns.specs.Machine.{Machine}
use Rattle.archive_demand.specs.World.{World, conversion_end, din_pins}
use Rattle.archive_demand.specs.Run.{turn, world, Run, begin, ◌▸◌, System}

-- ---- a start that is not refused, and a board with the collector that has begun it
abbrev pub settings : Settings
settings = record { low = 3; high = 5; jumpers = 0; range = 0; clock = 0; limit = 10 }

pub settings-taken : start_of settings ≡ Ok (first_record settings)
unfolding start_of start_refusal
settings-taken = refl

abbrev pub from : (M : Machine) → M.Board → System M
from M b = record { board = b; collector = first_record settings }

-- ---- events of the world: DIN3-0 take these levels; a conversion ends with the code n
abbrev pub din : ℕ → World
din lines = din_pins (record { lines = lines })

abbrev pub ends_with : ℕ → World
ends_with n = conversion_end (pos (n % 32768)) (record { sfits = omega arith })

-- ---- runs
-- 9←0, one poll, five writes
abbrev pub start : Run
start = begin ▸ turn ▸ turn ▸ turn ▸ turn ▸ turn ▸ turn ▸ turn

-- DIN3 rises and falls, and the conversion that this begins ends
abbrev pub sampled : ℕ → Run → Run
sampled n r = r ▸ world (din 15) ▸ world (din 7) ▸ world (ends_with n)

-- n times, with the codes 0 to n - 1
unfoldable pub samples : ℕ → Run → Run
samples zero r = r
samples (suc n) r = sampled n (samples n r)

-- n turns
unfoldable pub turns_more : ℕ → Run → Run
turns_more zero r = r
turns_more (suc n) r = turns_more n r ▸ turn
