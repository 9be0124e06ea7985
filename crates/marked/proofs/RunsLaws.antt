-- Theorems that rest on theorems of specs/RunsLaws.antt, and promise as those do. What specs/RunsLaws.antt says of itself:
-- Runs of a working board go by what its record and memories hold, which computes: laws for the table's proofs.
use Rattle.std.specs.Prelude.{ℕ, ◌≡◌, List, length}
use Rattle.std.proofs.Common.{ap, arith}
use Rattle.fifo.specs.Cases.{full_fifo}
use Rattle.fifo.specs.Queue.Places.{queue-layout}
use Rattle.marked.specs.Runs.{full}
use Rattle.marked.specs.RunsLaws.{Holds, full-works, full_held}

-- ---- the fresh board, and the full one
pub full-holds : (samples : List ℕ) → length samples ≡ 512 → Holds (full samples) (full_held samples)
full-holds samples l =
    record {
      works = full-works samples l;
      held =
          ap (λ (q : List ℕ). record { board = (full samples).board; samples = q; eeprom = (full samples).eeprom })
          (queue-layout full_fifo samples l (omega arith) (omega arith));
    }
