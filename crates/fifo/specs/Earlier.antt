-- The earlier layout of the sample memory: the specification, "What is delivered", before request M-105: "A working board holds 0 to 512 samples,
-- oldest first from place 0; a read moves the rest down and free places are 0." It has no place of the oldest: it does not look at that part of
-- the record, and leaves it. It serves the theorem that both layouts hold the same samples and answer alike (board_laws/specs/Same.antt) alone.
use Rattle.std.specs.Prelude.{List, [], ◌∷◌, ◌++◌, Bool, ◌||◌, not, ℕ, ◌+◌, ◌-◌, length, take, drop, replicate, leb, ltb, eqb, if◌then◌else◌}
use Rattle.base.specs.Flags.{on}
use Rattle.base.specs.Tests.{all}
use Rattle.fifo.specs.declared.Fifo.{Fifo}
use Rattle.fifo.specs.Queue.{zeros}

-- the samples held, oldest first
unfoldable pub earlier_queue : Fifo → List ℕ → List ℕ
earlier_queue f memory = take f.held memory

-- the whole memory that holds these samples: from place 0 on, free places 0
unfoldable pub earlier_layout : List ℕ → List ℕ
earlier_layout samples = samples ++ replicate (512 - length samples) 0

-- the record after a reset
unfoldable pub earlier_empty : Fifo → Fifo
earlier_empty f = record { held = 0; place = f.place; ovf = 0 }

-- after an end of a conversion: one sample more; with 512 held OVF is set instead
unfoldable pub earlier_pushed_to : Fifo → Fifo
earlier_pushed_to f =
    if ltb f.held 512
    then record { held = f.held + 1; place = f.place; ovf = f.ovf }
    else record { held = f.held; place = f.place; ovf = 1 }

-- after a read of 1: one sample less, and OVF clears; with none held no change
unfoldable pub earlier_popped_from : Fifo → Fifo
earlier_popped_from f = if eqb f.held 0 then f else record { held = f.held - 1; place = f.place; ovf = 0 }

-- whether this is a working board's sample memory
unfoldable pub earlier_tests : Fifo → List ℕ → List Bool
earlier_tests f memory =
    eqb (length memory) 512 ∷ leb f.held 512 ∷ leb f.ovf 1 ∷ (not (on f.ovf) || eqb f.held 512) ∷ zeros (drop f.held memory) ∷ []

abbrev pub is_earlier_fifo : Fifo → List ℕ → Bool
is_earlier_fifo f memory = all (earlier_tests f memory)
