-- The flags of the FIFO status register (manual, Base + 7 read; the specification's register 7).
use Rattle.std.specs.Prelude.{Bool, ℕ, ◌+◌, ◌≤◌, leb, eqb}
use Rattle.std.proofs.Common.{arith}
use Rattle.base.specs.Flags.{on}
use Rattle.base.specs.Weights.{weight_of, weight_le}
use Rattle.fifo.specs.declared.Fifo.{Fifo}

-- the memory is empty
abbrev pub EF : Fifo → Bool
EF f = eqb f.held 0

-- it is at least half full
abbrev pub HF : Fifo → Bool
HF f = leb 256 f.held

-- it is full
abbrev pub FF : Fifo → Bool
FF f = eqb f.held 512

-- a sample has been lost since one was last read
abbrev pub OVF : Fifo → Bool
OVF f = on f.ovf

-- the four flags as they stand in the byte: bits 7 to 4
unfoldable pub flag_bits : Fifo → ℕ
flag_bits f = weight_of (EF f) 128 + weight_of (HF f) 64 + weight_of (FF f) 32 + weight_of (OVF f) 16

-- they leave room for the other four bits
pub flags-fit : (f : Fifo) → flag_bits f ≤ 240
unfolding flag_bits
flags-fit f = omega (arith, weight_le (EF f) 128, weight_le (HF f) 64, weight_le (FF f) 32, weight_le (OVF f) 16)
