-- The specification's marked case 2, for the record of the sample memory: 512 held, one more end, a read. Proved by computing.
use Rattle.std.specs.Prelude.{◌≡◌, refl}
use Rattle.fifo.specs.declared.Fifo.{Fifo}
use Rattle.fifo.specs.Flags.{flag_bits}
use Rattle.fifo.specs.Queue.{pushed_to, popped_from}

abbrev pub full_fifo : Fifo
full_fifo = record { held = 512; place = 0; ovf = 0 }

-- 7 reads 60 in hexadecimal
pub full-reads : flag_bits full_fifo ≡ 96
unfolding flag_bits
full-reads = refl

-- after one more end it reads 70
pub over_reads : flag_bits (pushed_to full_fifo) ≡ 112
unfolding flag_bits pushed_to
over_reads = refl

-- a read then leaves 511 held, from place 1 on, and OVF clear
pub read-clears : popped_from (pushed_to full_fifo) ≡ record { held = 511; place = 1; ovf = 0 }
unfolding pushed_to popped_from
read-clears = refl
