-- A fresh board for C hosts, whose jumpers come as a number. The specification, "What is delivered"; manual 5.4.
use Rattle.std.specs.Prelude.{ℕ, ◌≤◌, ◌<◌, Bool, true, false, ◌≡◌, refl, leb, if◌then◌else◌}
use Rattle.std.proofs.Common.{arith}
use Rattle.base.specs.Flags.{nonzero}
use Rattle.machine_record.specs.Fresh.{fresh_board, jumpers_number}
use Rattle.machine_record.specs.Working.{is_working_machine, machine_of}
use Rattle.machine_record.specs.declared.Board.{Board}
use Rattle.machine_record.specs.declared.Jumpers.{Jumpers}
use Rattle.machine_record.specs.declared.Jumpers.TheVariants.{A, B, C, D}

-- the board with another channel configuration
abbrev pub wired_as : Board → ℕ → Board
wired_as b inputs = record {
  converter = b.converter;
  requests = b.requests;
  fifo = b.fifo;
  registers = b.registers;
  outputs = b.outputs;
  clocks = b.clocks;
  ports = b.ports;
  calibration = b.calibration;
  pins = b.pins;
  wiring = record { inputs = inputs; zeroscale = b.wiring.zeroscale };
}

-- jumpers A to D are 0 to 3; any other number stands in the record as it came, and as 255 where a byte does not hold it
abbrev pub byte_or_all : ℕ → ℕ
byte_or_all jumpers = if leb jumpers 255 then jumpers else 255

-- zero scale: 0 is no, any other number yes
abbrev pub fresh_of : ℕ → ℕ → Board
fresh_of jumpers zeroscale = wired_as (fresh_board A (nonzero zeroscale)) (byte_or_all jumpers)

-- it is the fresh board of the jumpers that the number stands for
pub fresh_of_lem : (j : Jumpers) (zeroscale : ℕ) → fresh_of (jumpers_number j) zeroscale ≡ fresh_board j (nonzero zeroscale)
fresh_of_lem A z = refl
fresh_of_lem B z = refl
fresh_of_lem C z = refl
fresh_of_lem D z = refl

above : (n : ℕ) → 3 < n → 3 < byte_or_all n
above n h = by (leb n 255) refl
  where
    by : (t : Bool) → leb n 255 ≡ t → 3 < byte_or_all n
    by true e = rw e h
    by false e = rw e (omega arith)

-- a number that stands for no jumpers makes no working board, so every event is refused
pub fresh-none : (n zeroscale : ℕ) → 3 < n → is_working_machine (fresh_of n zeroscale) ≡ false
fresh-none n zeroscale h = by (is_working_machine (fresh_of n zeroscale)) refl
  where
    by : (t : Bool) → is_working_machine (fresh_of n zeroscale) ≡ t → t ≡ false
    by true e = absurd (let w : byte_or_all n ≤ 3 = (machine_of (fresh_of n zeroscale) e).inputs in let k : 3 < byte_or_all n = above n h in omega arith)
    by false e = refl
