-- What is read of the jumpers leaves room for the other bits of its byte.
use Rattle.std.specs.Prelude.{ℕ, ◌≤◌, eqb}
use Rattle.std.proofs.Common.{arith}
use Rattle.base.specs.Laws.{choice_le}
use Rattle.machine_record.specs.View.{single_ended}

-- S/D1-0: bits 6 and 5
pub single_fits : (inputs : ℕ) → single_ended inputs ≤ 96
single_fits inputs =
    choice_le (eqb inputs 0) (omega arith)
    (choice_le (eqb inputs 1) (omega arith)
    (choice_le (eqb inputs 2) (omega arith) (choice_le (eqb inputs 3) (omega arith) (omega arith))))
