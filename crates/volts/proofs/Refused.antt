-- Theorems that rest on theorems of specs/Refused.antt, and promise as those do. What specs/Refused.antt says of itself:
-- Which range codes are refused by 13 (the specification, "Refusal numbers": "range code 4-7 or above 15"; manual, 9.2, the table "Analog Input Ranges"):
-- those for which the table has no valid row.
use Rattle.std.specs.Prelude.{ℕ, zero, suc, ◌≤◌, ◌≡◌, refl, Bool, true, false, not, List, [], ◌∷◌, get_or, length}
use Rattle.std.proofs.Common.{sym, arith, lt-ltb, le-leb}
use Rattle.std.proofs.lemmas.Bool.{lt-leb}
use Rattle.base.specs.Tests.{Each, each}
use Rattle.samples.specs.Refused.{code_refused}
use Rattle.volts.specs.Table.{RangeRow, absent, input_ranges, row_of}
use Rattle.volts.specs.Refused.{by_row, is_valid, refuses}

-- ---- a test of codes, row by row, and beyond the rows
refuses-is : (t : Bool) (r : RangeRow) → refuses t r ≡ true → t ≡ not (is_valid r)
refuses-is true r h = sym h
refuses-is false r h = rw h

at-each_row : (test : ℕ → Bool) (rows : List RangeRow) → Each (by_row test rows) → ((n : ℕ) → length rows ≤ n → test n ≡ true)
    → (n : ℕ) → test n ≡ not (is_valid (get_or rows n absent))
at-each_row test [] e beyond n = beyond n (omega arith)
at-each_row test (r ∷ rows) e beyond zero = refuses-is (test 0) r e.0
at-each_row test (r ∷ rows) e beyond (suc n) = at-each_row (λ m. test (suc m)) rows e.1 (λ m h. beyond (suc m) (omega arith)) n

above : (n : ℕ) → 16 ≤ n → code_refused n ≡ true
above n h = simp (le-leb 4 n (omega arith), lt-leb n 7 (omega arith), lt-ltb 15 n h)

-- a range code is refused by 13 just where the table has no valid row for it
pub refused-by_table : (code : ℕ) → code_refused code ≡ not (is_valid (row_of code))
refused-by_table = at-each_row code_refused input_ranges (each (by_row code_refused input_ranges) refl) above
