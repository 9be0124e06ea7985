-- Which range codes are refused by 13 (the specification, "Refusal numbers": "range code 4-7 or above 15"; manual, 9.2, the table "Analog Input Ranges"):
-- those for which the table has no valid row.
use Rattle.std.specs.Prelude.{ℕ, suc, Bool, true, false, not, List, [], ◌∷◌}
use Rattle.volts.specs.Table.{RangeRow, valid, invalid, absent}

abbrev pub is_valid : RangeRow → Bool
is_valid (valid p range gain) = true
is_valid (invalid p range gain) = false
is_valid absent = false

-- ---- a test of codes, row by row, and beyond the rows
abbrev pub refuses : Bool → RangeRow → Bool
refuses true r = not (is_valid r)
refuses false r = is_valid r

abbrev pub by_row : (ℕ → Bool) → List RangeRow → List Bool
by_row test [] = []
by_row test (r ∷ rows) = refuses (test 0) r ∷ by_row (λ n. test (suc n)) rows
