-- The analog input ranges (manual, chapter 9.2, the table "Analog Input Ranges"; the register is Base + 11).
use Rattle.std.specs.Prelude.{◌≡◌, refl, List, [], ◌∷◌, map, ℕ, ◌^◌, get_or, if◌then◌else◌}
use Rattle.base.specs.Fields.{bit, field}

pub data Polarity : Type 0 where
  bipolar unipolar : Polarity

-- A row of the table: polarity, range in volts, gain. The table calls some rows an invalid setting, and has no row for a code above 15.
pub data RangeRow : Type 0 where
  valid invalid : Polarity → ℕ → ℕ → RangeRow
  absent : RangeRow

-- The rows of the codes 0 to 15.
abbrev pub input_ranges : List RangeRow
input_ranges =
    valid bipolar 5 1
    ∷ valid bipolar 5 2
    ∷ valid bipolar 5 4
    ∷ valid bipolar 5 8
    ∷ invalid unipolar 5 1
    ∷ invalid unipolar 5 2
    ∷ invalid unipolar 5 4
    ∷ invalid unipolar 5 8
    ∷ valid bipolar 10 1
    ∷ valid bipolar 10 2
    ∷ valid bipolar 10 4
    ∷ valid bipolar 10 8
    ∷ valid unipolar 10 1
    ∷ valid unipolar 10 2
    ∷ valid unipolar 10 4
    ∷ valid unipolar 10 8
    ∷ []

abbrev pub row_of : ℕ → RangeRow
row_of range = get_or input_ranges range absent

-- The bits of Base + 11: RANGE, bit 3, is 5 V or 10 V; ADBU, bit 2, is 0 for bipolar; G1 and G0, bits 1 and 0, are the gain.
abbrev configured : ℕ → RangeRow
configured code =
    (if bit code 2 then (if bit code 3 then valid unipolar else invalid unipolar) else valid bipolar)
    (if bit code 3 then 10 else 5)
    (2 ^ field code 0 2)

-- The table is what the bits say.
pub table-configured : input_ranges ≡ map configured (0 ∷ 1 ∷ 2 ∷ 3 ∷ 4 ∷ 5 ∷ 6 ∷ 7 ∷ 8 ∷ 9 ∷ 10 ∷ 11 ∷ 12 ∷ 13 ∷ 14 ∷ 15 ∷ [])
table-configured = refl
