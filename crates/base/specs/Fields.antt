-- The fields of a byte (manual, chapter 6: the register map). Bits are numbered as there: bit 0 is the lowest.
use Rattle.std.specs.Prelude.{Bool, ℕ, ◌/◌, ◌%◌, ◌^◌, eqb}

-- the number that stands in k bits of v, from bit n on
abbrev pub field : ℕ → ℕ → ℕ → ℕ
field v n k = v / 2 ^ n % 2 ^ k

-- the lowest k bits of v. It stands where v is below 2 ^ k in all that comes about (a field of a working board's record, a refusal's number, a hex
-- digit) and so is v itself: contracts speak of every number that the type has, and what v is put into stays within its own type for all of them
abbrev pub lowest : ℕ → ℕ → ℕ
lowest k v = v % 2 ^ k

-- whether bit n of v is set
abbrev pub bit : ℕ → ℕ → Bool
bit v n = eqb (field v n 1) 1
