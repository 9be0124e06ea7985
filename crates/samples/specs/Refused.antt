-- Where samples cannot come from (the specification, "Refusal numbers", 11 and 13; range codes: manual, 9.2, Base + 11).
use Rattle.std.specs.Prelude.{ℕ, Bool, ◌&&◌, ◌||◌, leb, ltb}

-- 11: "low above high, or high above 31"
abbrev pub bad_range : ℕ → ℕ → Bool
bad_range low high = ltb high low || ltb 31 high

-- 13: "range code 4-7 or above 15" (volts/specs/Refused.antt: these are the codes without a valid row in the table of ranges)
abbrev pub code_refused : ℕ → Bool
code_refused code = leb 4 code && leb code 7 || ltb 15 code
