-- Whole scans (the specification, "The collector": "Of a lent run of samples starting on low, the caller gets back the part holding whole
-- scans, the longest from the front; a bad range gives the empty part").
use Rattle.std.specs.Prelude.{ℕ, ◌+◌, ◌-◌, ◌*◌, ◌%◌, ◌≤◌, ◌≡◌, false, List, [], ℤ, length, take, if◌then◌else◌}
use Rattle.samples.specs.Refused.{bad_range}

-- the channels of a scan
abbrev pub scan_width : ℕ → ℕ → ℕ
scan_width low high = high - low + 1

-- the longest multiple of the width that is no longer than n
abbrev pub whole_length : ℕ → ℕ → ℕ
whole_length n w = n - n % w

abbrev pub whole_scans : List ℤ → ℕ → ℕ → List ℤ
whole_scans l low high = if bad_range low high then [] else take (whole_length (length l) (scan_width low high)) l

-- the promise: the part is this one, and with a range that is not bad no more scans would go into a part of the samples
pub record WholePart (l : List ℤ) (low high : ℕ) (part : List ℤ) : Type 0 where
  pub is : part ≡ whole_scans l low high
  pub longest : bad_range low high ≡ false → (k : ℕ) → k * scan_width low high ≤ length l → k * scan_width low high ≤ length part
