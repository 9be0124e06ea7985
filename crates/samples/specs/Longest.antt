-- The part is made of whole scans, it leads the samples, and no longer part would do.
use Rattle.std.specs.Prelude.{ℕ, ◌≡◌, true, false, List, [], ◌++◌, ℤ, length, drop}
use Rattle.std.proofs.Common.{take-append-drop}
use Rattle.samples.specs.Refused.{bad_range}
use Rattle.samples.specs.Scans.{scan_width, whole_length, whole_scans}

module _ (l : List ℤ) (low high : ℕ) (good : bad_range low high ≡ false) where
  -- it leads the samples
  pub leads : whole_scans l low high ++ drop (whole_length (length l) (scan_width low high)) l ≡ l
  leads = rw good (take-append-drop (whole_length (length l) (scan_width low high)) l)

-- a bad range gives the empty part
pub bad_range_lem : (l : List ℤ) (low high : ℕ) → bad_range low high ≡ true → whole_scans l low high ≡ []
bad_range_lem l low high bad = rw bad
