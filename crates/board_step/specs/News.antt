-- From one record to another: whether a conversion has begun, or a request flag gone up. With either the host has something to do (the specification,
-- "Conversions, edges and requests").
use Rattle.std.specs.Prelude.{ℕ, ◌≡◌, refl, Bool, true, false, not, ◌&&◌, ◌||◌}
use Rattle.base.specs.Flags.{on}
use Rattle.machine_record.specs.declared.Board.{Board}

abbrev pub rose : ℕ → ℕ → Bool
rose was is = not (on was) && on is

abbrev pub news : Board → Board → Bool
news was is =
    rose was.converter.converting is.converter.converting
    || rose was.requests.flags.adint is.requests.flags.adint
    || rose was.requests.flags.dint is.requests.flags.dint
    || rose was.requests.flags.tint is.requests.flags.tint

-- what stays as it was brings none
pub not_risen : (n : ℕ) → rose n n ≡ false
not_risen n = by (on n)
  where
    by : (x : Bool) → not x && x ≡ false
    by true = refl
    by false = refl
