-- The volts for C hosts, as plain numbers: an f64, and a refusal number or 0.
use Rattle.std.specs.Prelude.{ℕ, Float}
use Rattle.std.specs.Float.{nan}
use Rattle.volts.specs.declared.Voltage.{Voltage}
use Rattle.volts.specs.declared.Voltage.TheVariants.{Volts, Refused}

-- The f64 that stands for an answer: its volts, or a NaN, which is no voltage, where it is a refusal.
abbrev pub plain_volts : Voltage → Float
plain_volts (Volts x) = x
plain_volts (Refused n) = nan

-- The number of the refusal, 0 where there are volts.
abbrev pub plain_refusal : Voltage → ℕ
plain_refusal (Volts x) = 0
plain_refusal (Refused n) = n
