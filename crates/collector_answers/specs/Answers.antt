-- How what came of a bus access is read (manual, chapter 7, Base + 7 read and Base + 8 read; the specification, "The collector" and
-- refusals 15 and 17; request M-108: "goes by EF first, FF next, and reads nothing else"; request M-100: "The word read shall say which it
-- was: a sample, or nothing there"), and what a sample is. It is a number from 0 to 65535, nothing, or the number by which the board refused
-- the access.
use Rattle.std.specs.Prelude.{ℕ, Bool, true, false, ltb}
use Rattle.base.specs.Fields.{bit}
use Rattle.converter.specs.Codes.{code_of}
use Rattle.samples.specs.declared.Sample.{Sample}
use Rattle.collector_answers.specs.declared.BusAnswer.{BusAnswer}
use Rattle.collector_answers.specs.declared.BusAnswer.TheVariants.{Number, Nothing, Refused}

-- ---- what came
-- the board served the access: it did not refuse it
abbrev pub served : BusAnswer → Bool
served (Number a) = true
served Nothing = true
served (Refused n) = false

-- nothing was there
abbrev pub is_nothing : BusAnswer → Bool
is_nothing (Number a) = false
is_nothing Nothing = true
is_nothing (Refused n) = false

-- a number above 255
abbrev pub wide : ℕ → Bool
wide a = ltb 255 a

-- no byte where one is due: a number above 255, or nothing
abbrev pub no_byte : BusAnswer → Bool
no_byte (Number a) = wide a
no_byte Nothing = true
no_byte (Refused n) = false

-- a number came, and this holds of it
abbrev pub brings : (ℕ → Bool) → BusAnswer → Bool
brings holds (Number a) = holds a
brings holds Nothing = false
brings holds (Refused n) = false

-- ---- Base + 8: STS, bit 7, a conversion is in progress
abbrev pub STS : ℕ → Bool
STS a = bit a 7

-- ---- Base + 7: EF, bit 7, the memory is empty; FF, bit 5, it is full
abbrev pub EF : ℕ → Bool
EF a = bit a 7

abbrev pub FF : ℕ → Bool
FF a = bit a 5

-- ---- a word: the signed code of its 16 bits, with the channel whose turn it is
abbrev pub sample_at : ℕ → ℕ → Sample
sample_at channel a = record { channel = channel; code = code_of a }
