-- What a working board's converter is (the specification, "What is delivered": every register and channel is within its range).
use Rattle.std.specs.Prelude.{◌≡◌, refl, List, [], ◌∷◌, Bool, true, false, ℕ, ◌+◌, ◌%◌, ◌≤◌, leb, eqb, if◌then◌else◌}
use Rattle.std.proofs.Common.{arith, leb-true, leb-false, le-leb}
use Rattle.base.specs.Tests.{all, each, every}
use Rattle.converter.specs.declared.channels.Converter.{Converter}
use Rattle.converter.specs.Channels.{next_channel}
use Rattle.converter.specs.Registers.{written_low, written_high, written_scanen, written_clken, fresh_converter}

pub record WorkingConverter (c : Converter) : Type 0 where
  pub low : c.low ≤ 31
  pub high : c.high ≤ 31
  pub selected : c.selected ≤ 31
  pub channel : c.channel ≤ 31
  -- its flags are 0 or 1
  pub converting : c.converting ≤ 1
  pub scanen : c.scanen ≤ 1
  pub clken : c.clken ≤ 1

-- the tests, of which the code makes several at once
abbrev pub converter_tests : Converter → List Bool
converter_tests c =
    leb c.low 31
    ∷ leb c.high 31
    ∷ leb c.selected 31
    ∷ leb c.channel 31
    ∷ leb c.converting 1
    ∷ leb c.scanen 1
    ∷ leb c.clken 1
    ∷ []

abbrev pub is_working_converter : Converter → Bool
is_working_converter c = all (converter_tests c)

pub converter_of : (c : Converter) → is_working_converter c ≡ true → WorkingConverter c
converter_of c h = let e = each (converter_tests c) h in omega (arith, leb-true)

pub converter-to : (c : Converter) → WorkingConverter c → is_working_converter c ≡ true
converter-to c w =
    every (converter_tests c) (search (le-leb, arith))

-- ---- what keeps it so
pub next_in_range : (low high selected : ℕ) → low ≤ 31 → next_channel low high selected ≤ 31
unfolding next_channel
next_in_range low high selected h = by (eqb selected high) (leb 31 selected) refl
  where
    by : (a b : Bool) → leb 31 selected ≡ b → (if a then low else if b then 0 else selected + 1) ≤ 31
    by true b e = h
    by false true e = omega arith
    by false false e = omega (arith, leb-false 31 selected e)

pub low-works : (c : Converter) (byte : ℕ) → WorkingConverter c → WorkingConverter (written_low c byte)
low-works c byte w = omega arith

pub high-works : (c : Converter) (byte : ℕ) → WorkingConverter c → WorkingConverter (written_high c byte)
high-works c byte w = omega arith

pub scanen-works : (c : Converter) (byte : ℕ) → WorkingConverter c → WorkingConverter (written_scanen c byte)
scanen-works c byte w = omega arith

pub clken-works : (c : Converter) (byte : ℕ) → WorkingConverter c → WorkingConverter (written_clken c byte)
clken-works c byte w = omega arith

pub fresh-works : WorkingConverter fresh_converter
fresh-works = omega arith

-- ADCH4-0 is the selected channel
pub shown-channel : (c : Converter) → WorkingConverter c → c.selected % 32 ≡ c.selected
shown-channel c w = omega arith
