-- The specification's marked cases 3 and 4, for the converter alone. Proved by computing.
use Rattle.std.specs.Prelude.{◌≡◌, refl, [], ◌∷◌, ℕ, zero, suc}
use Rattle.converter.specs.declared.channels.Converter.{Converter}
use Rattle.converter.specs.Channels.{next_channel, software_triggered, ended}
use Rattle.converter.specs.Registers.{written_low, written_high, fresh_converter}
use Rattle.converter.specs.Order.{singles, up_from, range_channels}

-- a fresh converter with this range written
abbrev pub ranged : ℕ → ℕ → Converter
ranged low high = written_high (written_low fresh_converter low) high

-- after k single conversions
unfoldable pub after_singles : ℕ → Converter → Converter
after_singles zero c = c
after_singles (suc k) c = after_singles k (ended (software_triggered c))

-- channels 3-5, five conversions: 3, 4, 5, 3, 4; selected 5
pub case_3 : (singles 5 (ranged 3 5) ≡ 3 ∷ 4 ∷ 5 ∷ 3 ∷ 4 ∷ []) × ((after_singles 5 (ranged 3 5)).selected ≡ 5)
unfolding singles after_singles next_channel
case_3 = (refl, refl)

-- low 30, high 1: 30, 31, 0, 1, 30
pub case_4 : singles 5 (ranged 30 1) ≡ 30 ∷ 31 ∷ 0 ∷ 1 ∷ 30 ∷ []
unfolding singles next_channel
case_4 = refl

-- the range 30 to 1 in the order of a scan
pub range_30_1 : range_channels 30 1 ≡ 30 ∷ 31 ∷ 0 ∷ 1 ∷ []
unfolding up_from
range_30_1 = refl
