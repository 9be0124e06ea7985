-- The order of the channels (manual 10.1, 11.3 and 11.4; the specification, "Conversions, edges and requests"): from low on, one up each time,
-- 31 to 0, as far as high, and again. A low above high goes on through 31 and 0. Assumes nothing.
use Rattle.std.specs.Prelude.{List, [], ◌∷◌, ◌++◌, ℕ, zero, suc, ◌+◌, ◌-◌, ◌%◌}
use Rattle.converter.specs.declared.channels.Converter.{Converter}
use Rattle.converter.specs.Channels.{up, next_channel, started, software_triggered, ended}

-- so many channels from this one on, one up each time, 31 to 0
unfoldable pub up_from : ℕ → ℕ → List ℕ
up_from channel zero = []
up_from channel (suc n) = channel ∷ up_from (up channel) n

-- how many times one goes up from low to high
abbrev pub ups : ℕ → ℕ → ℕ
ups low high = (high + 32 - low) % 32

-- the channels of the range low to high, in the order of a scan
abbrev pub range_channels : ℕ → ℕ → List ℕ
range_channels low high = up_from low (suc (ups low high))

-- so many rounds of a list
unfoldable pub rounds : ℕ → List ℕ → List ℕ
rounds zero l = []
rounds (suc n) l = l ++ rounds n l

-- the channels of the next k conversions that start
unfoldable pub channels : ℕ → Converter → List ℕ
channels zero c = []
channels (suc k) c = (started c).channel ∷ channels k (started c)

-- the channels of the next k single conversions: a software trigger and an end each
unfoldable pub singles : ℕ → Converter → List ℕ
singles zero c = []
singles (suc k) c = (software_triggered c).channel ∷ singles k (ended (software_triggered c))

-- ---- the same over the three numbers that matter
unfoldable pub selections : ℕ → ℕ → ℕ → ℕ → List ℕ
selections low high selected zero = []
selections low high selected (suc k) = selected ∷ selections low high (next_channel low high selected) k
