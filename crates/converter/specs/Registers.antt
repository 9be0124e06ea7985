-- What is written to and read from registers 2, 3, 7, 8 and 9, as far as it is the converter's (manual, chapter 6 and Base + 2, 3, 7 to 9;
-- the specification, "Registers"). Bits without a name here are ignored and read 0.
use Rattle.std.specs.Prelude.{ℕ, ◌+◌, ◌%◌}
use Rattle.base.specs.Flags.{on}
use Rattle.base.specs.Fields.{field, lowest}
use Rattle.base.specs.Weights.{weight_of}
use Rattle.converter.specs.declared.channels.Converter.{Converter}

-- the converter with this range, low being the selected channel
abbrev pub with_channels : Converter → ℕ → ℕ → Converter
with_channels c low high =
    record {
      low = low;
      high = high;
      selected = low;
      channel = c.channel;
      converting = c.converting;
      scanen = c.scanen;
      clken = c.clken;
    }

-- 2: L4-0
abbrev pub written_low : Converter → ℕ → Converter
written_low c byte = with_channels c (byte % 32) c.high

-- 3: H4-0
abbrev pub written_high : Converter → ℕ → Converter
written_high c byte = with_channels c c.low (byte % 32)

-- the converter with these bits
abbrev pub with_bits : Converter → ℕ → ℕ → Converter
with_bits c scanen clken =
    record {
      low = c.low;
      high = c.high;
      selected = c.selected;
      channel = c.channel;
      converting = c.converting;
      scanen = scanen;
      clken = clken;
    }

-- 7: SCANEN, bit 2
abbrev pub written_scanen : Converter → ℕ → Converter
written_scanen c byte = with_bits c (field byte 2 1) c.clken

-- 9: CLKEN, bit 1
abbrev pub written_clken : Converter → ℕ → Converter
written_clken c byte = with_bits c c.scanen (field byte 1 1)

-- 8 read: STS, bit 7, and the selected channel, ADCH4-0
abbrev pub status_bits : Converter → ℕ
status_bits c = weight_of (on c.converting) 128 + lowest 5 c.selected

-- fresh, and after RESETA or RESETD: all registers and the selected channel are zero, and no conversion runs
abbrev pub fresh_converter : Converter
fresh_converter = record { low = 0; high = 0; selected = 0; channel = 0; converting = 0; scanen = 0; clken = 0 }
