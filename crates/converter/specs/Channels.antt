-- Channels, triggers and ends of conversions (manual 10.1, 11.3, 11.4, Base + 0, 8 and 9; the specification, "Conversions, edges and requests").
-- The manual's Base + 0 page lets a software trigger start a conversion whatever the clock; its Base + 9 page and the specification do not.
use Rattle.std.specs.Prelude.{Bool, ◌&&◌, not, ℕ, ◌+◌, leb, eqb, if◌then◌else◌}
use Rattle.base.specs.Flags.{on}
use Rattle.converter.specs.declared.channels.Converter.{Converter}

-- one up, 31 to 0
abbrev pub up : ℕ → ℕ
up channel = if leb 31 channel then 0 else channel + 1

-- the selection moves: high goes to low, else one up, 31 to 0
unfoldable pub next_channel : ℕ → ℕ → ℕ → ℕ
next_channel low high selected = if eqb selected high then low else up selected

-- a conversion starts: its channel is the selected one, and the selection then moves
abbrev pub started : Converter → Converter
started c =
    record {
      low = c.low;
      high = c.high;
      selected = next_channel c.low c.high c.selected;
      channel = c.selected;
      converting = 1;
      scanen = c.scanen;
      clken = c.clken;
    }

-- no conversion runs any more
abbrev pub idle : Converter → Converter
idle c =
    record {
      low = c.low;
      high = c.high;
      selected = c.selected;
      channel = c.channel;
      converting = 0;
      scanen = c.scanen;
      clken = c.clken;
    }

-- whether a trigger, where there is one, starts a conversion: unless a conversion or scan runs. Between a scan's conversions there is no
-- time, so a scan runs exactly while one of its conversions does
abbrev pub trigger_starts : Converter → Bool → Bool
trigger_starts c trigger = trigger && not (on c.converting)

abbrev pub triggered : Converter → Bool → Converter
triggered c trigger = if trigger_starts c trigger then started c else c

-- a write of 0 is a trigger, ignored while CLKEN=1
abbrev pub software_trigger : Converter → Bool
software_trigger c = not (on c.clken)

abbrev pub software_triggered : Converter → Converter
software_triggered c = triggered c (software_trigger c)

-- with CLKEN, triggers are falling OUT2 (CLKSEL=1) or falling DIN3 (0); GT12EN with DIN2=0 stops DIN3 triggers
abbrev pub internal_trigger : Converter → Bool → Bool → Bool
internal_trigger c clksel out2_falls = on c.clken && clksel && out2_falls

abbrev pub external_trigger : Converter → Bool → Bool → Bool → Bool
external_trigger c clksel din3_falls stopped = on c.clken && not clksel && din3_falls && not stopped

abbrev pub internal_triggered : Converter → Bool → Bool → Converter
internal_triggered c clksel out2_falls = triggered c (internal_trigger c clksel out2_falls)

abbrev pub external_triggered : Converter → Bool → Bool → Bool → Converter
external_triggered c clksel din3_falls stopped = triggered c (external_trigger c clksel din3_falls stopped)

-- whether an end starts the next conversion: SCANEN is set at the end, and the channel just converted is not high as it then stands
abbrev pub end_starts : Converter → Bool
end_starts c = on c.scanen && not (eqb c.channel c.high)

-- otherwise the scan is over
abbrev pub ended : Converter → Converter
ended c = if end_starts c then started c else idle c

-- whether an end is the last of its scan, or a single one
abbrev pub is_last : Converter → Bool
is_last c = not (end_starts c)
