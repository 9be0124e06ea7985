-- Which triggers and ends begin a conversion, and on which channel (the specification, "Conversions, edges and requests"). The tests are
-- `trigger_starts` and `end_starts` of Channels; these laws say that after an operation a conversion runs as they say. Assumes nothing.
use Rattle.std.specs.Prelude.{◌≡◌, refl, Bool, true, false, ℕ, if◌then◌else◌}
use Rattle.base.specs.Flags.{on}
use Rattle.converter.specs.declared.channels.Converter.{Converter}
use Rattle.converter.specs.Channels.{started, idle, trigger_starts, triggered, software_trigger, internal_trigger, external_trigger, end_starts, ended}

-- whether a write of 0 begins a conversion, and whether these edges do
abbrev pub software_starts : Converter → Bool
software_starts c = trigger_starts c (software_trigger c)

abbrev pub internal_starts : Converter → Bool → Bool → Bool
internal_starts c clksel out2_falls = trigger_starts c (internal_trigger c clksel out2_falls)

abbrev pub external_starts : Converter → Bool → Bool → Bool → Bool
external_starts c clksel din3_falls stopped = trigger_starts c (external_trigger c clksel din3_falls stopped)

-- the channel of a conversion that begins now
abbrev pub starts_on : Converter → ℕ
starts_on c = c.selected

pub started-on : (c : Converter) → (started c).channel ≡ starts_on c
started-on c = refl

-- what begins a conversion starts it, and what does not changes nothing
pub trigger-begins : (c : Converter) (trigger : Bool) → trigger_starts c trigger ≡ true → triggered c trigger ≡ started c
trigger-begins c trigger h = rw h

pub trigger-lost : (c : Converter) (trigger : Bool) → trigger_starts c trigger ≡ false → triggered c trigger ≡ c
trigger-lost c trigger h = rw h

pub end-begins : (c : Converter) → end_starts c ≡ true → ended c ≡ started c
end-begins c h = rw h

pub end-over : (c : Converter) → end_starts c ≡ false → ended c ≡ idle c
end-over c h = rw h

pub end-runs : (c : Converter) → on (ended c).converting ≡ end_starts c
end-runs c = by (end_starts c)
  where
    by : (b : Bool) → on (if b then started c else idle c).converting ≡ b
    by true = refl
    by false = refl
