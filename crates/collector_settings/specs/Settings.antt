-- What a start is given, and what of it is refused (the specification, "Refusal numbers", 11 to 14, and "The collector": channels by
-- jumper; manual, 5.4, the table of A/D channel modes).
use Rattle.std.specs.Prelude.{ℕ, Bool, true, false, ◌&&◌, ◌||◌, List, [], ◌∷◌, eqb, leb, ltb, if◌then◌else◌}
use Rattle.samples.specs.Refused.{bad_range, code_refused}
use Rattle.base.specs.Checks.{Check, ◌refuses◌, refusal}
use Rattle.collector_settings.specs.declared.Settings.{Settings}

-- ---- jumpers: 0 is A, 1 is B, 2 is C, 3 is D; no other number is a setting of the jumpers
-- whether the board has the channel: "A 0-31; B 0-15; C 0-15 and 24-31; D 0-23"; other jumpers have none
abbrev pub has_channel : ℕ → ℕ → Bool
has_channel jumpers channel =
    if eqb jumpers 0 then leb channel 31
    else if eqb jumpers 1 then leb channel 15
    else if eqb jumpers 2 then leb channel 15 || leb 24 channel && leb channel 31
    else if eqb jumpers 3 then leb channel 23
    else false

-- whether the range from low to high includes a channel that the jumpers lack (collector_replies/specs/Channels.antt: so it is)
abbrev pub lacking : ℕ → ℕ → ℕ → Bool
lacking jumpers low high =
    if eqb jumpers 0 then ltb 31 high
    else if eqb jumpers 1 then ltb 15 high
    else if eqb jumpers 2 then ltb 31 high || ltb 15 high && ltb low 24
    else if eqb jumpers 3 then ltb 23 high
    else true

-- ---- "Collector start: 14, 11, 12, 13"
-- 14: poll limit 0 or above 1,000 (11, a bad range, and 13, a range code, are in the crate samples)
abbrev pub limit_refused : ℕ → Bool
limit_refused limit = eqb limit 0 || ltb 1000 limit

abbrev pub range_checks : Settings → List Check
range_checks s =
    bad_range s.low s.high refuses 11
    ∷ lacking s.jumpers s.low s.high refuses 12
    ∷ code_refused s.range refuses 13
    ∷ []

abbrev pub start_checks : Settings → List Check
start_checks s = limit_refused s.limit refuses 14 ∷ range_checks s

-- the number by which a start is refused, or 0
unfoldable pub start_refusal : Settings → ℕ
start_refusal s = refusal (start_checks s)

-- ---- the clock: 0 is the external one (DIN3), any other number the internal one (counter 2)
-- "9←02, or 03 for the internal clock"
abbrev pub clock_byte : Settings → ℕ
clock_byte s = if eqb s.clock 0 then 2 else 3
