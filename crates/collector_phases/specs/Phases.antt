-- The phases of the collector, and the one bus access that each names (the specification, "The collector": "Its record holds its phase,
-- and each phase names one bus access").
use Rattle.std.specs.Prelude.{ℕ, Bool, true, false, Result, Ok, Err, eqb, if◌then◌else◌}
use Rattle.base.specs.declared.Refusal.{Refusal}
use Rattle.base.specs.Checks.{refused_by}
use Rattle.collector_settings.specs.declared.Settings.{Settings}
use Rattle.collector_phases.specs.declared.Phase.{Phase}
use Rattle.collector_phases.specs.declared.Phase.TheVariants.{Stop, Poll, Range, Clear, Low, High, Go, Look, Take, Drain, Stuck, Unknown}
use Rattle.collector_phases.specs.declared.Access.{Access}
use Rattle.collector_phases.specs.declared.Access.TheVariants.{WriteByte, ReadByte, ReadWord}
use Rattle.collector_settings.specs.Settings.{clock_byte}

-- the number that stands for a phase in the record
abbrev pub phase_number : Phase → ℕ
phase_number Stop = 0
phase_number Poll = 1
phase_number Range = 2
phase_number Clear = 3
phase_number Low = 4
phase_number High = 5
phase_number Go = 6
phase_number Look = 7
phase_number Take = 8
phase_number Drain = 9
phase_number Stuck = 10
phase_number Unknown = 11

-- the phase that a number of the record stands for; above 10 there is none
unfoldable pub phase_of : ℕ → Phase
phase_of n =
    if eqb n 0 then Stop
    else if eqb n 1 then Poll
    else if eqb n 2 then Range
    else if eqb n 3 then Clear
    else if eqb n 4 then Low
    else if eqb n 5 then High
    else if eqb n 6 then Go
    else if eqb n 7 then Look
    else if eqb n 8 then Take
    else if eqb n 9 then Drain
    else if eqb n 10 then Stuck
    else Unknown

-- "Start: 9←0; read 8 until STS=0 ..; 11←range code; 7←02; 2←low; 3←high; 9←02, or 03 for the internal clock. .. Then look: read 7. ..
-- Not full: one word read .. 512 word reads". A stuck collector names none (15), nor does an unknown phase (1).
abbrev pub access_in : Phase → Settings → Result Access Refusal
access_in Stop s = Ok (WriteByte 9 0)
access_in Poll s = Ok (ReadByte 8)
access_in Range s = Ok (WriteByte 11 s.range)
access_in Clear s = Ok (WriteByte 7 2)
access_in Low s = Ok (WriteByte 2 s.low)
access_in High s = Ok (WriteByte 3 s.high)
access_in Go s = Ok (WriteByte 9 (clock_byte s))
access_in Look s = Ok (ReadByte 7)
access_in Take s = Ok (ReadWord 0)
access_in Drain s = Ok (ReadWord 0)
access_in Stuck s = Err (refused_by 15)
access_in Unknown s = Err (refused_by 1)

-- ---- what an access is
abbrev pub is_byte_read : Result Access Refusal → Bool
is_byte_read (Ok (WriteByte o v)) = false
is_byte_read (Ok (ReadByte o)) = true
is_byte_read (Ok (ReadWord o)) = false
is_byte_read (Err e) = false

abbrev pub is_word_read : Result Access Refusal → Bool
is_word_read (Ok (WriteByte o v)) = false
is_word_read (Ok (ReadByte o)) = false
is_word_read (Ok (ReadWord o)) = true
is_word_read (Err e) = false

-- the byte read at the offset n
abbrev pub reads : ℕ → Result Access Refusal → Bool
reads n (Ok (WriteByte o v)) = false
reads n (Ok (ReadByte o)) = eqb o n
reads n (Ok (ReadWord o)) = false
reads n (Err e) = false

-- none at all
abbrev pub is_none : Result Access Refusal → Bool
is_none (Ok (WriteByte o v)) = false
is_none (Ok (ReadByte o)) = false
is_none (Ok (ReadWord o)) = false
is_none (Err e) = true
