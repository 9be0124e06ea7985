-- The collector's record: as a start makes it, and as an answer changes it (the specification, "The collector").
use Rattle.std.specs.Prelude.{ℕ, ◌+◌, Result, Ok, Err, eqb, if◌then◌else◌}
use Rattle.base.specs.declared.Refusal.{Refusal}
use Rattle.base.specs.Checks.{refused_by}
use Rattle.collector_settings.specs.declared.Settings.{Settings}
use Rattle.collector_settings.specs.Settings.{start_refusal}
use Rattle.collector_phases.specs.declared.Collector.{Collector}
use Rattle.collector_phases.specs.declared.Phase.TheVariants.{Stop, Drain}
use Rattle.collector_phases.specs.Phases.{phase_number}

-- ---- a start
-- the first record of a start: 9←0 comes next, no poll is counted, the next sample is the low channel's
abbrev pub first_record : Settings → Collector
first_record s = record { settings = s; phase = phase_number Stop; next = s.low; polls = 0; left = 0 }

abbrev pub started_by : ℕ → Settings → Result Collector Refusal
started_by n s = if eqb n 0 then Ok (first_record s) else Err (refused_by n)

unfoldable pub start_of : Settings → Result Collector Refusal
start_of s = started_by (start_refusal s) s

-- ---- what an answer changes
-- the record in the phase of this number
abbrev pub entered : Collector → ℕ → Collector
entered c n = record { settings = c.settings; phase = n; next = c.next; polls = c.polls; left = c.left }

-- "each poll counted"
abbrev pub poll_counted : Collector → ℕ → Collector
poll_counted c n = record { settings = c.settings; phase = n; next = c.next; polls = c.polls + 1; left = c.left }

-- 512 word reads are left
abbrev pub draining : Collector → Collector
draining c = record { settings = c.settings; phase = phase_number Drain; next = c.next; polls = c.polls; left = 512 }

-- the channel after this one: high goes to low, else one up
abbrev pub follows : Settings → ℕ → ℕ
follows s channel = if eqb channel s.high then s.low else channel + 1

-- the channel after the next sample's
abbrev pub following : Collector → ℕ
following c = follows c.settings c.next

-- a sample has left, so many word reads are left, and the next channel's turn comes
abbrev pub passed : Collector → ℕ → ℕ → Collector
passed c n left = record { settings = c.settings; phase = n; next = following c; polls = c.polls; left = left }
