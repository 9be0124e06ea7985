-- The fit collector record (the specification, "The collector": "A record is unfit when its low, high, jumpers, range code or poll limit
-- would be refused at a start, its next channel is outside low to high, its polls exceed the limit, reach it while polling or are not 0
-- at 9←0, or a drain's reads left are not 1 to 512"; and a number that is no phase is unfit). The facts, and the row of tests that the
-- code makes of them.
use Rattle.std.specs.Prelude.{ℕ, ◌≤◌, ◌<◌, ◌≡◌, Bool, true, false, ◌&&◌, List, [], ◌∷◌, eqb, leb, ltb}
use Rattle.base.specs.Tests.{all}
use Rattle.collector_settings.specs.declared.Settings.{Settings}
use Rattle.collector_phases.specs.declared.Collector.{Collector}
use Rattle.collector_phases.specs.declared.Phase.{Phase}
use Rattle.collector_phases.specs.declared.Phase.TheVariants.{Stop, Poll, Range, Clear, Low, High, Go, Look, Take, Drain, Stuck, Unknown}
use Rattle.collector_settings.specs.Settings.{has_channel, start_refusal}
use Rattle.collector_phases.specs.Phases.{phase_of}

-- settings that a start takes
pub record FitSettings (s : Settings) : Type 0 where
  pub some-polls : 1 ≤ s.limit
  pub few-polls : s.limit ≤ 1000
  pub order : s.low ≤ s.high
  pub top : s.high ≤ 31
  pub channels : (channel : ℕ) → s.low ≤ channel → channel ≤ s.high → has_channel s.jumpers channel ≡ true
  pub code : s.range ≤ 15
  pub no_gap : 4 ≤ s.range → s.range ≤ 7 → ⊥

-- what the phase asks of the record
abbrev pub FitIn : Phase → Collector → Type 0
FitIn Stop c = c.polls ≡ 0
FitIn Poll c = c.polls < c.settings.limit
FitIn Range c = Unit {0}
FitIn Clear c = Unit {0}
FitIn Low c = Unit {0}
FitIn High c = Unit {0}
FitIn Go c = Unit {0}
FitIn Look c = Unit {0}
FitIn Take c = Unit {0}
FitIn Drain c = (1 ≤ c.left) × (c.left ≤ 512)
FitIn Stuck c = Unit {0}
FitIn Unknown c = ⊥

pub record FitCollector (c : Collector) : Type 0 where
  pub settings : FitSettings c.settings
  pub from_low : c.settings.low ≤ c.next
  pub to_high : c.next ≤ c.settings.high
  pub polls : c.polls ≤ c.settings.limit
  pub phase : FitIn (phase_of c.phase) c

-- ---- the test that the code makes
abbrev pub fit_in : Phase → Collector → Bool
fit_in Stop c = eqb c.polls 0
fit_in Poll c = ltb c.polls c.settings.limit
fit_in Range c = true
fit_in Clear c = true
fit_in Low c = true
fit_in High c = true
fit_in Go c = true
fit_in Look c = true
fit_in Take c = true
fit_in Drain c = leb 1 c.left && leb c.left 512
fit_in Stuck c = true
fit_in Unknown c = false

abbrev pub fit_tests : Collector → List Bool
fit_tests c =
    eqb (start_refusal c.settings) 0
    ∷ leb c.settings.low c.next
    ∷ leb c.next c.settings.high
    ∷ leb c.polls c.settings.limit
    ∷ fit_in (phase_of c.phase) c
    ∷ []

unfoldable pub fit : Collector → Bool
fit c = all (fit_tests c)
