-- What went is what is counted: after any event the samples held are those before it, but for the oldest, as many as it counts read and cleared, and with its
-- own sample as the newest where it counts an end and no loss. The step does just this, on every working board; what is refused counts nothing and leaves them.
use Rattle.std.specs.Prelude.{ℕ, ◌+◌, ◌-◌, List, [], ◌∷◌, ◌++◌, ℤ, take, drop}
use Rattle.std.proofs.Math.Option.{Option, none, some}
use Rattle.converter.specs.Codes.{sample_of}
use Rattle.board_laws.specs.Begins.{code_in}
use Rattle.tally_counts.specs.declared.Tally.{Tally}
use Rattle.board_events.specs.declared.Event.{Event}

-- the sample that an event brings, where it ends a conversion
abbrev brought_by : Option ℤ → List ℕ
brought_by none = []
brought_by (some code) = sample_of code ∷ []

-- the samples after an event that counts this, oldest first
abbrev pub left_by : Tally → Event → List ℕ → List ℕ
left_by c event samples = drop (c.read + c.cleared) samples ++ take (c.ended - c.lost) (brought_by (code_in event))
