-- How a host's tally takes what events count (request M-112): plain counts of 64 bits beside the board, noted before each event with the board as it stands.
use Rattle.std.specs.Prelude.{ℕ, ◌+◌, ◌-◌, Bool, ◌&&◌, List, [], ◌∷◌, eqb, ltb, replicate, if◌then◌else◌}
use Rattle.machine_record.specs.declared.Board.{Board}
use Rattle.board_step.specs.States.{State, after_event}
use Rattle.board_advance.specs.Advance.{advanced_of}
use Rattle.tally_counts.specs.Counts.{counts_at, held, in_progress}
use Rattle.tally_counts.specs.declared.Tally.{Tally}
use Rattle.board_events.specs.declared.Event.{Event}
use Rattle.board_events.specs.declared.Event.TheVariants.{Tick}

-- the board's record with the memories that are lent
abbrev pub state_of : Board → List ℕ → List ℕ → State
state_of b memory eeprom = record { board = b; memory = memory; eeprom = eeprom }

-- ---- a count takes more, and stays at its largest, 2^64 - 1
abbrev pub largest : ℕ
largest = 18446744073709551615

unfoldable pub plus_up_to : ℕ → ℕ → ℕ
plus_up_to count more = if ltb (largest - count) more then largest else count + more

abbrev pub added : Tally → Tally → Tally
added t c = record {
  begun = plus_up_to t.begun c.begun;
  ended = plus_up_to t.ended c.ended;
  abandoned = plus_up_to t.abandoned c.abandoned;
  read = plus_up_to t.read c.read;
  lost = plus_up_to t.lost c.lost;
  cleared = plus_up_to t.cleared c.cleared;
}

-- ---- the tally with an event that is about to happen
abbrev pub noted : Tally → Board → List ℕ → List ℕ → Event → Tally
noted t b memory eeprom event = added t (counts_at (state_of b memory eeprom) event)

-- with a row of events, each noted before it happens
abbrev pub noted_all : Tally → State → List Event → Tally
noted_all t s [] = t
noted_all t s (event ∷ events) = noted_all (noted t s.board s.memory s.eeprom event) (after_event s event) events

-- with the ticks that are done of many
abbrev pub noted_ticks : Tally → Board → List ℕ → List ℕ → ℕ → Tally
noted_ticks t b memory eeprom ticks =
    noted_all t (state_of b memory eeprom) (replicate (advanced_of b memory eeprom ticks).progress.done Tick)

-- ---- the two sums, of a tally that began as zeros with the first board and stands with the last
abbrev pub adds_up : Tally → Board → Board → Bool
adds_up t first last =
    eqb (t.ended + held first) (t.read + held last + t.lost + t.cleared)
    && eqb (t.begun + in_progress first) (t.ended + t.abandoned + in_progress last)
