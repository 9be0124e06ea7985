-- What the code makes on the way to a tally and to its check: the promises of the functions inside.
use Rattle.std.specs.Prelude.{Bool, not, ◌&&◌, eqb, if◌then◌else◌}
use Rattle.base.specs.Checks.{refusal}
use Rattle.base.specs.Flags.{flag, nonzero}
use Rattle.converter.specs.Channels.{end_starts}
use Rattle.machine_record.specs.declared.Board.{Board}
use Rattle.board_refusal.specs.Refusals.{event_checks}
use Rattle.board_laws.specs.Begins.{keeps}
use Rattle.tally_counts.specs.Counts.{no_counts, counts_of, held}
use Rattle.tally_counts.specs.declared.Tally.{Tally}
use Rattle.board_events.specs.declared.Event.{Event}

-- what an event of a working board counts
abbrev pub taken : Board → Event → Tally
taken b event = if eqb (refusal (event_checks b event)) 0 then counts_of b event else no_counts

-- one conversion begun, or none
abbrev pub begun_if : Bool → Tally
begun_if begins = record { begun = flag begins; ended = 0; abandoned = 0; read = 0; lost = 0; cleared = 0 }

-- one sample read where one is held, or none
abbrev pub read_if : Board → Bool → Tally
read_if b takes = record { begun = 0; ended = 0; abandoned = 0; read = flag (takes && nonzero (held b)); lost = 0; cleared = 0 }

-- an end of the conversion in progress
abbrev pub end_counts : Board → Tally
end_counts b = record {
  begun = flag (end_starts b.converter);
  ended = 1;
  abandoned = 0;
  read = 0;
  lost = flag (not (keeps b));
  cleared = 0;
}
