-- What each kind of event makes of the record, what it answers, and what it does to the samples held. The specification, "Registers" and
-- "Conversions, edges and requests".
use Rattle.std.specs.Prelude.{ℕ, Option, Some, None}
use Rattle.fifo.specs.Queue.{pushed_to}
use Rattle.converter.specs.Channels.{ended, is_last}
use Rattle.requests.specs.Requests.{asked_ad}
use Rattle.machine_record.specs.Parts.{with_converter, with_requests}
use Rattle.machine_record.specs.declared.Board.{Board}
use Rattle.bus.specs.Effects.{Effect, Keep, Take, Store}
use Rattle.bus.specs.Registers.{written_at, write_effect, byte_at, after_read, read_effect}
use Rattle.bus.specs.declared.Place.{Place}
use Rattle.board_events.specs.declared.Answer.{Answer}
use Rattle.board_events.specs.declared.Answer.TheVariants.{Done, Byte, Word, Nothing}

-- the record, its sample memory apart, the answer, and what becomes of the samples
pub record Acted : Type 0 where
  pub board : Board
  pub answer : Answer
  pub effect : Effect

-- a byte written answers ok
abbrev pub write_acted : Board → Place → ℕ → Acted
write_acted b p v = record { board = written_at b p v; answer = Done; effect = write_effect p v }

-- a byte read answers its byte
abbrev pub read_acted : Board → Option ℕ → Place → Acted
read_acted b oldest p = record { board = after_read b p; answer = Byte (byte_at b oldest p); effect = read_effect p }

-- request M-100: "The word read shall say which it was: a sample, or nothing there"
abbrev pub word_read_answer : Option ℕ → Answer
word_read_answer None = Nothing
word_read_answer (Some sample) = Word sample

-- "A word read is 0 then 1 as one event": the oldest sample, which leaves, or nothing
abbrev pub word_acted : Board → Option ℕ → Acted
word_acted b oldest = record { board = b; answer = word_read_answer oldest; effect = Take }

-- a conversion ends: the sample is kept, or lost at 512 held; the scan goes on or is over; ADINT by the samples then held
abbrev pub end_acted : Board → ℕ → Acted
end_acted b sample = record {
  board =
      with_converter
      (with_requests b (asked_ad b.requests (is_last b.converter) (pushed_to b.fifo).held))
      (ended b.converter);
  answer = Done;
  effect = Store sample;
}

abbrev pub done_acted : Board → Acted
done_acted b = record { board = b; answer = Done; effect = Keep }
