-- One counter: what each event makes of it. Data sheet (manual, chapter 19); the specification, "Conversions, edges and requests":
-- "Counters follow the data sheet ...". An unprogrammed counter: "OUT high, reads 0, latch without effect", and a count for it is refused.
use Rattle.std.specs.Prelude.{ℕ, ◌%◌, Bool, true, false, not, ◌&&◌, ◌||◌, ◌==◌, if◌then◌else◌, Option, Some, None}
use Rattle.base.specs.Flags.{on, flag}
use Rattle.counter_modes.specs.Modes.{trigger_loads, from_two}
use Rattle.counter_modes.specs.Control.{command, setup_of}
use Rattle.counter_element.specs.Element.{first_count, piece_taken, gate_seen, pulse_taken}
use Rattle.counter_bytes.specs.Bytes.{no_bytes, piece_of, bytes_after, shown, byte_shown, bytes_read, latch_taken}
use Rattle.counter_modes.specs.declared.Mode.{Mode}
use Rattle.counter_modes.specs.declared.ControlCommand.{ControlCommand}
use Rattle.counter_modes.specs.declared.ControlCommand.TheVariants.{LatchCount, Program, NotModelled}
use Rattle.counter_modes.specs.declared.Format.{Format}
use Rattle.counter_bytes.specs.declared.Piece.{Piece}
use Rattle.counter_bytes.specs.declared.Piece.TheVariants.{First, Whole}
use Rattle.counter_one.specs.declared.Counter.{Counter}
use Rattle.counter_one.specs.declared.CounterRead.{CounterRead}

-- before the first control word
abbrev pub unprogrammed : Counter
unprogrammed = record {
  control = 0;
  trigger = 0;
  count = record { register = 0; element = 0; out = 1; waiting = 0; loaded = 0 };
  bus = no_bytes;
}

-- ---- a control word w: "all Control Logic is immediately reset", so nothing of the counter before it is left
abbrev pub programmed : ℕ → Mode → Counter
programmed w m = record { control = w % 64; trigger = 0; count = first_count m; bus = no_bytes }

-- ---- the latch command
abbrev pub latched_as : Option (Format × Mode) → Counter → Counter
latched_as None c = c
latched_as (Some (f, m)) c = record {
  control = c.control;
  trigger = c.trigger;
  count = c.count;
  bus = latch_taken c.bus c.count.element;
}

abbrev pub commanded_by : ControlCommand → Counter → ℕ → Counter
commanded_by LatchCount c w = latched_as (setup_of c.control) c
commanded_by (Program f m) c w = programmed w m
commanded_by NotModelled c w = c

-- a control word for this counter; one that is not modelled leaves it
unfoldable pub commanded : Counter → ℕ → Counter
commanded c w = commanded_by (command w) c w

-- ---- one CLK pulse at a GATE level. The flip-flop "is reset immediately after it is sampled"
abbrev pub pulsed_as : Option (Format × Mode) → Counter → Bool → Counter
pulsed_as None c gate = c
pulsed_as (Some (f, m)) c gate = record {
  control = c.control;
  trigger = 0;
  count = pulse_taken m gate (on c.trigger) (on c.bus.halfwritten) c.count;
  bus = c.bus;
}

unfoldable pub pulsed : Counter → Bool → Counter
pulsed c gate = pulsed_as (setup_of c.control) c gate

-- ---- GATE goes from was to is. "a rising edge of Gate (trigger) sets an edge-sensitive flip-flop in the Counter"
abbrev pub gate_moved_as : Option (Format × Mode) → Counter → Bool → Bool → Counter
gate_moved_as None c was is = c
gate_moved_as (Some (f, m)) c was is = record {
  control = c.control;
  trigger = flag (on c.trigger || trigger_loads m && (not was && is));
  count = gate_seen m was is c.count;
  bus = c.bus;
}

unfoldable pub gate_moved : Counter → Bool → Bool → Counter
gate_moved c was is = gate_moved_as (setup_of c.control) c was is

-- ---- a read: its byte, and the counter after it
abbrev pub counter_read_as : Option (Format × Mode) → Counter → CounterRead
counter_read_as None c = record { byte = 0; counter = c }
counter_read_as (Some (f, m)) c = record {
  byte = byte_shown f (on c.bus.halfread) (shown c.bus c.count.element);
  counter = record { control = c.control; trigger = c.trigger; count = c.count; bus = bytes_read f c.bus };
}

unfoldable pub counter_read : Counter → CounterRead
counter_read c = counter_read_as (setup_of c.control) c

-- ---- a written byte of a count. Refusal 7: a count for an unprogrammed counter, count 1 in mode 2
abbrev pub piece_refused : Mode → Piece → Bool
piece_refused m (First b) = false
piece_refused m (Whole n) = from_two m && n == 1

abbrev pub byte_refused_as : Option (Format × Mode) → Counter → ℕ → Bool
byte_refused_as None c b = true
byte_refused_as (Some (f, m)) c b = piece_refused m (piece_of f c.bus b)

unfoldable pub byte_refused : Counter → ℕ → Bool
byte_refused c b = byte_refused_as (setup_of c.control) c b

abbrev pub piece_written : Mode → Counter → Piece → Counter
piece_written m c q = record {
  control = c.control;
  trigger = c.trigger;
  count = piece_taken m c.count q;
  bus = bytes_after c.bus q;
}

abbrev pub offered : Mode → Counter → Piece → Counter
offered m c q = if piece_refused m q then c else piece_written m c q

abbrev pub byte_written_as : Option (Format × Mode) → Counter → ℕ → Counter
byte_written_as None c b = c
byte_written_as (Some (f, m)) c b = offered m c (piece_of f c.bus b)

-- a refused byte leaves the counter
unfoldable pub byte_written : Counter → ℕ → Counter
byte_written c b = byte_written_as (setup_of c.control) c b
