-- Counts by bytes, and the output latch OL. Data sheet (manual, chapter 19): "Write Operations", "Read Operations", "Counter Latch Command".
use Rattle.std.specs.Prelude.{ℕ, ◌+◌, ◌*◌, ◌/◌, ◌%◌, Bool, if◌then◌else◌}
use Rattle.base.specs.Flags.{on}
use Rattle.counter_modes.specs.declared.Format.{Format}
use Rattle.counter_modes.specs.declared.Format.TheVariants.{LeastByte, MostByte, TwoBytes}
use Rattle.counter_bytes.specs.declared.Piece.{Piece}
use Rattle.counter_bytes.specs.declared.Piece.TheVariants.{First, Whole}
use Rattle.counter_bytes.specs.declared.Bus.{Bus}

-- after a control word: no latch, no half-written and no half-read byte
abbrev pub no_bytes : Bus
no_bytes = record { latch = 0; latched = 0; halfread = 0; first = 0; halfwritten = 0 }

-- ---- writing
-- What a written byte is: of one-byte counts "the other byte will be zero"; of two-byte counts the least significant byte comes first
abbrev pub piece_of : Format → Bus → ℕ → Piece
piece_of LeastByte s b = Whole b
piece_of MostByte s b = Whole (b * 256)
piece_of TwoBytes s b = if on s.halfwritten then Whole (s.first + b * 256) else First b

-- Writing leaves the latch and a half-read byte: "reads and writes of the same Counter may be interleaved"
abbrev pub bytes_after : Bus → Piece → Bus
bytes_after s (First b) = record { latch = s.latch; latched = s.latched; halfread = s.halfread; first = b; halfwritten = 1 }
bytes_after s (Whole n) = record { latch = s.latch; latched = s.latched; halfread = s.halfread; first = 0; halfwritten = 0 }

-- ---- reading
-- OL "normally follows the CE", or holds the count that was latched
abbrev pub shown : Bus → ℕ → ℕ
shown s v = if on s.latched then s.latch else v

-- the byte that is read of the count v
abbrev pub byte_shown : Format → Bool → ℕ → ℕ
byte_shown LeastByte half v = v % 256
byte_shown MostByte half v = v / 256
byte_shown TwoBytes half v = if half then v / 256 else v % 256

-- "The count is then unlatched automatically": at the one byte, or at the second of two
abbrev pub read_done : Bus → Bus
read_done s = record { latch = 0; latched = 0; halfread = 0; first = s.first; halfwritten = s.halfwritten }

abbrev pub read_half : Bus → Bus
read_half s = record { latch = s.latch; latched = s.latched; halfread = 1; first = s.first; halfwritten = s.halfwritten }

abbrev pub bytes_read : Format → Bus → Bus
bytes_read LeastByte s = read_done s
bytes_read MostByte s = read_done s
bytes_read TwoBytes s = if on s.halfread then read_done s else read_half s

-- ---- the latch command: OL "latches the count"; latched "again before the count is read, the second Counter Latch Command is ignored"
abbrev pub latch_taken : Bus → ℕ → Bus
latch_taken s v =
    if on s.latched then s
    else record { latch = v; latched = 1; halfread = s.halfread; first = s.first; halfwritten = s.halfwritten }
