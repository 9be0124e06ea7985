-- A line read byte after byte: what it asks for where it ends. `read_line` (Line.antt) shows that this is `command_of`.
use Rattle.std.specs.Prelude.{ℕ, Bool, not, Option, None, Some, leb, if◌then◌else◌}
use Rattle.session_reading.specs.declared.Number.{Number}
use Rattle.session_reading.specs.declared.Number.TheVariants.{WriteOffset, ReadOffset, Code, MinusCode}
use Rattle.session_reading.specs.declared.Reading.{Reading}
use Rattle.session_reading.specs.declared.Reading.TheVariants.{Blank, Letter, Begun, Zero, Digits, Offset, HalfValue, Whole, Single, Spoiled}
use Rattle.session_reading.specs.Whole.{is_blank}
use Rattle.session_commands.specs.declared.Command.{Command}
use Rattle.session_commands.specs.declared.Command.TheVariants.{WriteByte, ReadByte, ReadWord, EndConversion}
use Rattle.session_commands.specs.Command.{minus}

abbrev pub number_read : Number → ℕ → Option Command
number_read WriteOffset n = None
number_read ReadOffset n = if leb n 99 then Some (ReadByte n) else None
number_read Code n = if leb n 32767 then Some (EndConversion n) else None
number_read MinusCode n = if leb n 32768 then Some (EndConversion (minus n)) else None

unfoldable pub command_read : Reading → Option Command
command_read Blank = None
command_read (Letter number) = None
command_read (Begun number) = None
command_read (Zero number) = number_read number 0
command_read (Digits number n) = number_read number n
command_read (Offset offset) = None
command_read (HalfValue offset high) = None
command_read (Whole offset v) = Some (WriteByte offset v)
command_read Single = Some ReadWord
command_read Spoiled = None

-- whether the line has a byte
unfoldable pub is_begun : Reading → Bool
unfolding is_blank
is_begun reading = not (is_blank reading)
