-- What a command wants of the board. The specification, "The session program": `W` and `R` a byte at their offset, `X` a word, `C` a conversion's end.
use Rattle.std.specs.Prelude.{Option, None, Some}
use Rattle.converter.specs.Codes.{code_of}
use Rattle.board_events.specs.declared.Event.{Event}
use Rattle.session_commands.specs.declared.Command.{Command}
use Rattle.session_commands.specs.declared.Command.TheVariants.{WriteByte, ReadByte, ReadWord, EndConversion}

abbrev pub wanted_by : Option Command → Option Event
wanted_by (Some (WriteByte offset v)) = Some (Event.WriteByte offset v)
wanted_by (Some (ReadByte offset)) = Some (Event.ReadByte offset)
wanted_by (Some ReadWord) = Some (Event.ReadWord 0)
wanted_by (Some (EndConversion sample)) = Some (Event.ConversionEnd (code_of sample))
wanted_by None = None
