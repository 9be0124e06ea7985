-- `board::step` meets its contract, by a law for each way out. Assumes nothing. Written by tools/ways.py.
use mathlib.Core.Path.{sym, ap, ◌∙◌}
use mir.Syntax.{w16}
use mir.Facts.{to_z-of_z}
use Rattle.board_events.specs.declared.Event.TheVariants.{ConversionEnd}
use Rattle.board.proofs.Arms as arms
use Rattle.board.proofs.step.Goals as goal

pub returns-in-WriteByte : goal.returns-in-WriteByte
returns-in-WriteByte c =
    arms.as_kind c.args.board
    c.args.memory.now
    c.args.eeprom.now
    c.in-WriteByte.is c.write_byte.ensures

pub returns-in-ReadByte : goal.returns-in-ReadByte
returns-in-ReadByte c =
    arms.as_kind c.args.board
    c.args.memory.now
    c.args.eeprom.now
    c.in-ReadByte.is c.read_byte.ensures

pub returns-in-ReadWord : goal.returns-in-ReadWord
returns-in-ReadWord c =
    arms.as_kind c.args.board
    c.args.memory.now
    c.args.eeprom.now
    c.in-ReadWord.is c.read_word.ensures

pub returns-in-ConversionEnd : goal.returns-in-ConversionEnd
returns-in-ConversionEnd c =
    arms.as_kind c.args.board
    c.args.memory.now
    c.args.eeprom.now
    (c.in-ConversionEnd.is
    ∙ ap ConversionEnd
    (sym (to_z-of_z {w = w16} {z = c.in-ConversionEnd.code}
    (record { sfits = c.in-ConversionEnd.known_told-in-ConversionEnd-1-own.given.0.1 }))))
    c.conversion_end.ensures

pub returns-in-DinPins : goal.returns-in-DinPins
returns-in-DinPins c =
    arms.as_kind c.args.board
    c.args.memory.now
    c.args.eeprom.now
    c.in-DinPins.is c.din_pins.ensures

pub returns-in-LatchLevel : goal.returns-in-LatchLevel
returns-in-LatchLevel c =
    arms.as_kind c.args.board
    c.args.memory.now
    c.args.eeprom.now
    c.in-LatchLevel.is c.latch_level.ensures

pub returns-in-PortPins : goal.returns-in-PortPins
returns-in-PortPins c =
    arms.as_kind c.args.board
    c.args.memory.now
    c.args.eeprom.now
    c.in-PortPins.is c.port_pins.ensures

pub returns-in-Tick : goal.returns-in-Tick
returns-in-Tick c =
    arms.as_kind c.args.board
    c.args.memory.now
    c.args.eeprom.now
    c.in-Tick.is c.tick.ensures

pub returns-in-TransferEnd : goal.returns-in-TransferEnd
returns-in-TransferEnd c =
    arms.as_kind c.args.board
    c.args.memory.now
    c.args.eeprom.now
    c.in-TransferEnd.is c.transfer_end.ensures
