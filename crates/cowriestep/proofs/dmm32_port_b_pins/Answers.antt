-- `cowriestep::dmm32_port_b_pins` meets its contract where a memory has a wrong length. Assumes nothing.
use Rattle.cowriestep.proofs.Refused.{refused_2}
use Rattle.cowriestep.proofs.dmm32_port_b_pins.Goals as goal

pub returns-then-memory-eeprom : goal.returns-then-memory-eeprom
returns-then-memory-eeprom c = refused_2 _ _ _ _ c.if-memory-eeprom.true
