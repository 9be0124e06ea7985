-- `calibration_end::end_transfer` meets its contract. Assumes nothing.
use borrow.Author.Rules.{rules}
use Rattle.calibration_end.specs.Ends.{calibration_ended, eeprom_ended}
use Rattle.calibration_end.proofs.end_transfer.Goals as goal

pub transfer_of-t-requires : goal.transfer_of-t-requires
unfolding calibration_ended eeprom_ended
transfer_of-t-requires c = search rules

pub end_by-d-requires : goal.end_by-d-requires
unfolding calibration_ended eeprom_ended
end_by-d-requires c = search rules

pub store_by-requires : goal.store_by-requires
unfolding calibration_ended eeprom_ended
store_by-requires c = search rules

pub returns : goal.returns
unfolding calibration_ended eeprom_ended
returns c = record { value = simp (c.end_by-d.ensures, c.transfer_of-t.ensures); eeprom_after = simp (c.store_by.ensures, c.transfer_of-t.ensures) }
