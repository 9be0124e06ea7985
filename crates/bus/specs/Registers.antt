-- The registers, a row for each place (manual, chapters 6 to 8; the specification, "Registers" and "Refusal numbers"): what a byte written there
-- does, what a read there shows and does, and by which number either is refused: 3 offset above 15; 6 write to 4 or 5 while DACBUSY, or on page 3
-- to 12-14 while a transfer runs; 9 more than one of EE_EN, RUNCAL, TDACEN; 8 EEPROM command without key; 7 setting not modelled: any access to
-- page 2 offset 15, the listed 8254 and 8255 cases. The order is 3, 6, 9, 8, 7. The words of the rows are those of Rows.
use Rattle.std.specs.Prelude.{ℕ, List, [], ◌∷◌, Option}
use Rattle.base.specs.Checks.{Check, ◌refuses◌}
use Rattle.fifo.specs.Samples.{low_byte_of, high_byte_of}
use Rattle.converter.specs.Channels.{software_triggered}
use Rattle.converter.specs.Registers.{written_low, written_high}
use Rattle.requests.specs.Registers.{written_depth, FIFORST, request_bits}
use Rattle.outputs.specs.Outputs.{dacbusy, lsb_written, msb_written, updated, update_answer}
use Rattle.timer.specs.Bus as timer
use Rattle.ports.specs.Ports as ports
use Rattle.calibration_registers.specs.Registers as calibration
use Rattle.machine_record.specs.Parts.{with_outputs, with_clocks}
use Rattle.machine_record.specs.declared.Board.{Board}
use Rattle.machine_clock.specs.Clock.{with_timer, counting_written}
use Rattle.machine_reset.specs.Reset.{is_reset, misc_written}
use Rattle.bus.specs.Effects.{Effect}
use Rattle.bus.specs.Bytes.{input_bits, fifo_bits, ad_bits, with_dout, with_range, fifo_written, operation_written}
use Rattle.bus.specs.Rows.{Register, write◌read◌, storing, ignoring, to_converter, to_requests, to_registers, to_outputs, to_timer, to_ports, to_calibration}
use Rattle.bus.specs.Rows.{◌unless◌, ◌emptying◌, no_write, showing, showing_oldest, taking_oldest, ◌making◌, no_read}
use Rattle.bus.specs.declared.Place.{Place}
use Rattle.bus.specs.declared.Place.TheVariants.{Base0, Base1, Base2, Base3, Base4, Base5, Base6, Base7}
use Rattle.bus.specs.declared.Place.TheVariants.{Base8, Base9, Base10, Base11, Count, ControlWord, PortData, PortControl}
use Rattle.bus.specs.declared.Place.TheVariants.{Reserved, Auxiliary, CalData, CalAddress, CalBase14, CalBase15, Outside}

unfoldable pub register_at : Place → Register
-- ---- chapter 7
-- Base + 0. Write: Start A/D Conversion, "the value written does not matter". Read: A/D LSB, "low byte of the oldest sample, no change"; "Empty: FF"
register_at Base0 =
    write to_converter (λ c v. software_triggered c)
    read showing_oldest low_byte_of
-- Base + 1. Write: Auxiliary Digital Output. Read: A/D MSB, "its high byte, and the sample leaves; OVF clears"; "Empty: FF"
register_at Base1 =
    write to_registers with_dout
    read taking_oldest high_byte_of
-- Base + 2. Read/Write: A/D Low Channel Register
register_at Base2 =
    write to_converter written_low
    read showing (λ b. b.converter.low)
-- Base + 3. Read/Write: A/D High Channel Register
register_at Base3 =
    write to_converter written_high
    read showing (λ b. b.converter.high)
-- Base + 4. Write: DAC LSB. Read: Status / Auxiliary digital inputs
register_at Base4 =
    write to_outputs lsb_written unless (λ b v. dacbusy b.outputs refuses 6 ∷ [])
    read showing (λ b. input_bits b.outputs b.calibration b.pins.din)
-- Base + 5. Write: DAC MSB + Channel No. Read: Update D/A Channel
register_at Base5 =
    write to_outputs msb_written unless (λ b v. dacbusy b.outputs refuses 6 ∷ [])
    read showing (λ b. update_answer b.outputs) making (λ b. with_outputs b (updated b.outputs))
-- Base + 6. Read/Write: FIFO Depth Register
register_at Base6 =
    write to_requests written_depth
    read showing (λ b. b.requests.threshold)
-- Base + 7. Write: FIFO Control Register; FIFORST empties the memory and clears OVF. Read: FIFO Status Register
register_at Base7 =
    write storing fifo_written emptying FIFORST
    read showing (λ b. fifo_bits b.fifo b.converter b.requests b.registers.page)
-- Base + 8. Write: Miscellaneous Control Register; a reset empties the memory and clears OVF. Read: A/D Status Register
register_at Base8 =
    write storing misc_written emptying is_reset
    read showing (λ b. ad_bits b.converter b.wiring.inputs)
-- Base + 9. Write: Interrupt and A/D Clock Control Register. Read: Interrupt and A/D Clock Status Register
register_at Base9 =
    write storing operation_written
    read showing (λ b. request_bits b.converter b.requests)
-- Base + 10. Read/Write: Counter and Digital I/O Configuration Register
register_at Base10 =
    write storing counting_written
    read showing (λ b. b.registers.counting)
-- Base + 11. Write: Analog Configuration Register. Read: Analog I/O Readback Register; WAIT reads 0
register_at Base11 =
    write to_registers with_range
    read showing (λ b. b.registers.range)
-- ---- 8.1, page 0: 82C54 Counter/Timer Access
-- Base + 12 to Base + 14. Read/Write: the bytes of a counter's count; a read moves a latched or half-read count on
register_at (Count s) =
    write to_timer (λ t v g. timer.count_written t s v g) unless (λ b v. timer.count_refused b.clocks.timer s v refuses 7 ∷ [])
    read showing (λ b. (timer.timer_read b.clocks.timer s).byte)
    making (λ b. with_clocks b (with_timer b.clocks (timer.timer_read b.clocks.timer s).timer))
-- Base + 15. Write: the control word. "Page 0: 15 reads 0"
register_at ControlWord =
    write to_timer timer.control_word_written unless (λ b v. timer.control_word_refused v refuses 7 ∷ [])
    read showing (λ b. 0)
-- ---- 8.2, page 1: 82C55 Digital I/O Circuit
-- Base + 12 to Base + 14. Read/Write: ports A, B and C
register_at (PortData q) =
    write to_ports (λ p v. ports.latch_written p q v)
    read showing (λ b. ports.port_read b.ports q)
-- Base + 15. Read/Write: the configuration register
register_at PortControl =
    write to_ports ports.port_control_written unless (λ b v. ports.port_control_refused v refuses 7 ∷ [])
    read showing (λ b. ports.control_read b.ports)
-- ---- 8.3, page 2: Auxiliary Control
-- Base + 12 to Base + 14. "Other writes to undefined places answer ok, without effect; reads there give 0"
register_at Reserved =
    write ignoring
    read showing (λ b. 0)
-- Base + 15. Read/Write: Auxiliary Control, "FPGA revision code 35 and higher only"
register_at Auxiliary =
    write no_write 7
    read no_read 7
-- ---- 8.4, page 3: Autocalibration Registers
-- Base + 12. Read/Write: EEPROM / TrimDAC Data Register
register_at CalData =
    write to_calibration calibration.data_written unless (λ b v. calibration.calbusy b.calibration refuses 6 ∷ [])
    read showing (λ b. calibration.data_read b.calibration)
-- Base + 13. Read/Write: EEPROM / TrimDAC Address Register
register_at CalAddress =
    write to_calibration calibration.address_written unless (λ b v. calibration.calbusy b.calibration refuses 6 ∷ [])
    read showing (λ b. calibration.address_read b.calibration)
-- Base + 14. Write: Calibration Control Register. Read: Calibration Status Register
register_at CalBase14 =
    write to_calibration calibration.command_written unless (λ b v.
    calibration.calbusy b.calibration refuses 6 ∷ calibration.several v refuses 9 ∷ calibration.locked b.calibration v refuses 8 ∷ [])
    read showing (λ b. calibration.status_read b.calibration)
-- Base + 15. Write: EEPROM Access Key Register. Read: FPGA Revision Code
register_at CalBase15 =
    write to_calibration calibration.key_written
    read showing (λ b. calibration.revision)
-- ---- an offset above 15
register_at Outside =
    write no_write 3
    read no_read 3

-- ---- read off the row. A byte written: its checks, what it makes of the board, what becomes of the samples
unfoldable pub write_checks : Board → Place → ℕ → List Check
unfolding register_at
write_checks b p v = (register_at p).write.checks b v

unfoldable pub written_at : Board → Place → ℕ → Board
unfolding register_at
written_at b p v = (register_at p).write.makes b v

unfoldable pub write_effect : Place → ℕ → Effect
unfolding register_at
write_effect p v = (register_at p).write.effect v

-- a read: its checks, its byte, what it makes of the board, what becomes of the samples
unfoldable pub read_checks : Place → List Check
unfolding register_at
read_checks p = (register_at p).read.checks

unfoldable pub byte_at : Board → Option ℕ → Place → ℕ
unfolding register_at
byte_at b oldest p = (register_at p).read.shows b oldest

unfoldable pub after_read : Board → Place → Board
unfolding register_at
after_read b p = (register_at p).read.makes b

unfoldable pub read_effect : Place → Effect
unfolding register_at
read_effect p = (register_at p).read.effect
