-- Every access keeps a working board working.
use Rattle.std.specs.Prelude.{ℕ, refl}
use Rattle.std.proofs.Common.{arith}
use Rattle.converter.specs.Working as converter
use Rattle.converter.proofs.Working as converter_proved
use Rattle.converter.specs.Channels.{software_trigger}
use Rattle.requests.specs.Working as requests
use Rattle.outputs.specs.Laws as outputs
use Rattle.timer.specs.Bus.{count_written, control_word_written}
use Rattle.timer.specs.BusKept.{control-word_works, count-works, timer-read_works}
use Rattle.ports.specs.Laws as ports
use Rattle.calibration_registers.specs.Laws as calibration
use Rattle.machine_record.specs.Working.{WorkingMachine}
use Rattle.machine_record.specs.Kept.{converter-kept, registers-kept, outputs-kept, clocks-kept, ports-kept, calibration-kept, same-working}
use Rattle.machine_record.specs.declared.Board.{Board}
use Rattle.machine_clock.specs.Clock.{gates}
use Rattle.machine_clock.specs.Kept.{timer-moved_by_works, counting-works}
use Rattle.machine_reset.specs.Kept.{misc_works}
use Rattle.bus.specs.Rows.{Register}
use Rattle.bus.specs.Registers.{register_at}
use Rattle.bus.specs.declared.Place.{Place}
use Rattle.bus.specs.declared.Place.TheVariants.{Base0, Base1, Base2, Base3, Base4, Base5, Base6, Base7}
use Rattle.bus.specs.declared.Place.TheVariants.{Base8, Base9, Base10, Base11, Count, ControlWord, PortData, PortControl}
use Rattle.bus.specs.declared.Place.TheVariants.{Reserved, Auxiliary, CalData, CalAddress, CalBase14, CalBase15, Outside}

-- what a register keeps: of a byte written, and of a read
abbrev pub Keeps : Register → Type 0
Keeps r =
    ((b : Board) (v : ℕ) → WorkingMachine b → WorkingMachine (r.write.makes b v))
    × ((b : Board) → WorkingMachine b → WorkingMachine (r.read.makes b))

-- a read that makes nothing of the board
same : (b : Board) → WorkingMachine b → WorkingMachine b
same b w = w

pub register-keeps : (p : Place) → Keeps (register_at p)
unfolding register_at
register-keeps Base0 = (λ b v w. converter-kept b w _ (converter_proved.triggered-works b.converter (software_trigger b.converter) w.converter), same)
register-keeps Base1 = (λ b v w. registers-kept b w _ (record { page = w.registers.page; dout = omega arith; range = w.registers.range }), same)
register-keeps Base2 = (λ b v w. converter-kept b w _ (converter.low-works b.converter v w.converter), same)
register-keeps Base3 = (λ b v w. converter-kept b w _ (converter.high-works b.converter v w.converter), same)
register-keeps Base4 = (λ b v w. outputs-kept b w _ (outputs.lsb-works b.outputs v w.outputs), same)
register-keeps Base5 = (
  λ b v w. outputs-kept b w _ (outputs.msb-works b.outputs v w.outputs),
  λ b w. outputs-kept b w _ (outputs.updated-works b.outputs w.outputs),
)
register-keeps Base6 = (
  λ b v w. same-working b _ w (requests.depth_works b.requests v w.requests) w.din w.latch refl refl refl refl refl refl refl,
  same,
)
register-keeps Base7 = (
  λ b v w.
      same-working _ _ (converter-kept b w _ (converter.scanen-works b.converter v w.converter))
      (requests.fifoen-works b.requests v w.requests) w.din w.latch refl refl refl refl refl refl refl,
  same,
)
register-keeps Base8 = (misc_works, same)
register-keeps Base9 = (
  λ b v w.
      same-working _ _ (converter-kept b w _ (converter.clken-works b.converter v w.converter))
      (requests.enables_works b.requests v w.requests) w.din w.latch refl refl refl refl refl refl refl,
  same,
)
register-keeps Base10 = (counting-works, same)
register-keeps Base11 = (λ b v w. registers-kept b w _ (record { page = w.registers.page; dout = w.registers.dout; range = omega arith }), same)
register-keeps (Count s) = (
  λ b v w. timer-moved_by_works b (count_written b.clocks.timer s v (gates b)) w (count-works b.clocks.timer s v (gates b) w.clocks.timer),
  λ b w.
      let t = timer-read_works b.clocks.timer s w.clocks.timer in
      clocks-kept b w _ (record { timer = t; hundred = w.clocks.hundred; thousand = w.clocks.thousand }),
)
register-keeps ControlWord = (
  λ b v w. timer-moved_by_works b (control_word_written b.clocks.timer v (gates b)) w (control-word_works b.clocks.timer v (gates b) w.clocks.timer),
  same,
)
register-keeps (PortData q) = (λ b v w. ports-kept b w _ (ports.latch-works b.ports q v w.ports), same)
register-keeps PortControl = (λ b v w. ports-kept b w _ (ports.control-works b.ports v w.ports), same)
register-keeps Reserved = (λ b v w. w, same)
register-keeps Auxiliary = (λ b v w. w, same)
register-keeps CalData = (λ b v w. calibration-kept b w _ (calibration.value-works b.calibration v w.calibration), same)
register-keeps CalAddress = (λ b v w. calibration-kept b w _ (calibration.address-works b.calibration v w.calibration), same)
register-keeps CalBase14 = (λ b v w. calibration-kept b w _ (calibration.control-works b.calibration v w.calibration), same)
register-keeps CalBase15 = (λ b v w. calibration-kept b w _ (calibration.key-works b.calibration v w.calibration), same)
register-keeps Outside = (λ b v w. w, same)
