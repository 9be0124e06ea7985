-- What Decoded.antt asks of a record and of a sample memory is had: a fresh board, jumpers A, mid-scale, is a record of its type, each of its numbers within
-- the type of its field; and so is a memory of zeros.
use Rattle.std.specs.Prelude.{ℕ, zero, suc, false, [], ◌∷◌, refl, replicate}
use Rattle.std.proofs.Common.{arith, lit<}
use Rattle.std.specs.Int.{w8}
use mir.Val.{vint}
use denote.Laws.{Is}
use denote.Struct.Laws.{owes, vals}
use Rattle.counter_one.specs.Counter.{unprogrammed}
use Rattle.machine_record.specs.Fresh.{fresh_board}
use Rattle.machine_record.specs.declared.Board.{Board}
use Rattle.machine_record.specs.declared.Jumpers.TheVariants.{A}
use Rattle.fifo.specs.contracts.Fifo as fifo
use Rattle.fifo.proofs.Fifo.TheLaws as fifoᴸ
use Rattle.converter.specs.contracts.channels.Converter as converter
use Rattle.converter.proofs.channels.Converter.TheLaws as converterᴸ
use Rattle.requests.specs.contracts.Flags as flags
use Rattle.requests.proofs.Flags.TheLaws as flagsᴸ
use Rattle.requests.specs.contracts.Requests as requests
use Rattle.requests.proofs.Requests.TheLaws as requestsᴸ
use Rattle.counter_bytes.specs.contracts.Bus as bus
use Rattle.counter_bytes.proofs.Bus.TheLaws as busᴸ
use Rattle.counter_element.specs.contracts.Count as count
use Rattle.counter_element.proofs.Count.TheLaws as countᴸ
use Rattle.counter_one.specs.contracts.Counter as counter
use Rattle.counter_one.proofs.Counter.TheLaws as counterᴸ
use Rattle.timer.specs.contracts.Timer as timer
use Rattle.timer.proofs.Timer.TheLaws as timerᴸ
use Rattle.outputs.specs.contracts.Codes as codes
use Rattle.outputs.proofs.Codes.TheLaws as codesᴸ
use Rattle.outputs.specs.contracts.Load as load
use Rattle.outputs.proofs.Load.TheLaws as loadᴸ
use Rattle.outputs.specs.contracts.Outputs as outputs
use Rattle.outputs.proofs.Outputs.TheLaws as outputsᴸ
use Rattle.ports.specs.contracts.Lines as lines
use Rattle.ports.proofs.Lines.TheLaws as linesᴸ
use Rattle.ports.specs.contracts.Ports as ports
use Rattle.ports.proofs.Ports.TheLaws as portsᴸ
use Rattle.calibration_registers.specs.contracts.Calibration as calibration
use Rattle.calibration_registers.proofs.Calibration.TheLaws as calibrationᴸ
use Rattle.machine_record.specs.contracts.Registers as registers
use Rattle.machine_record.proofs.Registers.TheLaws as registersᴸ
use Rattle.machine_record.specs.contracts.Clocks as clocks
use Rattle.machine_record.proofs.Clocks.TheLaws as clocksᴸ
use Rattle.machine_record.specs.contracts.Pins as pins
use Rattle.machine_record.proofs.Pins.TheLaws as pinsᴸ
use Rattle.machine_record.specs.contracts.Wiring as wiring
use Rattle.machine_record.proofs.Wiring.TheLaws as wiringᴸ
use Rattle.machine_record.specs.contracts.Board as board
use Rattle.machine_record.proofs.Board.TheLaws as boardᴸ
use Rattle.numbers.specs.Typed.{Recorded, Sixteen}

abbrev fresh : Board
fresh = fresh_board A false

converter-held : Is converter.the_row fresh.converter (vals converter.the_type converterᴸ.the_laws fresh.converter)
converter-held =
    owes converter.the_type converterᴸ.the_laws fresh.converter
    ((refl, lit< tt), ((refl, lit< tt), ((refl, lit< tt), ((refl, lit< tt), ((refl, lit< tt), ((refl, lit< tt), ((refl, lit< tt), tt)))))))

requests-held : Is requests.the_row fresh.requests (vals requests.the_type requestsᴸ.the_laws fresh.requests)
requests-held =
    owes requests.the_type requestsᴸ.the_laws fresh.requests (
      (refl, lit< tt),
      (
        (refl, lit< tt),
        (
          (refl, lit< tt),
          (
            (refl, lit< tt),
            (
              (refl, lit< tt),
              ((refl, lit< tt), (owes flags.the_type flagsᴸ.the_laws fresh.requests.flags ((refl, lit< tt), ((refl, lit< tt), ((refl, lit< tt), tt))), tt)),
            ),
          ),
        ),
      ),
    )

fifo-held : Is fifo.the_row fresh.fifo (vals fifo.the_type fifoᴸ.the_laws fresh.fifo)
fifo-held = owes fifo.the_type fifoᴸ.the_laws fresh.fifo ((refl, lit< tt), ((refl, lit< tt), ((refl, lit< tt), tt)))

registers-held : Is registers.the_row fresh.registers (vals registers.the_type registersᴸ.the_laws fresh.registers)
registers-held = owes registers.the_type registersᴸ.the_laws fresh.registers ((refl, lit< tt), ((refl, lit< tt), ((refl, lit< tt), ((refl, lit< tt), tt))))

outputs-held : Is outputs.the_row fresh.outputs (vals outputs.the_type outputsᴸ.the_laws fresh.outputs)
outputs-held =
    owes outputs.the_type outputsᴸ.the_laws fresh.outputs (
      owes codes.the_type codesᴸ.the_laws fresh.outputs.codes ((refl, lit< tt), ((refl, lit< tt), ((refl, lit< tt), ((refl, lit< tt), tt)))),
      (
        owes load.the_type loadᴸ.the_laws fresh.outputs.load ((refl, lit< tt), ((refl, lit< tt), ((refl, lit< tt), tt))),
        ((refl, lit< tt), ((refl, lit< tt), tt)),
      ),
    )

counter-held : Is counter.the_row (unprogrammed) (vals counter.the_type counterᴸ.the_laws (unprogrammed))
counter-held =
    owes counter.the_type counterᴸ.the_laws (unprogrammed) (
      (refl, lit< tt),
      (
        (refl, lit< tt),
        (
          owes count.the_type countᴸ.the_laws unprogrammed.count
              ((refl, lit< tt), ((refl, lit< tt), ((refl, lit< tt), ((refl, lit< tt), ((refl, lit< tt), tt))))),
          (
            owes bus.the_type busᴸ.the_laws unprogrammed.bus
                ((refl, lit< tt), ((refl, lit< tt), ((refl, lit< tt), ((refl, lit< tt), ((refl, lit< tt), tt))))),
            tt,
          ),
        ),
      ),
    )

clocks-held : Is clocks.the_row fresh.clocks (vals clocks.the_type clocksᴸ.the_laws fresh.clocks)
clocks-held =
    owes clocks.the_type clocksᴸ.the_laws fresh.clocks
    (owes timer.the_type timerᴸ.the_laws fresh.clocks.timer (counter-held, (counter-held, (counter-held, tt))), ((refl, lit< tt), ((refl, lit< tt), tt)))

ports-held : Is ports.the_row fresh.ports (vals ports.the_type portsᴸ.the_laws fresh.ports)
ports-held =
    owes ports.the_type portsᴸ.the_laws fresh.ports (
      (refl, lit< tt),
      (
        owes lines.the_type linesᴸ.the_laws fresh.ports.latches ((refl, lit< tt), ((refl, lit< tt), ((refl, lit< tt), tt))),
        (owes lines.the_type linesᴸ.the_laws fresh.ports.pins ((refl, lit< tt), ((refl, lit< tt), ((refl, lit< tt), tt))), tt),
      ),
    )

calibration-held : Is calibration.the_row fresh.calibration (vals calibration.the_type calibrationᴸ.the_laws fresh.calibration)
calibration-held =
    owes calibration.the_type calibrationᴸ.the_laws fresh.calibration (
      (refl, lit< tt),
      (
        (refl, lit< tt),
        (
          (refl, lit< tt),
          (
            (refl, lit< tt),
            (
              (refl, lit< tt),
              (
                (
                  vint w8 0 ∷ vint w8 0 ∷ vint w8 0 ∷ vint w8 0 ∷ vint w8 0 ∷ vint w8 0 ∷ vint w8 0 ∷ vint w8 0 ∷ [],
                  (
                    (refl, refl),
                    (
                      (refl, lit< tt),
                      ((refl, lit< tt), ((refl, lit< tt), ((refl, lit< tt), ((refl, lit< tt), ((refl, lit< tt), ((refl, lit< tt), ((refl, lit< tt), tt))))))),
                    ),
                  ),
                ),
                tt,
              ),
            ),
          ),
        ),
      ),
    )

pins_held : Is pins.the_row fresh.pins (vals pins.the_type pinsᴸ.the_laws fresh.pins)
pins_held = owes pins.the_type pinsᴸ.the_laws fresh.pins ((refl, lit< tt), ((refl, lit< tt), tt))

wiring_held : Is wiring.the_row fresh.wiring (vals wiring.the_type wiringᴸ.the_laws fresh.wiring)
wiring_held = owes wiring.the_type wiringᴸ.the_laws fresh.wiring ((refl, lit< tt), ((refl, lit< tt), tt))

pub fresh_recorded : Recorded fresh
fresh_recorded =
    record {
      words = vals board.the_type boardᴸ.the_laws fresh;
      held =
          owes board.the_type boardᴸ.the_laws fresh (
            converter-held,
            (requests-held, (fifo-held, (registers-held, (outputs-held, (clocks-held, (ports-held, (calibration-held, (pins_held, (wiring_held, tt))))))))),
          );
    }

pub zeros_sixteen : (n : ℕ) → Sixteen (replicate n 0)
zeros_sixteen zero i = omega arith
zeros_sixteen (suc n) zero = omega arith
zeros_sixteen (suc n) (suc i) = zeros_sixteen n i
