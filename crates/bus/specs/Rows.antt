-- What a register is, and the words in which the rows of Registers are written. A word `to..` is given what the byte makes of that part of the board;
-- the other parts stay.
use Rattle.std.specs.Prelude.{ℕ, Bool, true, List, [], ◌∷◌, if◌then◌else◌, Result, Option}
use Rattle.base.specs.Checks.{Check, ◌refuses◌}
use Rattle.converter.specs.declared.channels.Converter.{Converter}
use Rattle.requests.specs.declared.Requests.{Requests}
use Rattle.outputs.specs.declared.Outputs.{Outputs}
use Rattle.timer.specs.declared.Timer.{Timer}
use Rattle.timer.specs.declared.Gates.{Gates}
use Rattle.base.specs.declared.Refusal.{Refusal}
use Rattle.ports.specs.declared.Ports.{Ports}
use Rattle.calibration_registers.specs.declared.Calibration.{Calibration}
use Rattle.machine_record.specs.Parts.{with_converter, with_requests, with_registers, with_outputs, with_ports, with_calibration}
use Rattle.machine_record.specs.declared.Registers.{Registers}
use Rattle.machine_record.specs.declared.Board.{Board}
use Rattle.machine_clock.specs.Clock.{gates, timer_moved_by}
use Rattle.bus.specs.Effects.{Effect, Keep, Take, Empty}

-- a byte written: the checks that it meets in their order, what it makes of the board, and what becomes of the samples. A refused one changes nothing
pub record RegisterWrite : Type 0 where
  pub checks : Board → ℕ → List Check
  pub makes : Board → ℕ → Board
  pub effect : ℕ → Effect

-- a read: the checks that it meets, the byte that it shows, by the board and the oldest sample or that none is held, what it makes of the board,
-- and what becomes of the samples
pub record RegisterRead : Type 0 where
  pub checks : List Check
  pub shows : Board → Option ℕ → ℕ
  pub makes : Board → Board
  pub effect : Effect

pub record Register : Type 0 where
  pub write : RegisterWrite
  pub read : RegisterRead

infix 10 write◌read◌
abbrev pub write◌read◌ : RegisterWrite → RegisterRead → Register
write w read r = record { write = w; read = r }

-- ---- a byte written
-- it makes this of the board; it is not refused, and the samples stay
abbrev pub storing : (Board → ℕ → Board) → RegisterWrite
storing f = record { checks = λ b v. []; makes = f; effect = λ v. Keep }

abbrev pub to_converter : (Converter → ℕ → Converter) → RegisterWrite
to_converter f = storing (λ b v. with_converter b (f b.converter v))

abbrev pub to_requests : (Requests → ℕ → Requests) → RegisterWrite
to_requests f = storing (λ b v. with_requests b (f b.requests v))

abbrev pub to_registers : (Registers → ℕ → Registers) → RegisterWrite
to_registers f = storing (λ b v. with_registers b (f b.registers v))

abbrev pub to_outputs : (Outputs → ℕ → Outputs) → RegisterWrite
to_outputs f = storing (λ b v. with_outputs b (f b.outputs v))

-- a timer that moves may set TINT or begin a conversion
abbrev pub to_timer : (Timer → ℕ → Gates → Result Timer Refusal) → RegisterWrite
to_timer f = storing (λ b v. timer_moved_by b (f b.clocks.timer v (gates b)))

abbrev pub to_ports : (Ports → ℕ → Ports) → RegisterWrite
to_ports f = storing (λ b v. with_ports b (f b.ports v))

abbrev pub to_calibration : (Calibration → ℕ → Calibration) → RegisterWrite
to_calibration f = storing (λ b v. with_calibration b (f b.calibration v))

-- without effect
abbrev pub ignoring : RegisterWrite
ignoring = storing (λ b v. b)

-- but it meets these checks
infixl 20 ◌unless◌
abbrev pub ◌unless◌ : RegisterWrite → (Board → ℕ → List Check) → RegisterWrite
w unless checks = record { checks = checks; makes = w.makes; effect = w.effect }

-- and no sample is left where the byte passes the test
infixl 20 ◌emptying◌
abbrev pub ◌emptying◌ : RegisterWrite → (ℕ → Bool) → RegisterWrite
w emptying test = record { checks = w.checks; makes = w.makes; effect = λ v. if test v then Empty else Keep }

-- always refused by the number
abbrev pub no_write : ℕ → RegisterWrite
no_write number = ignoring unless (λ b v. true refuses number ∷ [])

-- ---- a read
-- it shows this byte of the board and changes nothing
abbrev pub showing : (Board → ℕ) → RegisterRead
showing f = record { checks = []; shows = λ b oldest. f b; makes = λ b. b; effect = Keep }

-- it shows this byte of the oldest sample, which stays
abbrev pub showing_oldest : (Option ℕ → ℕ) → RegisterRead
showing_oldest f = record { checks = []; shows = λ b oldest. f oldest; makes = λ b. b; effect = Keep }

-- which leaves
abbrev pub taking_oldest : (Option ℕ → ℕ) → RegisterRead
taking_oldest f = record { checks = []; shows = λ b oldest. f oldest; makes = λ b. b; effect = Take }

-- and it makes this of the board
infixl 20 ◌making◌
abbrev pub ◌making◌ : RegisterRead → (Board → Board) → RegisterRead
r making f = record { checks = r.checks; shows = r.shows; makes = f; effect = r.effect }

-- always refused by the number
abbrev pub no_read : ℕ → RegisterRead
no_read number = record { checks = true refuses number ∷ []; shows = λ b oldest. 0; makes = λ b. b; effect = Keep }
