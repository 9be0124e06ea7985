-- DACBUSY's count over a row of events: laws for the theorem about it.
use Rattle.std.specs.Prelude.{ℕ, ◌+◌, ◌-◌, ◌<◌, ◌%◌, ◌≡◌, refl, Bool, true, false, ◌&&◌, List, [], ◌∷◌, eqb, ltb, if◌then◌else◌}
use Rattle.std.proofs.Common.{ap, ◌∙◌, arith, eqb-true, eq-eqb, lt-ltb, le-ltb, ltb-true, ltb-false}
use Rattle.base.specs.Fields.{bit}
use Rattle.base.specs.Weights.{weight_of, weight_le}
use Rattle.base.specs.Shown.{shows}
use Rattle.fifo.specs.Queue.{queue}
use Rattle.outputs.specs.Outputs.{dacbusy}
use Rattle.calibration_registers.specs.Registers.{calbusy}
use Rattle.bus.specs.Place.{place_of}
use Rattle.bus.specs.Bytes.{input_bits}
use Rattle.bus.specs.Registers.{write_checks, written_at, read_checks, byte_at}
use Rattle.board_refusal.specs.Refusals.{event_checks}
use Rattle.board_step.specs.Act.{acted}
use Rattle.board_step.specs.Step.{ran, step_of}
use Rattle.board_step.specs.States.{State, Works, refusal_at, answer_at, after_event}
use Rattle.board_laws.specs.Answers.{value_brought, answer-value}
use Rattle.board_laws.specs.Held.{number-working}
use Rattle.board_laws.specs.Stretches.{after_events, ticks_in, is_load, NoReset, NoLoad}
use Rattle.board_laws.specs.StretchSteps.{works-on, busy-step}
use Rattle.board_events.specs.Answers.{value_read}
use Rattle.board_events.specs.declared.Event.{Event}
use Rattle.board_events.specs.declared.Event.TheVariants.{WriteByte, ReadByte, ReadWord, ConversionEnd, DinPins, LatchLevel, PortPins, Tick, TransferEnd}

-- ---- a write of 5 that is taken, and one while DACBUSY
pub load-busy : (s : State) (v : ℕ) → refusal_at s (WriteByte 5 v) ≡ 0 → (after_event s (WriteByte 5 v)).board.outputs.busy ≡ 100
unfolding step_of ran acted place_of written_at
load-busy s v h = rw (eq-eqb _ _ h)

load-number : (s : State) (v n : ℕ) → Works s → (if ltb 0 s.board.outputs.busy then 6 else 0) ≡ n → refusal_at s (WriteByte 5 v) ≡ n
unfolding event_checks place_of write_checks
load-number s v n w h = number-working s.board s.memory s.eeprom (WriteByte 5 v) w.working w.long ∙ h

pub busy-refuses : (s : State) (v : ℕ) → Works s → 0 < s.board.outputs.busy → refusal_at s (WriteByte 5 v) ≡ 6
busy-refuses s v w h = load-number s v 6 w (rw (lt-ltb 0 s.board.outputs.busy h))

pub free-takes : (s : State) (v : ℕ) → Works s → s.board.outputs.busy ≡ 0 → refusal_at s (WriteByte 5 v) ≡ 0
free-takes s v w h = load-number s v 0 w (rw h)

-- ---- over a row
pub busy-left : (s : State) → Works s → (events : List Event) → NoReset events → NoLoad s events
    → (after_events s events).board.outputs.busy ≡ s.board.outputs.busy - ticks_in events
busy-left s w [] r l = omega arith
busy-left s w (ev ∷ events) r l =
    let one = busy-step s ev w r.0 l.0 in
    let rest = busy-left (after_event s ev) (works-on s ev w) events r.1 l.1 in
    omega (arith, one, rest)

-- no write of 5 is taken before the last of the ticks left has come
off : (s : State) (ev : Event) → Works s → 0 < s.board.outputs.busy → is_load ev && eqb (refusal_at s ev) 0 ≡ false
off s (WriteByte n v) w h = by (eqb n 5) refl
  where
    by : (t : Bool) → eqb n 5 ≡ t → t && eqb (refusal_at s (WriteByte n v)) 0 ≡ false
    by true e = let at : n ≡ 5 = eqb-true n 5 e in rw (at, busy-refuses s v w h)
    by false e = refl
off s (ReadByte n) w h = refl
off s (ReadWord n) w h = refl
off s (ConversionEnd code) w h = refl
off s (DinPins d) w h = refl
off s (LatchLevel level) w h = refl
off s (PortPins q v) w h = refl
off s Tick w h = refl
off s TransferEnd w h = refl

pub held-off : (s : State) → Works s → (events : List Event) → NoReset events → ticks_in events < s.board.outputs.busy → NoLoad s events
held-off s w [] r h = tt
held-off s w (ev ∷ events) r h =
    let l = off s ev w (omega arith) in
    let one = busy-step s ev w r.0 l in
    (l, held-off (after_event s ev) (works-on s ev w) events r.1 (omega (arith, one, h)))

-- as many ticks are left as make up 100 exactly where fewer have come
pub left_of_100 : (n k : ℕ) → n ≡ 100 - k → ltb 0 n ≡ ltb k 100
left_of_100 n k h = by (ltb k 100) refl
  where
    by : (t : Bool) → ltb k 100 ≡ t → ltb 0 n ≡ t
    by true e = lt-ltb 0 n (omega (arith, h, ltb-true k 100 e))
    by false e = le-ltb 0 n (omega (arith, h, ltb-false k 100 e))

-- ---- DACBUSY is bit 7 of what 4 reads
bit_7 : (t u : Bool) (n : ℕ) → bit (weight_of t 128 + weight_of u 64 + n % 16) 7 ≡ t
bit_7 t u n = shows (weight_of t 128 + weight_of u 64 + n % 16) 0 7 (weight_of u 64 + n % 16) t (omega arith) (omega (arith, weight_le u 64))

pub shown-at_4 : (s : State) → Works s → bit (value_read (answer_at s (ReadByte 4))) 7 ≡ dacbusy s.board.outputs
unfolding event_checks place_of read_checks value_brought byte_at
shown-at_4 s w =
    ap (λ (n : ℕ). bit n 7) (answer-value s.board s.memory s.eeprom (ReadByte 4) ∙ byte)
    ∙ bit_7 (dacbusy s.board.outputs) (calbusy s.board.calibration) s.board.pins.din
  where
    taken : refusal_at s (ReadByte 4) ≡ 0
    taken = number-working s.board s.memory s.eeprom (ReadByte 4) w.working w.long

    byte : (if eqb (refusal_at s (ReadByte 4)) 0 then value_brought s.board (queue s.board.fifo s.memory) (ReadByte 4) else 0)
        ≡ input_bits s.board.outputs s.board.calibration s.board.pins.din
    byte = rw (eq-eqb _ _ taken)
