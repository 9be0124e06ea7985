-- The value in a step's answer is one of 16 bits: a read shows registers and counts within their types, bits of a byte, or a byte of the oldest sample; a word
-- read the oldest sample; either all ones where none is held. Bounds for Decoded.antt.
use Rattle.std.specs.Prelude.{ℕ, ◌<◌, ◌≡◌, refl, Bool, true, false, List, eqb, if◌then◌else◌, Option, Some, None}
use Rattle.std.proofs.Common.{subst, arith, eqb-true}
use Rattle.std.proofs.lemmas.Bool.{eqb-false}
use mir.Val.{Val}
use denote.Laws.{Is}
use denote.Struct.Laws.{owed}
use Rattle.base.specs.Flags.{on}
use Rattle.base.specs.Weights.{weight_le}
use Rattle.fifo.specs.Flags.{flags-fit}
use Rattle.fifo.specs.Samples.{oldest_of, low_byte_of, high_byte_of}
use Rattle.fifo.specs.Queue.{queue, WorkingFifo}
use Rattle.fifo.specs.Queue.Steps.{oldest-none, oldest-some}
use Rattle.fifo.specs.declared.Fifo.{Fifo}
use Rattle.converter.specs.Bytes.{status-fits}
use Rattle.converter.specs.contracts.channels.Converter as converter
use Rattle.converter.proofs.channels.Converter.TheLaws as converterᴸ
use Rattle.requests.specs.Bytes.{mode_fits}
use Rattle.requests.specs.contracts.Requests as requests
use Rattle.requests.proofs.Requests.TheLaws as requestsᴸ
use Rattle.counter_modes.specs.declared.Mode.{Mode}
use Rattle.counter_modes.specs.declared.Format.{Format}
use Rattle.counter_modes.specs.declared.Format.TheVariants.{LeastByte, MostByte, TwoBytes}
use Rattle.counter_modes.specs.Control.{setup_of}
use Rattle.counter_bytes.specs.Bytes.{byte_shown, shown}
use Rattle.counter_bytes.specs.declared.Bus.{Bus}
use Rattle.counter_bytes.specs.contracts.Bus as bus
use Rattle.counter_bytes.proofs.Bus.TheLaws as busᴸ
use Rattle.counter_element.specs.contracts.Count as count
use Rattle.counter_element.proofs.Count.TheLaws as countᴸ
use Rattle.counter_one.specs.Counter.{counter_read_as, counter_read}
use Rattle.counter_one.specs.declared.Counter.{Counter}
use Rattle.counter_one.specs.contracts.Counter as counter
use Rattle.counter_one.proofs.Counter.TheLaws as counterᴸ
use Rattle.timer.specs.declared.Timer.{Timer}
use Rattle.timer.specs.declared.Select.{Select}
use Rattle.timer.specs.declared.Select.TheVariants.{Counter0, Counter1, Counter2}
use Rattle.timer.specs.Bus.{timer_read}
use Rattle.timer.specs.contracts.Timer as timer
use Rattle.timer.proofs.Timer.TheLaws as timerᴸ
use Rattle.ports.specs.Ports.{line_of, port_read, high_input, low_input, joined}
use Rattle.ports.specs.declared.Lines.{Lines}
use Rattle.ports.specs.declared.Ports.{Ports}
use Rattle.ports.specs.declared.Port.{Port}
use Rattle.ports.specs.declared.Port.TheVariants.{PortA, PortB, PortC}
use Rattle.ports.specs.contracts.Lines as lines
use Rattle.ports.proofs.Lines.TheLaws as linesᴸ
use Rattle.ports.specs.contracts.Ports as ports
use Rattle.ports.proofs.Ports.TheLaws as portsᴸ
use Rattle.calibration_registers.specs.Registers.{calbusy, tdbusy, eebusy}
use Rattle.calibration_registers.specs.contracts.Calibration as calibration
use Rattle.calibration_registers.proofs.Calibration.TheLaws as calibrationᴸ
use Rattle.outputs.specs.Outputs.{dacbusy}
use Rattle.machine_record.specs.Fits.{single_fits}
use Rattle.machine_record.specs.declared.Board.{Board}
use Rattle.machine_record.specs.contracts.Registers as registers
use Rattle.machine_record.proofs.Registers.TheLaws as registersᴸ
use Rattle.machine_record.specs.contracts.Clocks as clocks
use Rattle.machine_record.proofs.Clocks.TheLaws as clocksᴸ
use Rattle.machine_record.specs.contracts.Board as board
use Rattle.machine_record.proofs.Board.TheLaws as boardᴸ
use Rattle.bus.specs.Registers.{byte_at}
use Rattle.bus.specs.declared.Place.{Place}
use Rattle.bus.specs.declared.Place.TheVariants.{Base0, Base1, Base2, Base3, Base4, Base5, Base6, Base7}
use Rattle.bus.specs.declared.Place.TheVariants.{Base8, Base9, Base10, Base11, Count, ControlWord, PortData, PortControl}
use Rattle.bus.specs.declared.Place.TheVariants.{Reserved, Auxiliary, CalData, CalAddress, CalBase14, CalBase15, Outside}
use Rattle.board_events.specs.declared.Event.{Event}
use Rattle.board_events.specs.declared.Event.TheVariants.{WriteByte, ReadByte, ReadWord, ConversionEnd, DinPins, LatchLevel, PortPins, Tick, TransferEnd}
use Rattle.board_events.specs.Answers.{value_read}
use Rattle.bus.specs.Place.{place_of}
use Rattle.board_step.specs.Acted.{word_read_answer}
use Rattle.board_laws.specs.Answers.{value_brought}
use Rattle.numbers.specs.Typed.{Recorded, Sixteen}

-- ---- a count that a read shows
shown-below : (s : Bus) (v : ℕ) → s.latch < 65536 → v < 65536 → shown s v < 65536
shown-below s v l h = by (on s.latched)
  where
    by : (t : Bool) → (if t then s.latch else v) < 65536
    by true = l
    by false = h

byte-below : (f : Format) (half : Bool) (v : ℕ) → v < 65536 → byte_shown f half v < 65536
byte-below LeastByte half v h = omega arith
byte-below MostByte half v h = omega arith
byte-below TwoBytes true v h = omega arith
byte-below TwoBytes false v h = omega arith

counter-below : (c : Counter) (vs : List Val) → Is counter.the_row c vs → (counter_read c).byte < 65536
unfolding counter_read
counter-below c vs is =
    let p = owed counter.the_type counterᴸ.the_laws c vs is in
    let k = owed count.the_type countᴸ.the_laws c.count _ p.1.1.0 in
    let s = owed bus.the_type busᴸ.the_laws c.bus _ p.1.1.1.0 in
    by (setup_of c.control) (shown-below c.bus c.count.element s.0.1 k.1.0.1)
  where
    by : (x : Option (Format × Mode)) → shown c.bus c.count.element < 65536 → (counter_read_as x c).byte < 65536
    by None h = omega arith
    by (Some (f, m)) h = byte-below f (on c.bus.halfread) (shown c.bus c.count.element) h

timer-below : (t : Timer) (s : Select) (vs : List Val) → Is timer.the_row t vs → (timer_read t s).byte < 65536
unfolding timer_read
timer-below t Counter0 vs is = counter-below t.counter0 _ (owed timer.the_type timerᴸ.the_laws t vs is).0
timer-below t Counter1 vs is = counter-below t.counter1 _ (owed timer.the_type timerᴸ.the_laws t vs is).1.0
timer-below t Counter2 vs is = counter-below t.counter2 _ (owed timer.the_type timerᴸ.the_laws t vs is).1.1.0

-- ---- a port
line_below : (l : Lines) (q : Port) (vs : List Val) → Is lines.the_row l vs → line_of l q < 256
line_below l PortA vs is = (owed lines.the_type linesᴸ.the_laws l vs is).0.1
line_below l PortB vs is = (owed lines.the_type linesᴸ.the_laws l vs is).1.0.1
line_below l PortC vs is = (owed lines.the_type linesᴸ.the_laws l vs is).1.1.0.1

joined-below : (s t : Bool) (input output : ℕ) → input < 256 → output < 256
    → joined (if s then input else output) (if t then input else output) < 65536
joined-below true true x y h k = omega arith
joined-below true false x y h k = omega arith
joined-below false true x y h k = omega arith
joined-below false false x y h k = omega arith

port-below : (p : Ports) (q : Port) (vs : List Val) → Is ports.the_row p vs → port_read p q < 65536
port-below p q vs is =
    let k = owed ports.the_type portsᴸ.the_laws p vs is in
    joined-below (high_input p.control q) (low_input p.control q) (line_of p.pins q) (line_of p.latches q)
    (line_below p.pins q _ k.1.1.0) (line_below p.latches q _ k.1.0)

-- ---- the registers that a read shows as they stand
record Registers (b : Board) : Type 0 where
  low : b.converter.low < 256
  high : b.converter.high < 256
  threshold : b.requests.threshold < 256
  counting : b.registers.counting < 256
  range : b.registers.range < 256
  control : b.ports.control < 256
  value : b.calibration.value < 256
  address : b.calibration.address < 256

registers-below : (b : Board) → Recorded b → Registers b
registers-below b r =
    let f = owed board.the_type boardᴸ.the_laws b r.words r.held in
    let c = owed converter.the_type converterᴸ.the_laws b.converter _ f.0 in
    let q = owed requests.the_type requestsᴸ.the_laws b.requests _ f.1.0 in
    let g = owed registers.the_type registersᴸ.the_laws b.registers _ f.1.1.1.0 in
    let p = owed ports.the_type portsᴸ.the_laws b.ports _ f.1.1.1.1.1.1.0 in
    let k = owed calibration.the_type calibrationᴸ.the_laws b.calibration _ f.1.1.1.1.1.1.1.0 in
    record {
      low = c.0.1;
      high = c.1.0.1;
      threshold = q.0.1;
      counting = g.1.1.0.1;
      range = g.1.1.1.0.1;
      control = p.0.1;
      value = k.0.1;
      address = k.1.0.1;
    }

-- ---- the oldest sample, or none
abbrev Below : Option ℕ → Type 0
Below o = value_read (word_read_answer o) < 65536

low_below : (o : Option ℕ) → low_byte_of o < 65536
low_below None = omega arith
low_below (Some v) = omega arith

high-below : (o : Option ℕ) → Below o → high_byte_of o < 65536
high-below None h = omega arith
high-below (Some v) h = omega arith

pub oldest-below : (f : Fifo) (m : List ℕ) → WorkingFifo f m → Sixteen m → Below (oldest_of (queue f m))
oldest-below f m w s = by (eqb f.held 0) refl
  where
    by : (t : Bool) → eqb f.held 0 ≡ t → Below (oldest_of (queue f m))
    by true e = subst Below (oldest-none f m (eqb-true f.held 0 e)) (omega arith)
    by false e = subst Below (oldest-some f m w (eqb-false f.held 0 e)) (s f.place)

-- ---- the byte of any place, the oldest sample being o
place-below : (b : Board) (o : Option ℕ) (p : Place) → Recorded b → Below o → byte_at b o p < 65536
unfolding byte_at
place-below b o Base0 r h = low_below o
place-below b o Base1 r h = high-below o h
place-below b o Base2 r h = omega (arith, (registers-below b r).low)
place-below b o Base3 r h = omega (arith, (registers-below b r).high)
place-below b o Base4 r h = omega (arith, weight_le (dacbusy b.outputs) 128, weight_le (calbusy b.calibration) 64)
place-below b o Base5 r h = omega arith
place-below b o Base6 r h = omega (arith, (registers-below b r).threshold)
place-below b o Base7 r h = omega (arith, flags-fit b.fifo, mode_fits b.converter b.requests)
place-below b o Base8 r h = omega (arith, status-fits b.converter, single_fits b.wiring.inputs)
place-below b o Base9 r h =
    omega (
      arith,
      weight_le (on b.requests.flags.adint) 128,
      weight_le (on b.requests.flags.dint) 64,
      weight_le (on b.requests.flags.tint) 32,
      weight_le (on b.converter.clken) 2,
      weight_le (on b.requests.clksel) 1,
    )
place-below b o Base10 r h = omega (arith, (registers-below b r).counting)
place-below b o Base11 r h = omega (arith, (registers-below b r).range)
place-below b o (Count s) r h =
    let f = owed board.the_type boardᴸ.the_laws b r.words r.held in
    timer-below b.clocks.timer s _ (owed clocks.the_type clocksᴸ.the_laws b.clocks _ f.1.1.1.1.1.0).0
place-below b o ControlWord r h = omega arith
place-below b o (PortData q) r h = port-below b.ports q _ (owed board.the_type boardᴸ.the_laws b r.words r.held).1.1.1.1.1.1.0
place-below b o PortControl r h = omega (arith, (registers-below b r).control)
place-below b o Reserved r h = omega arith
place-below b o Auxiliary r h = omega arith
place-below b o CalData r h = omega (arith, (registers-below b r).value)
place-below b o CalAddress r h = omega (arith, (registers-below b r).address)
place-below b o CalBase14 r h =
    omega (
      arith,
      weight_le (tdbusy b.calibration) 64,
      weight_le (eebusy b.calibration) 32,
      weight_le (on b.calibration.cmuxen) 16,
      weight_le (tdbusy b.calibration) 8,
    )
place-below b o CalBase15 r h = omega arith
place-below b o Outside r h = omega arith

-- ---- what an event brings
pub brought-below : (b : Board) (m : List ℕ) (ev : Event) → Recorded b → Below (oldest_of (queue b.fifo m)) → value_brought b (queue b.fifo m) ev < 65536
unfolding value_brought
brought-below b m (WriteByte n v) r h = omega arith
brought-below b m (ReadByte n) r h = place-below b (oldest_of (queue b.fifo m)) (place_of b.registers.page n) r h
brought-below b m (ReadWord n) r h = h
brought-below b m (ConversionEnd code) r h = omega arith
brought-below b m (DinPins d) r h = omega arith
brought-below b m (LatchLevel level) r h = omega arith
brought-below b m (PortPins q v) r h = omega arith
brought-below b m Tick r h = omega arith
brought-below b m TransferEnd r h = omega arith
