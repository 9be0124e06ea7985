-- A tick, part by part: the counters with the dividers, TINT, the trigger and DACBUSY. What "counter 0, counter 1, counter 2, then DACBUSY" leaves of each.
use Rattle.std.specs.Prelude.{ℕ, ◌≤◌, ◌≡◌, refl, Bool, true, false, ◌&&◌, ◌||◌, if◌then◌else◌}
use Rattle.std.proofs.Common.{ap, ◌∙◌}
use Rattle.base.specs.Flags.{on, flag, flag-on, flag-le}
use Rattle.converter.specs.Channels.{internal_triggered}
use Rattle.converter.specs.declared.channels.Converter.{Converter}
use Rattle.requests.specs.Requests.{with_flags, asked_timer}
use Rattle.requests.specs.declared.Requests.{Requests}
use Rattle.counter_one.specs.Counter.{pulsed}
use Rattle.counter_one.specs.declared.Counter.{Counter}
use Rattle.outputs.specs.Outputs as outputs
use Rattle.counter_one.specs.Falls.{fell, no_fall}
use Rattle.timer.specs.Timer.{out, put, moved, clocked_if}
use Rattle.timer.specs.declared.Timer.{Timer}
use Rattle.timer.specs.declared.Gates.{Gates}
use Rattle.timer.specs.declared.Select.TheVariants.{Counter0, Counter1, Counter2}
use Rattle.machine_record.specs.Parts.{with_converter, with_requests, with_clocks}
use Rattle.machine_record.specs.declared.Clocks.{Clocks}
use Rattle.machine_record.specs.declared.Board.{Board}
use Rattle.machine_clock.specs.Clock.{gates, with_timer, timer_moved}
use Rattle.machine_tick.specs.Tick.{clock0, clock1, next_tick, dividers_ticked, counter0_ticked, counter1_ticked, outputs_ticked, ticked}

-- ---- the counters and the dividers after a tick, by the byte of Base+10 and the gates
abbrev pub pulsed_if : Bool → Counter → Bool → Counter
pulsed_if clocks k gate = if clocks then pulsed k gate else k

abbrev pub counter0_of : ℕ → Gates → Clocks → Counter
counter0_of counting g l = pulsed_if (clock0 counting (next_tick l.thousand 999)) l.timer.counter0 g.gate0

abbrev pub counter1_of : ℕ → Gates → Clocks → Counter
counter1_of counting g l = pulsed_if (clock1 counting (next_tick l.hundred 99)) l.timer.counter1 g.gate12

abbrev pub counter2_of : ℕ → Gates → Clocks → Counter
counter2_of counting g l = pulsed_if (fell (out l.timer Counter1) (on (counter1_of counting g l).count.out)) l.timer.counter2 g.gate12

unfoldable pub clocks_ticked : ℕ → Gates → Clocks → Clocks
clocks_ticked counting g l = record {
  timer = record { counter0 = counter0_of counting g l; counter1 = counter1_of counting g l; counter2 = counter2_of counting g l };
  hundred = next_tick l.hundred 99;
  thousand = next_tick l.thousand 999;
}

-- whether OUT0, or OUT2, falls from one to another
abbrev pub falls0 : Clocks → Clocks → Bool
falls0 was is = fell (out was.timer Counter0) (out is.timer Counter0)

abbrev pub falls2 : Clocks → Clocks → Bool
falls2 was is = fell (out was.timer Counter2) (out is.timer Counter2)

-- ---- the whole tick, of a board whose clocks become l
abbrev pub ticked_to : Board → Clocks → Board
ticked_to b l = record {
  converter = internal_triggered b.converter (on b.requests.clksel) (falls2 b.clocks l);
  requests = asked_timer b.requests (falls0 b.clocks l);
  fifo = b.fifo;
  registers = b.registers;
  outputs = outputs.dac_ticked b.outputs;
  clocks = l;
  ports = b.ports;
  calibration = b.calibration;
  pins = b.pins;
  wiring = b.wiring;
}

-- ---- no edge, no trigger and no request
pub no_edge : (c : Converter) (a s : Bool) → a ≡ false → internal_triggered c s a ≡ c
no_edge c a s h = rw (h, by (on c.clken) s)
  where
    by : (k s : Bool) → k && s && false ≡ false
    by true true = refl
    by true false = refl
    by false s = refl

pub no_ask : (r : Requests) (a : Bool) → r.flags.tint ≤ 1 → a ≡ false → asked_timer r a ≡ r
no_ask r a w h =
    ap (λ (x : ℕ). with_flags r (record { adint = r.flags.adint; dint = r.flags.dint; tint = x }))
    (rw h (by (on r.flags.tint) (on r.tinte) (flag-on _ w)))
  where
    by : (t e : Bool) {n : ℕ} → flag t ≡ n → flag (t || e && false) ≡ n
    by true e h = h
    by false true h = h
    by false false h = h

-- ---- a timer whose counter 0, or 1, has a pulse or none
timer0 : (t : Timer) (g : Gates) (p : Bool) → clocked_if t Counter0 g p ≡ put t Counter0 (pulsed_if p t.counter0 g.gate0)
unfolding clocked_if moved
timer0 t g true = rw (no_fall (out t Counter1))
timer0 t g false = refl

abbrev chain : Timer → Gates → Counter → Timer
chain t g k = record {
  counter0 = t.counter0;
  counter1 = k;
  counter2 = pulsed_if (fell (out t Counter1) (on k.count.out)) t.counter2 g.gate12;
}

falls : (t : Timer) (g : Gates) (k : Counter) (x : Bool)
    → (if x then put (put t Counter1 k) Counter2 (pulsed t.counter2 g.gate12) else put t Counter1 k)
    ≡ record { counter0 = t.counter0; counter1 = k; counter2 = pulsed_if x t.counter2 g.gate12 }
falls t g k true = refl
falls t g k false = refl

timer1 : (t : Timer) (g : Gates) (p : Bool) → clocked_if t Counter1 g p ≡ chain t g (pulsed_if p t.counter1 g.gate12)
unfolding clocked_if moved
timer1 t g true = falls t g (pulsed t.counter1 g.gate12) (fell (out t Counter1) (on (pulsed t.counter1 g.gate12).count.out))
timer1 t g false = rw (no_fall (out t Counter1))

turned0 : (b : Board) (k : Counter)
    → timer_moved b (put b.clocks.timer Counter0 k)
    ≡ with_requests (with_clocks b (with_timer b.clocks (put b.clocks.timer Counter0 k)))
    (asked_timer b.requests (fell (out b.clocks.timer Counter0) (on k.count.out)))
unfolding timer_moved
turned0 b k =
    ap (λ (c : Converter). with_converter
    (with_requests (with_clocks b (with_timer b.clocks (put b.clocks.timer Counter0 k)))
    (asked_timer b.requests (fell (out b.clocks.timer Counter0) (on k.count.out)))) c)
    (no_edge b.converter _ (on b.requests.clksel) (no_fall (out b.clocks.timer Counter2)))

turned1 : (b : Board) (t : Timer) → b.requests.flags.tint ≤ 1 → t.counter0 ≡ b.clocks.timer.counter0
    → timer_moved b t
    ≡ with_converter (with_clocks b (with_timer b.clocks t))
    (internal_triggered b.converter (on b.requests.clksel) (fell (out b.clocks.timer Counter2) (out t Counter2)))
unfolding timer_moved
turned1 b t w h =
    ap (λ (r : Requests). with_converter (with_requests (with_clocks b (with_timer b.clocks t)) r)
    (internal_triggered b.converter (on b.requests.clksel) (fell (out b.clocks.timer Counter2) (out t Counter2))))
    (no_ask b.requests _ w (rw h (no_fall (out b.clocks.timer Counter0))))

-- ---- counter 0, then counter 1
abbrev clocked0 : Board → Counter
clocked0 b = pulsed_if (clock0 b.registers.counting b.clocks.thousand) b.clocks.timer.counter0 (gates b).gate0

abbrev clocked1 : Board → Timer
clocked1 b = chain b.clocks.timer (gates b) (pulsed_if (clock1 b.registers.counting b.clocks.hundred) b.clocks.timer.counter1 (gates b).gate12)

step0 : (b : Board)
    → counter0_ticked b
    ≡ with_requests (with_clocks b (with_timer b.clocks (put b.clocks.timer Counter0 (clocked0 b))))
    (asked_timer b.requests (fell (out b.clocks.timer Counter0) (on (clocked0 b).count.out)))
unfolding counter0_ticked
step0 b = ap (timer_moved b) (timer0 b.clocks.timer (gates b) (clock0 b.registers.counting b.clocks.thousand)) ∙ turned0 b (clocked0 b)

step1 : (b : Board) → b.requests.flags.tint ≤ 1
    → counter1_ticked b
    ≡ with_converter (with_clocks b (with_timer b.clocks (clocked1 b)))
    (internal_triggered b.converter (on b.requests.clksel) (fell (out b.clocks.timer Counter2) (out (clocked1 b) Counter2)))
unfolding counter1_ticked
step1 b w = ap (timer_moved b) (timer1 b.clocks.timer (gates b) (clock1 b.registers.counting b.clocks.hundred)) ∙ turned1 b (clocked1 b) w refl

asked-le : (r : Requests) (f : Bool) → (asked_timer r f).flags.tint ≤ 1
asked-le r f = flag-le (on r.flags.tint || on r.tinte && f)

-- ---- a tick is what the clocks after it bring about
pub tick_of : (b : Board) → ticked b ≡ ticked_to b (clocks_ticked b.registers.counting (gates b) b.clocks)
unfolding ticked outputs_ticked dividers_ticked clocks_ticked
tick_of b =
    ap (λ (x : Board). outputs_ticked (counter1_ticked x)) (step0 (dividers_ticked b))
    ∙ ap outputs_ticked
    (step1 _ (asked-le b.requests (fell (out b.clocks.timer Counter0) (on (counter0_of b.registers.counting (gates b) b.clocks).count.out))))
