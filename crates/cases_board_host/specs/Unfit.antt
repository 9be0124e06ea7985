-- No spoiled board is a working one, whatever it was before and whatever its sample memory holds: each number from 05 to 23 hex puts
-- something out of its range, each from 24 to 49 makes a flag 2, and 4A and 4B leave no place of the oldest sample that a working board has.
use Rattle.std.specs.Prelude.{ℕ, ◌+◌, ◌-◌, ◌≤◌, ◌<◌, ◌≡◌, refl, Bool, true, false, List, eqb, ltb, leb, if◌then◌else◌}
use Rattle.std.proofs.Common.{sym, subst, arith, ltb-true, ltb-false, leb-true, leb-false}
use Rattle.std.proofs.lemmas.Bool.{eqb-false}
use Rattle.counter_modes.specs.Control.{command, setup_of}
use Rattle.counter_one.specs.Counter.{unprogrammed, commanded}
use Rattle.counter_one.specs.Working.{WorkingCounter}
use Rattle.counter_one.specs.declared.Counter.{Counter}
use Rattle.fifo.specs.Queue.{WorkingFifo}
use Rattle.base.specs.Laws.{never}
use Rattle.fifo.specs.declared.Fifo.{Fifo}
use Rattle.machine_record.specs.Working.{WorkingMachine}
use Rattle.machine_record.specs.declared.Board.{Board}
use Rattle.outputs.specs.Working.{WorkingLoad, WorkingOutputs}
use Rattle.outputs.specs.declared.Outputs.{Outputs}
use Rattle.ports.specs.Working.{WorkingControl, WorkingPorts}
use Rattle.ports.specs.declared.Ports.{Ports}
use Rattle.cases_board_host.specs.Spoils.{spoiled_fifo, spoiled_converter, one_to_load, out_low, mode1, spoiled_counter, spoiled_counter0}
use Rattle.cases_board_host.specs.Spoils.{spoiled_timer, spoiled_clocks, spoiled_outputs, spoiled_ports, spoiled_calibration}
use Rattle.cases_board_host.specs.Spoils.{spoiled_registers, spoiled_pins, spoiled_wiring, spoiled_ranges, spoiled}
use Rattle.cases_board_host.specs.SpoiledFlags.{damaged_flag, damaged_converter, damaged_requests, damaged_fifo, damaged_outputs, place_from}
use Rattle.cases_board_host.specs.SpoiledFlags.{damaged_count, damaged_bus, damaged_counter, damaged_timer, damaged_clocks, damaged_calibration, damaged}

abbrev Not : ℕ → ℕ → Type 0
Not n k = n ≡ k → ⊥

-- ---- what is fit after a choice of something unfit is what was there before: the number is another
passed : {A : Type 0} (P : A → Type 0) (t : Bool) (x y : A) → (P x → ⊥) → P (if t then x else y) → (t ≡ false) × P y
passed P true x y bad h = absurd (bad h)
passed P false x y bad h = (refl, h)

too_large : (x m : ℕ) → ltb m x ≡ true → x ≤ m → ⊥
too_large x m l h = let z : m < x = ltb-true m x l in omega (arith, z, h)

above : (n k x y m : ℕ) → ltb m x ≡ true → (if eqb n k then x else y) ≤ m → Not n k
above n k x y m l h = eqb-false n k (passed (λ (v : ℕ). v ≤ m) (eqb n k) x y (too_large x m l) h).0

next : (k n : ℕ) → k ≤ n → Not n k → k + 1 ≤ n
next k n h f = by (leb (k + 1) n) refl
  where
    by : (b : Bool) → leb (k + 1) n ≡ b → k + 1 ≤ n
    by true t = leb-true _ _ t
    by false t = absurd (f (let g : n < k + 1 = leb-false (k + 1) n t in omega (arith, g, h)))

-- ---- the parts
-- 05, 06, 21
in_fifo : (f : Fifo) (memory : List ℕ) (n : ℕ) → WorkingFifo (spoiled_fifo f n) memory → Not n 0x05 × Not n 0x06 × Not n 0x21
unfolding spoiled_fifo
in_fifo f memory n w =
    let a = passed P (eqb n 0x05) _ _ (λ v. too_large 513 512 refl v.held) w in
    let b = passed P (eqb n 0x06) _ _ (λ v. let e : ◌≡◌ {A = ℕ} 511 512 = v.ovf refl in omega (arith, e)) a.1 in
    let c = passed P (eqb n 0x21) _ _ (λ v. let e : ◌≡◌ {A = ℕ} 0 512 = v.ovf refl in omega (arith, e)) b.1 in
    (eqb-false _ _ a.0, eqb-false _ _ b.0, eqb-false _ _ c.0)
  where
    P : Fifo → Type 0
    P g = WorkingFifo g memory

one-to_load_unfit : WorkingCounter one_to_load → ⊥
unfolding one_to_load commanded command setup_of
one-to_load_unfit w = w.facts.1 refl refl

out-low_unfit : WorkingCounter out_low → ⊥
unfolding out_low command setup_of
out-low_unfit w = never w.facts.1

mode_1_unfit : WorkingCounter mode1 → ⊥
unfolding mode1 command setup_of
mode_1_unfit w = let e : ◌≡◌ {A = ℕ} 0x12 0 = w.facts.0 in omega (arith, e)

in_counter : (c : Counter) (n one low : ℕ) → WorkingCounter (spoiled_counter c n one low) → Not n one × Not n low
unfolding spoiled_counter
in_counter c n one low w =
    let a = passed WorkingCounter (eqb n one) _ _ one-to_load_unfit w in
    let b = passed WorkingCounter (eqb n low) _ _ out-low_unfit a.1 in
    (eqb-false _ _ a.0, eqb-false _ _ b.0)

-- 1B, 0E, 0F
in_counter_0 : (c : Counter) (n : ℕ) → WorkingCounter (spoiled_counter0 c n) → Not n 0x1B × Not n 0x0E × Not n 0x0F
unfolding spoiled_counter0
in_counter_0 c n w =
    let a = passed WorkingCounter (eqb n 0x1B) _ _ mode_1_unfit w in
    let b = in_counter c n 0x0E 0x0F a.1 in
    (eqb-false _ _ a.0, b.0, b.1)

-- 13, 14
in_load : (o : Outputs) (n : ℕ) → WorkingOutputs (spoiled_outputs o n) → Not n 0x13 × Not n 0x14
unfolding spoiled_outputs
in_load o n w =
    let a = passed WorkingLoad (eqb n 0x13) _ _ (λ v. too_large 4 3 refl v.channel) w.load in
    let b = passed WorkingLoad (eqb n 0x14) _ _ (λ v. too_large 4096 4095 refl v.code) a.1 in
    (eqb-false _ _ a.0, eqb-false _ _ b.0)

-- 15, 16, 22, 23
in_ports : (p : Ports) (n : ℕ) → WorkingPorts (spoiled_ports p n) → Not n 0x15 × Not n 0x16 × Not n 0x22 × Not n 0x23
unfolding spoiled_ports
in_ports p n w =
    let a = passed WorkingControl (eqb n 0x15) _ _ (λ v. never v.set) w.control in
    let b = passed WorkingControl (eqb n 0x16) _ _ (λ v. set v.mode_c) a.1 in
    let c = passed WorkingControl (eqb n 0x22) _ _ (λ v. set v.mode_a) b.1 in
    let d = passed WorkingControl (eqb n 0x23) _ _ (λ v. set v.mode_b) c.1 in
    (eqb-false _ _ a.0, eqb-false _ _ b.0, eqb-false _ _ c.0, eqb-false _ _ d.0)
  where
    set : true ≡ false → ⊥
    set e = never (sym e)

-- ---- the numbers 05 to 23
unfit-ranges : (b : Board) (memory : List ℕ) (n : ℕ) → 0x05 ≤ n → n ≤ 0x23
    → WorkingMachine (spoiled_ranges b n) → WorkingFifo (spoiled_ranges b n).fifo memory → ⊥
unfolding spoiled_ranges spoiled_converter spoiled_timer spoiled_clocks spoiled_outputs spoiled_calibration spoiled_registers spoiled_pins spoiled_wiring
unfit-ranges b memory n from to w f =
    let q = in_fifo b.fifo memory n f in
    let c0 = in_counter_0 _ n w.clocks.timer.counter0 in
    let c1 = in_counter _ n 0x1D 0x1F w.clocks.timer.counter1 in
    let c2 = in_counter _ n 0x1E 0x20 w.clocks.timer.counter2 in
    let l = in_load _ n w.outputs in
    let p = in_ports _ n w.ports in
    let n06 = next 0x05 n from q.0 in
    let n07 = next 0x06 n n06 q.1 in
    let n08 = next 0x07 n n07 (above n _ 32 _ 31 refl w.converter.selected) in
    let n09 = next 0x08 n n08 (above n _ 32 _ 31 refl w.converter.low) in
    let n0A = next 0x09 n n09 (above n _ 32 _ 31 refl w.converter.high) in
    let n0B = next 0x0A n n0A (above n _ 32 _ 31 refl w.converter.channel) in
    let n0C = next 0x0B n n0B (above n _ 101 _ 100 refl w.outputs.busy) in
    let n0D = next 0x0C n n0C (above n _ 100 _ 99 refl w.clocks.hundred) in
    let n0E = next 0x0D n n0D (above n _ 1000 _ 999 refl w.clocks.thousand) in
    let n0F = next 0x0E n n0E c0.1 in
    let n10 = next 0x0F n n0F c0.2 in
    let n11 = next 0x10 n n10 (above n _ 16 _ 15 refl w.din) in
    let n12 = next 0x11 n n11 (above n _ 4 _ 3 refl w.registers.page) in
    let n13 = next 0x12 n n12 (above n _ 4096 _ 4095 refl w.outputs.codes.out0) in
    let n14 = next 0x13 n n13 l.0 in
    let n15 = next 0x14 n n14 l.1 in
    let n16 = next 0x15 n n15 p.0 in
    let n17 = next 0x16 n n16 p.1 in
    let n18 = next 0x17 n n17 (above n _ 99 _ 4 refl w.calibration.transfer) in
    let n19 = next 0x18 n n18 (above n _ 128 _ 127 refl w.calibration.address) in
    let n1A = next 0x19 n n19 (above n _ 4 _ 3 refl w.inputs) in
    let n1B = next 0x1A n n1A (above n _ 16 _ 15 refl w.registers.range) in
    let n1C = next 0x1B n n1B c0.0 in
    let n1D = next 0x1C n n1C (above n _ 4096 _ 4095 refl w.outputs.codes.out3) in
    let n1E = next 0x1D n n1D c1.0 in
    let n1F = next 0x1E n n1E c2.0 in
    let n20 = next 0x1F n n1F c1.1 in
    let n21 = next 0x20 n n20 c2.1 in
    let n22 = next 0x21 n n21 q.2 in
    let n23 = next 0x22 n n22 p.2 in
    let n24 = next 0x23 n n23 p.3 in
    omega (arith, n24, to)

-- ---- the numbers 24 to 4B
-- where a flag is 0 or 1, the number is not its own
other : (n own v : ℕ) → damaged_flag v n own ≤ 1 → Not n own
unfolding damaged_flag
other n own v h = above n own 2 v 1 refl h

-- where a counter's flags are, the number has no place among its seven
in_flags : (c : Counter) (at : ℕ) → WorkingCounter (damaged_counter c at) → 7 ≤ at
unfolding damaged_counter damaged_count damaged_bus
in_flags c at w =
    let a1 = next 0 at (omega arith) (other at 0 _ w.flags.trigger) in
    let a2 = next 1 at a1 (other at 1 _ w.flags.count.out) in
    let a3 = next 2 at a2 (other at 2 _ w.flags.count.waiting) in
    let a4 = next 3 at a3 (other at 3 _ w.flags.count.loaded) in
    let a5 = next 4 at a4 (other at 4 _ w.flags.bus.latched) in
    let a6 = next 5 at a5 (other at 5 _ w.flags.bus.halfread) in
    next 6 at a6 (other at 6 _ w.flags.bus.halfwritten)

after : (n first : ℕ) → first ≤ n → 7 ≤ place_from n first → first + 7 ≤ n
unfolding place_from
after n first from h = by (ltb n first) refl h
  where
    by : (b : Bool) → ltb n first ≡ b → 7 ≤ (if b then 7 else n - first) → first + 7 ≤ n
    by true t h = absurd (let z : n < first = ltb-true n first t in omega (arith, z, from))
    by false t h = omega (arith, from, h)

unfit-flags : (b : Board) (memory : List ℕ) (n : ℕ) → 0x24 ≤ n → n ≤ 0x4B
    → WorkingMachine (damaged b n) → WorkingFifo (damaged b n).fifo memory → ⊥
unfolding damaged damaged_converter damaged_requests damaged_fifo damaged_outputs damaged_timer damaged_clocks damaged_calibration
unfit-flags b memory n from to w f =
    let n25 = next 0x24 n from (other n _ _ w.converter.converting) in
    let n26 = next 0x25 n n25 (other n _ _ w.converter.scanen) in
    let n27 = next 0x26 n n26 (other n _ _ w.converter.clken) in
    let n28 = next 0x27 n n27 (other n _ _ w.requests.fifoen) in
    let n29 = next 0x28 n n28 (other n _ _ w.requests.clksel) in
    let n2A = next 0x29 n n29 (other n _ _ w.requests.adinte) in
    let n2B = next 0x2A n n2A (other n _ _ w.requests.dinte) in
    let n2C = next 0x2B n n2B (other n _ _ w.requests.tinte) in
    let n2D = next 0x2C n n2C (other n _ _ w.requests.adint) in
    let n2E = next 0x2D n n2D (other n _ _ w.requests.dint) in
    let n2F = next 0x2E n n2E (other n _ _ w.requests.tint) in
    let n30 = next 0x2F n n2F (other n _ _ f.flag) in
    let n31 = next 0x30 n n30 (other n _ _ w.outputs.load.loaded) in
    let n38 = after n 0x31 n31 (in_flags _ _ w.clocks.timer.counter0) in
    let n3F = after n 0x38 n38 (in_flags _ _ w.clocks.timer.counter1) in
    let n46 = after n 0x3F n3F (in_flags _ _ w.clocks.timer.counter2) in
    let n47 = next 0x46 n n46 (other n _ _ w.calibration.key) in
    let n48 = next 0x47 n n47 (other n _ _ w.calibration.cmuxen) in
    let n49 = next 0x48 n n48 (other n _ _ w.latch) in
    let n4A = next 0x49 n n49 (other n _ _ w.zeroscale) in
    let n4B = next 0x4A n n4A (λ e. let h = (subst (λ (k : ℕ). WorkingFifo (damaged_fifo b.fifo k) memory) e f).place in omega (arith, h)) in
    let n4C =
    next 0x4B n n4B (λ e. let h : ◌≡◌ {A = ℕ} 5 0 = (subst (λ (k : ℕ). WorkingFifo (damaged_fifo b.fifo k) memory) e f).empty refl in omega (arith, h)) in
    omega (arith, n4C, to)

-- ---- the board
pub unfit : (b : Board) (memory : List ℕ) (n : ℕ) → 0x05 ≤ n → n ≤ 0x4B
    → WorkingMachine (spoiled b n) → WorkingFifo (spoiled b n).fifo memory → ⊥
unfolding spoiled
unfit b memory n from to w f = by (ltb n 0x24) refl w f
  where
    by : (t : Bool) → ltb n 0x24 ≡ t → WorkingMachine (if t then spoiled_ranges b n else damaged b n)
        → WorkingFifo (if t then spoiled_ranges b n else damaged b n).fifo memory → ⊥
    by true t w f = unfit-ranges b memory n from (let z : n < 0x24 = ltb-true n 0x24 t in omega (arith, z)) w f
    by false t w f = unfit-flags b memory n (let z : 0x24 ≤ n = ltb-false n 0x24 t in omega (arith, z)) to w f

-- ---- control words 54 and 94 leave counters 1 and 2 as 14 leaves counter 0
pub as_after_54 : commanded unprogrammed 0x54 ≡ commanded unprogrammed 0x14
unfolding commanded command
as_after_54 = refl

pub as_after_94 : commanded unprogrammed 0x94 ≡ commanded unprogrammed 0x14
unfolding commanded command
as_after_94 = refl
