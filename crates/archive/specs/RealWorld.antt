-- The world's events on the board of `board::step` (the specification, "Conversions, edges and requests"): an edge or a tick may begin a
-- conversion, a conversion's end ends one and may begin the next, and no other event touches conversions or samples.
use Rattle.std.specs.Prelude.{ℕ, Bool, false, ◌&&◌, ◌≡◌, ℤ, eqb, if◌then◌else◌}
use Rattle.std.proofs.Math.Bool.{true, not}
use Rattle.std.proofs.Math.Option.{none, some}
use Rattle.std.proofs.Math.Path.{refl, ap}
use Rattle.std.proofs.Common.{sym, ◌∙◌, SFits}
use Rattle.std.specs.Int.{w16}
use Rattle.base.specs.Flags.{on}
use Rattle.base.specs.Laws.{both, not_true}
use Rattle.fifo.specs.Samples.{oldest_of}
use Rattle.converter.specs.Channels.{external_trigger}
use Rattle.converter.specs.Begins.{trigger-lost}
use Rattle.converter.specs.Codes.{code_of-sample}
use Rattle.converter.specs.declared.channels.Converter.{Converter}
use Rattle.machine_tick.specs.Tick.{dividers_ticked, counter0_ticked}
use Rattle.machine_pins.specs.Pins.{fell_from, din_moved, triggers_stopped, latch_set, port_set}
use Rattle.machine_record.specs.declared.Board.{Board}
use Rattle.ports.specs.declared.Port.{Port}
use Rattle.board_refusal.specs.Refusals.{event_checks}
use Rattle.board_step.specs.Act.{din_levels, acted}
use Rattle.board_step.specs.Step.{ran}
use Rattle.board_laws.specs.Held.{Held, ran_held, happened}
use Rattle.board_laws.specs.Begins.{begins, tick_begins}
use Rattle.board_laws.specs.Conversions.{begun, din-triggered, tick-lost, counter0-same}
use Rattle.board_events.specs.declared.Din.{Din}
use Rattle.board_events.specs.declared.Event.{Event}
use Rattle.board_events.specs.declared.Event.TheVariants.{ConversionEnd, DinPins, LatchLevel, PortPins, Tick, TransferEnd}
use Rattle.board_step.specs.States.{State, Works}
use Rattle.archive_turns.specs.Machine.{View}
use Rattle.archive_turns.specs.Real.{real}
use Rattle.archive_demand.specs.World.{World, conversion_end, din_pins, latch-level, port_pins, tick, transfer-end, event_in}
use Rattle.archive_demand.specs.Laws.{starting, Happens, quiet, trigger, end}
use Rattle.archive.specs.RealViews.{holds, view_of, is_passed, HeldHappens, happens-held}

-- what an event that is not refused leaves
abbrev left : Held → Event → Held
left h ev = record { board = (ran_held h ev).board; samples = (ran_held h ev).samples; eeprom = (ran_held h ev).eeprom }

-- the view with another converter
abbrev converted : View → Converter → View
converted v c = record { converter = c; held = v.held }

-- ---- edges and ticks
-- an event that ends nothing, begins a conversion where the test says so, and else leaves the view
edge : (h x : Held) (taken test : Bool)
    → (test ≡ true → (on h.board.converter.clken ≡ true) × (on h.board.converter.converting ≡ false) × (view_of x ≡ starting (view_of h)))
    → (test ≡ false → view_of x ≡ view_of h)
    → Happens (taken && test) (if taken then none else none) (view_of h) (view_of (if taken then x else h))
edge h x true true p q = let k = p refl in trigger refl refl k.0 k.1 k.2
edge h x true false p q = quiet refl refl (q refl)
edge h x false test p q = quiet refl refl refl

-- an event that begins and ends nothing
still : (h x : Held) (taken : Bool) → view_of x ≡ view_of h
    → Happens (taken && false) (if taken then none else none) (view_of h) (view_of (if taken then x else h))
still h x true e = quiet refl refl e
still h x false e = quiet refl refl refl

-- a clock's trigger that starts a conversion: CLKEN is set, and no conversion runs
starts-idle : (clken selected falls converting : Bool) → (clken && selected && falls) && not converting ≡ true → (clken ≡ true) × (converting ≡ false)
starts-idle clken selected falls converting h =
    let t = both (clken && selected && falls) (not converting) h in
    ((both clken selected (both (clken && selected) falls t.0).0).0, not_true converting t.1)

module _ (h : Held) where
  din-happens : (d : Din) → HeldHappens h (DinPins d)
  unfolding happened event_checks ran acted begins
  din-happens d =
      let b = h.board in
      let c = h.board.converter in
      let falls = fell_from b.pins.din (din_levels d) 3 in
      let stopped = triggers_stopped (din_moved b (din_levels d)) in
      let clksel = on b.requests.clksel in
      edge h (left h (DinPins d)) (is_passed h (DinPins d)) (begins b (DinPins d))
      (λ e.
      let i = starts-idle (on c.clken && not clksel) falls (not stopped) (on c.converting) e in
      ((both (on c.clken) (not clksel) i.0).0, i.1, ap (converted (view_of h)) (begun b (oldest_of h.samples) h.eeprom (DinPins d) e)))
      (λ e. ap (converted (view_of h)) (din-triggered b (din_levels d) ∙ trigger-lost c (external_trigger c clksel falls stopped) e))

  tick-happens : HeldHappens h Tick
  unfolding happened event_checks ran acted begins
  tick-happens =
      let b = h.board in
      edge h (left h Tick) (is_passed h Tick) (begins b Tick)
      (λ e.
      let i = tick-idle b e in
      (i.0, i.1, ap (converted (view_of h)) (begun b (oldest_of h.samples) h.eeprom Tick e)))
      (λ e. ap (converted (view_of h)) (tick-lost b e))
    where
      tick-idle : (b : Board) → tick_begins b ≡ true → (on b.converter.clken ≡ true) × (on b.converter.converting ≡ false)
      tick-idle b e =
          let c = counter0_ticked (dividers_ticked b) in
          let i = starts-idle (on c.converter.clken) _ _ (on c.converter.converting) e in
          (ap (λ (x : Converter). on x.clken) (sym (counter0-same b)) ∙ i.0, ap (λ (x : Converter). on x.converting) (sym (counter0-same b)) ∙ i.1)

  -- ---- what touches neither conversions nor samples
  latch-happens : (level : ℕ) → HeldHappens h (LatchLevel level)
  unfolding happened event_checks ran acted begins latch_set
  latch-happens level = still h (left h (LatchLevel level)) (is_passed h (LatchLevel level)) refl

  port-happens : (q : Port) (v : ℕ) → HeldHappens h (PortPins q v)
  unfolding happened event_checks ran acted begins port_set
  port-happens q v = still h (left h (PortPins q v)) (is_passed h (PortPins q v)) refl

  transfer-happens : HeldHappens h TransferEnd
  unfolding happened event_checks ran acted begins
  transfer-happens = still h (left h TransferEnd) (is_passed h TransferEnd) refl

-- ---- an end
end-happens : (h : Held) (code : ℤ) → SFits w16 code → HeldHappens h (ConversionEnd code)
unfolding happened event_checks ran acted begins
end-happens h code fits = by (on h.board.converter.converting) refl
  where
    by : (t : Bool) → on h.board.converter.converting ≡ t
        → Happens (eqb (if not t then 4 else 0) 0 && begins h.board (ConversionEnd code)) (if eqb (if not t then 4 else 0) 0 then some code else none)
        (view_of h) (view_of (if eqb (if not t then 4 else 0) 0 then left h (ConversionEnd code) else h))
    by true k = end code (code_of-sample code fits) refl refl k refl
    by false k = quiet refl refl refl

-- ---- any
held-happens : (h : Held) (w : World) → HeldHappens h (event_in w)
held-happens h (conversion_end code fits) = end-happens h code fits
held-happens h (din_pins d) = din-happens h d
held-happens h (latch-level level) = latch-happens h level
held-happens h (port_pins q v) = port-happens h q v
held-happens h tick = tick-happens h
held-happens h transfer-end = transfer-happens h

pub happens : (l : State) (w : World) → Works l
    → Happens (real.begins l (event_in w)) (real.ends l (event_in w)) (real.view l) (real.view (real.stepped l (event_in w)))
happens l w k = happens-held l (event_in w) k (held-happens (holds l) w)
