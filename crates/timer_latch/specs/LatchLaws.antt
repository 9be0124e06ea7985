-- What the theorem of Latch rests on: what each happening leaves of a counter whose count is latched.
use Rattle.std.specs.Prelude.{ℕ, ◌/◌, ◌%◌, ◌<◌, ◌≡◌, Bool, List, [], ◌∷◌, ◌++◌, Some, Result, Ok}
use Rattle.std.proofs.Common.{arith, ap, ◌∙◌}
use Rattle.std.proofs.Math.Path.{refl, subst⁻¹}
use Rattle.std.proofs.Math.Bool.{true, false}
use Rattle.base.specs.Flags.{on}
use Rattle.base.specs.Laws.{by_choice}
use Rattle.counter_modes.specs.Control.{command, setup_of, word_refused}
use Rattle.counter_modes.specs.declared.Mode.{Mode}
use Rattle.counter_modes.specs.declared.Format.TheVariants.{TwoBytes}
use Rattle.counter_modes.specs.declared.ControlCommand.TheVariants.{LatchCount}
use Rattle.counter_bytes.specs.declared.Bus.{Bus}
use Rattle.counter_one.specs.Counter.{pulsed, counter_read, commanded, latched_as}
use Rattle.counter_one.specs.Pulsed.{control-pulsed, bus-pulsed}
use Rattle.counter_one.specs.declared.Counter.{Counter}
use Rattle.counter_one.specs.Falls.{fell}
use Rattle.timer.specs.Timer.{counter_of, gate_of, out, put, cascaded, moved}
use Rattle.timer.specs.declared.Timer.{Timer}
use Rattle.timer.specs.declared.Gates.{Gates}
use Rattle.timer.specs.declared.Select.{Select}
use Rattle.timer.specs.declared.Select.TheVariants.{Counter0, Counter1, Counter2}
use Rattle.timer.specs.Bus.{control_word_refused, control_word_written, timer_read}
use Rattle.timer_latch.specs.Happenings.{Chip, ChipEvent, control, after_write, next, chip_after, same_counter}
use Rattle.timer_latch.specs.Happenings.{sc_of, latch_command, Unread}
use Rattle.base.specs.declared.Refusal.{Refusal}

-- a counter for two-byte counts with the count v latched, and its first byte read or not
pub record LatchHeld (m : Mode) (v : ℕ) (half : Bool) (c : Counter) : Type 0 where
  pub set : setup_of c.control ≡ Some (TwoBytes, m)
  pub latched : on c.bus.latched ≡ true
  pub latch : c.bus.latch ≡ v
  pub halfread : on c.bus.halfread ≡ half

module _ {m : Mode} {v : ℕ} {half : Bool} where
  -- ---- one counter
  pub same-held : (c d : Counter) → d.control ≡ c.control → d.bus ≡ c.bus → LatchHeld m v half c → LatchHeld m v half d
  same-held c d e b h = record {
    set = ap setup_of e ∙ h.set;
    latched = ap (λ (s : Bus). on s.latched) b ∙ h.latched;
    latch = ap (λ (s : Bus). s.latch) b ∙ h.latch;
    halfread = ap (λ (s : Bus). on s.halfread) b ∙ h.halfread;
  }

  pub pulsed-held : (c : Counter) (g : Bool) → LatchHeld m v half c → LatchHeld m v half (pulsed c g)
  pulsed-held c g = same-held c (pulsed c g) (control-pulsed c g) (bus-pulsed c g)

-- ---- the counter s of three
module _ (P : Counter → Type 0) where
  pub put_has : (t : Timer) (x s : Select) (d : Counter) → P (counter_of t s) → (same_counter s x ≡ true → P (counter_of t x) → P d)
      → P (counter_of (put t x d) s)
  put_has t Counter0 Counter0 d p q = q refl p
  put_has t Counter0 Counter1 d p q = p
  put_has t Counter0 Counter2 d p q = p
  put_has t Counter1 Counter0 d p q = p
  put_has t Counter1 Counter1 d p q = q refl p
  put_has t Counter1 Counter2 d p q = p
  put_has t Counter2 Counter0 d p q = p
  put_has t Counter2 Counter1 d p q = p
  put_has t Counter2 Counter2 d p q = q refl p

  put_same : (t : Timer) (s : Select) (d : Counter) → P d → P (counter_of (put t s d) s)
  put_same t Counter0 d p = p
  put_same t Counter1 d p = p
  put_same t Counter2 d p = p

  -- what a CLK pulse keeps, the cascade keeps
  module _ (k : (c : Counter) (g : Bool) → P c → P (pulsed c g)) where
    cascaded_has : (t a : Timer) (s : Select) (g : Gates) → P (counter_of a s) → P (counter_of (cascaded t a g) s)
    cascaded_has t a s g p =
        by_choice (λ (u : Timer). P (counter_of u s)) (fell (out t Counter1) (out a Counter1)) {x = put a Counter2 (pulsed a.counter2 (gate_of g Counter2))}
        {y = a}
        (put_has a Counter2 s _ p (λ e. k a.counter2 (gate_of g Counter2))) p

    pub moved_has : (t : Timer) (x s : Select) (d : Counter) (g : Gates) → P (counter_of t s) → (same_counter s x ≡ true → P (counter_of t x) → P d)
        → P (counter_of (moved t x d g) s)
    unfolding moved
    moved_has t x s d g p q = cascaded_has t (put t x d) s g (put_has t x s d p q)

    moved_same : (t : Timer) (s : Select) (d : Counter) (g : Gates) → P d → P (counter_of (moved t s d g) s)
    unfolding moved
    moved_same t s d g p = cascaded_has t (put t s d) s g (put_same t s d p)

module _ (m : Mode) (v : ℕ) (half : Bool) where
  abbrev pub HeldAt : Select → Timer → Type 0
  HeldAt s t = LatchHeld m v half (counter_of t s)

-- ---- the latch command
sc_latched : (s : Select) (x : ℕ) → x < 16 → latch_command s x / 64 % 4 ≡ sc_of s
sc_latched Counter0 x h = omega arith
sc_latched Counter1 x h = omega arith
sc_latched Counter2 x h = omega arith

rw_latched : (s : Select) (x : ℕ) → x < 16 → latch_command s x / 16 % 4 ≡ 0
rw_latched Counter0 x h = omega arith
rw_latched Counter1 x h = omega arith
rw_latched Counter2 x h = omega arith

is-latch : (s : Select) (x : ℕ) → x < 16 → command (latch_command s x) ≡ LatchCount
unfolding command
is-latch s x h = rw (rw_latched s x h)

latch_accepted : (t : Timer) (s : Select) (x : ℕ) → x < 16 → (g : Gates)
    → control_word_written t (latch_command s x) g ≡ Ok (moved t s (latched_as (setup_of (counter_of t s).control) (counter_of t s)) g)
unfolding control_word_written control_word_refused word_refused commanded
latch_accepted t Counter0 x h g = rw (is-latch Counter0 x h, sc_latched Counter0 x h)
latch_accepted t Counter1 x h g = rw (is-latch Counter1 x h, sc_latched Counter1 x h)
latch_accepted t Counter2 x h g = rw (is-latch Counter2 x h, sc_latched Counter2 x h)

module _ (m : Mode) where
  latched-held : (c : Counter) → Unread m c → LatchHeld m c.count.element false (latched_as (setup_of c.control) c)
  latched-held c u = rw u.set (record { set = u.set; latched = rw u.unlatched; latch = rw u.unlatched; halfread = rw u.unlatched u.whole })

  pub latch-held : (c : Chip) (s : Select) (x : ℕ) → x < 16 → Unread m (counter_of c.timer s)
      → LatchHeld m (counter_of c.timer s).count.element false (counter_of (next c (control (latch_command s x))).timer s)
  latch-held c s x h u =
      let v = (counter_of c.timer s).count.element in
      subst⁻¹ (λ (w : Result Timer Refusal). LatchHeld m v false (counter_of (after_write c.timer w) s)) (latch_accepted c.timer s x h c.levels)
      (moved_same (LatchHeld m v false) pulsed-held c.timer s _ c.levels (latched-held (counter_of c.timer s) u))

  -- ---- the two reads
  pub first_byte : (v : ℕ) (t : Timer) (s : Select) → LatchHeld m v false (counter_of t s) → (timer_read t s).byte ≡ v % 256
  unfolding timer_read counter_read
  first_byte v t s h = rw (h.set, h.halfread, h.latched, h.latch)

  pub first_read : (v : ℕ) (t : Timer) (s : Select) → LatchHeld m v false (counter_of t s) → LatchHeld m v true (counter_of (timer_read t s).timer s)
  unfolding timer_read counter_read
  first_read v t s h =
      put_same (LatchHeld m v true) t s _ (rw (h.set, h.halfread) (record { set = h.set; latched = h.latched; latch = h.latch; halfread = refl }))

  pub second-byte : (v : ℕ) (t : Timer) (s : Select) → LatchHeld m v true (counter_of t s) → (timer_read t s).byte ≡ v / 256
  unfolding timer_read counter_read
  second-byte v t s h = rw (h.set, h.halfread, h.latched, h.latch)

  pub second-read : (v : ℕ) (t : Timer) (s : Select) → LatchHeld m v true (counter_of t s) → Unread m (counter_of (timer_read t s).timer s)
  unfolding timer_read counter_read
  second-read v t s h = put_same (Unread m) t s _ (rw (h.set, h.halfread) (record { set = h.set; unlatched = refl; whole = refl }))

-- ---- one run after another
pub after_append : (c : Chip) (x y : List ChipEvent) → chip_after c (x ++ y) ≡ chip_after (chip_after c x) y
after_append c [] y = refl
after_append c (h ∷ x) y = after_append (next c h) x y
