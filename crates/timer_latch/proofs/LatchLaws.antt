-- Theorems that rest on theorems of specs/LatchLaws.antt, and promise as those do. What specs/LatchLaws.antt says of itself:
-- What the theorem of Latch rests on: what each happening leaves of a counter whose count is latched.
use Rattle.std.specs.Prelude.{ℕ, ◌≡◌, Bool, ◌&&◌, ◌||◌, List, [], ◌∷◌, if◌then◌else◌, Some, Result, Ok, Err}
use Rattle.std.proofs.Common.{sym, ◌∙◌}
use Rattle.std.proofs.Math.Path.{refl}
use Rattle.std.proofs.Math.Bool.{true, false, not}
use Rattle.base.specs.Fields.{field}
use Rattle.base.specs.Laws.{by_choice, never, both, not_true, under_and}
use Rattle.counter_modes.specs.Control.{command}
use Rattle.counter_modes.specs.declared.Mode.{Mode}
use Rattle.counter_modes.specs.declared.Format.TheVariants.{TwoBytes}
use Rattle.counter_modes.specs.declared.ControlCommand.{ControlCommand}
use Rattle.counter_modes.specs.declared.ControlCommand.TheVariants.{LatchCount, Program, NotModelled}
use Rattle.counter_bytes.specs.Bytes.{piece_of}
use Rattle.counter_bytes.specs.declared.Piece.{Piece}
use Rattle.counter_bytes.specs.declared.Piece.TheVariants.{First, Whole}
use Rattle.counter_one.specs.Counter.{gate_moved, byte_written, piece_refused, piece_written, commanded_by, commanded, latched_as}
use Rattle.counter_one.specs.Pulsed.{control-gated, bus-gated}
use Rattle.counter_one.specs.declared.Counter.{Counter}
use Rattle.timer.specs.Timer.{counter_of, moved, gates_moved}
use Rattle.timer.specs.declared.Timer.{Timer}
use Rattle.timer.specs.declared.Gates.{Gates}
use Rattle.timer.specs.declared.Select.{Select}
use Rattle.timer.specs.declared.Select.TheVariants.{Counter0, Counter1, Counter2}
use Rattle.timer.specs.Bus.{selected, control_word_refused, control_word_written, count_refused, count_written, timer_read}
use Rattle.timer_latch.specs.Happenings.{Chip, ChipEvent, clock, gates, read, count, control, after_write, next, chip_after, same_counter, programs}
use Rattle.timer_latch.specs.Happenings.{spares_counter, all_spare}
use Rattle.base.specs.Checks.{refused_by}
use Rattle.base.specs.declared.Refusal.{Refusal}
use Rattle.timer_latch.specs.LatchLaws.{HeldAt, LatchHeld, moved_has, pulsed-held, put_has, same-held}

module _ {m : Mode} {v : ℕ} {half : Bool} where
  gated-held : (c : Counter) (g h : Bool) → LatchHeld m v half c → LatchHeld m v half (gate_moved c g h)
  gated-held c g h = same-held c (gate_moved c g h) (control-gated c g h) (bus-gated c g h)

  -- "reads and writes of the same Counter may be interleaved"
  piece_held : (c : Counter) (q : Piece) → LatchHeld m v half c → LatchHeld m v half (piece_written m c q)
  piece_held c (First b) h = record { set = h.set; latched = h.latched; latch = h.latch; halfread = h.halfread }
  piece_held c (Whole n) h = record { set = h.set; latched = h.latched; latch = h.latch; halfread = h.halfread }

  written_held : (c : Counter) (b : ℕ) → LatchHeld m v half c → LatchHeld m v half (byte_written c b)
  unfolding byte_written
  written_held c b h =
      let q = piece_of TwoBytes c.bus b in
      rw h.set (by_choice (LatchHeld m v half) (piece_refused m q) {x = c} {y = piece_written m c q} h (piece_held c q h))

  -- "the second Counter Latch Command is ignored"
  commanded-held : (c : Counter) (w : ℕ) → programs (command w) ≡ false → LatchHeld m v half c → LatchHeld m v half (commanded c w)
  unfolding commanded
  commanded-held c w e h = go (command w) e
    where
      go : (o : ControlCommand) → programs o ≡ false → LatchHeld m v half (commanded_by o c w)
      go LatchCount e = rw h.set (same-held c (latched_as (Some (TwoBytes, m)) c) refl (rw h.latched) h)
      go (Program f n) e = never (sym e)
      go NotModelled e = h

-- ---- the counter s of three
module _ (m : Mode) (v : ℕ) (half : Bool) where
  gates-held : (t : Timer) (g h : Gates) (s : Select) → HeldAt m v half s t → HeldAt m v half s (gates_moved t g h)
  unfolding gates_moved
  gates-held t g h Counter0 p = gated-held t.counter0 g.gate0 h.gate0 p
  gates-held t g h Counter1 p = gated-held t.counter1 g.gate12 h.gate12 p
  gates-held t g h Counter2 p = gated-held t.counter2 g.gate12 h.gate12 p

  read_held : (t : Timer) (x s : Select) → not (same_counter s x) ≡ true → HeldAt m v half s t → HeldAt m v half s (timer_read t x).timer
  unfolding timer_read
  read_held t x s e p = put_has (LatchHeld m v half) t x s _ p (λ f. never (sym (not_true (same_counter s x) e) ∙ f))

  count_held : (t : Timer) (x s : Select) (b : ℕ) (g : Gates) → HeldAt m v half s t → HeldAt m v half s (after_write t (count_written t x b g))
  unfolding count_written
  count_held t x s b g p =
      by_choice (λ (w : Result Timer Refusal). HeldAt m v half s (after_write t w)) (count_refused t x b) {x = Err (refused_by 7)}
      {y = Ok (moved t x (byte_written (counter_of t x) b) g)} p
      (moved_has (LatchHeld m v half) pulsed-held t x s _ g p (λ e. written_held (counter_of t x) b))

  control-held : (t : Timer) (s : Select) (w : ℕ) (g : Gates)
      → control_word_refused w || not (same_counter s (selected (field w 6 2)) && programs (command w)) ≡ true
      → HeldAt m v half s t → HeldAt m v half s (after_write t (control_word_written t w g))
  unfolding control_word_written
  control-held t s w g e p = go (control_word_refused w) e
    where
      go : (r : Bool) → r || not (same_counter s (selected (field w 6 2)) && programs (command w)) ≡ true
          → HeldAt m v half s
          (after_write t (if r then Err (refused_by 7) else Ok (moved t (selected (field w 6 2)) (commanded (counter_of t (selected (field w 6 2))) w) g)))
      go true e = p
      go false e =
          let x = selected (field w 6 2) in
          moved_has (LatchHeld m v half) pulsed-held t x s _ g p
          (λ f. commanded-held (counter_of t x) w (under_and (same_counter s x) (programs (command w)) (not_true _ e) f))

  next-held : (c : Chip) (s : Select) (h : ChipEvent) → spares_counter s h ≡ true → HeldAt m v half s c.timer → HeldAt m v half s (next c h).timer
  next-held c s (clock x) e p = moved_has (LatchHeld m v half) pulsed-held c.timer x s _ c.levels p (λ f. pulsed-held _ _)
  next-held c s (gates g) e p = gates-held c.timer c.levels g s p
  next-held c s (read x) e p = read_held c.timer x s e p
  next-held c s (count x b) e p = count_held c.timer x s b c.levels p
  next-held c s (control w) e p = control-held c.timer s w c.levels e p

  pub after-held : (c : Chip) (s : Select) (x : List ChipEvent) → all_spare s x ≡ true → HeldAt m v half s c.timer → HeldAt m v half s (chip_after c x).timer
  after-held c s [] e p = p
  after-held c s (h ∷ x) e p = let b = both (spares_counter s h) (all_spare s x) e in after-held (next c h) s x b.1 (next-held c s h b.0 p)
