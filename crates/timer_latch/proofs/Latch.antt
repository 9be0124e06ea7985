-- Theorems that rest on theorems of specs/Latch.antt, and promise as those do. What specs/Latch.antt says of itself:
-- A two-byte count that is read by the latch. Data sheet (manual, chapter 19), "Counter Latch Command": "The selected Counter's output latch (OL) latches the
-- count when the Counter Latch Command is received. This count is held in the latch until it is read by the CPU (or until the Counter is reprogrammed)".
use Rattle.std.specs.Prelude.{ℕ, ◌+◌, ◌*◌, ◌/◌, ◌%◌, ◌<◌, ◌≡◌, true, false, List, ◌∷◌}
use Rattle.std.proofs.Common.{arith}
use Rattle.std.proofs.Math.Path.{subst⁻¹}
use Rattle.counter_modes.specs.declared.Mode.{Mode}
use Rattle.timer.specs.Timer.{counter_of}
use Rattle.timer.specs.declared.Select.{Select}
use Rattle.timer_latch.specs.Happenings.{Chip, ChipEvent, read, control, next, chip_after, byte_now, all_spare, latch_command, Unread}
use Rattle.timer_latch.specs.LatchLaws.{LatchHeld, latch-held, first_byte, first_read, second-byte, second-read, after_append}
use Rattle.timer_latch.proofs.LatchLaws.{after-held}
use Rattle.timer_latch.specs.Latch.{to_first_read, to_second_read}

-- The chip is c before the command; its counter s is for two-byte counts, with nothing latched and no second byte left to read; x is the four bits that do not
-- matter. a and b are any happenings but a read of this counter and a control word that programs it: CLK pulses and moves of the gates; "read or write or
-- programming operations of other Counters may be inserted between them"; "reads and writes of the same Counter may be interleaved"; "the second Counter Latch
-- Command is ignored"
module _ (c : Chip) (s : Select) (m : Mode) (u : Unread m (counter_of c.timer s)) (x : ℕ) (h : x < 16) (a b : List ChipEvent)
    (i : all_spare s a ≡ true) (j : all_spare s b ≡ true) where
  held-to_first : LatchHeld m (counter_of c.timer s).count.element false (counter_of (chip_after c (to_first_read s x a)).timer s)
  held-to_first = after-held m (counter_of c.timer s).count.element false (next c (control (latch_command s x))) s a i (latch-held m c s x h u)

  held-to_second : LatchHeld m (counter_of c.timer s).count.element true (counter_of (chip_after c (to_second_read s x a b)).timer s)
  held-to_second =
      let v = (counter_of c.timer s).count.element in
      let d = chip_after c (to_first_read s x a) in
      subst⁻¹ (λ (e : Chip). LatchHeld m v true (counter_of e.timer s)) (after_append c (to_first_read s x a) (read s ∷ b))
      (after-held m v true (next d (read s)) s b j (first_read m v d.timer s held-to_first))

  -- "This count is held in the latch until it is read": the first byte is the least significant of the count as it was at the command, the second the most
  -- significant
  pub bytes_read_lem : (byte_now (chip_after c (to_first_read s x a)) s ≡ (counter_of c.timer s).count.element % 256)
      × (byte_now (chip_after c (to_second_read s x a b)) s ≡ (counter_of c.timer s).count.element / 256)
  bytes_read_lem =
      let v = (counter_of c.timer s).count.element in (
        first_byte m v (chip_after c (to_first_read s x a)).timer s held-to_first,
        second-byte m v (chip_after c (to_second_read s x a b)).timer s held-to_second,
      )

  -- so the two bytes are that count, whatever came before and between them
  pub count-read :
      byte_now (chip_after c (to_first_read s x a)) s + 256 * byte_now (chip_after c (to_second_read s x a b)) s ≡ (counter_of c.timer s).count.element
  count-read = omega (arith, bytes_read_lem)

  -- "The count is then unlatched automatically": the next latch command finds the counter as this one did
  pub unread-again : Unread m (counter_of (next (chip_after c (to_second_read s x a b)) (read s)).timer s)
  unread-again = second-read m (counter_of c.timer s).count.element (chip_after c (to_second_read s x a b)).timer s held-to_second
