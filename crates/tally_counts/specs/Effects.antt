-- What an event does to the samples held, by its offset: laws that join the rows of the bus, which go by the place of an offset, to the definitions of Counts.
use Rattle.std.specs.Prelude.{ℕ, ◌≤◌, ◌≡◌, Bool, true, false, ◌&&◌, ◌||◌, List, eqb, leb, if◌then◌else◌, Option}
use Rattle.std.proofs.Math.Path.{refl}
use Rattle.std.proofs.Common.{arith, eqb-true, ne_eqb, leb-false}
use Rattle.converter.specs.Codes.{sample_of}
use Rattle.requests.specs.Registers.{FIFORST}
use Rattle.machine_reset.specs.Reset.{is_reset}
use Rattle.machine_record.specs.declared.Board.{Board}
use Rattle.bus.specs.Effects.{Effect, Keep, Take, Store, Empty}
use Rattle.bus.specs.Place.{place_of}
use Rattle.bus.specs.Registers.{read_effect, write_effect}
use Rattle.bus.specs.declared.Place.{Place}
use Rattle.board_step.specs.Act.{acted}
use Rattle.board_laws.specs.Begins.{resets}
use Rattle.board_laws.specs.Offsets.{Above, of_offset}
use Rattle.tally_counts.specs.Counts.{empties}
use Rattle.board_events.specs.declared.Event.{Event}
use Rattle.board_events.specs.declared.Event.TheVariants.{WriteByte, ReadByte, ReadWord, ConversionEnd, DinPins, LatchLevel, PortPins, Tick, TransferEnd}

abbrev pub empty_if : Bool → Effect
empty_if t = if t then Empty else Keep

or_none : (a : Bool) → empty_if a ≡ empty_if (a || false)
or_none true = refl
or_none false = refl

-- ---- a byte read or written at offset n
module _ (n v : ℕ) where
  -- a place does what the offset says
  record Does (p : Place) : Type 0 where
    read : read_effect p ≡ (if eqb n 1 then Take else Keep)
    written : write_effect p v ≡ empty_if (eqb n 7 && FIFORST v || eqb n 8 && is_reset v)

  named : (k : ℕ) {p : Place} → read_effect p ≡ (if eqb k 1 then Take else Keep)
      → write_effect p v ≡ empty_if (eqb k 7 && FIFORST v || eqb k 8 && is_reset v) → eqb n k ≡ true → Does p
  named k r w t = let at : n ≡ k = eqb-true n k t in record { read = rw at r; written = rw at w }

  above_11 : (k : ℕ) → k ≤ 11 → leb n 11 ≡ false → eqb n k ≡ false
  above_11 k l h = ne_eqb n k (λ z. omega (arith, l, leb-false n 11 h))

  above_does : {p : Place} → leb n 11 ≡ false → read_effect p ≡ Keep → write_effect p v ≡ Keep → Does p
  above_does h r w = record {
    read = rw (above_11 1 (omega arith) h) r;
    written = rw (above_11 7 (omega arith) h, above_11 8 (omega arith) h) w;
  }

  all_above : leb n 11 ≡ false → Above Does
  unfolding read_effect write_effect
  all_above h = record {
    count = λ s. above_does h refl refl;
    control_word = above_does h refl refl;
    port_data = λ q. above_does h refl refl;
    port_control = above_does h refl refl;
    reserved = above_does h refl refl;
    auxiliary = above_does h refl refl;
    cal_data = above_does h refl refl;
    cal_address = above_does h refl refl;
    cal_base14 = above_does h refl refl;
    cal_base15 = above_does h refl refl;
    outside = above_does h refl refl;
  }

  place_does : (page : ℕ) → Does (place_of page n)
  unfolding read_effect write_effect
  place_does page =
      of_offset Does n
      (record {
        base0 = named 0 refl refl;
        base1 = named 1 refl refl;
        base2 = named 2 refl refl;
        base3 = named 3 refl refl;
        base4 = named 4 refl refl;
        base5 = named 5 refl refl;
        base6 = named 6 refl refl;
        base7 = named 7 refl (or_none (FIFORST v));
        base8 = named 8 refl refl;
        base9 = named 9 refl refl;
        base10 = named 10 refl refl;
        base11 = named 11 refl refl;
        above = all_above;
      })
      page

-- ---- any event
abbrev pub effect_of : Event → Effect
effect_of (WriteByte offset value) = empty_if (empties (WriteByte offset value))
effect_of (ReadByte offset) = if eqb offset 1 then Take else Keep
effect_of (ReadWord offset) = Take
effect_of (ConversionEnd code) = Store (sample_of code)
effect_of (DinPins d) = Keep
effect_of (LatchLevel level) = Keep
effect_of (PortPins q v) = Keep
effect_of Tick = Keep
effect_of TransferEnd = Keep

pub effect_of_lem : (b : Board) (o : Option ℕ) (e : List ℕ) (event : Event) → (acted b o e event).effect ≡ effect_of event
unfolding acted resets
effect_of_lem b o e (WriteByte offset value) = (place_does offset value b.registers.page).written
effect_of_lem b o e (ReadByte offset) = (place_does offset 0 b.registers.page).read
effect_of_lem b o e (ReadWord offset) = refl
effect_of_lem b o e (ConversionEnd code) = refl
effect_of_lem b o e (DinPins d) = refl
effect_of_lem b o e (LatchLevel level) = refl
effect_of_lem b o e (PortPins q v) = refl
effect_of_lem b o e Tick = refl
effect_of_lem b o e TransferEnd = refl
