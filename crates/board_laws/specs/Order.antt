-- The check order. The specification, "Refusal numbers": "Check order: 2, 1, then 3 or 5, then 4 or 10, then 6, 9, 8, 7." Whatever the board, the
-- memories and the event, the checks stand in that order, so a refusal is one of 1 to 10.
use Rattle.std.specs.Prelude.{ℕ, ◌≤◌, ◌≡◌, refl, Bool, true, false, ◌&&◌, List, [], ◌∷◌, eqb, ltb, leb, if◌then◌else◌}
use Rattle.std.proofs.Common.{arith, ne_eqb, leb-true, leb-false, ltb-true}
use Rattle.base.specs.Checks.{Check, refusal}
use Rattle.base.specs.Laws.{choice_le, both}
use Rattle.machine_record.specs.declared.Board.{Board}
use Rattle.bus.specs.Place.{place_of}
use Rattle.bus.specs.Registers.{write_checks, read_checks}
use Rattle.bus.specs.declared.Place.{Place}
use Rattle.bus.specs.declared.Place.TheVariants.{Base0, Base1, Base2, Base3, Base4, Base5, Base6, Base7}
use Rattle.bus.specs.declared.Place.TheVariants.{Base8, Base9, Base10, Base11, Count, ControlWord, PortData, PortControl}
use Rattle.bus.specs.declared.Place.TheVariants.{Reserved, Auxiliary, CalData, CalAddress, CalBase14, CalBase15, Outside}
use Rattle.board_step.specs.Step.{refusal_of}
use Rattle.board_refusal.specs.Refusals.{event_checks, checks}
use Rattle.board_events.specs.declared.Event.{Event}
use Rattle.board_events.specs.declared.Event.TheVariants.{WriteByte, ReadByte, ReadWord, ConversionEnd, DinPins, LatchLevel, PortPins, Tick, TransferEnd}

-- the place of a refusal number in the order
abbrev pub rank : ℕ → ℕ
rank n =
    if eqb n 2 then 1
    else if eqb n 1 then 2
    else if eqb n 3 then 3
    else if eqb n 5 then 3
    else if eqb n 4 then 4
    else if eqb n 10 then 4
    else if eqb n 6 then 5
    else if eqb n 9 then 6
    else if eqb n 8 then 7
    else if eqb n 7 then 8
    else 0

-- each check's number comes later than the one before it; n is that one's place
abbrev pub ordered : ℕ → List Check → Bool
ordered n [] = true
ordered n (c ∷ cs) = ltb n (rank c.number) && ordered (rank c.number) cs

write-order : (b : Board) (p : Place) (v : ℕ) → ordered 2 (write_checks b p v) ≡ true
unfolding write_checks
write-order b Base0 v = refl
write-order b Base1 v = refl
write-order b Base2 v = refl
write-order b Base3 v = refl
write-order b Base4 v = refl
write-order b Base5 v = refl
write-order b Base6 v = refl
write-order b Base7 v = refl
write-order b Base8 v = refl
write-order b Base9 v = refl
write-order b Base10 v = refl
write-order b Base11 v = refl
write-order b (Count s) v = refl
write-order b ControlWord v = refl
write-order b (PortData q) v = refl
write-order b PortControl v = refl
write-order b Reserved v = refl
write-order b Auxiliary v = refl
write-order b CalData v = refl
write-order b CalAddress v = refl
write-order b CalBase14 v = refl
write-order b CalBase15 v = refl
write-order b Outside v = refl

read-order : (p : Place) → ordered 2 (read_checks p) ≡ true
unfolding read_checks
read-order Base0 = refl
read-order Base1 = refl
read-order Base2 = refl
read-order Base3 = refl
read-order Base4 = refl
read-order Base5 = refl
read-order Base6 = refl
read-order Base7 = refl
read-order Base8 = refl
read-order Base9 = refl
read-order Base10 = refl
read-order Base11 = refl
read-order (Count s) = refl
read-order ControlWord = refl
read-order (PortData q) = refl
read-order PortControl = refl
read-order Reserved = refl
read-order Auxiliary = refl
read-order CalData = refl
read-order CalAddress = refl
read-order CalBase14 = refl
read-order CalBase15 = refl
read-order Outside = refl

event-order : (b : Board) (ev : Event) → ordered 2 (event_checks b ev) ≡ true
unfolding event_checks
event-order b (WriteByte n v) = write-order b (place_of b.registers.page n) v
event-order b (ReadByte n) = read-order (place_of b.registers.page n)
event-order b (ReadWord n) = refl
event-order b (ConversionEnd code) = refl
event-order b (DinPins d) = refl
event-order b (LatchLevel level) = refl
event-order b (PortPins q v) = refl
event-order b Tick = refl
event-order b TransferEnd = refl

pub check_order : (b : Board) (memory eeprom : List ℕ) (ev : Event) → ordered 0 (checks b memory eeprom ev) ≡ true
unfolding checks
check_order b memory eeprom ev = event-order b ev

-- ---- only the numbers 1 to 10 have a place in the order, so an event is refused by no other
listed : (n k : ℕ) → ltb n (rank k) ≡ true → k ≤ 10
listed n k h = by (leb k 10) refl
  where
    by : (t : Bool) → leb k 10 ≡ t → k ≤ 10
    by true l = leb-true k 10 l
    by false l =
        let g = leb-false k 10 l in
        let none : rank k ≡ 0 =
        rw (
          ne_eqb k 2 (λ q. omega (arith, g, q)),
          ne_eqb k 1 (λ q. omega (arith, g, q)),
          ne_eqb k 3 (λ q. omega (arith, g, q)),
          ne_eqb k 5 (λ q. omega (arith, g, q)),
          ne_eqb k 4 (λ q. omega (arith, g, q)),
          ne_eqb k 10 (λ q. omega (arith, g, q)),
          ne_eqb k 6 (λ q. omega (arith, g, q)),
          ne_eqb k 9 (λ q. omega (arith, g, q)),
          ne_eqb k 8 (λ q. omega (arith, g, q)),
          ne_eqb k 7 (λ q. omega (arith, g, q)),
        ) in
        absurd (omega (arith, ltb-true n 0 (rw none at h)))

ordered_bound : (n : ℕ) (cs : List Check) → ordered n cs ≡ true → refusal cs ≤ 10
ordered_bound n [] h = omega arith
ordered_bound n (c ∷ cs) h =
    let k = both (ltb n (rank c.number)) (ordered (rank c.number) cs) h in
    choice_le c.holds (listed n c.number k.0) (ordered_bound (rank c.number) cs k.1)

pub refusal_bound : (b : Board) (memory eeprom : List ℕ) (ev : Event) → refusal_of b memory eeprom ev ≤ 10
refusal_bound b memory eeprom ev = ordered_bound 0 (checks b memory eeprom ev) (check_order b memory eeprom ev)
