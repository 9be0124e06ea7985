-- What an offset names (manual, chapter 6, register map; chapter 8 for the pages).
use Rattle.std.specs.Prelude.{ℕ, eqb, leb, if◌then◌else◌}
use Rattle.ports.specs.declared.Port.TheVariants.{PortA, PortB, PortC}
use Rattle.timer.specs.declared.Select.TheVariants.{Counter0, Counter1, Counter2}
use Rattle.bus.specs.declared.Place.{Place}
use Rattle.bus.specs.declared.Place.TheVariants.{Base0, Base1, Base2, Base3, Base4, Base5, Base6, Base7}
use Rattle.bus.specs.declared.Place.TheVariants.{Base8, Base9, Base10, Base11, Count, ControlWord, PortData, PortControl}
use Rattle.bus.specs.declared.Place.TheVariants.{Reserved, Auxiliary, CalData, CalAddress, CalBase14, CalBase15, Outside}

-- 0 to 11, the same on every page
abbrev pub fixed_place : ℕ → Place
fixed_place n =
    if eqb n 0 then Base0
    else if eqb n 1 then Base1
    else if eqb n 2 then Base2
    else if eqb n 3 then Base3
    else if eqb n 4 then Base4
    else if eqb n 5 then Base5
    else if eqb n 6 then Base6
    else if eqb n 7 then Base7
    else if eqb n 8 then Base8
    else if eqb n 9 then Base9
    else if eqb n 10 then Base10
    else Base11

-- page 0, 8.1: "Base + 12 maps into register 0 of the 82C54", and so on
abbrev pub timer_place : ℕ → Place
timer_place n =
    if eqb n 12 then Count Counter0
    else if eqb n 13 then Count Counter1
    else if eqb n 14 then Count Counter2
    else ControlWord

-- page 1, 8.2: the 82C55
abbrev pub port_place : ℕ → Place
port_place n =
    if eqb n 12 then PortData PortA
    else if eqb n 13 then PortData PortB
    else if eqb n 14 then PortData PortC
    else PortControl

-- page 2, 8.3: auxiliary control at 15, nothing below it
abbrev pub auxiliary_place : ℕ → Place
auxiliary_place n = if eqb n 15 then Auxiliary else Reserved

-- page 3, 8.4: data, address, control, key
abbrev pub calibration_place : ℕ → Place
calibration_place n =
    if eqb n 12 then CalData
    else if eqb n 13 then CalAddress
    else if eqb n 14 then CalBase14
    else CalBase15

-- 12 to 15, by the page of Base+8
abbrev pub paged_place : ℕ → ℕ → Place
paged_place page n =
    if eqb page 0 then timer_place n
    else if eqb page 1 then port_place n
    else if eqb page 2 then auxiliary_place n
    else calibration_place n

unfoldable pub place_of : ℕ → ℕ → Place
place_of page n =
    if leb n 11 then fixed_place n
    else if leb n 15 then paged_place page n
    else Outside
