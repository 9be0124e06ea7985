-- What a read leaves of the record: the converter, DACBUSY's count and the dividers. Laws for the theorems over conversions and over stretches of events.
use Rattle.std.specs.Prelude.{◌≡◌, refl}
use Rattle.machine_record.specs.declared.Board.{Board}
use Rattle.bus.specs.Registers.{after_read}
use Rattle.bus.specs.declared.Place.{Place}
use Rattle.bus.specs.declared.Place.TheVariants.{Base0, Base1, Base2, Base3, Base4, Base5, Base6, Base7}
use Rattle.bus.specs.declared.Place.TheVariants.{Base8, Base9, Base10, Base11, Count, ControlWord, PortData, PortControl}
use Rattle.bus.specs.declared.Place.TheVariants.{Reserved, Auxiliary, CalData, CalAddress, CalBase14, CalBase15, Outside}

pub record Untouched (b c : Board) : Type 0 where
  pub converter : c.converter ≡ b.converter
  pub busy : c.outputs.busy ≡ b.outputs.busy
  pub hundred : c.clocks.hundred ≡ b.clocks.hundred
  pub thousand : c.clocks.thousand ≡ b.clocks.thousand

nothing_changed : (b : Board) → Untouched b b
nothing_changed b = record { converter = refl; busy = refl; hundred = refl; thousand = refl }

pub read-leaves : (b : Board) (p : Place) → Untouched b (after_read b p)
unfolding after_read
read-leaves b Base0 = nothing_changed b
read-leaves b Base1 = nothing_changed b
read-leaves b Base2 = nothing_changed b
read-leaves b Base3 = nothing_changed b
read-leaves b Base4 = nothing_changed b
read-leaves b Base5 = record { converter = refl; busy = refl; hundred = refl; thousand = refl }
read-leaves b Base6 = nothing_changed b
read-leaves b Base7 = nothing_changed b
read-leaves b Base8 = nothing_changed b
read-leaves b Base9 = nothing_changed b
read-leaves b Base10 = nothing_changed b
read-leaves b Base11 = nothing_changed b
read-leaves b (Count s) = record { converter = refl; busy = refl; hundred = refl; thousand = refl }
read-leaves b ControlWord = nothing_changed b
read-leaves b (PortData q) = nothing_changed b
read-leaves b PortControl = nothing_changed b
read-leaves b Reserved = nothing_changed b
read-leaves b Auxiliary = nothing_changed b
read-leaves b CalData = nothing_changed b
read-leaves b CalAddress = nothing_changed b
read-leaves b CalBase14 = nothing_changed b
read-leaves b CalBase15 = nothing_changed b
read-leaves b Outside = nothing_changed b
