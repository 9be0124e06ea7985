-- OUT of one counter before and after: whether it fell (the specification: "A falling OUT1 clocks counter 2", "TINTE: falling OUT0").
use Rattle.std.specs.Prelude.{◌≡◌, Bool, true, false, not, ◌&&◌, refl}

-- a level goes from high to low
abbrev pub fell : Bool → Bool → Bool
fell was is = was && not is

-- a level that stays does not fall
pub no_fall : (o : Bool) → fell o o ≡ false
no_fall true = refl
no_fall false = refl
