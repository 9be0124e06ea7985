-- What an access does to the samples held (manual, chapter 7, Base+0, Base+1, Base+7 and Base+8; the specification, "Registers").
use Rattle.std.specs.Prelude.{ℕ}

pub data Effect : Type 0 where
  -- they stay
  Keep : Effect
  -- the oldest leaves
  Take : Effect
  -- a conversion's sample comes to them
  Store : ℕ → Effect
  -- none is left
  Empty : Effect
