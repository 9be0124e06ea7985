-- A working board's outputs (the specification, "What is delivered"): every code and channel is within its range, and DACBUSY
-- has at most 100 ticks left. The facts, and the row of tests of them, of which the code makes several at once.
use Rattle.std.specs.Prelude.{Bool, List, [], ◌∷◌, ◌≤◌, leb}
use Rattle.base.specs.Tests.{all}
use Rattle.outputs.specs.declared.Codes.{Codes}
use Rattle.outputs.specs.declared.Load.{Load}
use Rattle.outputs.specs.declared.Outputs.{Outputs}

-- the codes have 12 bits
pub record WorkingCodes (k : Codes) : Type 0 where
  pub out0 : k.out0 ≤ 4095
  pub out1 : k.out1 ≤ 4095
  pub out2 : k.out2 ≤ 4095
  pub out3 : k.out3 ≤ 4095

-- the load names a channel and a code, and its flag is 0 or 1
pub record WorkingLoad (l : Load) : Type 0 where
  pub loaded : l.loaded ≤ 1
  pub channel : l.channel ≤ 3
  pub code : l.code ≤ 4095

pub record WorkingOutputs (o : Outputs) : Type 0 where
  pub codes : WorkingCodes o.codes
  pub load : WorkingLoad o.load
  pub busy : o.busy ≤ 100

abbrev pub outputs_tests : Outputs → List Bool
outputs_tests o =
    leb o.codes.out0 4095
    ∷ leb o.codes.out1 4095
    ∷ leb o.codes.out2 4095
    ∷ leb o.codes.out3 4095
    ∷ leb o.load.loaded 1
    ∷ leb o.load.channel 3
    ∷ leb o.load.code 4095
    ∷ leb o.busy 100
    ∷ []

abbrev pub is_working_outputs : Outputs → Bool
is_working_outputs o = all (outputs_tests o)
