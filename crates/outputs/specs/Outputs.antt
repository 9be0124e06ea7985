-- The analogue outputs (manual, chapters 13 and 14, and the pages of Base+4 and Base+5 in chapter 7; the specification,
-- "Registers", 5 and 8): what each access, tick and reset makes of them.
use Rattle.std.specs.Prelude.{Bool, not, ◌&&◌, ℕ, ◌+◌, ◌-◌, ◌*◌, ◌%◌, eqb, ltb, if◌then◌else◌}
use Rattle.base.specs.Flags.{on}
use Rattle.base.specs.Fields.{field, lowest}
use Rattle.outputs.specs.declared.Codes.{Codes}
use Rattle.outputs.specs.declared.Load.{Load}
use Rattle.outputs.specs.declared.Outputs.{Outputs}

-- ---- the codes of the four output channels
-- the code of output channel n, as a host sees it; there is no channel above 3, which reads 0
abbrev pub code_on : Codes → ℕ → ℕ
code_on k n =
    if eqb n 0 then k.out0
    else if eqb n 1 then k.out1
    else if eqb n 2 then k.out2
    else if eqb n 3 then k.out3
    else 0

-- what output channel `own` holds once `channel` has taken `code`
abbrev pub code_after : ℕ → ℕ → ℕ → ℕ → ℕ
code_after own old channel code = if eqb channel own then code else old

-- output `channel` takes `code`, the others keep theirs
abbrev pub codes_with : Codes → ℕ → ℕ → Codes
codes_with k channel code = record {
  out0 = code_after 0 k.out0 channel code;
  out1 = code_after 1 k.out1 channel code;
  out2 = code_after 2 k.out2 channel code;
  out3 = code_after 3 k.out3 channel code;
}

-- all at one code
abbrev pub level : ℕ → Codes
level code = record { out0 = code; out1 = code; out2 = code; out3 = code }

-- the code after RESETA: mid-scale, or zero-scale by jumper (manual, 5.5)
abbrev pub reset_code : Bool → ℕ
reset_code zero = if zero then 0 else 2048

-- ---- the load (Base+5 write: DACH1 DACH0 X X DA11 DA10 DA9 DA8)
-- channel DACH1-0; DA11-8 stand in the byte that is written, DA7-0 in the holding byte of Base+4 at that moment
abbrev pub load_of : ℕ → ℕ → Load
load_of lsb v = record { loaded = 1; channel = field v 6 2; code = v % 16 * 256 + lowest 8 lsb }

-- nothing loaded since a reset
abbrev pub no_load : Load
no_load = record { loaded = 0; channel = 0; code = 0 }

-- ---- the registers
-- DACBUSY: while it is 1, a write of Base+4 or Base+5 is refused, number 6
abbrev pub dacbusy : Outputs → Bool
dacbusy o = ltb 0 o.busy

-- write of Base+4: the holding byte; no output and no load changes
abbrev pub lsb_written : Outputs → ℕ → Outputs
lsb_written o v = record { codes = o.codes; load = o.load; lsb = v; busy = o.busy }

-- write of Base+5: the load is put together, and DACBUSY is 1 for 100 ticks
abbrev pub msb_written : Outputs → ℕ → Outputs
msb_written o v = record { codes = o.codes; load = load_of o.lsb v; lsb = o.lsb; busy = 100 }

-- read of Base+5: if not busy, the last loaded channel takes its code; with nothing loaded since a reset, no change; the load stays
abbrev pub updated_codes : Outputs → Codes
updated_codes o = if on o.load.loaded && not (dacbusy o) then codes_with o.codes o.load.channel o.load.code else o.codes

abbrev pub updated : Outputs → Outputs
updated o = record { codes = updated_codes o; load = o.load; lsb = o.lsb; busy = o.busy }

-- and it answers 0
abbrev pub update_answer : Outputs → ℕ
update_answer o = 0

-- ---- one tick: DACBUSY counts down
abbrev pub dac_ticked : Outputs → Outputs
dac_ticked o = record { codes = o.codes; load = o.load; lsb = o.lsb; busy = o.busy - 1 }

-- ---- resets: both drop the load, end DACBUSY and zero the holding byte
abbrev pub reset_to : Codes → Outputs
reset_to k = record { codes = k; load = no_load; lsb = 0; busy = 0 }

-- RESETA sets the outputs to mid-scale, or to 0 by jumper; a fresh board is as after RESETA
abbrev pub reset_a : Bool → Outputs
reset_a zero = reset_to (level (reset_code zero))

-- RESETD keeps them
abbrev pub reset_d : Outputs → Outputs
reset_d o = reset_to o.codes
