-- What is written to and read from registers 6, 7 and 9, as far as it is the requests' (manual, chapter 6 and Base + 6, 7, 9; the
-- specification, "Registers"). Bits without a name here are ignored and read 0. Chapter 10 calls FIFORST bit 2; the map and its 0x02
-- example have bit 1.
use Rattle.std.specs.Prelude.{Bool, ℕ, ◌+◌}
use Rattle.base.specs.Flags.{on}
use Rattle.base.specs.Fields.{bit, field}
use Rattle.base.specs.Weights.{weight_of}
use Rattle.converter.specs.declared.channels.Converter.{Converter}
use Rattle.requests.specs.declared.Requests.{Requests}
use Rattle.requests.specs.Requests.{no_flags}

-- 6: FD8-1, half the threshold
abbrev pub written_depth : Requests → ℕ → Requests
written_depth r byte =
    record {
      threshold = byte;
      fifoen = r.fifoen;
      clksel = r.clksel;
      adinte = r.adinte;
      dinte = r.dinte;
      tinte = r.tinte;
      flags = r.flags;
    }

-- 7: FIFOEN, bit 3
abbrev pub written_fifoen : Requests → ℕ → Requests
written_fifoen r byte =
    record {
      threshold = r.threshold;
      fifoen = field byte 3 1;
      clksel = r.clksel;
      adinte = r.adinte;
      dinte = r.dinte;
      tinte = r.tinte;
      flags = r.flags;
    }

-- 7: FIFORST, bit 1
abbrev pub FIFORST : ℕ → Bool
FIFORST byte = bit byte 1

-- 9: ADINTE, DINTE, TINTE, bits 7 to 5, and CLKSEL, bit 0
abbrev pub written_enables : Requests → ℕ → Requests
written_enables r byte =
    record {
      threshold = r.threshold;
      fifoen = r.fifoen;
      clksel = field byte 0 1;
      adinte = field byte 7 1;
      dinte = field byte 6 1;
      tinte = field byte 5 1;
      flags = r.flags;
    }

-- 7 read: FIFOEN and SCANEN, bits 3 and 2
abbrev pub mode_bits : Converter → Requests → ℕ
mode_bits c r = weight_of (on r.fifoen) 8 + weight_of (on c.scanen) 4

-- 9 read: ADINT, DINT, TINT, bits 7 to 5, CLKEN and CLKSEL, bits 1 and 0
abbrev pub request_bits : Converter → Requests → ℕ
request_bits c r =
    weight_of (on r.flags.adint) 128
    + weight_of (on r.flags.dint) 64
    + weight_of (on r.flags.tint) 32
    + weight_of (on c.clken) 2
    + weight_of (on r.clksel) 1

-- fresh, and after RESETA or RESETD: all registers and the request flags are zero
abbrev pub fresh_requests : Requests
fresh_requests =
    record { threshold = 0; fifoen = 0; clksel = 0; adinte = 0; dinte = 0; tinte = 0; flags = no_flags }
