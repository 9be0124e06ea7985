-- The request flags (manual 11.1, 11.2, Base + 6, 8 and 9; the specification, "Conversions, edges and requests").
-- The manual's note in 11.2 has a request at the threshold inside a scan; the specification waits for the scan's last.
use Rattle.std.specs.Prelude.{Bool, ◌&&◌, ◌||◌, not, ℕ, ◌*◌, leb}
use Rattle.base.specs.Flags.{on, flag}
use Rattle.requests.specs.declared.Flags.{Flags}
use Rattle.requests.specs.declared.Requests.{Requests}

-- the requests with these flags
abbrev pub with_flags : Requests → Flags → Requests
with_flags r flags =
    record {
      threshold = r.threshold;
      fifoen = r.fifoen;
      clksel = r.clksel;
      adinte = r.adinte;
      dinte = r.dinte;
      tinte = r.tinte;
      flags = flags;
    }

-- the threshold is twice the byte of 6
abbrev pub threshold_of : Requests → ℕ
threshold_of r = 2 * r.threshold

-- whether an end sets ADINT: with ADINTE, after a lost or kept end, with SCANEN only after the scan's last, if FIFOEN=0 or held ≥ threshold
abbrev pub asks_ad : Requests → Bool → ℕ → Bool
asks_ad r last held = on r.adinte && last && (not (on r.fifoen) || leb (threshold_of r) held)

abbrev pub asked_ad : Requests → Bool → ℕ → Requests
asked_ad r last held =
    with_flags r (record { adint = flag (on r.flags.adint || asks_ad r last held); dint = r.flags.dint; tint = r.flags.tint })

-- with DINTE, a rising Latch sets DINT
abbrev pub asked_latch : Requests → Bool → Requests
asked_latch r rises =
    with_flags r (record { adint = r.flags.adint; dint = flag (on r.flags.dint || on r.dinte && rises); tint = r.flags.tint })

-- with TINTE, a falling OUT0 sets TINT
abbrev pub asked_timer : Requests → Bool → Requests
asked_timer r falls =
    with_flags r (record { adint = r.flags.adint; dint = r.flags.dint; tint = flag (on r.flags.tint || on r.tinte && falls) })

-- the board asks for an interrupt while one of the three is set
abbrev pub asking : Flags → Bool
asking flags = on flags.adint || on flags.dint || on flags.tint

abbrev pub no_flags : Flags
no_flags = record { adint = 0; dint = 0; tint = 0 }

-- INTRST clears all three request flags
abbrev pub flags_cleared : Requests → Requests
flags_cleared r = with_flags r no_flags
