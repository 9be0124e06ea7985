-- A write that resets the board is a write of offset 8, whatever the page: laws for the theorems on what abandons a conversion.
use Rattle.std.specs.Prelude.{ℕ, ◌≡◌, refl, Bool, true, false, ◌&&◌, eqb, leb}
use Rattle.std.proofs.Common.{arith, eqb-true, ne_eqb, leb-false}
use Rattle.machine_reset.specs.Reset.{is_reset}
use Rattle.bus.specs.Place.{place_of}
use Rattle.board_laws.specs.Offsets.{Above, of_offset}
use Rattle.bus.specs.declared.Place.{Place}
use Rattle.bus.specs.declared.Place.TheVariants.{Base0, Base1, Base2, Base3, Base4, Base5, Base6, Base7}
use Rattle.bus.specs.declared.Place.TheVariants.{Base8, Base9, Base10, Base11, Count, ControlWord, PortData, PortControl}
use Rattle.bus.specs.declared.Place.TheVariants.{Reserved, Auxiliary, CalData, CalAddress, CalBase14, CalBase15, Outside}

-- whether a byte written at a place resets the board
abbrev pub place_resets : Place → ℕ → Bool
place_resets Base0 v = false
place_resets Base1 v = false
place_resets Base2 v = false
place_resets Base3 v = false
place_resets Base4 v = false
place_resets Base5 v = false
place_resets Base6 v = false
place_resets Base7 v = false
place_resets Base8 v = is_reset v
place_resets Base9 v = false
place_resets Base10 v = false
place_resets Base11 v = false
place_resets (Count s) v = false
place_resets ControlWord v = false
place_resets (PortData q) v = false
place_resets PortControl v = false
place_resets Reserved v = false
place_resets Auxiliary v = false
place_resets CalData v = false
place_resets CalAddress v = false
place_resets CalBase14 v = false
place_resets CalBase15 v = false
place_resets Outside v = false

module _ (n v : ℕ) where
  abbrev Says : Place → Type 0
  Says p = place_resets p v ≡ eqb n 8 && is_reset v

  at : (k : ℕ) (p : Place) → place_resets p v ≡ eqb k 8 && is_reset v → eqb n k ≡ true → Says p
  at k p e t = let z : n ≡ k = eqb-true n k t in rw z e

  high : leb n 11 ≡ false → Above Says
  high h =
      let not8 : eqb n 8 ≡ false = ne_eqb n 8 (λ z. omega (arith, leb-false n 11 h)) in
      record {
        count = λ s. rw not8;
        control_word = rw not8;
        port_data = λ q. rw not8;
        port_control = rw not8;
        reserved = rw not8;
        auxiliary = rw not8;
        cal_data = rw not8;
        cal_address = rw not8;
        cal_base14 = rw not8;
        cal_base15 = rw not8;
        outside = rw not8;
      }

  says : (page : ℕ) → Says (place_of page n)
  says page =
      of_offset Says n
      (record {
        base0 = at 0 Base0 refl;
        base1 = at 1 Base1 refl;
        base2 = at 2 Base2 refl;
        base3 = at 3 Base3 refl;
        base4 = at 4 Base4 refl;
        base5 = at 5 Base5 refl;
        base6 = at 6 Base6 refl;
        base7 = at 7 Base7 refl;
        base8 = at 8 Base8 refl;
        base9 = at 9 Base9 refl;
        base10 = at 10 Base10 refl;
        base11 = at 11 Base11 refl;
        above = high;
      })
      page

pub place-resets : (page n v : ℕ) → place_resets (place_of page n) v ≡ eqb n 8 && is_reset v
place-resets page n v = says n v page
