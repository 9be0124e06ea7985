-- A line read byte after byte asks for what its fields ask for, whatever its length and its bytes.
use Rattle.std.specs.Prelude.{◌≡◌, refl, Bool, true, false, ℕ, ◌+◌, ◌*◌, Option, None, Some, eqb, leb, if◌then◌else◌}
use Rattle.std.specs.Option.{option_map_or}
use Rattle.base.specs.Fields.{lowest}
use Rattle.session_digits.specs.Digits.{digit_of, hex_of}
use Rattle.session_reading.specs.Reading.{minus_taken, number_ended, grown, taken}
use Rattle.session_commands.specs.Ends.{is_begun}
use Rattle.session_reading.specs.declared.Number.{Number}
use Rattle.session_reading.specs.declared.Number.TheVariants.{WriteOffset, ReadOffset, Code, MinusCode}
use Rattle.session_reading.specs.declared.Reading.{Reading}
use Rattle.session_reading.specs.declared.Reading.TheVariants.{Blank, Letter, Begun, Zero, Digits, Offset, HalfValue, Whole, Single, Spoiled}

-- ---- a line that has a byte
if_begun : (t : Bool) (a b : Reading) → is_begun a ≡ true → is_begun b ≡ true → is_begun (if t then a else b) ≡ true
if_begun true a b p q = p
if_begun false a b p q = q

maybe_begun : (f : ℕ → Reading) (d : Option ℕ) → ((x : ℕ) → is_begun (f x) ≡ true) → is_begun (option_map_or f d Spoiled) ≡ true
unfolding is_begun
maybe_begun f None h = refl
maybe_begun f (Some x) h = h x

minus-begun : (number : Number) → is_begun (minus_taken number) ≡ true
unfolding is_begun
minus-begun WriteOffset = refl
minus-begun ReadOffset = refl
minus-begun Code = refl
minus-begun MinusCode = refl

ended-begun : (number : Number) (n : ℕ) → is_begun (number_ended number n) ≡ true
unfolding is_begun
ended-begun WriteOffset n = if_begun (leb n 99) (Offset n) Spoiled refl refl
ended-begun ReadOffset n = refl
ended-begun Code n = refl
ended-begun MinusCode n = refl

pub taken-begun : (r : Reading) (b : ℕ) → is_begun (taken r b) ≡ true
unfolding taken is_begun
taken-begun Blank b =
    if_begun (eqb b 87) (Letter WriteOffset) _ refl
    (if_begun (eqb b 82) (Letter ReadOffset) _ refl (if_begun (eqb b 67) (Letter Code) _ refl (if_begun (eqb b 88) Single Spoiled refl refl)))
taken-begun (Letter number) b = if_begun (eqb b 32) (Begun number) Spoiled refl refl
taken-begun (Begun number) b =
    if_begun (eqb b 45) (minus_taken number) _ (minus-begun number)
    (maybe_begun (λ d. if eqb d 0 then Zero number else Digits number d) (digit_of b) (λ d. if_begun (eqb d 0) (Zero number) (Digits number d) refl refl))
taken-begun (Zero number) b = if_begun (eqb b 32) (number_ended number 0) Spoiled (ended-begun number 0) refl
taken-begun (Digits number n) b =
    if_begun (eqb b 32) (number_ended number n) _ (ended-begun number n)
    (maybe_begun (grown number n) (digit_of b) (λ d. if_begun (leb (n * 10 + d) 65535) (Digits number (n * 10 + d)) Spoiled refl refl))
taken-begun (Offset offset) b = maybe_begun (HalfValue offset) (hex_of b) (λ d. refl)
taken-begun (HalfValue offset high) b = maybe_begun (λ low. Whole offset (lowest 4 high * 16 + low)) (hex_of b) (λ d. refl)
taken-begun (Whole offset v) b = refl
taken-begun Single b = refl
taken-begun Spoiled b = refl
