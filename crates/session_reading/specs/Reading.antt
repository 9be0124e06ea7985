-- A line read byte after byte: what is kept of it.
use Rattle.std.specs.Prelude.{ℕ, ◌+◌, ◌*◌, List, [], ◌∷◌, eqb, leb, if◌then◌else◌}
use Rattle.std.specs.Option.{option_map_or}
use Rattle.base.specs.Fields.{lowest}
use Rattle.session_digits.specs.Digits.{digit_of, hex_of}
use Rattle.session_reading.specs.declared.Number.{Number}
use Rattle.session_reading.specs.declared.Number.TheVariants.{WriteOffset, ReadOffset, Code, MinusCode}
use Rattle.session_reading.specs.declared.Reading.{Reading}
use Rattle.session_reading.specs.declared.Reading.TheVariants.{Blank, Letter, Begun, Zero, Digits, Offset, HalfValue, Whole, Single, Spoiled}

abbrev pub first_taken : ℕ → Reading
first_taken b =
    if eqb b 87 then Letter WriteOffset
    else if eqb b 82 then Letter ReadOffset
    else if eqb b 67 then Letter Code
    else if eqb b 88 then Single
    else Spoiled

abbrev pub letter_taken : Number → ℕ → Reading
letter_taken number b = if eqb b 32 then Begun number else Spoiled

abbrev pub minus_taken : Number → Reading
minus_taken WriteOffset = Spoiled
minus_taken ReadOffset = Spoiled
minus_taken Code = Begun MinusCode
minus_taken MinusCode = Spoiled

abbrev pub begun_taken : Number → ℕ → Reading
begun_taken number b =
    if eqb b 45 then minus_taken number
    else option_map_or (λ d. if eqb d 0 then Zero number else Digits number d) (digit_of b) Spoiled

abbrev pub number_ended : Number → ℕ → Reading
number_ended WriteOffset n = if leb n 99 then Offset n else Spoiled
number_ended ReadOffset n = Spoiled
number_ended Code n = Spoiled
number_ended MinusCode n = Spoiled

abbrev pub zero_taken : Number → ℕ → Reading
zero_taken number b = if eqb b 32 then number_ended number 0 else Spoiled

abbrev pub grown : Number → ℕ → ℕ → Reading
grown number n digit = if leb (n * 10 + digit) 65535 then Digits number (n * 10 + digit) else Spoiled

abbrev pub digit_taken : Number → ℕ → ℕ → Reading
digit_taken number n b =
    if eqb b 32 then number_ended number n else option_map_or (grown number n) (digit_of b) Spoiled

abbrev pub first_hex_taken : ℕ → ℕ → Reading
first_hex_taken offset b = option_map_or (HalfValue offset) (hex_of b) Spoiled

abbrev pub second_hex_taken : ℕ → ℕ → ℕ → Reading
second_hex_taken offset high b = option_map_or (λ low. Whole offset (lowest 4 high * 16 + low)) (hex_of b) Spoiled

-- one byte more
unfoldable pub taken : Reading → ℕ → Reading
taken Blank b = first_taken b
taken (Letter number) b = letter_taken number b
taken (Begun number) b = begun_taken number b
taken (Zero number) b = zero_taken number b
taken (Digits number n) b = digit_taken number n b
taken (Offset offset) b = first_hex_taken offset b
taken (HalfValue offset high) b = second_hex_taken offset high b
taken (Whole offset v) b = Spoiled
taken Single b = Spoiled
taken Spoiled b = Spoiled

-- the bytes of a line
unfoldable pub read_from : Reading → List ℕ → Reading
read_from r [] = r
read_from r (b ∷ line) = read_from (taken r b) line
