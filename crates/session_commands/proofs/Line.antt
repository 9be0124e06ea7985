-- Theorems that rest on theorems of specs/Line.antt, and promise as those do. What specs/Line.antt says of itself:
-- A line read byte after byte asks for what its fields ask for, whatever its length and its bytes.
use Rattle.std.specs.Prelude.{◌≡◌, refl, Bool, true, false, Option, List, [], ◌∷◌, None, Some, ℕ, ◌+◌, ◌*◌, ◌%◌, ◌<◌, eqb, leb, if◌then◌else◌}
use Rattle.std.specs.Option.{option_map, option_map_or, option_and_then}
use Rattle.std.proofs.Common.{ap, sym, ◌∙◌, mod-eq_of_lt, arith, eqb-true, leb-false}
use Rattle.std.proofs.lemmas.Bool.{lt-leb}
use Rattle.base.specs.Fields.{lowest}
use Rattle.session_digits.specs.Digits.{digit_of, hex_of}
use Rattle.session_commands.specs.Command.{first, others, digits, alone, decimal, up_to, value, command_of}
use Rattle.session_reading.specs.Reading.{minus_taken, begun_taken, grown, digit_taken, first_hex_taken, second_hex_taken, taken, read_from}
use Rattle.session_reading.proofs.Usual.{hex_small}
use Rattle.session_commands.specs.Ends.{command_read}
use Rattle.session_reading.specs.declared.Number.{Number}
use Rattle.session_reading.specs.declared.Number.TheVariants.{WriteOffset, ReadOffset, Code, MinusCode}
use Rattle.session_reading.specs.declared.Reading.{Reading}
use Rattle.session_reading.specs.declared.Reading.TheVariants.{Blank, Letter, Begun, Zero, Digits, Offset, HalfValue, Whole, Single, Spoiled}
use Rattle.session_commands.specs.Rest.{numbered, first_digit, half, last, meaning, no_number, read-end, read_space}
use Rattle.session_commands.proofs.Rest.{read_first}

-- more digits only make a number larger
too_large : (limit n : ℕ) (f : List ℕ) → limit < n → up_to limit (digits n f) ≡ None
unfolding digits
too_large limit n [] h = rw (lt-leb n limit h)
too_large limit n (b ∷ f) h = by (digit_of b) (λ d. too_large limit (n * 10 + d) f (omega arith))
  where
    by : (o : Option ℕ) → ((d : ℕ) → up_to limit (digits (n * 10 + d) f) ≡ None) → up_to limit (option_and_then (λ d. digits (n * 10 + d) f) o) ≡ None
    by None e = refl
    by (Some d) e = e d

large : (number : Number) (n : ℕ) (f : List ℕ) (fs : List (List ℕ)) → 65535 < n → numbered number (digits n f) fs ≡ None
large WriteOffset n f [] h = refl
large WriteOffset n f (v ∷ []) h = rw (too_large 99 n f (omega arith))
large WriteOffset n f (v ∷ w ∷ fs) h = refl
large ReadOffset n f [] h = rw (too_large 99 n f (omega arith))
large ReadOffset n f (v ∷ fs) h = refl
large Code n f [] h = rw (too_large 32767 n f (omega arith))
large Code n f (v ∷ fs) h = refl
large MinusCode n f [] h = rw (too_large 32768 n f (omega arith))
large MinusCode n f (v ∷ fs) h = refl

-- a digit of a number that has begun
read_digit : (number : Number) (n b : ℕ) (f : List ℕ) (fs : List (List ℕ)) → eqb b 32 ≡ false
    → numbered number (digits n (b ∷ f)) fs ≡ meaning (digit_taken number n b) f fs
unfolding meaning digits
read_digit number n b f fs space = rw space (by (digit_of b))
  where
    one : (d : ℕ) (t : Bool) → leb (n * 10 + d) 65535 ≡ t
        → numbered number (digits (n * 10 + d) f) fs ≡ meaning (if t then Digits number (n * 10 + d) else Spoiled) f fs
    one d true e = refl
    one d false e = large number (n * 10 + d) f fs (leb-false (n * 10 + d) 65535 e)

    by : (o : Option ℕ) → numbered number (option_and_then (λ d. digits (n * 10 + d) f) o) fs ≡ meaning (option_map_or (grown number n) o Spoiled) f fs
    by None = no_number number fs
    by (Some d) = one d (leb (n * 10 + d) 65535) refl

-- the first digit of a number
decimal-first : (number : Number) (b : ℕ) (f : List ℕ) (fs : List (List ℕ))
    → numbered number (decimal (b ∷ f)) fs
    ≡ meaning (option_map_or (λ d. if eqb d 0 then Zero number else Digits number d) (digit_of b) Spoiled) f fs
unfolding meaning
decimal-first number b f fs = by (digit_of b)
  where
    one : (d : ℕ) (z : Bool) → numbered number (if z then alone f else digits d f) fs ≡ meaning (if z then Zero number else Digits number d) f fs
    one d true = refl
    one d false = refl

    by : (o : Option ℕ) → numbered number (option_and_then (λ d. if eqb d 0 then alone f else digits d f) o) fs
        ≡ meaning (option_map_or (λ d. if eqb d 0 then Zero number else Digits number d) o Spoiled) f fs
    by None = no_number number fs
    by (Some d) = one d (eqb d 0)

-- a minus is no digit
minus-none : (number : Number) (f : List ℕ) (fs : List (List ℕ)) → numbered number (decimal (45 ∷ f)) fs ≡ None
unfolding digit_of
minus-none number f fs = no_number number fs

read-minus : (number : Number) (f : List ℕ) (fs : List (List ℕ)) → first_digit number (45 ∷ f) fs ≡ meaning (minus_taken number) f fs
unfolding meaning
read-minus WriteOffset f fs = minus-none WriteOffset f fs
read-minus ReadOffset f fs = minus-none ReadOffset f fs
read-minus Code f [] = refl
read-minus Code f (v ∷ fs) = refl
read-minus MinusCode f fs = minus-none MinusCode f fs

read-other : (number : Number) (b : ℕ) (f : List ℕ) (fs : List (List ℕ)) → eqb b 45 ≡ false
    → first_digit number (b ∷ f) fs ≡ numbered number (decimal (b ∷ f)) fs
read-other WriteOffset b f fs e = refl
read-other ReadOffset b f fs e = refl
read-other Code b f [] e = rw e
read-other Code b f (v ∷ fs) e = refl
read-other MinusCode b f fs e = refl

read-begun : (number : Number) (b : ℕ) (f : List ℕ) (fs : List (List ℕ)) → first_digit number (b ∷ f) fs ≡ meaning (begun_taken number b) f fs
read-begun number b f fs = by (eqb b 45) refl
  where
    by : (t : Bool) → eqb b 45 ≡ t
        → first_digit number (b ∷ f) fs
        ≡ meaning
        (if t then minus_taken number
        else option_map_or (λ d. if eqb d 0 then Zero number else Digits number d) (digit_of b) Spoiled) f fs
    by true e = ap (λ (n : ℕ). first_digit number (n ∷ f) fs) (eqb-true b 45 e) ∙ read-minus number f fs
    by false e = read-other number b f fs e ∙ decimal-first number b f fs

no_value : (offset : ℕ) (fs : List (List ℕ)) → last offset None fs ≡ None
no_value offset [] = refl
no_value offset (f ∷ fs) = refl

-- the digits of a value
read_hex : (offset b : ℕ) (f : List ℕ) (fs : List (List ℕ)) → last offset (value (b ∷ f)) fs ≡ meaning (first_hex_taken offset b) f fs
unfolding meaning
read_hex offset b f fs = by (hex_of b) refl f
  where
    by : (o : Option ℕ) → hex_of b ≡ o → (f : List ℕ) → last offset (value (b ∷ f)) fs ≡ meaning (option_map_or (HalfValue offset) o Spoiled) f fs
    by None e [] = no_value offset fs
    by None e (l ∷ []) = rw e (no_value offset fs)
    by None e (l ∷ c ∷ f) = no_value offset fs
    by (Some d) e [] = refl
    by (Some d) e (l ∷ []) = let m : d % 16 ≡ d = mod-eq_of_lt (hex_small b e) in rw (e, m)
    by (Some d) e (l ∷ c ∷ f) = refl

read-second : (offset high b : ℕ) (f : List ℕ) (fs : List (List ℕ)) → last offset (half high (b ∷ f)) fs ≡ meaning (second_hex_taken offset high b) f fs
unfolding meaning
read-second offset high b [] fs = by (hex_of b) fs
  where
    by : (o : Option ℕ) (fs : List (List ℕ))
        → last offset (option_map (λ low. lowest 4 high * 16 + low) o) fs
        ≡ meaning (option_map_or (λ low. Whole offset (lowest 4 high * 16 + low)) o Spoiled) [] fs
    by None fs = no_value offset fs
    by (Some low) [] = refl
    by (Some low) (g ∷ fs) = refl
read-second offset high b (c ∷ f) fs = by (hex_of b)
  where
    by : (o : Option ℕ) → last offset None fs ≡ meaning (option_map_or (λ low. Whole offset (lowest 4 high * 16 + low)) o Spoiled) (c ∷ f) fs
    by None = no_value offset fs
    by (Some low) = no_value offset fs

-- ---- any other byte
read_byte : (r : Reading) (b : ℕ) (f : List ℕ) (fs : List (List ℕ)) → eqb b 32 ≡ false → meaning r (b ∷ f) fs ≡ meaning (taken r b) f fs
unfolding meaning taken
read_byte Blank b f fs e = read_first b f fs
read_byte (Letter number) b f fs e = rw e
read_byte (Begun number) b f fs e = read-begun number b f fs
read_byte (Zero number) b f fs e = rw e (no_number number fs)
read_byte (Digits number n) b f fs e = read_digit number n b f fs e
read_byte (Offset offset) b f fs e = read_hex offset b f fs
read_byte (HalfValue offset high) b f fs e = read-second offset high b f fs
read_byte (Whole offset v) b f fs e = refl
read_byte Single b f fs e = refl
read_byte Spoiled b f fs e = refl

-- ---- the whole line
read-rest : (r : Reading) (line : List ℕ) → command_read (read_from r line) ≡ meaning r (first line) (others line)
unfolding read_from first others
read-rest r [] = read-end r
read-rest r (b ∷ line) = by (eqb b 32) refl (read-rest (taken r b) line)
  where
    by : (t : Bool) → eqb b 32 ≡ t → command_read (read_from (taken r b) line) ≡ meaning (taken r b) (first line) (others line)
        → command_read (read_from (taken r b) line) ≡ meaning r (if t then [] else b ∷ first line) (if t then first line ∷ others line else others line)
    by true e i = i ∙ ap (λ (n : ℕ). meaning (taken r n) (first line) (others line)) (eqb-true b 32 e) ∙ sym (read_space r (first line) (others line))
    by false e i = i ∙ sym (read_byte r b (first line) (others line) e)

pub read_line : (line : List ℕ) → command_read (read_from Blank line) ≡ command_of line
unfolding command_of meaning
read_line line = read-rest Blank line
