-- What the rest of a line means after what was read of it: at the line's end, after a space, and after its first byte.
use Rattle.std.specs.Prelude.{◌≡◌, refl, Bool, true, false, List, [], ◌∷◌, Option, None, Some, ℕ, ◌+◌, ◌*◌, leb, if◌then◌else◌}
use Rattle.std.specs.Option.{option_map}
use Rattle.base.specs.Fields.{lowest}
use Rattle.session_digits.specs.Digits.{digit_of, hex_of}
use Rattle.session_commands.specs.Command.{minus, FieldNumber, digits, alone, decimal, up_to, negated, code, value, write_at, read_at, end_with, command_in}
use Rattle.session_reading.specs.Reading.{taken}
use Rattle.session_commands.specs.Ends.{command_read}
use Rattle.session_commands.specs.declared.Command.{Command}
use Rattle.session_commands.specs.declared.Command.TheVariants.{WriteByte, ReadByte, ReadWord, EndConversion}
use Rattle.session_reading.specs.declared.Number.{Number}
use Rattle.session_reading.specs.declared.Number.TheVariants.{WriteOffset, ReadOffset, Code, MinusCode}
use Rattle.session_reading.specs.declared.Reading.{Reading}
use Rattle.session_reading.specs.declared.Reading.TheVariants.{Blank, Letter, Begun, Zero, Digits, Offset, HalfValue, Whole, Single, Spoiled}

-- ---- what the rest of a line means after what was read: the rest of the field, and the fields after it
-- a number whose field is n, the last one but for an offset of W
abbrev pub numbered : Number → FieldNumber → List (List ℕ) → Option Command
numbered WriteOffset n [] = None
numbered WriteOffset n (v ∷ []) = write_at (up_to 99 n) (value v)
numbered WriteOffset n (v ∷ w ∷ fs) = None
numbered ReadOffset n [] = read_at (up_to 99 n)
numbered ReadOffset n (v ∷ fs) = None
numbered Code n [] = end_with (up_to 32767 n)
numbered Code n (v ∷ fs) = None
numbered MinusCode n [] = end_with (negated (up_to 32768 n))
numbered MinusCode n (v ∷ fs) = None

-- a number before its first digit: only a code may have a minus
abbrev pub first_digit : Number → List ℕ → List (List ℕ) → Option Command
first_digit WriteOffset f fs = numbered WriteOffset (decimal f) fs
first_digit ReadOffset f fs = numbered ReadOffset (decimal f) fs
first_digit Code f [] = end_with (code f)
first_digit Code f (v ∷ fs) = None
first_digit MinusCode f fs = numbered MinusCode (decimal f) fs

abbrev pub lettered : Number → List ℕ → List (List ℕ) → Option Command
lettered number [] [] = None
lettered number [] (f ∷ fs) = first_digit number f fs
lettered number (b ∷ l) fs = None

abbrev pub half : ℕ → List ℕ → FieldNumber
half high [] = None
half high (l ∷ []) = option_map (λ low. lowest 4 high * 16 + low) (hex_of l)
half high (l ∷ b ∷ f) = None

abbrev pub nothing_more : Command → List ℕ → List (List ℕ) → Option Command
nothing_more c [] [] = Some c
nothing_more c [] (f ∷ fs) = None
nothing_more c (b ∷ f) fs = None

abbrev pub last : ℕ → FieldNumber → List (List ℕ) → Option Command
last offset v [] = write_at (Some offset) v
last offset v (f ∷ fs) = None

unfoldable pub meaning : Reading → List ℕ → List (List ℕ) → Option Command
meaning Blank f fs = command_in f fs
meaning (Letter number) f fs = lettered number f fs
meaning (Begun number) f fs = first_digit number f fs
meaning (Zero number) f fs = numbered number (alone f) fs
meaning (Digits number n) f fs = numbered number (digits n f) fs
meaning (Offset offset) f fs = last offset (value f) fs
meaning (HalfValue offset high) f fs = last offset (half high f) fs
meaning (Whole offset v) f fs = nothing_more (WriteByte offset v) f fs
meaning Single f fs = nothing_more ReadWord f fs
meaning Spoiled f fs = None

pub no_number : (number : Number) (fs : List (List ℕ)) → numbered number None fs ≡ None
no_number WriteOffset [] = refl
no_number WriteOffset (v ∷ []) = refl
no_number WriteOffset (v ∷ w ∷ fs) = refl
no_number ReadOffset [] = refl
no_number ReadOffset (v ∷ fs) = refl
no_number Code [] = refl
no_number Code (v ∷ fs) = refl
no_number MinusCode [] = refl
no_number MinusCode (v ∷ fs) = refl

-- ---- where the line ends
pub read-end : (r : Reading) → command_read r ≡ meaning r [] []
unfolding command_read meaning digits
read-end Blank = refl
read-end (Letter number) = refl
read-end (Begun WriteOffset) = refl
read-end (Begun ReadOffset) = refl
read-end (Begun Code) = refl
read-end (Begun MinusCode) = refl
read-end (Zero WriteOffset) = refl
read-end (Zero ReadOffset) = refl
read-end (Zero Code) = refl
read-end (Zero MinusCode) = refl
read-end (Digits WriteOffset n) = refl
read-end (Digits ReadOffset n) = by (leb n 99)
  where
    by : (t : Bool) → (if t then Some (ReadByte n) else None) ≡ read_at (if t then Some n else None)
    by true = refl
    by false = refl
read-end (Digits Code n) = by (leb n 32767)
  where
    by : (t : Bool) → (if t then Some (EndConversion n) else None) ≡ end_with (if t then Some n else None)
    by true = refl
    by false = refl
read-end (Digits MinusCode n) = by (leb n 32768)
  where
    by : (t : Bool) → (if t then Some (EndConversion (minus n)) else None) ≡ end_with (negated (if t then Some n else None))
    by true = refl
    by false = refl
read-end (Offset offset) = refl
read-end (HalfValue offset high) = refl
read-end (Whole offset v) = refl
read-end Single = refl
read-end Spoiled = refl

-- ---- a space
pub read_space : (r : Reading) (f : List ℕ) (fs : List (List ℕ)) → meaning r [] (f ∷ fs) ≡ meaning (taken r 32) f fs
unfolding meaning taken digits digit_of hex_of
read_space Blank f [] = refl
read_space Blank f (v ∷ []) = refl
read_space Blank f (v ∷ w ∷ fs) = refl
read_space (Letter number) f fs = refl
read_space (Begun WriteOffset) f [] = refl
read_space (Begun WriteOffset) f (v ∷ fs) = refl
read_space (Begun ReadOffset) f fs = refl
read_space (Begun Code) f fs = refl
read_space (Begun MinusCode) f fs = refl
read_space (Zero WriteOffset) f [] = refl
read_space (Zero WriteOffset) f (v ∷ fs) = refl
read_space (Zero ReadOffset) f fs = refl
read_space (Zero Code) f fs = refl
read_space (Zero MinusCode) f fs = refl
read_space (Digits WriteOffset n) f [] = by (leb n 99)
  where
    by : (t : Bool) → write_at (if t then Some n else None) (value f) ≡ meaning (if t then Offset n else Spoiled) f []
    by true = refl
    by false = refl
read_space (Digits WriteOffset n) f (v ∷ fs) = by (leb n 99)
  where
    by : (t : Bool) → None ≡ meaning (if t then Offset n else Spoiled) f (v ∷ fs)
    by true = refl
    by false = refl
read_space (Digits ReadOffset n) f fs = refl
read_space (Digits Code n) f fs = refl
read_space (Digits MinusCode n) f fs = refl
read_space (Offset offset) f fs = refl
read_space (HalfValue offset high) f fs = refl
read_space (Whole offset v) f fs = refl
read_space Single f fs = refl
read_space Spoiled f fs = refl

-- ---- another byte
-- W (87), R (82), C (67) and X (88)
pub record Letters (f : List ℕ) (fs : List (List ℕ)) : Type 0 where
  pub w : command_in (87 ∷ f) fs ≡ lettered WriteOffset f fs
  pub r : command_in (82 ∷ f) fs ≡ lettered ReadOffset f fs
  pub c : command_in (67 ∷ f) fs ≡ lettered Code f fs
  pub x : command_in (88 ∷ f) fs ≡ nothing_more ReadWord f fs
