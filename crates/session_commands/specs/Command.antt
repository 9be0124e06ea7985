-- What a line asks for. The specification, "The session program": `W offset value`, `R offset` (offset decimal 0 to 99, value two hex digits),
-- `X` word read, `C code` (conversion end, decimal -32768 to 32767); "Another line prints its number and `bad`. Fields stand one space apart; hex
-- digits may be either case, decimals have no plus or leading zero".
use Rattle.std.specs.Prelude.{ℕ, ◌+◌, ◌-◌, ◌*◌, Bool, false, List, [], ◌∷◌, Option, None, Some, eqb, leb, if◌then◌else◌}
use Rattle.std.specs.Option.{option_map, option_and_then}
use Rattle.session_digits.specs.Digits.{digit_of, hex_of}
use Rattle.session_commands.specs.declared.Command.{Command}
use Rattle.session_commands.specs.declared.Command.TheVariants.{WriteByte, ReadByte, ReadWord, EndConversion}

-- a field's number, where it is one
abbrev pub FieldNumber : Type 0
FieldNumber = Option ℕ

-- ---- fields: what stands before the first space (32), and what stands between and after the spaces
unfoldable pub first : List ℕ → List ℕ
first [] = []
first (b ∷ line) = if eqb b 32 then [] else b ∷ first line

unfoldable pub others : List ℕ → List (List ℕ)
others [] = []
others (b ∷ line) = if eqb b 32 then first line ∷ others line else others line

-- ---- decimals: digits, and a first digit 0 stands alone
unfoldable pub digits : ℕ → List ℕ → FieldNumber
digits n [] = Some n
digits n (b ∷ f) = option_and_then (λ d. digits (n * 10 + d) f) (digit_of b)

abbrev pub alone : List ℕ → FieldNumber
alone [] = Some 0
alone (b ∷ f) = None

abbrev pub decimal : List ℕ → FieldNumber
decimal [] = None
decimal (b ∷ f) = option_and_then (λ d. if eqb d 0 then alone f else digits d f) (digit_of b)

abbrev pub up_to : ℕ → FieldNumber → FieldNumber
up_to limit None = None
up_to limit (Some n) = if leb n limit then Some n else None

-- ---- a code in its 16 bits; 45 is the minus
-- the 16 bits of the code -n, for n up to 32768
abbrev pub minus : ℕ → ℕ
minus n = if eqb n 0 then 0 else 65536 - n

abbrev pub negated : FieldNumber → FieldNumber
negated None = None
negated (Some n) = Some (minus n)

abbrev pub code : List ℕ → FieldNumber
code [] = None
code (b ∷ f) = if eqb b 45 then negated (up_to 32768 (decimal f)) else up_to 32767 (decimal (b ∷ f))

-- ---- a value: two hex digits
abbrev pub value : List ℕ → FieldNumber
value [] = None
value (h ∷ []) = None
value (h ∷ l ∷ []) = option_and_then (λ high. option_map (λ low. high * 16 + low) (hex_of l)) (hex_of h)
value (h ∷ l ∷ b ∷ f) = None

-- ---- the command
abbrev pub write_at : FieldNumber → FieldNumber → Option Command
write_at None v = None
write_at (Some offset) None = None
write_at (Some offset) (Some v) = Some (WriteByte offset v)

abbrev pub read_at : FieldNumber → Option Command
read_at None = None
read_at (Some offset) = Some (ReadByte offset)

abbrev pub end_with : FieldNumber → Option Command
end_with None = None
end_with (Some sample) = Some (EndConversion sample)

-- a field that is one letter
abbrev pub is_letter : ℕ → List ℕ → Bool
is_letter letter [] = false
is_letter letter (b ∷ []) = eqb b letter
is_letter letter (b ∷ c ∷ f) = false

-- X is 88, R 82, C 67, W 87
abbrev pub command_in : List ℕ → List (List ℕ) → Option Command
command_in l [] = if is_letter 88 l then Some ReadWord else None
command_in l (f ∷ []) =
    if is_letter 82 l then read_at (up_to 99 (decimal f)) else if is_letter 67 l then end_with (code f) else None
command_in l (f ∷ v ∷ []) = if is_letter 87 l then write_at (up_to 99 (decimal f)) (value v) else None
command_in l (f ∷ v ∷ g ∷ fs) = None

unfoldable pub command_of : List ℕ → Option Command
command_of line = command_in (first line) (others line)
