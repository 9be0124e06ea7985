-- Digits of a session's text (the specification, "The session program": "hex digits may be either case").
use Rattle.std.specs.Prelude.{ℕ, Option, None, Some, ◌+◌, ◌%◌, ◌&&◌, ◌||◌, leb, ltb, if◌then◌else◌}

-- the value of a decimal digit ('0' is 48); none for another byte
unfoldable pub digit_of : ℕ → Option ℕ
digit_of b = if leb 48 b && leb b 57 then Some (b % 16) else None

-- the value of a hex digit ('A' is 65, 'a' 97); none for another byte
unfoldable pub hex_of : ℕ → Option ℕ
hex_of b =
    if leb 48 b && leb b 57 then Some (b % 16)
    else if leb 65 b && leb b 70 || leb 97 b && leb b 102 then Some (b % 16 + 9)
    else None

-- '0' to '9', 'A' to 'F' for the low four bits of a number
abbrev pub hex_digit : ℕ → ℕ
hex_digit n = if ltb (n % 16) 10 then 48 + n % 16 else 55 + n % 16
