-- Numbers as text (the specification, "The session program": line numbers, "the answer in two or four hex capitals"), and text in a lent slice.
use Rattle.std.specs.Prelude.{ℕ, zero, suc, ◌+◌, ◌/◌, ◌%◌, ◌≤◌, ◌≡◌, List, [], ◌∷◌, ◌++◌, eqb, length, drop, if◌then◌else◌}
use Rattle.std.proofs.lemmas.List.Edits.{sets}
use Rattle.session_digits.specs.Digits.{hex_digit}
use Rattle.session_text.specs.declared.Decimal.{Decimal}

abbrev pub byte_text : ℕ → List ℕ
byte_text v = hex_digit (v / 16) ∷ hex_digit v ∷ []

abbrev pub word_text : ℕ → List ℕ
word_text v = hex_digit (v / 4096) ∷ hex_digit (v / 256) ∷ hex_digit (v / 16 % 256) ∷ hex_digit (v % 256) ∷ []

-- the digits of n, none for 0; k is as many as there can be
unfoldable pub digits_of : ℕ → ℕ → List ℕ
digits_of zero n = []
digits_of (suc k) n = if eqb n 0 then [] else (digits_of k (n / 10) ++ ((48 + n % 10) ∷ []))

-- the decimal digits of a number below 10^20: no leading zero, and 0 is one digit
unfoldable pub decimal_text : ℕ → List ℕ
decimal_text n = digits_of 19 (n / 10) ++ ((48 + n % 10) ∷ [])

-- what `spell` gives: the digits stand at the end of the array
pub record Spells (n : ℕ) (d : Decimal) : Type 0 where
  pub size : length d.digits ≡ 20
  pub within : d.from ≤ 20
  pub text : drop d.from d.digits ≡ decimal_text n

-- a text written at `at` of `out`
pub record Wrote (text out : List ℕ) (at : ℕ) (out' : List ℕ) (r : ℕ) : Type 0 where
  pub next : r ≡ at + length text
  pub bytes : out' ≡ sets out at text
