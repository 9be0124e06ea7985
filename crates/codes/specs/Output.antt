-- The code that puts out a voltage (manual, chapters 13 and 14.1 to 14.3; the specification, "Volts").
use Rattle.std.specs.Prelude.{◌≡◌, List, [], ◌∷◌, ℕ, ◌+◌, ◌*◌, ◌/◌, ◌%◌, ◌≤◌, ◌<◌, leb, get_or, ℤ, pos, negsuc, ◌+ℤ◌, if◌then◌else◌}

-- An answer: a number, or a refusal by its number.
pub data OutputAnswer : Type 0 where
  given refused : ℕ → OutputAnswer

-- An answer as one plain number: what is given, or 65536 and the number of the refusal.
abbrev pub as_number : OutputAnswer → ℕ
as_number (given n) = n
as_number (refused n) = 65536 + n

-- An output range: how many microvolts its low end lies below 0 V, and its "maximum voltage swing", "the difference between the highest
-- nominal output voltage and the lowest output voltage" (13.2), in microvolts.
pub data Span : Type 0 where
  span : ℕ → ℕ → Span
  unknown : Span

-- "The low end can be either 0V (for unipolar output ranges) or minus the high end voltage" (13.3). The full-scale voltage is in microvolts.
abbrev pub bipolar : ℕ → Span
bipolar full_scale = span full_scale (2 * full_scale)

abbrev pub unipolar : ℕ → Span
unipolar full_scale = span 0 full_scale

-- The output ranges 0 to 3: ±5 V, ±10 V, 0-5 V, 0-10 V.
abbrev pub ranges : List Span
ranges = bipolar 5000000 ∷ bipolar 10000000 ∷ unipolar 5000000 ∷ unipolar 10000000 ∷ []

abbrev pub span_of : ℕ → Span
span_of range = get_or ranges range unknown

-- "Output value = (Output voltage) / (Full-scale voltage) * 4096" (unipolar) and ".. * 2048 + 2048" (bipolar) are both the height of the
-- voltage above the low end, times 4096, over the swing. `code` is the whole number nearest to it, halves upward:
-- code - 1/2 ≤ height * 4096 / swing < code + 1/2, here times 2 * swing.
pub record Nearest (height swing code : ℕ) : Type 0 where
  pub most : 2 * (code * swing) ≤ height * 8192 + swing
  pub least : height * 8192 < 2 * (code * swing) + swing

-- The same in closed form: height * 4096 / swing + 1/2, cut to a whole number.
abbrev pub nearest : ℕ → ℕ → ℕ
nearest height swing = (height * 8192 + swing) / (2 * swing)

-- "The maximum output value is 4095."
abbrev pub in_twelve_bits : ℕ → OutputAnswer
in_twelve_bits code = if leb code 4095 then given code else refused 18

-- The answer by the height above the low end, which is negative where the voltage is below the range.
abbrev pub above : ℤ → ℕ → OutputAnswer
above (pos height) swing = in_twelve_bits (nearest height swing)
above (negsuc n) swing = refused 18

abbrev pub output_in : Span → ℤ → OutputAnswer
output_in (span below swing) microvolts = above (microvolts +ℤ pos below) swing
output_in unknown microvolts = refused 19

abbrev pub output_of : ℤ → ℕ → OutputAnswer
output_of microvolts range = output_in (span_of range) microvolts

-- A code that is answered is nearest to the voltage.
abbrev pub IsNearest : Span → ℤ → ℕ → Type 0
IsNearest (span below swing) microvolts r = (height : ℕ) → microvolts +ℤ pos below ≡ pos height → r < 65536 → Nearest height swing r
IsNearest unknown microvolts r = Unit

-- A code of twelve bits that is nearest to the voltage is the answer: there is no other.
abbrev pub OnlyNearest : Span → ℤ → ℕ → Type 0
OnlyNearest (span below swing) microvolts r = (height code : ℕ) → microvolts +ℤ pos below ≡ pos height → code ≤ 4095 → Nearest height swing code → r ≡ code
OnlyNearest unknown microvolts r = Unit

-- What `dmm32_output_code` answers.
pub record AnswersCode (r : ℕ) (range : Span) (microvolts : ℤ) : Type 0 where
  pub is : r ≡ as_number (output_in range microvolts)
  pub near : IsNearest range microvolts r
  pub only : OnlyNearest range microvolts r

-- "LSB = (D/A Code) AND 255", "MSB = int((D/A code) / 256)", "MSB = MSB + Channel * 64" (14.2, 14.3).
abbrev pub lsb : ℕ → ℕ
lsb code = code % 256

abbrev pub msb : ℕ → ℕ → ℕ
msb code channel = code / 256 + channel * 64

-- The two bytes as one number: the LSB, and 256 times the MSB.
abbrev pub on_channel : ℕ → OutputAnswer → OutputAnswer
on_channel channel (given code) = given (lsb code + 256 * msb code channel)
on_channel channel (refused n) = refused n

-- The channels are 0 to 3. An unknown channel or range, 19, comes before 18.
abbrev pub bytes_of : ℤ → ℕ → ℕ → OutputAnswer
bytes_of microvolts range channel = if leb channel 3 then on_channel channel (output_of microvolts range) else refused 19
