-- One number carries a code or a refusal, and neither can be taken for the other (the specification, "offered to C hosts as plain numbers").
use Rattle.std.specs.Prelude.{◌≡◌, refl, Bool, true, false, ℕ, ◌≤◌, leb, ℤ, pos, negsuc, ◌+ℤ◌, if◌then◌else◌}
use Rattle.std.proofs.Common.{ap, arith, leb-true}
use Rattle.codes.specs.Output.{OutputAnswer, given, refused, as_number, Span, span, unknown, nearest, above, output_in, output_of, span_of, on_channel}
use Rattle.codes.specs.Output.{bytes_of}

-- What is given is at most m.
abbrev pub Within : ℕ → OutputAnswer → Type 0
Within m (given n) = n ≤ m
Within m (refused n) = Unit

fitted : (n : ℕ) (t : Bool) → leb n 4095 ≡ t → Within 4095 (if t then given n else refused 18)
fitted n true e = leb-true n 4095 e
fitted n false e = tt

reached : (d : ℤ) (swing : ℕ) → Within 4095 (above d swing)
reached (pos h) swing = fitted (nearest h swing) (leb (nearest h swing) 4095) refl
reached (negsuc n) swing = tt

-- A code that is given has twelve bits.
pub code-within : (range : Span) (microvolts : ℤ) → Within 4095 (output_in range microvolts)
code-within (span below swing) microvolts = reached (microvolts +ℤ pos below) swing
code-within unknown microvolts = tt

loaded : (a : OutputAnswer) (channel : ℕ) → channel ≤ 3 → Within 4095 a → Within 65535 (on_channel channel a)
loaded (given n) channel c h = omega arith
loaded (refused n) channel c h = tt

chosen : (a : OutputAnswer) (channel : ℕ) (t : Bool) → leb channel 3 ≡ t → Within 4095 a → Within 65535 (if t then on_channel channel a else refused 19)
chosen a channel true e h = loaded a channel (leb-true channel 3 e) h
chosen a channel false e h = tt

-- Two bytes that are given have sixteen bits.
pub bytes-within : (microvolts : ℤ) (range channel : ℕ) → Within 65535 (bytes_of microvolts range channel)
bytes-within microvolts range channel =
    chosen (output_of microvolts range) channel (leb channel 3) refl (code-within (span_of range) microvolts)

-- Two answers with the same plain number are the same answer.
pub told-apart : (a b : OutputAnswer) → Within 65535 a → Within 65535 b → as_number a ≡ as_number b → a ≡ b
told-apart (given m) (given n) p q e = ap given e
told-apart (given m) (refused n) p q e = absurd (omega arith)
told-apart (refused m) (given n) p q e = absurd (omega arith)
told-apart (refused m) (refused n) p q e = let same : m ≡ n = omega arith in ap refused same
