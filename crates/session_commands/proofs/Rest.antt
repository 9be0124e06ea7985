-- Theorems that rest on theorems of specs/Rest.antt, and promise as those do. What specs/Rest.antt says of itself:
-- What the rest of a line means after what was read of it: at the line's end, after a space, and after its first byte.
use Rattle.std.specs.Prelude.{◌≡◌, refl, Bool, true, false, List, [], ◌∷◌, None, ℕ, eqb, if◌then◌else◌}
use Rattle.std.proofs.Common.{ap, ◌∙◌, eqb-true}
use Rattle.session_commands.specs.Command.{decimal, up_to, value, write_at, command_in}
use Rattle.session_reading.specs.Reading.{first_taken}
use Rattle.session_reading.specs.declared.Number.TheVariants.{WriteOffset, ReadOffset, Code}
use Rattle.session_reading.specs.declared.Reading.TheVariants.{Letter, Single, Spoiled}
use Rattle.session_commands.specs.Rest.{Letters, meaning}

-- ---- another byte
no_letter : (b : ℕ) → eqb b 87 ≡ false → eqb b 82 ≡ false → eqb b 67 ≡ false → eqb b 88 ≡ false → (f : List ℕ) (fs : List (List ℕ))
    → command_in (b ∷ f) fs ≡ None
no_letter b w r c x [] [] = rw x
no_letter b w r c x [] (f ∷ []) = rw (r, c)
no_letter b w r c x [] (f ∷ v ∷ []) = ap (λ (t : Bool). if t then write_at (up_to 99 (decimal f)) (value v) else None) w
no_letter b w r c x [] (f ∷ v ∷ g ∷ fs) = refl
no_letter b w r c x (d ∷ l) [] = refl
no_letter b w r c x (d ∷ l) (f ∷ []) = refl
no_letter b w r c x (d ∷ l) (f ∷ v ∷ []) = refl
no_letter b w r c x (d ∷ l) (f ∷ v ∷ g ∷ fs) = refl

letter_laws : (f : List ℕ) (fs : List (List ℕ)) → Letters f fs
letter_laws [] [] = record { w = refl; r = refl; c = refl; x = refl }
letter_laws [] (f ∷ []) = record { w = refl; r = refl; c = refl; x = refl }
letter_laws [] (f ∷ v ∷ []) = record { w = refl; r = refl; c = refl; x = refl }
letter_laws [] (f ∷ v ∷ g ∷ fs) = record { w = refl; r = refl; c = refl; x = refl }
letter_laws (d ∷ l) [] = record { w = refl; r = refl; c = refl; x = refl }
letter_laws (d ∷ l) (f ∷ []) = record { w = refl; r = refl; c = refl; x = refl }
letter_laws (d ∷ l) (f ∷ v ∷ []) = record { w = refl; r = refl; c = refl; x = refl }
letter_laws (d ∷ l) (f ∷ v ∷ g ∷ fs) = record { w = refl; r = refl; c = refl; x = refl }

pub read_first : (b : ℕ) (f : List ℕ) (fs : List (List ℕ)) → command_in (b ∷ f) fs ≡ meaning (first_taken b) f fs
unfolding meaning
read_first b f fs = by (eqb b 87) (eqb b 82) (eqb b 67) (eqb b 88) refl refl refl refl
  where
    by : (w r c x : Bool) → eqb b 87 ≡ w → eqb b 82 ≡ r → eqb b 67 ≡ c → eqb b 88 ≡ x
        → command_in (b ∷ f) fs
        ≡ meaning (if w then Letter WriteOffset else if r then Letter ReadOffset else if c then Letter Code else if x then Single else Spoiled) f fs
    by true r c x ew er ec ex = ap (λ (n : ℕ). command_in (n ∷ f) fs) (eqb-true b 87 ew) ∙ (letter_laws f fs).w
    by false true c x ew er ec ex = ap (λ (n : ℕ). command_in (n ∷ f) fs) (eqb-true b 82 er) ∙ (letter_laws f fs).r
    by false false true x ew er ec ex = ap (λ (n : ℕ). command_in (n ∷ f) fs) (eqb-true b 67 ec) ∙ (letter_laws f fs).c
    by false false false true ew er ec ex = ap (λ (n : ℕ). command_in (n ∷ f) fs) (eqb-true b 88 ex) ∙ (letter_laws f fs).x
    by false false false false ew er ec ex = no_letter b ew er ec ex f fs
