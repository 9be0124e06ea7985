-- A counter that has no trigger and no count to load: CLK pulses at one GATE level change its count and OUT alone, its face, and what they go by, its
-- pace, stays as it is. Data sheet (manual, chapter 19), modes 0 and 2.
use Rattle.std.specs.Prelude.{◌≡◌, ℕ, Bool, true, false, not, ◌||◌, ◌==◌, refl, if◌then◌else◌, Option, Some, None}
use Rattle.std.proofs.Common.{sym, ap, ap₂, ◌∙◌}
use borrow.Author.Tests.{eqb-true}
use Rattle.base.specs.Flags.{on, flag}
use Rattle.base.specs.Laws.{never, both}
use Rattle.counter_modes.specs.Bits.{mode_by, rate, mode_bit}
use Rattle.counter_modes.specs.Control.{setup_of}
use Rattle.counter_modes.specs.declared.Mode.TheVariants.{TerminalCount, RateGenerator}
use Rattle.counter_modes.specs.declared.Format.{Format}
use Rattle.counter_modes.specs.declared.Mode.{Mode}
use Rattle.counter_element.specs.Element.{down, load, counted, counted_by, pulse_counts, pulse_taken}
use Rattle.counter_element.specs.declared.Count.{Count}
use Rattle.counter_one.specs.Counter.{pulsed_as, pulsed}
use Rattle.counter_one.specs.Working.{WorkingCounter}
use Rattle.counter_one.specs.declared.Counter.{Counter}
use Rattle.counter_pulses.specs.Pulses.{counts, clear, no_load_lem}
use Rattle.counter_pulses.specs.declared.Face.{Face}
use Rattle.counter_pulses.specs.declared.Pace.{Pace}

-- ---- no trigger and no count to load
abbrev pub settled : Counter → Bool
settled k = not (on k.trigger || on k.count.waiting)

-- ---- its face and its pace, and the counter with another face
abbrev pub face_of : Counter → Face
face_of k = record { element = k.count.element; out = k.count.out }

unfoldable pub pace_of : Counter → Bool → Pace
pace_of k gate = record { counts = counts (setup_of k.control) k gate; rate = rate k.control; register = k.count.register }

abbrev at_face : Count → Face → Count
at_face c f = record { register = c.register; element = f.element; out = f.out; waiting = c.waiting; loaded = c.loaded }

abbrev pub faced : Counter → Face → Counter
faced k f = record { control = k.control; trigger = k.trigger; count = at_face k.count f; bus = k.bus }

-- ---- its face after a pulse
abbrev rate_counted : ℕ → Face → Face
rate_counted register f =
    if f.element == 1 then record { element = register; out = 1 }
    else record { element = down f.element; out = flag (not (down f.element == 1)) }

abbrev terminal_counted : Face → Face
terminal_counted f = record { element = down f.element; out = flag (on f.out || down f.element == 0) }

abbrev counted_as : Bool → Bool → ℕ → Face → Face
counted_as counts rate register f = if counts then (if rate then rate_counted register f else terminal_counted f) else f

unfoldable pub face_counted : Pace → Face → Face
face_counted p f = counted_as p.counts p.rate p.register f

-- ---- laws: a pulse changes the face alone
pub calm : (t w : Bool) → not (t || w) ≡ true → (t ≡ false) × (w ≡ false)
calm true w h = never h
calm false true h = never h
calm false false h = (refl, refl)

module _ (c : Count) (g half : Bool) (z : c.waiting ≡ 0) (f : Face) where
  no_wait : on c.waiting ≡ false
  no_wait = ap on z

  reloads : c.loaded ≡ 1 → (x : Bool)
      → (if x then load (at_face c f) true else counted (at_face c f) (down f.element) (not (down f.element == 1)))
      ≡ at_face c (if x then record { element = c.register; out = 1 } else record { element = down f.element; out = flag (not (down f.element == 1)) })
  reloads o true = ap₂ (λ (x y : ℕ). record { register = c.register; element = c.register; out = 1; waiting = x; loaded = y }) (sym z) (sym o)
  reloads o false = refl

  face_taken : (r n : Bool) → pulse_counts (mode_by r) g half c ≡ n
      → pulse_taken (mode_by r) g false half (at_face c f) ≡ at_face c (counted_as n r c.register f)
  unfolding counted_by
  face_taken true true e =
      let o = eqb-true c.loaded 1 (both (on c.loaded) _ e).0 in
      rw (no_load_lem RateGenerator (at_face c f) no_wait, e) (reloads o (f.element == 1))
  face_taken false true e = rw (no_load_lem TerminalCount (at_face c f) no_wait, e)
  face_taken true false e = rw (no_load_lem RateGenerator (at_face c f) no_wait, e)
  face_taken false false e = rw (no_load_lem TerminalCount (at_face c f) no_wait, e)

pub face_pulsed : (k : Counter) (g : Bool) → WorkingCounter k → settled k ≡ true → (f : Face) → pulsed (faced k f) g ≡ faced k (face_counted (pace_of k g) f)
unfolding pulsed pace_of face_counted
face_pulsed k g w s f = go (setup_of k.control) refl
  where
    triggered : ℕ → Face → Counter
    triggered x f = record { control = k.control; trigger = x; count = at_face k.count f; bus = k.bus }

    t : k.trigger ≡ 0
    t = clear k.trigger w.flags.trigger (calm (on k.trigger) (on k.count.waiting) s).0

    z : k.count.waiting ≡ 0
    z = clear k.count.waiting w.flags.count.waiting (calm (on k.trigger) (on k.count.waiting) s).1

    by : (m : Format) (r : Bool)
        → pulsed_as (Some (m, mode_by r)) (faced k f) g ≡ faced k (counted_as (counts (Some (m, mode_by r)) k g) r k.count.register f)
    by m r =
        let n = counts (Some (m, mode_by r)) k g in
        ap (λ (x : ℕ). pulsed_as (Some (m, mode_by r)) (triggered x f) g) t
        ∙ ap (λ (c : Count). record { control = k.control; trigger = 0; count = c; bus = k.bus })
        (face_taken k.count g (on k.bus.halfwritten) z f r n refl)
        ∙ sym (ap (λ (x : ℕ). triggered x (counted_as n r k.count.register f)) t)

    go : (x : Option (Format × Mode)) → setup_of k.control ≡ x
        → pulsed_as x (faced k f) g ≡ faced k (counted_as (counts x k g) (rate k.control) k.count.register f)
    go None e = refl
    go (Some (m, d)) e = rw (mode_bit k.control m d e) (by m (rate k.control))
