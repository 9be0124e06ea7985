-- The tests of a fit record are its facts, both ways.
use Rattle.std.specs.Prelude.{ℕ, ◌≤◌, ◌<◌, ◌≡◌, refl, Bool, true, false, ◌&&◌, eqb, leb, ltb}
use Rattle.std.proofs.Common.{arith, eqb-true, ltb-true, ltb-false, leb-true, leb-false, eq-eqb, ne_eqb, lt-ltb, le-ltb, le-leb}
use Rattle.std.proofs.lemmas.Bool.{eqb-false}
use Rattle.base.specs.Laws.{never, neither, under_and}
use Rattle.base.specs.Unrefused.{none_hold, none-refuses}
use Rattle.base.specs.Tests.{each, every}
use Rattle.collector_settings.specs.declared.Settings.{Settings}
use Rattle.collector_phases.specs.declared.Collector.{Collector}
use Rattle.collector_phases.specs.declared.Phase.{Phase}
use Rattle.collector_phases.specs.declared.Phase.TheVariants.{Stop, Poll, Range, Clear, Low, High, Go, Look, Take, Drain, Stuck, Unknown}
use Rattle.collector_settings.specs.Settings.{start_checks, start_refusal}
use Rattle.collector_phases.specs.Phases.{phase_of}
use Rattle.collector_replies.specs.Channels.{none-lacking, lacking-none}
use Rattle.collector_phases.specs.Fit.{FitSettings, FitIn, FitCollector, fit_in, fit_tests, fit}

-- ---- settings
-- a start that nothing refuses has fit settings ..
pub settings_of : (s : Settings) → start_refusal s ≡ 0 → FitSettings s
unfolding start_refusal
settings_of s h =
    let e = none_hold (start_checks s) (omega arith, (omega arith, (omega arith, (omega arith, tt)))) h in
    let l = neither (eqb s.limit 0) (ltb 1000 s.limit) e.0 in
    let o = neither (ltb s.high s.low) (ltb 31 s.high) e.1.0 in
    let k = neither (leb 4 s.range && leb s.range 7) (ltb 15 s.range) e.1.1.1.0 in
    let order : s.low ≤ s.high = ltb-false _ _ o.0 in
    let top : s.high ≤ 31 = ltb-false _ _ o.1 in
    record {
      some-polls = positive s.limit (eqb-false _ _ l.0);
      few-polls = ltb-false _ _ l.1;
      order = order;
      top = top;
      channels = none-lacking s.low s.high order top s.jumpers e.1.1.0;
      code = ltb-false _ _ k.1;
      no_gap = λ x y. above s.range y (under_and (leb 4 s.range) (leb s.range 7) k.0 (le-leb _ _ x));
    }
  where
    positive : (n : ℕ) → (n ≡ 0 → ⊥) → 1 ≤ n
    positive n f = by (leb 1 n) refl
      where
        by : (b : Bool) → leb 1 n ≡ b → 1 ≤ n
        by true t = leb-true 1 n t
        by false t = absurd (f (let g : n < 1 = leb-false 1 n t in omega arith))

    above : (n : ℕ) → n ≤ 7 → leb n 7 ≡ false → ⊥
    above n y t = let g : 7 < n = leb-false n 7 t in omega arith

-- .. and nothing refuses a start with fit settings
pub settings-to : (s : Settings) → FitSettings s → start_refusal s ≡ 0
unfolding start_refusal
settings-to s f =
    none-refuses (start_checks s) (
      rw (ne_eqb s.limit 0 none) (le-ltb 1000 s.limit f.few-polls),
      (
        rw (le-ltb s.high s.low f.order) (le-ltb 31 s.high f.top),
        (
          lacking-none s.low s.high f.order f.top s.jumpers f.channels,
          (
            rw (between (leb 4 s.range) (leb s.range 7) (λ x y. f.no_gap (leb-true _ _ x) (leb-true _ _ y))) (le-ltb 15 s.range f.code),
            tt,
          ),
        ),
      ),
    )
  where
    none : s.limit ≡ 0 → ⊥
    none e = let g : 1 ≤ s.limit = f.some-polls in omega arith

    between : (a b : Bool) → (a ≡ true → b ≡ true → ⊥) → (a && b) ≡ false
    between true true g = absurd (g refl refl)
    between true false g = refl
    between false b g = refl

-- ---- the phase
fits_of : (p : Phase) (c : Collector) → fit_in p c ≡ true → FitIn p c
fits_of Stop c h = eqb-true _ _ h
fits_of Poll c h = ltb-true _ _ h
fits_of Range c h = tt
fits_of Clear c h = tt
fits_of Low c h = tt
fits_of High c h = tt
fits_of Go c h = tt
fits_of Look c h = tt
fits_of Take c h = tt
fits_of Drain c h = both (leb 1 c.left) (leb c.left 512) h refl refl
  where
    both : (a b : Bool) → (a && b) ≡ true → leb 1 c.left ≡ a → leb c.left 512 ≡ b → (1 ≤ c.left) × (c.left ≤ 512)
    both true true t x y = (leb-true _ _ x, leb-true _ _ y)
    both true false t x y = never t
    both false b t x y = never t
fits_of Stuck c h = tt
fits_of Unknown c h = never h

fits-to : (p : Phase) (c : Collector) → FitIn p c → fit_in p c ≡ true
fits-to Stop c w = eq-eqb _ _ w
fits-to Poll c w = lt-ltb _ _ w
fits-to Range c w = refl
fits-to Clear c w = refl
fits-to Low c w = refl
fits-to High c w = refl
fits-to Go c w = refl
fits-to Look c w = refl
fits-to Take c w = refl
fits-to Drain c w = rw (le-leb 1 c.left w.0, le-leb c.left 512 w.1)
fits-to Stuck c w = refl
fits-to Unknown c w = absurd w

-- ---- the record
pub fit_of : (c : Collector) → fit c ≡ true → FitCollector c
unfolding fit
fit_of c h =
    let e = each (fit_tests c) h in
    record {
      settings = settings_of c.settings (eqb-true _ _ e.0);
      from_low = leb-true _ _ e.1.0;
      to_high = leb-true _ _ e.1.1.0;
      polls = leb-true _ _ e.1.1.1.0;
      phase = fits_of (phase_of c.phase) c e.1.1.1.1.0;
    }

pub fit-to : (c : Collector) → FitCollector c → fit c ≡ true
unfolding fit
fit-to c w =
    every (fit_tests c) (
      eq-eqb _ _ (settings-to c.settings w.settings),
      (le-leb _ _ w.from_low, (le-leb _ _ w.to_high, (le-leb _ _ w.polls, (fits-to (phase_of c.phase) c w.phase, tt)))),
    )

-- the numbers that the code counts up have room to spare
pub room : (c : Collector) → fit c ≡ true → (c.polls < 65535) × (c.next < 255)
room c h =
    let w = fit_of c h in
    let a : c.polls ≤ c.settings.limit = w.polls in
    let b : c.settings.limit ≤ 1000 = w.settings.few-polls in
    let d : c.next ≤ c.settings.high = w.to_high in
    let e : c.settings.high ≤ 31 = w.settings.top in
    (omega arith, omega arith)
