-- A drain as a whole (the specification, "The collector": "512 word reads handed over, a gap marked with the last, start again").
use Rattle.std.specs.Prelude.{ℕ, suc, ◌+◌, ◌-◌, ◌≤◌, ◌<◌, ◌≡◌, refl, Bool, true, false, List, [], ◌∷◌, ◌++◌, map, eqb, length, if◌then◌else◌}
use Rattle.std.proofs.Common.{ap, subst, sym, ◌∙◌, arith, leb-true, leb-false}
use Rattle.base.specs.Laws.{never}
use Rattle.collector_settings.specs.declared.Settings.{Settings}
use Rattle.collector_phases.specs.declared.Collector.{Collector}
use Rattle.samples.specs.declared.Sample.{Sample}
use Rattle.collector_phases.specs.declared.Phase.{Phase}
use Rattle.collector_phases.specs.declared.Phase.TheVariants.{Drain}
use Rattle.collector_steps.specs.declared.Handed.{Handed}
use Rattle.collector_steps.specs.declared.Handed.TheVariants.{OneSample}
use Rattle.collector_steps.specs.declared.Taken.{Taken}
use Rattle.collector_phases.specs.Phases.{phase_number, phase_of}
use Rattle.collector_answers.specs.declared.BusAnswer.TheVariants as bus
use Rattle.collector_answers.specs.Answers.{is_nothing, sample_at}
use Rattle.collector_phases.specs.Fit.{FitCollector}
use Rattle.collector_records.specs.Records.{first_record, draining, passed}
use Rattle.collector_steps.specs.Reads.{reports, closes}
use Rattle.collector_replies.specs.Reply.{replied}
use Rattle.collector.specs.Handed.{samples_of, gap_marked}
use Rattle.collector.specs.Steps.{Step, step, drained, closed, drain_nothing, same_word}
use Rattle.collector.specs.Kept.{replied-fit, draining-fit}

-- what these words, one after the other, hand over, and the collector after them
unfoldable pub handing : Collector → List ℕ → List Handed
handing c [] = []
handing c (a ∷ ws) = (replied c (bus.Number a)).handed ∷ handing (replied c (bus.Number a)).collector ws

unfoldable pub ahead : Collector → List ℕ → Collector
ahead c [] = c
ahead c (a ∷ ws) = ahead (replied c (bus.Number a)).collector ws

-- all samples of that
abbrev pub samples_in : List Handed → List Sample
samples_in [] = []
samples_in (h ∷ hs) = samples_of h ++ samples_in hs

-- the words as samples, from a channel on, the channels in turn
abbrev pub in_turn : Settings → ℕ → List ℕ → List Sample
in_turn s channel [] = []
in_turn s channel (a ∷ ws) = sample_at channel a ∷ in_turn s (if eqb channel s.high then s.low else channel + 1) ws

-- a gap with the last of them and with no other
abbrev pub is_end : List ℕ → Bool
is_end [] = true
is_end (a ∷ ws) = false

abbrev pub gap_at_end : List ℕ → List Bool
gap_at_end [] = []
gap_at_end (a ∷ ws) = is_end ws ∷ gap_at_end ws

pub record Drained (c : Collector) (words : List ℕ) : Type 0 where
  -- each word is handed over, with the channel whose turn it is
  pub samples : samples_in (handing c words) ≡ in_turn c.settings c.next words
  -- a gap is marked with the last
  pub gap : map (λ (h : Handed). gap_marked h) (handing c words) ≡ gap_at_end words
  -- and the collector starts again
  pub again : ahead c words ≡ first_record c.settings

drain_last : (c : Collector) (a : ℕ) (r : Taken) → c.left ≤ 1 → Step c (bus.Number a) Drain r → r ≡ closes c a
drain_last c a r h (drained word i e) = absurd (let g : 1 < c.left = leb-false _ _ e in omega arith)
drain_last c a r h (closed word i e) = ap (closes c) (sym (same_word a word i))
drain_last c a r h (drain_nothing i) = never (ap is_nothing i)

drain_more : (c : Collector) (a : ℕ) (r : Taken) → 1 < c.left → Step c (bus.Number a) Drain r
    → r ≡ reports (passed c (phase_number Drain) (c.left - 1)) (OneSample (sample_at c.next a))
drain_more c a r h (drained word i e) =
    ap (λ (n : ℕ). reports (passed c (phase_number Drain) (c.left - 1)) (OneSample (sample_at c.next n))) (sym (same_word a word i))
drain_more c a r h (closed word i e) = absurd (let g : c.left ≤ 1 = leb-true _ _ e in omega arith)
drain_more c a r h (drain_nothing i) = never (ap is_nothing i)

in_drain : (c : Collector) (a : ℕ) → FitCollector c → phase_of c.phase ≡ Drain → Step c (bus.Number a) Drain (replied c (bus.Number a))
in_drain c a w e = subst (λ (p : Phase). Step c (bus.Number a) p (replied c (bus.Number a))) e (step c (bus.Number a) refl w)

-- in a drain, as many words as are left
pub drains : (c : Collector) (a : ℕ) (ws : List ℕ) → FitCollector c → phase_of c.phase ≡ Drain → c.left ≡ suc (length ws) → Drained c (a ∷ ws)
unfolding handing ahead phase_of
drains c a [] w e h =
    let q = drain_last c a (replied c (bus.Number a)) (omega arith) (in_drain c a w e) in
    record { samples = rw q; gap = rw q; again = ap (λ (r : Taken). r.collector) q }
drains c a (b ∷ bs) w e h =
    let q = drain_more c a (replied c (bus.Number a)) (omega arith) (in_drain c a w e) in
    let d = passed c (phase_number Drain) (c.left - 1) in
    let f : FitCollector d = subst (λ (r : Taken). FitCollector r.collector) q (replied-fit c w (bus.Number a)) in
    let t = drains d b bs f refl (omega arith) in
    record {
      samples = rw q (ap (λ (l : List Sample). sample_at c.next a ∷ l) t.samples);
      gap = rw q (ap (λ (l : List Bool). false ∷ l) t.gap);
      again = ap (λ (r : Taken). ahead r.collector (b ∷ bs)) q ∙ t.again;
    }

-- a full memory: 512 words
pub full_drain : (c : Collector) (words : List ℕ) → FitCollector c → length words ≡ 512 → Drained (draining c) words
unfolding phase_of
full_drain c [] w h = absurd (omega arith)
full_drain c (a ∷ ws) w h = drains (draining c) a ws (draining-fit c w) refl (omega arith)
