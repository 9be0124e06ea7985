-- The ways out of a conversion's end, over plain values: what the single fields that are stored make of the record. Assumes nothing.
use mathlib.Core.Path.{◌≡◌, refl, sym, ap, ◌∙◌}
use mathlib.Core.Bool.{Bool, true, false, not, ◌&&◌, ◌||◌}
use mathlib.Core.List.{List}
use Prim.Native.Nat.{ℕ}
use lib.IntN.{ℤ}
use lib.Dec.{leb}
use borrow.Author.Tests.{eq-eqb, ne_eqb}
use Rattle.base.specs.Flags.{on, flag, flag-on}
use Rattle.base.specs.Laws.{never, not_not, not_true}
use Rattle.fifo.specs.Queue.{queue, Leaves, pushed_to}
use Rattle.fifo.specs.Samples.{pushed}
use Rattle.fifo.specs.declared.Fifo.{Fifo}
use Rattle.converter.specs.Channels.{started, idle, ended, end_starts, is_last}
use Rattle.converter.specs.Codes.{sample_of}
use Rattle.converter.specs.declared.channels.Converter.{Converter}
use Rattle.requests.specs.Requests.{with_flags, asked_ad, threshold_of}
use Rattle.requests.specs.Working.{WorkingRequests}
use Rattle.requests.specs.declared.Requests.{Requests}
use Rattle.machine_record.specs.Parts.{with_fifo, with_converter, with_requests}
use Rattle.machine_record.specs.declared.Board.{Board}
use Rattle.board_refusal.specs.Refusals.{event_checks}
use Rattle.board_step.specs.Act.{acted, eeprom_acted}
use Rattle.board_step.specs.Step.{ran}
use Rattle.board_step.specs.Ways.{Promised, Opened, working, refused, done}
use Rattle.board_events.specs.declared.Answer.TheVariants.{Refused, Done}
use Rattle.board_events.specs.declared.Event.TheVariants.{ConversionEnd}

-- ---- an end inside a scan asks for nothing: d is ADINT, a ADINTE
unasked : (r : Requests) {l : Bool} (h : ℕ) → WorkingRequests r → l ≡ false → r ≡ asked_ad r l h
unasked r {l} h w e =
    ap (λ (x : ℕ). with_flags r (record { adint = x; dint = r.flags.dint; tint = r.flags.tint }))
    (sym (flag-on r.flags.adint w.adint) ∙ ap flag (by (on r.flags.adint) (on r.adinte) l (not (on r.fifoen) || leb (threshold_of r) h) e))
  where
    by : (d a l e : Bool) → l ≡ false → d ≡ d || a && l && e
    by true a l e h = refl
    by false true true e h = never (sym h)
    by false true false e h = refl
    by false false l e h = refl

-- ---- the whole event
module _ (b : Board) (m e : List ℕ) (code : ℤ) where
  pub end_refused : Opened b m e → (b.converter.converting ≡ 1 → ⊥) → Promised b m e (ConversionEnd code) (record { board = b; answer = Refused 4 }) m e
  unfolding event_checks
  end_refused o h = refused b m e (ConversionEnd code) o (rw (ne_eqb b.converter.converting 1 h)) refl

  end : {x : ℕ} {f : Fifo} {q : Requests} {k : Converter} {m' : List ℕ} → Opened b m e → b.converter.converting ≡ 1 → x ≡ sample_of code
      → Leaves (pushed_to b.fifo) (pushed (queue b.fifo m) x) f m'
      → q ≡ asked_ad b.requests (is_last b.converter) f.held → k ≡ ended b.converter
      → Promised b m e (ConversionEnd code) (record { board = with_converter (with_requests (with_fifo b f) q) k; answer = Done }) m' e
  unfolding event_checks ran acted eeprom_acted
  end o h x p q k =
      done b m e (ConversionEnd code) o (rw (eq-eqb b.converter.converting 1 h))
      (record { outcome = rw (k, q, p.fifo); memory = rw x at p.laid; eeprom = refl })

  -- the scan is over, or goes on
  module _ {x : ℕ} {f : Fifo} {m' : List ℕ} {t : Bool} (o : Opened b m e) (h : b.converter.converting ≡ 1) (x≡ : x ≡ sample_of code)
      (l : Leaves (pushed_to b.fifo) (pushed (queue b.fifo m) x) f m') (t≡ : t ≡ is_last b.converter) where
    pub end-over : {q : Requests} → t ≡ true → q ≡ asked_ad b.requests true f.held
        → Promised b m e (ConversionEnd code) (record { board = with_requests (with_converter (with_fifo b f) (idle b.converter)) q; answer = Done }) m' e
    end-over i q = end o h x≡ l (q ∙ ap (λ (z : Bool). asked_ad b.requests z f.held) (sym i ∙ t≡)) (rw (not_true (end_starts b.converter) (sym t≡ ∙ i)))

    pub end_goes : {k : Converter} → t ≡ false → k ≡ started b.converter
        → Promised b m e (ConversionEnd code) (record { board = with_converter (with_fifo b f) k; answer = Done }) m' e
    end_goes i k =
        end o h x≡ l (unasked b.requests f.held (working o).machine.requests (sym t≡ ∙ i)) (k ∙ rw (not_not (end_starts b.converter) (sym t≡ ∙ i)))
