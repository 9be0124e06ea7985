-- Ticks of a board by strides of its clocks: before the last tick nothing but clocks and DACBUSY moves, so that what the last one brings is put in at the end.
use Rattle.std.specs.Prelude.{ℕ, zero, suc, ◌+◌, ◌-◌, ◌≡◌, refl, Bool, true, false, not, ◌&&◌, ◌||◌, List, if◌then◌else◌}
use native.Mathlib.Omega.{arith}
use Rattle.std.proofs.Common.{◌∙◌}
use Rattle.std.proofs.Math.Path.{ap}
use Rattle.base.specs.Flags.{on}
use Rattle.converter.specs.Channels.{internal_triggered}
use Rattle.requests.specs.Requests.{asked_timer}
use Rattle.timer.specs.declared.Gates.{Gates}
use Rattle.machine_record.specs.Parts.{with_converter, with_requests, with_clocks, with_outputs}
use Rattle.machine_record.specs.declared.Clocks.{Clocks}
use Rattle.machine_record.specs.declared.Board.{Board}
use Rattle.machine_clock.specs.Clock.{gates}
use Rattle.machine_tick.specs.InPlace.{clocks_ticked, falls0, falls2}
use Rattle.machine_strides.specs.Strides.{heard, stride_from, stride_of}
use Rattle.machine_strides.specs.declared.Stride.{Stride}
use Rattle.board_events.specs.declared.Answer.TheVariants.{Done}
use Rattle.board_advance.specs.declared.Advanced.{Advanced}

-- ---- whether a falling OUT0 sets TINT, and a falling OUT2 begins a conversion
abbrev pub heeds0 : Board → Bool
heeds0 b = on b.requests.tinte && not (on b.requests.flags.tint)

abbrev pub heeds2 : Board → Bool
heeds2 b = on b.converter.clken && on b.requests.clksel && not (on b.converter.converting)

unfoldable pub stride_at : Board → ℕ → Stride
stride_at b n = stride_of b.registers.counting (gates b) (heeds0 b) (heeds2 b) n b.clocks

-- ---- the board d ticks on, with its clocks at l, and what the last tick brings
abbrev pub moved_to : Board → Clocks → ℕ → Board
moved_to b l d =
    with_outputs (with_clocks b l)
    (record { codes = b.outputs.codes; load = b.outputs.load; lsb = b.outputs.lsb; busy = b.outputs.busy - d })

abbrev pub stride_end : Board → Stride → Advanced
stride_end b s = record {
  board =
      with_converter (with_requests (moved_to b s.clocks s.done) (asked_timer b.requests s.fell0))
      (internal_triggered b.converter (on b.requests.clksel) s.fell2);
  progress = record { answer = Done; done = s.done };
}

-- ---- a tick brings news where it is heard
pub fall_last : (k s v f : Bool) → (k && s && f) && not v ≡ (k && s && not v) && f
fall_last true true true true = refl
fall_last true true true false = refl
fall_last true true false true = refl
fall_last true true false false = refl
fall_last true false v f = refl
fall_last false s v f = refl

-- ---- and otherwise leaves requests and converter
module _ (b : Board) (m e : List ℕ) where
  abbrev pub stepped : Clocks → Clocks
  stepped l = clocks_ticked b.registers.counting (gates b) l

  abbrev pub rest : ℕ → ℕ → Clocks → Stride
  rest n d l = stride_from b.registers.counting (gates b) (heeds0 b) (heeds2 b) n (suc d) (stepped l)

-- ---- where neither is heeded, no tick brings news
pub unheeded : (c : ℕ) (g : Gates) (n d : ℕ) (l : Clocks) → (stride_from c g false false n d l).done ≡ d + n
unheeded c g zero d l = omega arith
unheeded c g (suc n) d l = omega (arith, unheeded c g n (suc d) (clocks_ticked c g l))

-- ---- whether a conversion begins in the ticks
abbrev pub begins_in : Board → ℕ → Bool
begins_in b n = heeds2 b && (stride_at b n).fell2

-- of one tick: where OUT2 falls in it
fell_of : (h : Bool) (x y : Stride) → (if h then x else y).fell2 ≡ (if h then x.fell2 else y.fell2)
fell_of true x y = refl
fell_of false x y = refl

heard-alone : (x h f : Bool) → h && (if x || h && f then f else false) ≡ h && f
heard-alone true h f = refl
heard-alone false true true = refl
heard-alone false true false = refl
heard-alone false false f = refl

pub begins_in-one : (b : Board) → begins_in b 1 ≡ heeds2 b && falls2 b.clocks (clocks_ticked b.registers.counting (gates b) b.clocks)
unfolding stride_at stride_of
begins_in-one b =
    let l = clocks_ticked b.registers.counting (gates b) b.clocks in
    ap (λ (x : Bool). heeds2 b && x) (fell_of (heard (heeds0 b) (heeds2 b) b.clocks l) _ _)
    ∙ heard-alone (heeds0 b && falls0 b.clocks l) (heeds2 b) (falls2 b.clocks l)
