-- Theorems that rest on theorems of specs/Strided.antt, and promise as those do. What specs/Strided.antt says of itself:
-- Ticks of a board by strides of its clocks: before the last tick nothing but clocks and DACBUSY moves, so that what the last one brings is put in at the end.
use Rattle.std.specs.Prelude.{ℕ, zero, suc, ◌-◌, ◌≤◌, ◌≡◌, refl, Bool, true, false, not, ◌&&◌, ◌||◌, List, if◌then◌else◌}
use native.Mathlib.Omega.{arith}
use Rattle.std.proofs.Common.{sym, ◌∙◌, subst}
use Rattle.std.proofs.Math.Path.{ap}
use Rattle.base.specs.Flags.{on, flag, on-flag, flag-on}
use Rattle.base.specs.Laws.{both, neither}
use Rattle.converter.specs.Channels.{started, triggered, internal_trigger, internal_triggered}
use Rattle.converter.specs.declared.channels.Converter.{Converter}
use Rattle.requests.specs.Requests.{with_flags, asked_timer}
use Rattle.requests.specs.declared.Requests.{Requests}
use Rattle.machine_record.specs.Parts.{with_outputs}
use Rattle.machine_record.specs.declared.Clocks.{Clocks}
use Rattle.machine_record.specs.declared.Board.{Board}
use Rattle.machine_clock.specs.Clock.{gates}
use Rattle.machine_tick.specs.InPlace.{falls0, falls2, ticked_to, no_edge, no_ask}
use Rattle.machine_strides.specs.Strides.{heard, stride_from, stride_of}
use Rattle.board_step.specs.Ways.{Opened, working}
use Rattle.board_step.specs.Ticked.{ticked_board, tick-opens}
use Rattle.board_events.specs.declared.Answer.TheVariants.{Done}
use Rattle.board_step.specs.News.{rose, news, not_risen}
use Rattle.board_advance.specs.Advance.{advanced_from}
use Rattle.board_advance.specs.Advances.{one-tick}
use Rattle.board_advance.specs.Strided.{begins_in, fall_last, heeds0, heeds2, moved_to, rest, stepped, stride_at, stride_end}

-- ---- a tick brings news where it is heard
begins : (c : Converter) (t : Bool) → rose c.converting (triggered c t).converting ≡ t && not (on c.converting)
begins c t = by (t && not (on c.converting)) refl
  where
    by : (x : Bool) → t && not (on c.converting) ≡ x → rose c.converting (if x then started c else c).converting ≡ x
    by true e = rw (both t (not (on c.converting)) e).1
    by false e = not_risen c.converting

asks : (r : Requests) (f : Bool) → rose r.flags.tint (asked_timer r f).flags.tint ≡ (on r.tinte && not (on r.flags.tint)) && f
asks r f = rw (on-flag (on r.flags.tint || on r.tinte && f)) (by (on r.flags.tint) (on r.tinte) f)
  where
    by : (t e f : Bool) → not t && (t || e && f) ≡ (e && not t) && f
    by true true f = refl
    by true false f = refl
    by false true f = refl
    by false false f = refl

in_order : (a b : Bool) → a || false || false || b ≡ b || a
in_order true true = refl
in_order true false = refl
in_order false true = refl
in_order false false = refl

news-heard : (b : Board) (l : Clocks) → news b (ticked_to b l) ≡ heard (heeds0 b) (heeds2 b) b.clocks l
news-heard b l =
    let f2 = falls2 b.clocks l in
    let k = on b.converter.clken in
    let s = on b.requests.clksel in
    let v = on b.converter.converting in
    let e = begins b.converter (internal_trigger b.converter s f2) ∙ fall_last k s v f2 in
    rw (e, not_risen b.requests.flags.adint, not_risen b.requests.flags.dint, asks b.requests (falls0 b.clocks l))
    (in_order ((k && s && not v) && f2) (heeds0 b && falls0 b.clocks l))

-- ---- and otherwise leaves requests and converter
not_asked : (r : Requests) (f : Bool) → r.flags.tint ≤ 1 → (on r.tinte && not (on r.flags.tint)) && f ≡ false → asked_timer r f ≡ r
not_asked r f w h =
    ap (λ (x : ℕ). with_flags r (record { adint = r.flags.adint; dint = r.flags.dint; tint = x }))
    (ap flag (by (on r.flags.tint) (on r.tinte) f h) ∙ flag-on r.flags.tint w)
  where
    by : (t e f : Bool) → (e && not t) && f ≡ false → t || e && f ≡ t
    by true e f h = refl
    by false true f h = h
    by false false f h = refl

not_begun : (c : Converter) (s f : Bool) → (on c.clken && s && not (on c.converting)) && f ≡ false → internal_triggered c s f ≡ c
not_begun c s f h = rw (fall_last (on c.clken) s (on c.converting) f ∙ h)

module _ (b : Board) (m e : List ℕ) where
  unheard : (l : Clocks) (d : ℕ) → b.requests.flags.tint ≤ 1 → heard (heeds0 b) (heeds2 b) l (stepped b m e l) ≡ false
      → ticked_board (moved_to b l d) ≡ moved_to b (stepped b m e l) (suc d)
  unheard l d w h =
      let n = neither (heeds0 b && falls0 l (stepped b m e l)) (heeds2 b && falls2 l (stepped b m e l)) h in
      let z : b.outputs.busy - d - 1 ≡ b.outputs.busy - suc d = omega arith in
      rw (not_asked b.requests (falls0 l (stepped b m e l)) w n.0, not_begun b.converter (on b.requests.clksel) (falls2 l (stepped b m e l)) n.1, z)

  -- ---- n ticks more, d done, by strides
  pub strided-from : (n d : ℕ) (l : Clocks) → Opened (moved_to b l d) m e
      → advanced_from n d (moved_to b l d) m e ≡ stride_end b (stride_from b.registers.counting (gates b) (heeds0 b) (heeds2 b) n d l)
  strided-from zero d l o =
      let w = (working o).machine.requests.tint in
      rw (no_ask b.requests false w refl, no_edge b.converter false (on b.requests.clksel) refl)
  strided-from (suc n) d l o =
      one-tick m e n d (moved_to b l d) o
      ∙ rw (news-heard (moved_to b l d) (stepped b m e l))
      (by (λ k. strided-from n (suc d) (stepped b m e l) k) (heard (heeds0 b) (heeds2 b) l (stepped b m e l)) refl)
    where
      by : (Opened (moved_to b (stepped b m e l) (suc d)) m e
          → advanced_from n (suc d) (moved_to b (stepped b m e l) (suc d)) m e ≡ stride_end b (rest b m e n d l))
          → (h : Bool) → heard (heeds0 b) (heeds2 b) l (stepped b m e l) ≡ h
          → (if h then record { board = ticked_board (moved_to b l d); progress = record { answer = Done; done = suc d } }
          else advanced_from n (suc d) (ticked_board (moved_to b l d)) m e)
          ≡ stride_end b
          (if h then record { clocks = stepped b m e l; done = suc d; fell0 = falls0 l (stepped b m e l); fell2 = falls2 l (stepped b m e l) }
          else (rest b m e) n d l)
      by on true h = let z : b.outputs.busy - d - 1 ≡ b.outputs.busy - suc d = omega arith in rw z
      by on false h =
          let t = unheard l d (working o).machine.requests.tint h in
          ap (λ (x : Board). advanced_from n (suc d) x m e) t ∙ on (subst (λ (x : Board). Opened x m e) t (tick-opens (moved_to b l d) m e o))

  pub strided : (n : ℕ) → Opened b m e → advanced_from n 0 b m e ≡ stride_end b (stride_at b n)
  unfolding stride_at stride_of
  strided n o =
      let z : b.outputs.busy - 0 ≡ b.outputs.busy = omega arith in
      let t : moved_to b b.clocks 0 ≡ b =
      ap (λ (x : ℕ). with_outputs b (record { codes = b.outputs.codes; load = b.outputs.load; lsb = b.outputs.lsb; busy = x })) z in
      ap (λ (x : Board). advanced_from n 0 x m e) (sym t) ∙ strided-from n 0 b.clocks (subst (λ (x : Board). Opened x m e) (sym t) o)

-- ---- whether a conversion begins in the ticks
pub begun_in : (b : Board) (m e : List ℕ) (n : ℕ) → Opened b m e
    → rose b.converter.converting (advanced_from n 0 b m e).board.converter.converting ≡ begins_in b n
begun_in b m e n o =
    let f = (stride_at b n).fell2 in
    rw (strided b m e n o)
    (begins b.converter (internal_trigger b.converter (on b.requests.clksel) f)
    ∙ fall_last (on b.converter.clken) (on b.requests.clksel) (on b.converter.converting) f)
