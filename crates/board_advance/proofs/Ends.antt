-- The ways out of `advance`, `ticks_until` and `begins_in`, over plain values. Assumes nothing.
use Prim.Native.Nat.{ℕ, ◌+◌, ◌-◌}
use native.Mathlib.Omega.{arith}
use mathlib.Core.Path.{◌≡◌, refl, sym, ap, ◌∙◌}
use mathlib.Core.Bool.{Bool, true, false, not, ◌&&◌, ◌||◌}
use mathlib.Core.List.{List}
use Rattle.std.specs.Prelude.{Result, Ok, Err, is_err}
use Rattle.base.specs.declared.Refusal.{Refusal}
use Rattle.base.specs.Checks.{checked}
use Rattle.base.specs.Flags.{on}
use Rattle.base.specs.Laws.{never, not_true, not_not}
use Rattle.converter.specs.Channels.{triggered}
use Rattle.converter.specs.declared.channels.Converter.{Converter}
use Rattle.requests.specs.Requests.{asked_timer}
use Rattle.requests.specs.declared.Requests.{Requests}
use Rattle.timer.specs.declared.Gates.{Gates}
use Rattle.machine_record.specs.Parts.{with_converter, with_requests, with_clocks, with_outputs}
use Rattle.machine_record.specs.declared.Board.{Board}
use Rattle.machine_clock.specs.Clock.{gates}
use Rattle.machine_tick.specs.InPlace.{clocks_ticked, falls2}
use Rattle.machine_record.specs.declared.Clocks.{Clocks}
use Rattle.machine_strides.specs.Strides.{stride_of}
use Rattle.machine_strides.specs.declared.Stride.{Stride}
use Rattle.board_stores.specs.Stores.{wrong_lengths}
use Rattle.board_refusal.specs.Working.{is_working_board}
use Rattle.board_refusal.specs.Refusals.{event_checks, checks, first_checks}
use Rattle.board_step.specs.Ways.{Opened, first, stops}
use Rattle.board_events.specs.declared.Answer.TheVariants.{Refused, Done}
use Rattle.board_events.specs.declared.Event.TheVariants.{Tick}
use Rattle.board_advance.specs.Advance.{advanced_of}
use Rattle.board_advance.specs.Strided.{heeds0, heeds2, stride_at, stride_end, unheeded, begins_in, begins_in-one}
use Rattle.board_advance.proofs.Strided.{strided}
use Rattle.board_advance.specs.declared.Advanced.{Advanced}

-- ---- the stride
pub strides : (b : Board) (n : ℕ) {g : Gates} {h0 h2 : Bool} {s : Stride} → g ≡ gates b → h0 ≡ heeds0 b → h2 ≡ heeds2 b
    → s ≡ stride_of b.registers.counting g h0 h2 n b.clocks → s ≡ stride_at b n
unfolding stride_at
strides b n g h0 h2 s = s ∙ rw (g, h0, h2)

module _ (b : Board) (m e : List ℕ) (n : ℕ) where
  -- ---- refused, by 2 or 1
  pub stopped : {x : Result (Unit {0}) Refusal} {r : Refusal} → x ≡ checked (first_checks b m e) → x ≡ Err r
      → record { board = b; progress = record { answer = Refused r.number; done = 0 } } ≡ advanced_of b m e n
  unfolding advanced_of
  stopped k h = let f = first b m e Tick k h in rw (f.0, f.1)

  -- none is done
  pub none_done : {x : Result (Unit {0}) Refusal} → x ≡ checked (first_checks b m e) → is_err x ≡ true → 0 ≡ (advanced_of b m e n).progress.done
  unfolding advanced_of
  none_done k h = rw (stops b m e Tick k h)

  -- ---- not refused
  pub strode : Opened b m e → advanced_of b m e n ≡ stride_end b (stride_at b n)
  unfolding advanced_of checks event_checks
  strode o = rw (o.long, o.working) (strided b m e n o)

  pub brought : {s : Stride} {y : ℕ} {q : Requests} {v : Converter} → Opened b m e → s ≡ stride_at b n → y ≡ b.outputs.busy - s.done
      → q ≡ asked_timer b.requests s.fell0 → v ≡ triggered b.converter (on b.converter.clken && on q.clksel && s.fell2)
      → record {
        board =
            with_converter (with_requests (with_outputs (with_clocks b s.clocks)
            (record { codes = b.outputs.codes; load = b.outputs.load; lsb = b.outputs.lsb; busy = y })) q) v;
        progress = record { answer = Done; done = s.done };
      } ≡ advanced_of b m e n
  brought {s = s} o s≡ y q v =
      rw (v, q, y) (ap (stride_end b) s≡) ∙ sym (strode o)

  -- ---- and of `ticks_until`
  pub until : {s : Stride} → Opened b m e → s ≡ stride_at b n → s.done ≡ (advanced_of b m e n).progress.done
  until o s≡ = ap (λ (x : Stride). x.done) s≡ ∙ sym (ap (λ (r : Advanced). r.progress.done) (strode o))

  neither : (a b : Bool) → not (a || b) ≡ true → (a ≡ false) × (b ≡ false)
  neither true b h = never h
  neither false true h = never h
  neither false false h = (refl, refl)

  pub muted : {h0 h2 : Bool} → Opened b m e → h0 ≡ heeds0 b → h2 ≡ heeds2 b → not (h0 || h2) ≡ true → n ≡ (advanced_of b m e n).progress.done
  unfolding stride_at stride_of
  muted {h0} {h2} o e0 e2 h =
      let f = neither h0 h2 h in
      let z : 0 + n ≡ n = omega arith in
      let d : (stride_at b n).done ≡ n = rw (sym e0 ∙ f.0, sym e2 ∙ f.1) (unheeded b.registers.counting (gates b) n 0 b.clocks ∙ z) in
      sym d ∙ until o refl

-- ---- and of `begins_in`
pub unheard : (b : Board) (n : ℕ) {h2 : Bool} → h2 ≡ heeds2 b → not h2 ≡ true → false ≡ begins_in b n
unheard b n {h2} e h = rw (sym e ∙ not_true h2 h)

pub heard : (b : Board) (n : ℕ) {h2 : Bool} {s : Stride} → h2 ≡ heeds2 b → not h2 ≡ false → s ≡ stride_at b n → s.fell2 ≡ begins_in b n
heard b n {h2} e h s≡ = rw (sym e ∙ not_not h2 h) (ap (λ (x : Stride). x.fell2) s≡)

pub one-tick : (b : Board) {n : ℕ} {h2 f : Bool} {g : Gates} {l : Clocks} → h2 ≡ heeds2 b → not h2 ≡ false → n ≡ 1 → g ≡ gates b
    → l ≡ clocks_ticked b.registers.counting g b.clocks → f ≡ falls2 b.clocks l → f ≡ begins_in b n
one-tick b {h2 = h2} e h k g l f = f ∙ rw (k, begins_in-one b, sym e ∙ not_not h2 h, l, g)
