-- When a conversion is in progress after an event, what abandons one, and where its sample goes (the specification, "Conversions, edges and
-- requests", and "8 write").
use Rattle.std.specs.Prelude.{ℕ, ◌≡◌, refl, Bool, true, false, not, ◌&&◌, ◌||◌, List, [], ◌∷◌, ◌++◌, ℤ, eqb, if◌then◌else◌, Option}
use Rattle.std.proofs.Common.{sym, ap, ◌∙◌, eqb-true}
use Rattle.base.specs.Flags.{on}
use Rattle.fifo.specs.Samples.{pushed}
use Rattle.fifo.specs.Queue.{queue}
use Rattle.fifo.specs.Queue.Laws.{length_queue}
use Rattle.converter.specs.Codes.{sample_of}
use Rattle.converter.specs.Registers.{fresh_converter}
use Rattle.converter.specs.declared.channels.Converter.{Converter}
use Rattle.machine_tick.specs.Tick.{dividers_ticked, counter0_ticked}
use Rattle.machine_reset.specs.Reset.{is_reset, board_reset, misc_written}
use Rattle.machine_record.specs.declared.Board.{Board}
use Rattle.bus.specs.Place.{place_of}
use Rattle.bus.specs.Registers.{written_at}
use Rattle.board_step.specs.Act.{din_levels, acted}
use Rattle.board_refusal.specs.Working.{WorkingBoard}
use Rattle.board_step.specs.Step.{ran, ran_from}
use Rattle.board_laws.specs.Begins.{begins, begins_on, ends, keeps, resets, abandons}
use Rattle.base.specs.Laws.{never, both}
use Rattle.board_laws.specs.Conversions.{free, write-begun, begun, over, stays_same, counter0-same, out2_trigger, clocked1, din_trigger}
use Rattle.board_events.specs.declared.Event.{Event}
use Rattle.board_events.specs.declared.Event.TheVariants.{WriteByte, ReadByte, ReadWord, ConversionEnd, DinPins, LatchLevel, PortPins, Tick, TransferEnd}

-- whether a conversion is in progress after an event that is not refused
abbrev pub runs_after : Board → Option ℕ → List ℕ → Event → Bool
runs_after b o e ev = on (acted b o e ev).board.converter.converting

-- ---- a reset leaves the converter as a fresh board's: no conversion is in progress
pub reset-fresh : (b : Board) (o : Option ℕ) (e : List ℕ) (ev : Event) → resets ev ≡ true → (acted b o e ev).board.converter ≡ fresh_converter
unfolding acted resets written_at misc_written board_reset place_of
reset-fresh b o e (WriteByte n v) h =
    let k = both (eqb n 8) (is_reset v) h in
    let at : n ≡ 8 = eqb-true n 8 k.0 in
    rw (at, k.1)
reset-fresh b o e (ReadByte n) h = never h
reset-fresh b o e (ReadWord n) h = never h
reset-fresh b o e (ConversionEnd code) h = never h
reset-fresh b o e (DinPins d) h = never h
reset-fresh b o e (LatchLevel level) h = never h
reset-fresh b o e (PortPins q v) h = never h
reset-fresh b o e Tick h = never h
reset-fresh b o e TransferEnd h = never h

module _ (b : Board) (o : Option ℕ) (e : List ℕ) (ev : Event) where
  runs : {c : Converter} → (acted b o e ev).board.converter ≡ c → runs_after b o e ev ≡ on c.converting
  runs h = ap (λ (c : Converter). on c.converting) h

  progress : (s t u : Bool) → begins b ev ≡ s → ends ev ≡ t → resets ev ≡ u
      → runs_after b o e ev ≡ s || not t && not u && on b.converter.converting
  progress true t u h k r = runs (begun b o e ev h)
  progress false true u h k r = runs (over b o e ev h k)
  progress false false true h k r = runs (reset-fresh b o e ev r)
  progress false false false h k r = (stays_same b o e ev h k r).converting

  -- a conversion is in progress after an event exactly where the event begins one, or one was in progress and the event neither ends one nor
  -- resets
  pub in_progress_lem : runs_after b o e ev ≡ begins b ev || not (ends ev) && not (resets ev) && on b.converter.converting
  in_progress_lem = progress (begins b ev) (ends ev) (resets ev) refl refl refl

-- it begins on the selected channel
pub begins-on : (b : Board) (o : Option ℕ) (e : List ℕ) (ev : Event) → begins b ev ≡ true → (acted b o e ev).board.converter.channel ≡ begins_on b
begins-on b o e ev h = ap (λ (c : Converter). c.channel) (begun b o e ev h)

-- ---- an event that is no end begins a conversion only where none is in progress
pub begins-free : (b : Board) (ev : Event) → ends ev ≡ false → begins b ev ≡ true → on b.converter.converting ≡ false
unfolding begins ends
begins-free b (WriteByte n v) k h = (write-begun b (place_of b.registers.page n) v h).none_before
begins-free b (ReadByte n) k h = never h
begins-free b (ReadWord n) k h = never h
begins-free b (ConversionEnd code) k h = never (sym k)
begins-free b (DinPins d) k h = free (din_trigger b (din_levels d)) (on b.converter.converting) h
begins-free b (LatchLevel level) k h = never h
begins-free b (PortPins q v) k h = never h
begins-free b Tick k h =
    let c = counter0_ticked (dividers_ticked b) in
    sym (ap (λ (x : Converter). on x.converting) (counter0-same b)) ∙ free (out2_trigger c (clocked1 c)) (on c.converter.converting) h
begins-free b TransferEnd k h = never h

-- no end resets
end_stays : (ev : Event) → ends ev ≡ true → resets ev ≡ false
unfolding ends resets
end_stays (WriteByte n v) h = never h
end_stays (ReadByte n) h = refl
end_stays (ReadWord n) h = refl
end_stays (ConversionEnd code) h = refl
end_stays (DinPins d) h = refl
end_stays (LatchLevel level) h = refl
end_stays (PortPins q v) h = refl
end_stays Tick h = refl
end_stays TransferEnd h = refl

-- ---- an event abandons a conversion exactly where one was in progress, the event is no end, and none is in progress after it
pub abandoned : (b : Board) (o : Option ℕ) (e : List ℕ) (ev : Event)
    → abandons b ev ≡ on b.converter.converting && not (ends ev) && not (runs_after b o e ev)
abandoned b o e ev = by (on b.converter.converting) (ends ev) (begins b ev) (resets ev) refl refl refl refl
  where
    by : (c t s u : Bool) → on b.converter.converting ≡ c → ends ev ≡ t → begins b ev ≡ s → resets ev ≡ u
        → c && resets ev ≡ c && not t && not (runs_after b o e ev)
    by false t s u c k h r = refl
    by true true s u c k h r = end_stays ev k
    by true false true u c k h r = never (sym (begins-free b ev k h) ∙ c)
    by true false false true c k h r = r ∙ sym (ap not (progress b o e ev false false true h k r))
    by true false false false c k h r = r ∙ sym (ap not (progress b o e ev false false false h k r ∙ c))

-- ---- the sample of an end is kept, the newest, where fewer than 512 are held, and lost otherwise
pub end_kept : (b : Board) (m e : List ℕ) (code : ℤ) → WorkingBoard b m
    → (ran_from b m e (ConversionEnd code)).samples ≡ (if keeps b then queue b.fifo m ++ sample_of code ∷ [] else queue b.fifo m)
unfolding ran acted pushed
end_kept b m e code w = rw (length_queue b.fifo m w.fifo)
