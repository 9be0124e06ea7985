-- The count register CR, the counting element CE, OUT, and loading and counting on a CLK pulse. Data sheet (manual, chapter 19): figure 3
-- "Counter internal block diagram", "Mode Definitions", "Operation Common to All Modes".
use Rattle.std.specs.Prelude.{ℕ, ◌+◌, ◌%◌, Bool, not, ◌&&◌, ◌||◌, ◌==◌, if◌then◌else◌}
use Rattle.base.specs.Flags.{on, flag}
use Rattle.counter_modes.specs.Modes.{first_out, load_out, byte_stops, loads_at_once, trigger_loads, gate_raises}
use Rattle.counter_modes.specs.declared.Mode.{Mode}
use Rattle.counter_modes.specs.declared.Mode.TheVariants.{TerminalCount, RateGenerator}
use Rattle.counter_element.specs.declared.Count.{Count}
use Rattle.counter_bytes.specs.declared.Piece.{Piece}
use Rattle.counter_bytes.specs.declared.Piece.TheVariants.{First, Whole}

abbrev pub with_out : Count → Bool → Count
with_out k o = record { register = k.register; element = k.element; out = flag o; waiting = k.waiting; loaded = k.loaded }

-- ---- counting: "a 16-bit presettable synchronous down counter", which "does not stop when it reaches zero"
-- one less, and 65,535 after 0
abbrev pub down : ℕ → ℕ
down v = (v + 65535) % 65536

abbrev pub counted : Count → ℕ → Bool → Count
counted k v o = record { register = k.register; element = v; out = flag o; waiting = k.waiting; loaded = k.loaded }

-- "Counter loading: the transfer of a count from the CR to the CE"; OUT is then o
abbrev pub load : Count → Bool → Count
load k o = record { register = k.register; element = k.register; out = flag o; waiting = 0; loaded = 1 }

-- Mode 0: OUT "will remain low until the Counter reaches zero. OUT then goes high and remains high"
abbrev pub counted_terminal : Count → Count
counted_terminal k = counted k (down k.element) (on k.out || down k.element == 0)

-- Mode 2: "When the initial count has decremented to 1, OUT goes low for one CLK pulse. OUT then goes high again, the Counter reloads"
abbrev pub counted_rate : Count → Count
counted_rate k =
    if k.element == 1 then load k (load_out RateGenerator)
    else counted k (down k.element) (not (down k.element == 1))

unfoldable pub counted_by : Mode → Count → Count
counted_by TerminalCount k = counted_terminal k
counted_by RateGenerator k = counted_rate k

-- ---- a control word: OUT "goes to a known initial state", the count is 0 and stands until a whole count is loaded
abbrev pub first_count : Mode → Count
first_count m = record { register = 0; element = 0; out = flag (first_out m); waiting = 0; loaded = 0 }

-- ---- a byte of a count came, the first of two or the last. "When a new count is written to the Counter, the count is stored in the CR
-- and later transferred to the CE": on the next CLK pulse, or with the next reload of a mode that counts on
abbrev pub piece_taken : Mode → Count → Piece → Count
piece_taken m k (First b) = with_out k (on k.out && not (byte_stops m))
piece_taken m k (Whole n) = record {
  register = n;
  element = k.element;
  out = flag (on k.out && not (byte_stops m));
  waiting = flag (loads_at_once m || not (on k.loaded));
  loaded = k.loaded;
}

-- ---- GATE goes from was to is
abbrev pub gate_seen : Mode → Bool → Bool → Count → Count
gate_seen m was is k = with_out k (on k.out || gate_raises m && (was && not is))

-- ---- a CLK pulse: at a GATE level, with the trigger's flip-flop, with the first of two bytes written or not
-- "it will still be loaded on the next CLK pulse" while GATE = 0; a trigger "reloads the Counter with the initial count on the next CLK pulse"
abbrev pub pulse_loads : Mode → Bool → Count → Bool
pulse_loads m trigger k = on k.waiting || on k.loaded && (trigger_loads m && trigger)

-- "GATE = 1 enables counting; GATE = 0 disables counting"; mode 0: "Writing the first byte disables counting"
abbrev pub pulse_counts : Mode → Bool → Bool → Count → Bool
pulse_counts m gate half k = on k.loaded && (gate && not (half && byte_stops m))

abbrev pub pulse_taken : Mode → Bool → Bool → Bool → Count → Count
pulse_taken m gate trigger half k =
    if pulse_loads m trigger k then load k (load_out m)
    else if pulse_counts m gate half k then counted_by m k
    else k
