-- An event of the world keeps what holds in each phase. Assumes nothing.
use Rattle.std.specs.Prelude.{ℕ, ◌≤◌, Bool, ◌&&◌, ◌≡◌, ℤ, ltb, length}
use Rattle.std.proofs.Math.Bool.{true, false}
use Rattle.std.proofs.Common.{sym, ◌∙◌, ap, arith, length-append}
use mathlib.Core.List.{List, [], ◌∷◌, ◌++◌, IsPrefix, append_assoc, append-nil}
use Rattle.std.proofs.Math.Option.{Option, none, some}
use Rattle.std.proofs.Math.Path.{refl}
use Rattle.fifo.specs.Samples.{pushed}
use Rattle.base.specs.Laws.{both}
use Rattle.converter.specs.Codes.{sample_of}
use Rattle.samples.specs.declared.Sample.{Sample}
use Rattle.archive_turns.specs.Machine.{View}
use Rattle.archive_demand.specs.Log.{Log, add_sample, end_counted, at_most_one, note_world}
use Rattle.archive_demand.specs.Laws.{Happens, quiet, trigger, end}
use Rattle.archive_demand.specs.Phases.{Idle}

-- ---- what does not depend on the samples
pub idle-world : (e : Option ℤ) (begins : Bool) (ch : ℕ) (l : Log) → Idle l → Idle (note_world e begins ch l)
idle-world e begins ch l i =
    record { prefix = λ w. go e l.current (i.prefix (both l.within (at_most_one (end_counted e l.waiting)) w).0); since = i.since; runs = i.runs }
  where
    go : (e : Option ℤ) (k : Option ℕ) → IsPrefix l.handed l.samples → IsPrefix l.handed (add_sample e k l.samples)
    go none k p = p
    go (some c) none p = p
    go (some c) (some k) p =
        let y : List Sample = record { channel = k; code = c } ∷ [] in
        (p.0 ++ y, sym (append_assoc l.handed p.0 y) ∙ ap (λ (u : List Sample). u ++ y) p.1)

-- events of the world only put samples behind those held
pub grows : (begins : Bool) (e : Option ℤ) (v v' : View) → Happens begins e v v' → (Y : List ℕ) × (v'.held ≡ v.held ++ Y)
unfolding pushed
grows begins e v v' (quiet a b c) = ([], ap (λ (u : View). u.held) c ∙ sym (append-nil v.held))
grows begins e v v' (trigger a b c d f) = ([], ap (λ (u : View). u.held) f ∙ sym (append-nil v.held))
grows begins e v v' (end code s a b c d) = by (ltb (length v.held) 512) refl
  where
    by : (z : Bool) → ltb (length v.held) 512 ≡ z → (Y : List ℕ) × (v'.held ≡ v.held ++ Y)
    by true h = (sample_of code ∷ [], ap (λ (u : View). u.held) d ∙ rw h)
    by false h = ([], ap (λ (u : View). u.held) d ∙ rw (h, append-nil))

pub no_fewer : (begins : Bool) (e : Option ℤ) (v v' : View) → Happens begins e v v' → length v.held ≤ length v'.held
no_fewer begins e v v' h = let y = grows begins e v v' h in rw (y.1, length-append) (omega arith)

-- a quiet event leaves the log, but that `within` is tested again
unfoldable pub requieted : Log → Log
requieted l =
    record {
      samples = l.samples;
      current = l.current;
      handed = l.handed;
      since_gap = l.since_gap;
      running = l.running;
      waiting = l.waiting;
      within = l.within && at_most_one l.waiting;
    }
