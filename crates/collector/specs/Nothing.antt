-- The collector told "nothing" (request M-100: "The collector can now be told "nothing" in a take or a drain .. If it is told so all the same, it keeps
-- its record. .. Refusals: 20, nothing where a sample is due, after 17 in the collector's order").
use Rattle.std.specs.Prelude.{ℕ, ◌≡◌, refl, true, false}
use Rattle.std.proofs.Common.{sym, ◌∙◌, ap}
use Rattle.base.specs.Laws.{never}
use Rattle.collector_phases.specs.declared.Collector.{Collector}
use Rattle.collector_phases.specs.declared.Phase.{Phase}
use Rattle.collector_phases.specs.declared.Phase.TheVariants.{Stop, Poll, Range, Clear, Low, High, Go, Look, Take, Drain, Stuck, Unknown}
use Rattle.collector_phases.specs.Phases.{phase_of, access_in, is_byte_read, is_word_read}
use Rattle.collector_phases.specs.Fit.{FitIn, FitCollector}
use Rattle.collector_phases.specs.Accesses.{access_of}
use Rattle.collector_answers.specs.declared.BusAnswer.TheVariants as bus
use Rattle.collector_steps.specs.declared.Handed.TheVariants.{Refused}
use Rattle.collector_steps.specs.Reads.{reports}
use Rattle.collector_replies.specs.Joined.{fit-to}
use Rattle.collector_replies.specs.Reply.{replied}
use Rattle.collector.specs.Steps.{fit_reply, access-fit}

module _ (c : Collector) where
  sample-due : (p : Phase) → FitIn p c → is_word_read (access_in p c.settings) ≡ true → fit_reply p c bus.Nothing ≡ reports c (Refused 20)
  sample-due Stop f e = never e
  sample-due Poll f e = never e
  sample-due Range f e = never e
  sample-due Clear f e = never e
  sample-due Low f e = never e
  sample-due High f e = never e
  sample-due Go f e = never e
  sample-due Look f e = never e
  sample-due Take f e = refl
  sample-due Drain f e = refl
  sample-due Stuck f e = never e
  sample-due Unknown f e = never e

  byte-due : (p : Phase) → FitIn p c → is_byte_read (access_in p c.settings) ≡ true → fit_reply p c bus.Nothing ≡ reports c (Refused 17)
  byte-due Stop f e = never e
  byte-due Poll f e = refl
  byte-due Range f e = never e
  byte-due Clear f e = never e
  byte-due Low f e = never e
  byte-due High f e = never e
  byte-due Go f e = never e
  byte-due Look f e = refl
  byte-due Take f e = never e
  byte-due Drain f e = never e
  byte-due Stuck f e = never e
  byte-due Unknown f e = never e

  write_done : (p : Phase) (a : ℕ) → FitIn p c → is_byte_read (access_in p c.settings) ≡ false → is_word_read (access_in p c.settings) ≡ false
      → fit_reply p c bus.Nothing ≡ fit_reply p c (bus.Number a)
  write_done Stop a f d e = refl
  write_done Poll a f d e = never (sym d)
  write_done Range a f d e = refl
  write_done Clear a f d e = refl
  write_done Low a f d e = refl
  write_done High a f d e = refl
  write_done Go a f d e = refl
  write_done Look a f d e = never (sym d)
  write_done Take a f d e = never (sym e)
  write_done Drain a f d e = never (sym e)
  write_done Stuck a f d e = refl
  write_done Unknown a f d e = absurd f

  module _ (w : FitCollector c) where
    -- where a sample is due: 20, and the record is as it was, a drain's reads left too; so the same word read is named again
    pub nothing_for_a_sample : is_word_read (access_of c) ≡ true → replied c bus.Nothing ≡ reports c (Refused 20)
    unfolding replied
    nothing_for_a_sample e = rw (fit-to c w) (sample-due (phase_of c.phase) w.phase (sym (ap is_word_read (access-fit c w)) ∙ e))

    -- where a byte is due: 17, no byte
    pub nothing_for_a_byte : is_byte_read (access_of c) ≡ true → replied c bus.Nothing ≡ reports c (Refused 17)
    unfolding replied
    nothing_for_a_byte e = rw (fit-to c w) (byte-due (phase_of c.phase) w.phase (sym (ap is_byte_read (access-fit c w)) ∙ e))

    -- after a write it is not looked at, and once stuck it is refused as any number is
    pub nothing_for_a_write : (a : ℕ) → is_byte_read (access_of c) ≡ false → is_word_read (access_of c) ≡ false
        → replied c bus.Nothing ≡ replied c (bus.Number a)
    unfolding replied
    nothing_for_a_write a d e =
        rw (fit-to c w)
        (write_done (phase_of c.phase) a w.phase (sym (ap is_byte_read (access-fit c w)) ∙ d) (sym (ap is_word_read (access-fit c w)) ∙ e))
