-- From one record to the next, by an event: no clock edge and no trigger.
use Rattle.std.specs.Prelude.{◌≡◌, false}
use Rattle.base.specs.Flags.{on}
use Rattle.counter_one.specs.Counter.{gate_moved}
use Rattle.counter_one.specs.declared.Counter.{Counter}
use Rattle.counter_one.specs.Falls.{fell}
use Rattle.timer.specs.Timer.{counter_of, gate_of}
use Rattle.timer.specs.declared.Select.{Select}
use Rattle.machine_clock.specs.Clock.{gates}
use Rattle.machine_record.specs.declared.Board.{Board}
use Rattle.board_step.specs.News.{news}
use Rattle.board_laws.specs.Begins.{begins}
use Rattle.board_events.specs.declared.Event.{Event}

-- a counter has had no CLK pulse: its count and what it is to load are as they were, and OUT has not fallen
pub record Unclocked (c d : Counter) : Type 0 where
  pub element : d.count.element ≡ c.count.element
  pub register : d.count.register ≡ c.count.register
  pub waiting : d.count.waiting ≡ c.count.waiting
  pub loaded : d.count.loaded ≡ c.count.loaded
  pub out : fell (on c.count.out) (on d.count.out) ≡ false

pub record NoEdge (b : Board) (event : Event) (c : Board) : Type 0 where
  -- no trigger: the event begins no conversion
  pub begins-none : begins b event ≡ false
  -- none is in progress that was not, and no request flag has gone up
  pub no_news : news b c ≡ false
  -- no clock edge: each counter is what its gate, from its old level to its new one, makes of it
  pub gate-alone : (i : Select) → counter_of c.clocks.timer i ≡ gate_moved (counter_of b.clocks.timer i) (gate_of (gates b) i) (gate_of (gates c) i)
  pub unclocked : (i : Select) → Unclocked (counter_of b.clocks.timer i) (counter_of c.clocks.timer i)
