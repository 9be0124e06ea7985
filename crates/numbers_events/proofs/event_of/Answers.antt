-- `numbers_events::event_of` meets its contract. Assumes nothing.
use mir.Syntax.{w16}
use mathlib.Core.Path.{ap}
use mir.Facts.{to_z-of_z}
use borrow.Author.Rules.{sfits_of}
use borrow.Author.Tests.{ne_eqb}
use Rattle.board_events.specs.declared.Event.TheVariants.{ConversionEnd}
use Rattle.numbers_events.specs.Events.{event_of}
use Rattle.numbers_events.proofs.event_of.Goals as goal

pub returns-in-1 : goal.returns-in-1
unfolding event_of
returns-in-1 c = simp c.in-1.is

pub returns-in-2 : goal.returns-in-2
unfolding event_of
returns-in-2 c = simp c.in-2.is

pub returns-in-3 : goal.returns-in-3
unfolding event_of
returns-in-3 c = simp c.in-3.is

pub returns-in-4 : goal.returns-in-4
unfolding event_of
returns-in-4 c =
    simp c.in-4.is
    (ap ConversionEnd (to_z-of_z {w = w16} (sfits_of c.struct_told-1.given.1.1.0.1)))

pub returns-in-5 : goal.returns-in-5
unfolding event_of
returns-in-5 c = simp c.in-5.is

pub returns-in-6 : goal.returns-in-6
unfolding event_of
returns-in-6 c = simp c.in-6.is

pub returns-in-7 : goal.returns-in-7
unfolding event_of
returns-in-7 c = simp c.in-7.is

pub returns-in-8 : goal.returns-in-8
unfolding event_of
returns-in-8 c = simp c.in-8.is

pub returns-in-9 : goal.returns-in-9
unfolding event_of
returns-in-9 c = simp c.in-9.is

pub returns-in-10 : goal.returns-in-10
unfolding event_of
returns-in-10 c = simp c.in-10.is

pub returns-in-11 : goal.returns-in-11
unfolding event_of
returns-in-11 c = simp c.in-11.is

pub returns-in_default : goal.returns-in_default
unfolding event_of
returns-in_default c =
    simp (
      ne_eqb _ _ c.in_default.in_default-own.rest.1,
      ne_eqb _ _ c.in_default.in_default-own.rest.0.1,
      ne_eqb _ _ c.in_default.in_default-own.rest.0.0.1,
      ne_eqb _ _ c.in_default.in_default-own.rest.0.0.0.1,
      ne_eqb _ _ c.in_default.in_default-own.rest.0.0.0.0.1,
      ne_eqb _ _ c.in_default.in_default-own.rest.0.0.0.0.0.1,
      ne_eqb _ _ c.in_default.in_default-own.rest.0.0.0.0.0.0.1,
      ne_eqb _ _ c.in_default.in_default-own.rest.0.0.0.0.0.0.0.1,
      ne_eqb _ _ c.in_default.in_default-own.rest.0.0.0.0.0.0.0.0.1,
      ne_eqb _ _ c.in_default.in_default-own.rest.0.0.0.0.0.0.0.0.0.1,
      ne_eqb _ _ c.in_default.in_default-own.rest.0.0.0.0.0.0.0.0.0.0.1,
    )
