-- `bus::map::find` meets its contract. Assumes nothing.
use borrow.Author.Rules.{rules}
use borrow.Author.Tests.{le-leb, lt-leb}
use Rattle.bus.specs.Place.{place_of}
use Rattle.bus.proofs.map.find.Goals as goal

pub fixed_place-requires : goal.fixed_place-requires
unfolding place_of
fixed_place-requires c = search rules

pub paged_place-requires : goal.paged_place-requires
unfolding place_of
paged_place-requires c = search rules

pub returns-then-n-le11 : goal.returns-then-n-le11
unfolding place_of
returns-then-n-le11 c = simp (c.fixed_place.ensures, le-leb _ _ c.if-n-le11.true)

pub returns-then-n-le15 : goal.returns-then-n-le15
unfolding place_of
returns-then-n-le15 c = simp (c.paged_place.ensures, le-leb _ _ c.if-n-le15.true, lt-leb _ _ c.if-n-le11.false)

pub returns-else-n-le15 : goal.returns-else-n-le15
unfolding place_of
returns-else-n-le15 c = simp (lt-leb _ _ c.if-n-le15.false, lt-leb _ _ c.if-n-le11.false)
