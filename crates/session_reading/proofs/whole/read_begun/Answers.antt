-- `session_reading::whole::read_begun` meets its contract. Assumes nothing.
use mathlib.Core.Path.{ap}
use Rattle.session_reading.specs.declared.Reading.TheVariants.{Begun}
use Rattle.session_reading.proofs.Scanning.{found_as}
use Rattle.session_reading.proofs.Usual.{below_ten, digit_some, number-most, number-found}
use Rattle.session_reading.proofs.whole.read_begun.Goals as goal

pub read_end-requires : goal.read_end-requires
read_end-requires c = number-most c.more_digits-numeral.ensures

pub returns-then-digit-lt10 : goal.returns-then-digit-lt10
returns-then-digit-lt10 c =
    number-found c.more_digits-numeral.ensures c.read_end.ensures c.if-from-piece.true
    (digit_some _ c.digit_of.ensures c.unwrap_or-digit.ensures (below_ten c.if-digit-lt10.true))

pub returns : goal.returns
returns c = found_as (ap Begun c.number_of.ensures) c.read_on.ensures
