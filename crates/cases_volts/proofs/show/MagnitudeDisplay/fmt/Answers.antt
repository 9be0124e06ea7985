use Rattle.std.proofs.Common.{T, sym, subst}
use lib.Ieee.{of_bits, neg}
use Rattle.cases_volts.proofs.show.MagnitudeDisplay.fmt.Goals as goal

pub truncating_f64_to_u64-whole-requires-clause-lower_bound : goal.truncating_f64_to_u64-whole-requires-clause-lower_bound
unfolding of_bits neg
truncating_f64_to_u64-whole-requires-clause-lower_bound g c = subst T (sym c.if-n.true) tt

pub truncating_f64_to_u64-whole-requires-clause-upper_bound : goal.truncating_f64_to_u64-whole-requires-clause-upper_bound
unfolding of_bits neg
truncating_f64_to_u64-whole-requires-clause-upper_bound g c = subst T (sym c.if-n-2.true) tt
