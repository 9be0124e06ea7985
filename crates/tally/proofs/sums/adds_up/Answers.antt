-- `tally::sums::adds_up` meets its contract, by a law for each way out. Assumes nothing.
use Rattle.tally.proofs.Both as both
use Rattle.tally.proofs.sums.adds_up.Goals as goal

pub returns : goal.returns
returns c =
    both.both_sums c.args.tally c.args.first
    c.args.last c.are_equal-samples.ensures c.in_progress.ensures
    c.in_progress-2.ensures c.are_equal-conversions.ensures
