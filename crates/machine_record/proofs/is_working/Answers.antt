-- `machine_record::is_working` meets its contract. Assumes nothing.
use borrow.Author.Rules.{rules}
use Rattle.machine_record.specs.Working.{is_working_machine}
use Rattle.machine_record.proofs.is_working.Goals as goal

pub most_works-requires : goal.most_works-requires
unfolding is_working_machine
most_works-requires c = search rules

pub controls_work-requires : goal.controls_work-requires
unfolding is_working_machine
controls_work-requires c = search rules

pub returns-then-most_works : goal.returns-then-most_works
unfolding is_working_machine
returns-then-most_works c = simp (c.controls_work.ensures, rw c.most_works.ensures at c.if-most_works.true)

pub returns-else-most_works : goal.returns-else-most_works
unfolding is_working_machine
returns-else-most_works c = simp (rw c.most_works.ensures at c.if-most_works.false)
