-- `machine_record::most_works` meets its contract. Assumes nothing.
use Rattle.machine_record.proofs.most_works.Goals as goal

pub returns : goal.returns
returns c =
    simp (
      c.flags_work.ensures,
      c.pins_work.ensures,
      c.is_working-5.ensures,
      c.is_working-4.ensures,
      c.is_working-3.ensures,
      c.registers_work.ensures,
      c.is_working-2.ensures,
      c.is_working.ensures,
    )
