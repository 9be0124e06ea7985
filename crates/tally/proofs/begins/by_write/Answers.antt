-- `tally::begins::by_write` meets its contract. Assumes nothing.
use Rattle.tally.proofs.begins.by_write.Goals as goal

pub returns-in-Base0 : goal.returns-in-Base0
returns-in-Base0 c =
    simp (
      c.by_software.ensures,
      simp c.find-p.ensures at c.in-Base0.is,
      c.find-p.ensures,
    )

pub returns-in-Base1 : goal.returns-in-Base1
returns-in-Base1 c = simp (simp c.find-p.ensures at c.in-Base1.is, c.find-p.ensures)

pub returns-in-Base2 : goal.returns-in-Base2
returns-in-Base2 c = simp (simp c.find-p.ensures at c.in-Base2.is, c.find-p.ensures)

pub returns-in-Base3 : goal.returns-in-Base3
returns-in-Base3 c = simp (simp c.find-p.ensures at c.in-Base3.is, c.find-p.ensures)

pub returns-in-Base4 : goal.returns-in-Base4
returns-in-Base4 c = simp (simp c.find-p.ensures at c.in-Base4.is, c.find-p.ensures)

pub returns-in-Base5 : goal.returns-in-Base5
returns-in-Base5 c = simp (simp c.find-p.ensures at c.in-Base5.is, c.find-p.ensures)

pub returns-in-Base6 : goal.returns-in-Base6
returns-in-Base6 c = simp (simp c.find-p.ensures at c.in-Base6.is, c.find-p.ensures)

pub returns-in-Base7 : goal.returns-in-Base7
returns-in-Base7 c = simp (simp c.find-p.ensures at c.in-Base7.is, c.find-p.ensures)

pub returns-in-Base8 : goal.returns-in-Base8
returns-in-Base8 c = simp (simp c.find-p.ensures at c.in-Base8.is, c.find-p.ensures)

pub returns-in-Base9 : goal.returns-in-Base9
returns-in-Base9 c = simp (simp c.find-p.ensures at c.in-Base9.is, c.find-p.ensures)

pub returns-in-Base10 : goal.returns-in-Base10
returns-in-Base10 c = simp (simp c.find-p.ensures at c.in-Base10.is, c.find-p.ensures)

pub returns-in-Base11 : goal.returns-in-Base11
returns-in-Base11 c = simp (simp c.find-p.ensures at c.in-Base11.is, c.find-p.ensures)

pub returns-in-Count : goal.returns-in-Count
returns-in-Count c =
    simp (
      c.by_written.ensures,
      c.write_count.ensures,
      c.gates_of-g.ensures,
      simp c.find-p.ensures at c.in-Count.is,
      c.find-p.ensures,
    )

pub returns-in-ControlWord : goal.returns-in-ControlWord
returns-in-ControlWord c =
    simp (
      c.by_written-in-ControlWord.ensures,
      c.write_control.ensures,
      c.gates_of-g-in-ControlWord.ensures,
      simp c.find-p.ensures at c.in-ControlWord.is,
      c.find-p.ensures,
    )

pub returns-in-PortData : goal.returns-in-PortData
returns-in-PortData c = simp (simp c.find-p.ensures at c.in-PortData.is, c.find-p.ensures)

pub returns-in-PortControl : goal.returns-in-PortControl
returns-in-PortControl c = simp (simp c.find-p.ensures at c.in-PortControl.is, c.find-p.ensures)

pub returns-in-Reserved : goal.returns-in-Reserved
returns-in-Reserved c = simp (simp c.find-p.ensures at c.in-Reserved.is, c.find-p.ensures)

pub returns-in-Auxiliary : goal.returns-in-Auxiliary
returns-in-Auxiliary c = simp (simp c.find-p.ensures at c.in-Auxiliary.is, c.find-p.ensures)

pub returns-in-CalData : goal.returns-in-CalData
returns-in-CalData c = simp (simp c.find-p.ensures at c.in-CalData.is, c.find-p.ensures)

pub returns-in-CalAddress : goal.returns-in-CalAddress
returns-in-CalAddress c = simp (simp c.find-p.ensures at c.in-CalAddress.is, c.find-p.ensures)

pub returns-in-CalBase14 : goal.returns-in-CalBase14
returns-in-CalBase14 c = simp (simp c.find-p.ensures at c.in-CalBase14.is, c.find-p.ensures)

pub returns-in-CalBase15 : goal.returns-in-CalBase15
returns-in-CalBase15 c = simp (simp c.find-p.ensures at c.in-CalBase15.is, c.find-p.ensures)

pub returns-in-Outside : goal.returns-in-Outside
returns-in-Outside c = simp (simp c.find-p.ensures at c.in-Outside.is, c.find-p.ensures)
