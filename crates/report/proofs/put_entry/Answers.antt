use Rattle.report.specs.Text.{entry_line}
use Rattle.report.proofs.put_entry.Goals as goal

pub returns : goal.returns
unfolding entry_line
returns c =
    let s4 = c in
    let s7 = s4 in
    rw (← s7.get.ensures, ← s4.get-2.ensures, ← s4.get-3.ensures)
    (rw (← s4.get-4.ensures, ← c.get-5.ensures) c.put_pair.ensures)
