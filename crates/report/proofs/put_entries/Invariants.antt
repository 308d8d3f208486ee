use Rattle.report.proofs.TextLaws.{Printing}
use Rattle.report.proofs.put_entries.Given as goal

abbrev pub invariant-loop-i : goal.invariant-loop-i
invariant-loop-i l = Printing l.list l.count l.initial.text l.at l.text l.next l.i
