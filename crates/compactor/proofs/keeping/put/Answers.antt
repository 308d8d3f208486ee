use Rattle.compactor.proofs.keeping.put.Goals as goal

pub returns-then-writing : goal.returns-then-writing
returns-then-writing c =
    let at-if = c in
    rw (at-if.if-writing.true, c.put_record.ensures, c.record_at.ensures)
