use Rattle.compactor.proofs.keeping.stamp.Goals as goal

pub returns : goal.returns
returns c =
    let at-get = c in
    (rw at-get.get.ensures, c.put.ensures)
