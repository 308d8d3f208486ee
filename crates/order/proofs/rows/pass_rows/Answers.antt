use Rattle.order.proofs.rows.pass_rows.Goals as goal

pub pass_table-requires : goal.pass_table-requires
pass_table-requires c =
    let r = c.requires in
    (r.0, r.1, rw c.in-Some.is at r.2)

pub pass-requires : goal.pass-requires
pass-requires c =
    let r = c.requires in
    (r.0, rw c.in-None.is at r.2)
