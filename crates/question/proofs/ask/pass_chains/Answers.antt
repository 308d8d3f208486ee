use Rattle.question.proofs.ask.pass_chains.Goals as goal

pub table_pass-requires : goal.table_pass-requires
table_pass-requires c =
    let r = c.requires in
    (r.0, r.1, rw c.in-Some.is at r.2)

pub chain_pass-requires : goal.chain_pass-requires
chain_pass-requires c =
    let r = c.requires in
    (r.0, rw c.in-None.is at r.2)
