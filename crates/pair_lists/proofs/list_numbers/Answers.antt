use Rattle.pair_lists.proofs.list_numbers.Goals as goal

pub returns-then-short : goal.returns-then-short
returns-then-short c =
    let at-short-list = c in
    let at-if = at-short-list in
    rw at-if.if-short.true at-short-list.short_list.ensures

pub returns : goal.returns
returns c =
    let at-all-races = c in
    let at-if = at-all-races in
    rw at-if.if-short.false at-all-races.all_races.ensures
