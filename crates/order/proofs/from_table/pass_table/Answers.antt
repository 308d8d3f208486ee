use Rattle.order.proofs.TablePass.{table-tells, tells-events, ready-to-make, table-passes}
use Rattle.order.proofs.from_table.pass_table.Goals as goal

pub make_rows-made-requires : goal.make_rows-made-requires
make_rows-made-requires c =
    let start = c in
    let tells = table-tells start.requires.0.acceptable start.requires.2 in
    ready-to-make _ _ _ _ _ _ _ start.requires.0 start.requires.1 _ tells

pub returns : goal.returns
returns c =
    let at-make-rows = c in
    let start = at-make-rows in
    let tells = table-tells start.requires.0.acceptable start.requires.2 in
    let made = at-make-rows.make_rows-made.ensures _ (tells-events _ _ _ _ _ _ _ start.requires.0 start.requires.1 _ tells) in
    table-passes _ _ _ _ _ _ _ start.requires.0 start.requires.1 _ _ _ _ _ made c.begin_of.ensures
