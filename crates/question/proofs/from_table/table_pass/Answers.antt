use Rattle.order.proofs.TablePass.{table-tells}
use Rattle.question.proofs.TableChainLaws.{tells-events, ready-rows, table-passes}
use Rattle.question.proofs.from_table.table_pass.Goals as goal

pub enter_rows-entered-requires : goal.enter_rows-entered-requires
enter_rows-entered-requires c =
    let pre = c.requires in
    (ready-rows _ _ _ _ pre.0 pre.1 _ (table-tells pre.0.acceptable pre.2), c.none-members.ensures)

pub returns : goal.returns
returns c =
    let pre = c.requires in
    let entered = c.enter_rows-entered.ensures _ (tells-events _ _ _ _ pre.0 pre.1 _ (table-tells pre.0.acceptable pre.2)) in
    table-passes _ _ _ _ pre.0 pre.1 _ _ _ _ _ _ entered c.begin_of.ensures
