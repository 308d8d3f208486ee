use mathlib.Core.Path.{sym}
use Rattle.question.proofs.from_table.enter_row.Goals as goal

pub returns : goal.returns
returns c = rw (sym c.chain_before-c.ensures) c.enter.ensures
