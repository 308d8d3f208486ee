use Rattle.clocks.specs.Rows.{compare_in}
use borrow.Author.Rules.{rules}
use Rattle.races.proofs.filled.Layout.comes_before.Goals as goal

pub returns : goal.returns
unfolding compare_in
returns c = search rules
