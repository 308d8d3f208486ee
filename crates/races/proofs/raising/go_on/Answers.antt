use mathlib.Core.Path.{sym, ◌∙◌}
use mathlib.Core.Bool.{true, false}
use Rattle.races.proofs.GoLaws.{went-by}
use Rattle.races.proofs.raising.go_on.Goals as goal

pub returns-then-layout : goal.returns-then-layout
returns-then-layout c =
    let then1 = c in
    let start = then1 in
    went-by _ _ _ _ true (sym then1.if-layout.true ∙ c.args.layout.sends_are) c.lead_on.ensures

pub returns-else-layout : goal.returns-else-layout
returns-else-layout c =
    let else1 = c in
    let start = else1 in
    went-by _ _ _ _ false (sym else1.if-layout.false ∙ c.args.layout.sends_are) c.walk_on.ensures
