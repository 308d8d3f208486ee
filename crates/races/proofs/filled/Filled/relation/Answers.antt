use mathlib.Core.Path.{◌∙◌}
use lib.ListN.{get_or}
use Rattle.clocks.proofs.WayLaws.{by_entries}
use Rattle.races.proofs.filled.Filled.relation.Goals as goal

pub returns : goal.returns
returns c =
    let s = c in
    let a = s.args in
    c.relate_entries.ensures ∙ (rw (s.requires.1.entry-is, s.requires.1.chain_is) (by_entries a.self.clocks.now a.self.layout.width a.t (get_or a.self.layout.chosen.now a.t 0) a.u.row (get_or a.self.layout.chosen.now a.u.row 0)))
