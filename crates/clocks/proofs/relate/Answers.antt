use mathlib.Core.Path.{◌∙◌}
use Rattle.clocks.proofs.WayLaws.{by_entries}
use Rattle.clocks.proofs.relate.Goals as goal

pub returns : goal.returns
returns c =
    let start = c in
    let a = start.args in
    let b = c in
    c.relate_entries.ensures ∙ (rw (b.entry-own.ensures, b.entry-there.ensures, b.entry-second.ensures, b.entry-back.ensures) (by_entries a.clocks.now a.width a.t a.c a.u a.d))
