use Rattle.slices.proofs.Cleared.{cleared-whole}
use native.Mathlib.Omega.{arith}
use mathlib.Core.Path.{sym, ◌∙◌}
use Rattle.order.proofs.EntryLaws.{no-send}
use Rattle.order.proofs.prepare.Goals as goal

pub prepare_linked-requires : goal.prepare_linked-requires
prepare_linked-requires c =
    let at_clear = c in
    let start = at_clear in
    cleared-whole start.args.chosen.now (omega arith) at_clear.clear.ensures

pub fill_within-requires : goal.fill_within-requires
fill_within-requires c =
    let at-if = c in
    let at_read = at-if in
    let at_clear = at_read in
    let start = at_clear in
    let e = at_read.read_plain-first.ensures in (
      e.enough at-if.if-first.false,
      cleared-whole start.args.chosen.now (omega arith) at_clear.clear.ensures,
      λ t a. no-send _ t a (sym (e.tells t (a ∙ sym (e.enough at-if.if-first.false))) ∙ at-if.if-first.false),
    )
