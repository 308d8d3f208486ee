use Rattle.races.proofs.FilledLaws.{rank_is, row_room, chosen-length, rows_told}
use native.Mathlib.Omega.{arith}
use Prim.Native.Nat.{◌-◌}
use mathlib.Core.Path.{ap, ◌∙◌}
use Rattle.pair.proofs.RankedClocks.{ranked_clocks}
use Rattle.pair.proofs.filled.Ranked.relation.Goals as goal

pub relate-requires : goal.relate-requires
relate-requires c =
    let f = ranked_clocks c.args.self in
    (omega (arith, c.row_at-t.ensures, row_room f c.args.a c.requires.0, chosen-length f), omega (arith, c.row_at-u.ensures, row_room f c.args.b c.requires.1, chosen-length f))

pub returns : goal.returns
returns c =
    let f = ranked_clocks c.args.self in
    c.relate.ensures
    ∙ rows_told f c.args.a c.args.b _ _ c.requires.0 c.requires.1 (c.row_at-t.ensures ∙ ap (λ x. x - 1) (rank_is f c.args.a c.requires.0)) (c.row_at-u.ensures ∙ ap (λ x. x - 1) (rank_is f c.args.b c.requires.1))
