use Rattle.std.proofs.Common.{rules, ◌≡◌}
use Rattle.std.specs.Prelude.{min, max}
use Rattle.pair.proofs.PairEnds.{for-pair}
use Rattle.pair.proofs.prepare_pair.Goals as goal

pub returns : goal.returns
returns c =
    let a = c.args in
    let low : c.min.result.0 ≡ min a.a.0 a.b.0 = search rules in
    let high : c.max.result.0 ≡ max a.a.0 a.b.0 = search rules in
    for-pair a.a.0 a.b.0 _ low high c.prepare.ensures
