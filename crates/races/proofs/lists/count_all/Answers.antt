use Rattle.races.proofs.ListEnds.{counts-few}
use Rattle.races.specs.loops.ListPass.{Ample}
use Rattle.records.specs.Bytes.{decode}
use lib.Dec.{T}
use lib.ListN.{length}
use Prim.Native.Nat.{ℕ, ◌/◌, ◌<◌}
use mathlib.Core.Path.{refl, sym, subst}
use Rattle.races.proofs.lists.count_all.Goals as goal

pub returns-then-is_ample : goal.returns-then-is_ample
returns-then-is_ample c =
    let a = c in
    let q = c.is_ample.ensures (subst T (sym c.if-is_ample.true) tt) in
    let n = c.count.ensures in (
      counts-few (decode a.args.filled.layout.recs.now) a.args.short (length a.args.list.now) (subst (λ (x : ℕ). 1 < x) n q.0) (subst (λ (x : ℕ). Ample a.args.short x (length a.args.list.now / 5)) n q.1),
      refl,
    )
