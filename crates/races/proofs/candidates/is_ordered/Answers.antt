use native.Mathlib.Omega.{arith}
use Prim.Native.Nat.{◌≤◌, ◌<◌}
use mathlib.Core.Logic.{◌≢◌}
use borrow.Author.Tests.{ne_eqb, lt-ltb, le-ltb}
use Rattle.races.specs.loops.Candidates.{ordered_in}
use Rattle.races.proofs.candidates.is_ordered.Goals as goal

pub own_of-requires : goal.own_of-requires
own_of-requires c =
    let n : c.args.seen ≢ 0 = λ z. omega arith in
    let l : c.args.seen ≤ 1024 = omega arith in
    let r = (c.requires n l).second in
    record { known = r.known; own = r.own; other = r.own }

pub relation-requires : goal.relation-requires
relation-requires c =
    let n : c.args.seen ≢ 0 = λ z. omega arith in
    let l : c.args.seen ≤ 1024 = omega arith in
    let e = c.own_of.ensures.0 in
    (rw e (c.requires n l), rw e c.own_of.ensures.1)

pub returns-in-0 : goal.returns-in-0
unfolding ordered_in
returns-in-0 c = simp c.in-0.is

pub returns-in-1-to-1024 : goal.returns-in-1-to-1024
unfolding ordered_in
returns-in-1-to-1024 c =
    let n : c.args.seen ≢ 0 = λ z. omega arith in
    let l : c.args.seen ≤ 1024 = omega arith in
    let r = rw c.own_of.ensures.0 at c.relation.ensures in
    simp (ne_eqb _ _ n, le-ltb _ _ l, ← r, c.is_before.ensures)

pub returns-in_default : goal.returns-in_default
unfolding ordered_in
returns-in_default c =
    let n : c.args.seen ≢ 0 = λ z. omega arith in
    let l : 1024 < c.args.seen = omega arith in
    simp (ne_eqb _ _ n, lt-ltb _ _ l)
