use lib.Seq.{set_out, set-get_or}
use lib.ListN.{get_or, set}
use Prim.Native.Nat.{◌-◌, max}
use mathlib.Core.Path.{◌≡◌, sym, ap, ◌∙◌}
use native.Mathlib.Omega.{arith}
use Rattle.order.proofs.linking.note.Goals as goal

pub returns-then-hints-at : goal.returns-then-hints-at
returns-then-hints-at c =
    let start = c in
    sym (set_out start.args.hints.now start.args.u _ c.if-hints-at.true)

pub returns-then-hints-at-2 : goal.returns-then-hints-at-2
returns-then-hints-at-2 c =
    let s = c in
    let a = s.args in
    let hs = a.hints.now in
    let h = s.hint_of-hint.ensures in
    let n = s.get.ensures in
    let e : s.hint_of-hint.result ≡ max (get_or hs a.u 0) (1024 - get_or hs a.p 0) = omega (arith, c.if-hints-at-2.true) in
    ap (set hs a.u) e

pub returns-else-hints-at-2 : goal.returns-else-hints-at-2
returns-else-hints-at-2 c =
    let s = c in
    let a = s.args in
    let hs = a.hints.now in
    let h = s.hint_of-hint.ensures in
    let n = s.get.ensures in
    let e : max (get_or hs a.u 0) (1024 - get_or hs a.p 0) ≡ get_or hs a.u 0 = omega (arith, c.if-hints-at-2.false) in
    sym (ap (set hs a.u) e ∙ set-get_or hs a.u 0)
