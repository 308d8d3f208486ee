use native.Mathlib.Omega.{arith}
use Prim.Native.Nat.{◌+◌, ◌*◌}
use mathlib.Core.Path.{refl, ap, ◌∙◌}
use lib.ListN.{set}
use Rattle.pair.proofs.put_end.Goals as goal

pub returns-then-work-t-ne1 : goal.returns-then-work-t-ne1
returns-then-work-t-ne1 c = record { put = λ e. absurd (c.if-work-t-ne1.true e); skipped = λ n. (refl, refl) }

pub put_entry-requires : goal.put_entry-requires
put_entry-requires c =
    let start = c in
    start.requires.2 c.if-work-t-ne1.false

pub overflow_add-result : goal.overflow_add-result
overflow_add-result c =
    let at-if = c in
    let start = at-if in
    omega (arith, start.requires.2 at-if.if-work-t-ne1.false)

pub returns : goal.returns
returns c =
    let at-if = c in
    let s = c in
    record { put = λ e. (refl, c.put_entry.ensures ∙ ap (λ x. set (set s.args.list.now (2 * s.args.k) x) (2 * s.args.k + 1) (s.args.i + 1)) c.event_at.ensures); skipped = λ n. absurd (n at-if.if-work-t-ne1.false) }
