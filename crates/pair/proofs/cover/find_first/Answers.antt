use native.Mathlib.Omega.{arith}
use mathlib.Core.Path.{◌≡◌, sym, ap, ◌∙◌}
use Rattle.records.specs.Search.{least_kind}
use Rattle.races.proofs.FilledLaws.{rank_is}
use Rattle.pair.proofs.RecordRows.{row_low}
use Rattle.pair.proofs.CoverLaws.{from-no-access, from-unmarked, along-start, along-rows, along-found, along-next, along-end}
use Rattle.pair.proofs.RankedClocks.{ranked_clocks}
use Rattle.pair.proofs.cover.find_first.Goals as goal

pub returns-then-kind-lt5 : goal.returns-then-kind-lt5
returns-then-kind-lt5 c = let s = c in from-no-access (ranked_clocks s.args.ranked) s.args.lo s.args.t s.args.d s.requires.3 s.args.work.now (omega (arith, c.base_kind_at-kind.ensures, c.if-kind-lt5.true))

pub bounds-work-u : goal.bounds-work-u
bounds-work-u c =
    let s = c in
    omega (arith, c.row_at-u.ensures, rank_is (ranked_clocks s.args.ranked) s.args.d s.requires.3, row_low (ranked_clocks s.args.ranked).acceptable s.args.d s.requires.3, s.requires.0)

pub returns-then-work-u-eq0 : goal.returns-then-work-u-eq0
returns-then-work-u-eq0 c = let s = c in from-unmarked (ranked_clocks s.args.ranked) s.args.lo s.args.t s.args.d s.requires.3 s.args.work.now c.row_at-u.result c.row_at-u.ensures c.if-work-u-eq0.true

pub loop-c-init : goal.loop-c-init
loop-c-init c =
    let at-row-at = c in
    let at-if = at-row-at in
    let at-kind-at = at-if in
    let s = c in
    let k = at-kind-at.base_kind_at-kind.ensures in
    λ i. along-start (ranked_clocks s.args.ranked) s.args.lo s.args.t s.args.d i c.cell_at-x.ensures (c.least_kind-least.ensures ∙ ap least_kind k) (omega (arith, at-if.if-kind-lt5.false)) at-row-at.row_at-u.ensures c.if-work-u-eq0.false (c.next_access-c.ensures.next s.requires.2 (omega (arith, s.requires.3)))

pub leads_on-requires : goal.leads_on-requires
leads_on-requires c =
    let at_test = c in
    let s = at_test in
    let r = along-rows (ranked_clocks s.args.ranked) s.args.lo s.args.t s.args.d s.requires.3 (at_test.loop-c.invariant s.requires.3) at_test.loop-c-test.true c.kind_at-kind.ensures c.row_at-row.ensures s.requires.1 in
    (r.1, r.2, r.3)

pub returns-then-leads_on : goal.returns-then-leads_on
returns-then-leads_on c =
    let at_row = c in
    let at_test = at_row in
    let s = at_test in
    (c.loop-c-test.true, along-found (ranked_clocks s.args.ranked) s.args.lo s.args.t s.args.d s.requires.3 (at_test.loop-c.invariant s.requires.3) at_test.loop-c-test.true at_row.kind_at-kind.ensures at_row.row_at-row.ensures (sym c.leads_on.ensures ∙ c.if-leads_on.true))

pub loop-c-preserved : goal.loop-c-preserved
loop-c-preserved c =
    let at_row = c in
    let at_test = at_row in
    let s = at_test in
    λ i.
    along-next (ranked_clocks s.args.ranked) s.args.lo s.args.t s.args.d i (at_test.loop-c.invariant i) at_test.loop-c-test.true at_row.kind_at-kind.ensures at_row.row_at-row.ensures (sym c.leads_on.ensures ∙ c.if-leads_on.false) (c.next_access-c-in-loop-c.ensures.next (omega (arith, at_test.loop-c-test.true)) (omega (arith, s.requires.3)))

pub returns : goal.returns
returns c =
    let s = c in
    let e : c.loop-c.c ≡ s.args.d = omega (arith, c.loop-c-test.false, (c.loop-c.invariant s.requires.3).high) in
    rw e at (along-end (ranked_clocks s.args.ranked) s.args.lo s.args.t s.args.d s.requires.3 (c.loop-c.invariant s.requires.3) c.loop-c-test.false)
