use Rattle.order.proofs.FillEnds.{ready, ends-short, ends-whole}
use Rattle.slices.proofs.Cleared.{zeros-length, cleared-whole}
use Rattle.order.proofs.TableLaws.{events-few}
use Rattle.records.specs.Bytes.{decode}
use lib.ListN.{length}
use native.Mathlib.Omega.{arith}
use mathlib.Core.Path.{sym, refl, ap, ◌∙◌}
use Prim.Native.Nat.{◌≤◌, ◌<◌}
use Rattle.order.proofs.rows.fill_rows.Goals as goal

pub overflow_cast-rows : goal.overflow_cast-rows
overflow_cast-rows c = let start = c in omega (arith, start.requires.1, events-few start.requires.0)

pub pass_rows-passed-requires : goal.pass_rows-passed-requires
pass_rows-passed-requires c =
    let at-numbers- = c in
    let at-fill-ranks = at-numbers- in
    let a = at-fill-ranks in (
      ready _ a.requires.0 _ _ a.requires.1 a.args.clocks.now a.requires.2 _ _ _ at-fill-ranks.fill_ranks.ensures at-numbers-.zeros-sizes.ensures
          a.requires.3,
      a.requires.1,
      a.requires.4,
    )

pub past_width-requires : goal.past_width-requires
past_width-requires c =
    let at-if = c in
    let at_count = at-if in
    let start = at_count in
    omega (arith, start.requires.0.few, at_count.count.ensures, at-if.if-position-count.true)

pub returns-then-position-count : goal.returns-then-position-count
returns-then-position-count c =
    let at-clear-rows = c in
    let at-if = at-clear-rows in
    let at_count = at-if in
    let at-pass = at_count in
    let at-fill-ranks = at-pass in
    let a = at-fill-ranks in
    let p = at-pass.pass_rows-passed in
    let h : p.result.position < length (decode a.args.recs.now) = omega (arith, at_count.count.ensures, at-if.if-position-count.true) in
    let kept = p.auto.chosen ∙ (ap length a.requires.3 ∙ zeros-length 1024) in
    let o = cleared-whole p.new.chosen (sym kept) c.clear.ensures in
    ends-short _ a.requires.0 _ _ a.requires.1 a.args.clocks.now a.requires.2 _ _ _ _ p.ensures h _ _ _ p.auto.clocks
    at-clear-rows.clear_rows.ensures o at-fill-ranks.fill_ranks.ensures _ c.past_width.ensures

pub returns : goal.returns
returns c =
    let at-pass = c in
    let at-fill-ranks = at-pass in
    let a = at-fill-ranks in
    let p = at-pass.pass_rows-passed in
    let h : length (decode a.args.recs.now) ≤ p.result.position = omega (arith, c.count.ensures, c.if-position-count.false) in
    ends-whole _ a.requires.0 _ _ a.requires.1 a.args.clocks.now a.requires.2 _ _ _ _ p.ensures h _ at-fill-ranks.fill_ranks.ensures _ refl
