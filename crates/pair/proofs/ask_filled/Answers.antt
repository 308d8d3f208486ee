use mathlib.Core.Path.{refl, sym, ◌∙◌}
use Rattle.records.specs.Bytes.{decode}
use Rattle.pair.proofs.PairLaws.{no_race, no-list, markable, row_in, for-cover, covered, uncovered, marks-fit, as_before}
use Rattle.slices.proofs.Cleared.{cleared-within}
use Rattle.pair.proofs.RankedClocks.{with_ranks}
use Rattle.pair.proofs.ask_filled.Goals as goal

pub returns-then-not-is_race : goal.returns-then-not-is_race
returns-then-not-is_race c =
    let s = c in
    (no_race (decode s.args.filled.recs.now) s.args.events s.args.a s.args.b s.args.list.now _ (sym c.is_race.ensures ∙ c.if-not-is_race.true) (rw c.at.ensures), refl)

pub returns-then-list-events : goal.returns-then-list-events
returns-then-list-events c =
    let s = c in
    (no-list (decode s.args.filled.recs.now) s.args.events s.args.a s.args.b s.args.list.now _ (sym c.is_race.ensures ∙ c.if-not-is_race.false) c.if-list-events.true (rw c.at-then-list-events.ensures), refl)

pub mark_leading-requires : goal.mark_leading-requires
mark_leading-requires c =
    let at-if = c in
    let at-is-race-in-order = at-if in
    let s = c in
    markable (with_ranks s.args.filled.filled s.requires.ranks_are.0) s.requires.clear s.args.a s.args.b (sym at-is-race-in-order.is_race.ensures ∙ at-if.if-not-is_race.false) s.args.filled.chains_are c.row_at-u.ensures

pub bounds-work-t : goal.bounds-work-t
bounds-work-t c =
    let at-row-at = c in
    let at-if = at-row-at in
    let at-is-race-in-order = at-if in
    let s = c in
    row_in (with_ranks s.args.filled.filled s.requires.ranks_are.0) s.requires.clear s.args.a s.args.b (sym at-is-race-in-order.is_race.ensures ∙ at-if.if-not-is_race.false) c.mark_leading.ensures at-row-at.row_at-t.ensures

pub put_cover-count-requires : goal.put_cover-count-requires
put_cover-count-requires c =
    let at-fill-ranks = c in
    let at-if = at-fill-ranks in
    let at-mark-leading = at-if in
    let at-row-at = at-mark-leading in
    let at-if2 = at-row-at in
    let at-if3 = at-if2 in
    let at-is-race-in-order = at-if3 in
    let s = c in
    let r = for-cover (with_ranks s.args.filled.filled s.requires.ranks_are.0) s.requires.clear s.args.a s.args.b (sym at-is-race-in-order.is_race.ensures ∙ at-if3.if-not-is_race.false) at-mark-leading.mark_leading.ensures at-row-at.row_at-t.ensures at-if.if-work-t-eq1.true _ at-fill-ranks.fill_ranks.ensures s.args.list.now at-if2.if-list-events.false in
    record { marks = r.0.1; race = r.1 }

pub returns-then-work-t-eq1 : goal.returns-then-work-t-eq1
returns-then-work-t-eq1 c =
    let at-put-cover = c in
    let at-if = at-put-cover in
    let at-mark-leading = at-if in
    let at-row-at = at-mark-leading in
    let at-if2 = at-row-at in
    let at-if3 = at-if2 in
    let at-is-race-in-order = at-if3 in
    let s = c in
    let e = sym at-is-race-in-order.is_race.ensures ∙ at-if3.if-not-is_race.false in
    let m = at-mark-leading.mark_leading.ensures in (
      covered (with_ranks s.args.filled.filled s.requires.ranks_are.0) s.requires.clear s.args.a s.args.b e m at-row-at.row_at-t.ensures at-if.if-work-t-eq1.true s.args.list.now _ at-put-cover.put_cover-count.result at-if2.if-list-events.false at-put-cover.put_cover-count.ensures,
      as_before (with_ranks s.args.filled.filled s.requires.ranks_are.0) s.requires.clear s.args.a s.args.b e m _ (cleared-within _ (marks-fit (with_ranks s.args.filled.filled s.requires.ranks_are.0) s.requires.clear s.args.a s.args.b e m) c.clear.ensures),
    )

pub returns : goal.returns
returns c =
    let at-put-kept = c in
    let at-if = at-put-kept in
    let at-mark-leading = at-if in
    let at-row-at = at-mark-leading in
    let at-if2 = at-row-at in
    let at-if3 = at-if2 in
    let at-is-race-in-order = at-if3 in
    let s = c in
    let e = sym at-is-race-in-order.is_race.ensures ∙ at-if3.if-not-is_race.false in
    let m = at-mark-leading.mark_leading.ensures in (
      uncovered (with_ranks s.args.filled.filled s.requires.ranks_are.0) s.requires.clear s.args.a s.args.b e m at-row-at.row_at-t.ensures at-if.if-work-t-eq1.false s.args.list.now _ at-put-kept.put_kept-count.result at-if2.if-list-events.false at-put-kept.put_kept-count.ensures,
      as_before (with_ranks s.args.filled.filled s.requires.ranks_are.0) s.requires.clear s.args.a s.args.b e m _ (cleared-within _ (marks-fit (with_ranks s.args.filled.filled s.requires.ranks_are.0) s.requires.clear s.args.a s.args.b e m) c.clear-2.ensures),
    )
