use native.Mathlib.Omega.{arith}
use mathlib.Core.Path.{refl}
use Rattle.trace.proofs.Events.{few-events}
use Rattle.pair.proofs.CoverLaws.{written_start, written-room, written_on, written_next, written-end, few-rows}
use Rattle.pair.proofs.RankedClocks.{ranked_clocks}
use Rattle.pair.proofs.cover.put_cover.Goals as goal

pub loop-step-init : goal.loop-step-init
loop-step-init c =
    let start = c in
    written_start (ranked_clocks start.args.ranked).acceptable start.args.a start.args.b start.requires.race.0 start.requires.race.1 start.args.list.now

pub put_entry-requires : goal.put_entry-requires
put_entry-requires c =
    let at-loop = c in
    let start = at-loop in
    written-room (ranked_clocks start.args.ranked).acceptable start.args.a start.args.b start.requires.race.0 at-loop.loop-step.invariant start.requires.race.2

pub overflow_add-k : goal.overflow_add-k
overflow_add-k c =
    let at-loop = c in
    let start = at-loop in
    omega (arith, few-rows (ranked_clocks start.args.ranked).acceptable start.args.a start.args.b start.requires.race.0 at-loop.loop-step.invariant start.requires.race.2, few-events (ranked_clocks start.args.ranked).acceptable)

pub loop-step-smaller : goal.loop-step-smaller
loop-step-smaller c =
    let at-find-race = c in
    let at-loop = at-find-race in
    let start = at-loop in
    omega (arith, at-loop.loop-step.invariant.below, at-find-race.in-Some.ensures.below, written_on (ranked_clocks start.args.ranked).acceptable start.args.a start.args.b start.requires.race.0 at-loop.loop-step.invariant start.requires.race.2 at-find-race.in-Some.step.first at-find-race.in-Some.step.second at-find-race.in-Some.ensures)

pub loop-step-preserved : goal.loop-step-preserved
loop-step-preserved c =
    let at-find-race = c in
    let at-loop = at-find-race in
    let start = at-loop in
    written_next (ranked_clocks start.args.ranked).acceptable start.args.a start.args.b start.requires.race.0 at-loop.loop-step.invariant start.requires.race.2 at-find-race.in-Some.step.first at-find-race.in-Some.step.second at-find-race.in-Some.ensures _ _ refl refl _ c.put_entry.ensures

pub returns : goal.returns
returns c =
    let start = c in
    written-end (ranked_clocks start.args.ranked).acceptable start.args.a start.args.b start.requires.race.0 c.loop-step.invariant start.requires.race.2 c.in_default.ensures
