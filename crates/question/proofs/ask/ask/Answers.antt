use Rattle.std.proofs.Common.{Err}
use Rattle.question.specs.Question.{order_paper}
use Rattle.question.proofs.AskLaws.{rank-told, ask-none, ask-space, ask-short, ask-done}
use Rattle.order.proofs.SpaceLaws.{has_room}
use Rattle.trace.specs.Reply.{gives}
use Rattle.records.specs.Bytes.{decode}
use lib.ListN.{length}
use native.Mathlib.Omega.{arith}
use mathlib.Core.Logic.{inl, inr}
use mathlib.Core.Path.{sym, ap, ◌∙◌}
use Prim.Native.Nat.{◌≤◌, ◌<◌}
use Rattle.question.proofs.ask.ask.Goals as goal

pub returns-then-first-eq0 : goal.returns-then-first-eq0
returns-then-first-eq0 c =
    let s = c in
    let q = s in
    let r = q in
    let b = r in
    let e = rank-told b.requires.0 b.args.t.0 r.ranks-all.ensures q.rank_of-first.ensures in
    let f = rank-told b.requires.0 b.args.u.0 r.ranks-all.ensures s.rank_of-second.ensures in
    ap order_paper (ap Err c.at.ensures) ∙ sym (ask-none _ _ _ _ _ _ (inl (sym e ∙ c.if-first-eq0.true)))

pub returns-then-second-eq0 : goal.returns-then-second-eq0
returns-then-second-eq0 c =
    let s = c in
    let q = s in
    let r = q in
    let b = r in
    let e = rank-told b.requires.0 b.args.t.0 r.ranks-all.ensures q.rank_of-first.ensures in
    let f = rank-told b.requires.0 b.args.u.0 r.ranks-all.ensures s.rank_of-second.ensures in
    ap order_paper (ap Err c.at-then-second-eq0.ensures) ∙ sym (ask-none _ _ _ _ _ _ (inr (sym f ∙ c.if-second-eq0.true)))

pub returns-then-not-has_space : goal.returns-then-not-has_space
returns-then-not-has_space c =
    let s = c in
    let q = s in
    let r = q in
    let b = r in
    let e = rank-told b.requires.0 b.args.t.0 r.ranks-all.ensures q.rank_of-first.ensures in
    let f = rank-told b.requires.0 b.args.u.0 r.ranks-all.ensures s.rank_of-second.ensures in
    let h = c in
    ap order_paper (ap Err c.at-then-not-has_space.ensures) ∙ sym (ask-space b.requires.0 b.args.events b.args.width b.requires.1 b.args.clocks.now b.args.t.0 b.args.u.0 _ _ e f h.if-first-eq0.false h.if-second-eq0.false (sym h.has_space.ensures ∙ c.if-not-has_space.true))

pub pass_chains-passed-requires : goal.pass_chains-passed-requires
pass_chains-passed-requires c =
    let at-if = c in
    let h = at-if in
    let r = h in
    let start = r in (
      record {
        acceptable = start.requires.0;
        ranks_are = r.ranks-all.ensures;
        narrow = (has_room _ _ _ (sym h.has_space.ensures ∙ at-if.if-not-has_space.false)).narrow;
      },
      start.requires.1,
      start.requires.2,
    )

pub returns-then-passed-count : goal.returns-then-passed-count
returns-then-passed-count c =
    let at_count = c in
    let at-pass = at_count in
    let at-if = at-pass in
    let s = c in
    let q = s in
    let r = q in
    let b = r in
    let e = rank-told b.requires.0 b.args.t.0 r.ranks-all.ensures q.rank_of-first.ensures in
    let f = rank-told b.requires.0 b.args.u.0 r.ranks-all.ensures s.rank_of-second.ensures in
    let h = c in
    let less : at-pass.pass_chains-passed.result.position < length (decode b.args.recs.now) = omega (arith, at_count.count.ensures, c.if-passed-count.true) in
    ap order_paper (ap Err c.at-then-passed-count.ensures) ∙ sym (ask-short b.requires.0 b.args.events b.args.width b.requires.1 b.args.clocks.now b.args.t.0 b.args.u.0 _ _ e f h.if-first-eq0.false h.if-second-eq0.false (sym h.has_space.ensures ∙ at-if.if-not-has_space.false) _ _ _ at-pass.pass_chains-passed.ensures less)

pub overflow_cast-width : goal.overflow_cast-width
overflow_cast-width c =
    let at-if = c in
    let h = c in
    omega (arith, (has_room _ _ _ (sym h.has_space.ensures ∙ at-if.if-not-has_space.false)).narrow)

pub returns : goal.returns
returns c =
    let at-pass = c in
    let at-if = at-pass in
    let s = c in
    let q = s in
    let r = q in
    let b = r in
    let e = rank-told b.requires.0 b.args.t.0 r.ranks-all.ensures q.rank_of-first.ensures in
    let f = rank-told b.requires.0 b.args.u.0 r.ranks-all.ensures s.rank_of-second.ensures in
    let h = c in
    let more : length (decode b.args.recs.now) ≤ at-pass.pass_chains-passed.result.position = omega (arith, c.count.ensures, c.if-passed-count.false) in
    ap gives c.relate.ensures ∙ sym (ask-done b.requires.0 b.args.events b.args.width b.requires.1 b.args.clocks.now b.args.t.0 b.args.u.0 _ _ e f h.if-first-eq0.false h.if-second-eq0.false (sym h.has_space.ensures ∙ at-if.if-not-has_space.false) _ _ _ at-pass.pass_chains-passed.ensures more)
