use Rattle.question.proofs.MemberLaws.{unbegun}
use Rattle.question.specs.loops.ChainPass.{turn_members}
use mathlib.Core.Path.{sym}
use Rattle.question.proofs.chains.turn.Goals as goal

pub marked_chain-c-requires : goal.marked_chain-c-requires
marked_chain-c-requires c =
    let at-said = c in
    let at-ordering-at = at-said in
    let start = at-ordering-at in
    let room = rw (sym at-said.in-Begin.ensures) at start.requires.2 in
    room.1

pub enter-requires : goal.enter-requires
enter-requires c =
    let at-said = c in
    let at-ordering-at = at-said in
    let start = at-ordering-at in
    let room = rw (sym at-said.in-Begin.ensures) at start.requires.2 in
    (start.requires.0, room.0)

pub returns : goal.returns
unfolding turn_members
returns c =
    let at-marked-chain = c in
    let at-mark-before = at-marked-chain in
    let at-said = at-mark-before in
    let at-ordering-at = at-said in
    let start = at-ordering-at in
    let marked = rw start.requires.1 at at-mark-before.mark_before.ensures in
    rw (sym at-said.in-Begin.ensures, ← marked, ← at-marked-chain.marked_chain-c.ensures) c.enter.ensures

pub returns-in_default : goal.returns-in_default
returns-in_default c =
    rw (sym c.ordering_at.ensures) (sym (unbegun _ _ _ _ _ _ c.ordering_at.result c.in_default.not-Begin _))
