use Prim.Native.Nat.{ℕ, ◌+◌, ◌%◌, ◌<◌}
use mathlib.Core.Path.{◌≡◌, ap, ap₂, ◌∙◌}
use native.Mathlib.Omega.{arith}
use lib.ListN.{get_or, set}
use Rattle.records.specs.Bytes.{decode}
use Rattle.records.specs.Records.{at}
use Rattle.records.proofs.KindLaws.{says_begin, says_fork, says_join, a_send, not_send}
use Rattle.links.specs.Rule.{rank_in, Walked}
use Rattle.links.specs.Fill.{linked, begin_row, begun}
use Rattle.links.proofs.FillLaws.{step-begin, step-join, step-fork, step-other, step-send}
use Rattle.links.proofs.fill_record.Goals as goal

pub returns-in-Begin : goal.returns-in-Begin
unfolding begun
returns-in-Begin c = let k = c.args in
    let tr = decode k.recs.now in
    let ranks = rank_in k.ranks.now in
    let ev = c.event_at-e.result.0 in
    let r = c.begin_row.ensures in
    let w =
    ap (λ (f : ℕ). begin_row tr ranks ev (ranks ev) f k.table.now) c.get-from.ensures
    ∙ ap (λ (v : ℕ). begin_row tr ranks v (ranks v) (get_or k.last.now v 0) k.table.now) c.event_at-e.ensures in
    step-begin _ _ _ _ _ _ _ c.in-Begin.ensures (r.0 ∙ ap (λ (x : Walked). x.stuck) w, r.1 ∙ ap (λ (x : Walked). x.words) w)

pub returns-in-Join : goal.returns-in-Join
returns-in-Join c = let k = c.args in
    let ranks = rank_in k.ranks.now in
    step-join _ _ _ _ _ _ c.in-Join.ensures
    (c.link_events.ensures ∙ ap₂ (λ (p u : ℕ). linked (ranks p) (ranks u) k.table.now) c.target_at-target.ensures c.event_at-e.ensures)

pub returns-in-Fork : goal.returns-in-Fork
returns-in-Fork c = let k = c.args in
    let ranks = rank_in k.ranks.now in
    step-fork _ _ _ _ _ _ c.in-Fork.ensures
    (c.link_events-in-Fork.ensures ∙ ap₂ (λ (p u : ℕ). linked (ranks p) (ranks u) k.table.now) c.event_at-e.ensures c.target_at-target.ensures)

pub returns-in-Send : goal.returns-in-Send
returns-in-Send c = let k = c.args in
    let ranks = rank_in k.ranks.now in
    let target = c.target_at-target.ensures in
    let says : (c.in-Send.field-0 < 4) × ((at (decode k.recs.now) k.i).kind ≡ 16 + c.in-Send.field-0) = c.in-Send.ensures in
    step-send _ _ _ _ _ _ _ (λ e. omega (arith, e, says.1)) (λ e. omega (arith, e, says.1)) (λ e. omega (arith, e, says.1)) (a_send _ _ says)
    (c.link_events-in-Send.ensures ∙ ap₂ (λ (p u : ℕ). linked (ranks p) (ranks u) k.table.now) c.event_at-e.ensures target)
    (c.put.ensures ∙ ap (λ (v : ℕ). set k.last.now v ((k.i + 1) % 65536)) target)

pub returns-in_default : goal.returns-in_default
returns-in_default c =
    let says = c.kind_of.ensures in
    let no = c.in_default in
    step-other _ _ _ _ _ (λ e. no.not-Begin (says_begin _ _ says e)) (λ e. no.not-Join (says_join _ _ says e)) (λ e. no.not-Fork (says_fork _ _ says e))
    (not_send _ _ says no.not-Send)
