use Prim.Native.Nat.{suc, ◌+◌, ◌≤◌}
use mathlib.Core.Path.{◌≡◌, refl, sym, ◌∙◌}
use native.Mathlib.Omega.{arith}
use lib.ListN.{length}
use Rattle.slices.specs.Slices.{zeros}
use Rattle.records.specs.Bytes.{decode}
use Rattle.records.proofs.Decoded.{decoded-length}
use Rattle.links.specs.Begin.{last_send}
use Rattle.links.proofs.BeginLaws.{blocked-none, blocked-free, blocked-told}
use Rattle.links.proofs.begin_blocked.Goals as goal

pub returns-in_default : goal.returns-in_default
returns-in_default c = blocked-none _ _ 0 (zeros 0) c.in_default.ensures.last refl

pub overflow_add-last : goal.overflow_add-last
overflow_add-last c =
    let r = decode c.args.recs.now in
    let inside : suc c.in-Some.last ≤ length r = c.in-Some.ensures.inside in
    omega (arith, inside, decoded-length c.args.recs.now)

pub overflow_add-last-then-may_block : goal.overflow_add-last-then-may_block
overflow_add-last-then-may_block c =
    let r = decode c.args.recs.now in
    let inside : suc c.in-Some.last ≤ length r = c.in-Some.ensures.inside in
    omega (arith, inside, decoded-length c.args.recs.now)

pub returns-then-may_block : goal.returns-then-may_block
returns-then-may_block c =
    let r = decode c.args.recs.now in
    let said : suc c.in-Some.last ≡ last_send r c.args.e.0 (length r) = c.in-Some.ensures.last in
    let from : c.in-Some.last + 1 ≡ last_send r c.args.e.0 (length r) = omega (arith, said) in
    c.blocked_by_table.ensures
    ∙ blocked-told _ _ _ _ from (λ z. omega (arith, z)) c.ranks-all.ensures (sym c.may_block.ensures ∙ c.if-may_block.true) _ c.count_begins.ensures

pub returns-else-may_block : goal.returns-else-may_block
returns-else-may_block c =
    let r = decode c.args.recs.now in
    let said : suc c.in-Some.last ≡ last_send r c.args.e.0 (length r) = c.in-Some.ensures.last in
    let from : c.in-Some.last + 1 ≡ last_send r c.args.e.0 (length r) = omega (arith, said) in
    c.if-may_block.false ∙ blocked-free _ _ _ _ from (λ z. omega (arith, z)) c.ranks-all.ensures (sym c.may_block.ensures ∙ c.if-may_block.false)
