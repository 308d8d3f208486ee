-- The trace program's spaces suffice: an accepted trace is refused by 23 alone. Assumes nothing.
use Prim.Native.Nat.{ℕ}
use mathlib.Core.Path.{◌≡◌, sym, ◌∙◌}
use mathlib.Core.Bool.{Bool, true, false}
use mathlib.Core.List.{List}
use lib.Dec.{eqb}
use Rattle.records.specs.declared.Record.{Record}
use Rattle.trace.specs.Reply.{refused, gives, demand}
use Rattle.trace.specs.Reading.{records_in, read_reply}
use Rattle.trace.proofs.Accepted.{accepts}
use Rattle.trace.proofs.ReplyLaws.{not-both, then-given}
use Rattle.order.specs.Fill.{events_in, row_past_width}
use Rattle.order.specs.Lent.{work_for, enough_chains, on_clocks}
use Rattle.order.proofs.LentLaws.{fitted}
use Rattle.order.proofs.FilledTrace.{events-of}
use Rattle.races.specs.Lists.{list_filled, list_ready, list_reply}
use Rattle.races.proofs.Spaces.{never-21, never-22, never-24}
use Rattle.report.specs.Text.{SpacesSuffice}

only-23 : {A : Type 0} (tr : List Record) (m w : ℕ) (a : A) (k p : ℕ) → enough_chains tr m w (gives a) ≡ refused k p → k ≡ 23
unfolding enough_chains demand
only-23 tr m w a k p e = go (eqb (row_past_width tr w) m) _ e
  where
    go : (x : Bool) (place : ℕ) → demand x 23 place (gives a) ≡ refused k p → k ≡ 23
    go true place q = absurd (not-both a k p q)
    go false place q = cc

pub spaces-suffice : SpacesSuffice
unfolding list_reply list_ready list_filled on_clocks demand events_in
spaces-suffice b t e k p q =
    let a = (accepts b t e).acceptable in
    let m = sym (events-of b t e) in
    let ready = fitted (read_reply b) 32 32768 (work_for 1024) t (record { found-is = e; has-space = rw m at (never-21 a); has_work = rw m at (never-22 a) }) in
    only-23 (records_in b t) t.events 32 _ k p (rw (never-24 a) at (sym (then-given ready _) ∙ q))
