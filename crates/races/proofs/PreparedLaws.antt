-- What preparing a trace hands on, to the lists and to the pair question. Assumes nothing.
use Prim.Native.Nat.{ℕ, ◌*◌, ◌≤◌}
use mathlib.Core.Path.{◌≡◌, refl, ap, ◌∙◌}
use mathlib.Core.List.{List, ◌++◌}
use native.Mathlib.Omega.{arith}
use borrow.Author.Tests.{eqb-true, leb-true}
use lib.ListN.{length, drop, replicate}
use Rattle.records.specs.declared.Trace.{Trace}
use Rattle.slices.specs.Slices.{cleared}
use Rattle.slices.proofs.Cleared.{cleared-within}
use Rattle.trace.specs.Reply.{Reply, refused, gives, unless}
use Rattle.trace.specs.Reading.{records_in, Accepts}
use Rattle.trace.proofs.Accepted.{accepts}
use Rattle.order.specs.Fill.{events_in, row_past_width}
use Rattle.order.specs.Lent.{work_for, spaced, work_after}
use Rattle.order.specs.Paper.{fill_paper, Prepares}
use Rattle.std.proofs.Common.{Result}
use Rattle.trace.specs.declared.Refusal.{Refusal}
use Rattle.order.proofs.SpaceLaws.{has_room, cleared-length}
use Rattle.order.proofs.SpaceLaws.{cleared as cleared-zeros}
use Rattle.order.proofs.LentLaws.{Fits, fits}
use Rattle.order.proofs.FilledTrace.{events-of}
use Rattle.order.proofs.PrepareLaws.{none-ready, is-ready, prepared}
use Rattle.races.specs.loops.FilledClocks.{FilledClocks, Clear}

module _ (work : List ℕ) (found : Reply Trace) {b : List ℕ} {w : ℕ} {cs cs' chosen ranks ranks' : List ℕ} {f : Result ℕ Refusal} {t : Trace}
    (p : Prepares b (spaced found w (length cs) (work_for (length work))) w cs cs' chosen ranks ranks' f t) where
  abbrev ready : Reply Trace
  ready = spaced found w (length cs) (work_for (length work))

  -- the marks that are taken away are in the work space
  pub marks-fit : t.events ≤ length work
  marks-fit = go ready refl
    where
      go : (x : Reply Trace) → x ≡ ready → t.events ≤ length work
      go (refused n i) e = let z : t.events ≡ 0 = ap (λ (x : Trace). x.events) (none-ready p n i e) in omega arith
      go (gives x) e =
          let z : t.events ≡ x.events = ap (λ (y : Trace). y.events) (is-ready p e) in
          omega (arith, leb-true x.events (length work) (fits found w (length cs) _ x e).has_work)

  -- so taking them away leaves zeros there
  pub marks-cleared : {work' : List ℕ} → work' ≡ cleared t.events work → work' ≡ replicate t.events 0 ++ drop t.events work
  marks-cleared e = cleared-within work marks-fit e

  pub after-work : {work' : List ℕ} → work' ≡ replicate t.events 0 ++ drop t.events work → work' ≡ work_after ready work
  unfolding work_after unless
  after-work {work'} c = go ready refl
    where
      zeros : Trace → List ℕ
      zeros x = replicate x.events 0 ++ drop x.events work

      go : (x : Reply Trace) → x ≡ ready → work' ≡ unless x work zeros
      go (refused n i) e = c ∙ ap zeros (none-ready p n i e)
      go (gives x) e = c ∙ ap zeros (is-ready p e)

  -- the clocks of an accepted trace are filled
  module _ (k : ℕ) (z : fill_paper f ≡ gives k) where
    pub fitting : Fits found w (length cs) (work_for (length work)) t
    fitting = fits found w (length cs) _ t (prepared p k z).ready_is

    module _ (e : Accepts b t) where
      pub filled-whole : FilledClocks (records_in b t) ranks' chosen w cs'
      filled-whole =
          let g = prepared p k z in
          record {
            acceptable = (accepts b t e).acceptable;
            ranks_are = g.ranks_are;
            chosen_are = g.chosen_are;
            narrow = (has_room w t.events (length cs) fitting.has-space).narrow;
            enough = eqb-true (row_past_width (records_in b t) w) t.events g.enough ∙ events-of b t e;
            rest = drop (t.events * w) cs;
            clocks_are = g.clocks_are;
          }

      pub work-clear : {work' : List ℕ} → work' ≡ replicate t.events 0 ++ drop t.events work → Clear (records_in b t) t.events work'
      unfolding events_in
      work-clear {work'} c =
          let m = t.events in
          let room = leb-true m (length work) fitting.has_work in
          record {
            events_are = events-of b t e;
            work_room = rw (← events-of b t e) (omega (arith, cleared-length m work work' room c, room));
            zeros = rw (← events-of b t e) (cleared-zeros m work work' room c);
          }
