-- The third demand holds.
-- Assumes nothing.
use Prim.Native.Nat.{ℕ, ◌+◌, ◌-◌, ◌/◌, ◌<◌}
use mathlib.Core.Path.{◌≡◌, refl, sym, ◌∙◌, subst}
use mathlib.Core.Bool.{Bool, true, false}
use mathlib.Core.List.{List}
use mathlib.Core.Logic.{inl, inr, ◌↔◌}
use native.Mathlib.Omega.{arith}
use borrow.Author.Tests.{le-leb}
use lib.ListN.{length}
use Rattle.records.specs.declared.Record.{Record}
use Rattle.records.specs.declared.Trace.{Trace}
use Rattle.trace.specs.Reply.{Reply, refused, gives, demand, then}
use Rattle.trace.specs.Reading.{Acceptable, records_in, Accepts}
use Rattle.trace.proofs.Accepted.{records-read}
use Rattle.trace.proofs.ReplyLaws.{not-both, same-given, passed}
use Rattle.order.specs.Fill.{events_in}
use Rattle.order.specs.Lent.{asking, work_for}
use Rattle.order.proofs.LentLaws.{asks, fits, fitted, filling, filled}
use Rattle.order.proofs.FilledTrace.{events-of}
use Rattle.coverage.specs.Race.{Race, raceb}
use Rattle.coverage.specs.Arrangement.{Accesses}
use Rattle.coverage.specs.Leading.{coveredb, entries}
use Rattle.slices.proofs.Tests as tests
use Rattle.coverage.proofs.Theorems.{race-iff}
use Rattle.races.specs.Traces.{setting_of}
use Rattle.races.proofs.ThirdDemand.{passes-21, passes-22, passes-23, passes-24, suffices, lists-suffice, exactly, open_by, acceptable, lists-demand}
use Rattle.std.proofs.Common.{Result, Ok, Err}
use Rattle.trace.specs.declared.Refusal.{Refusal}
use Rattle.pair.specs.declared.Verdict.{Verdict}
use Rattle.pair.specs.declared.Verdict.TheVariants as pair
use Rattle.pair.specs.Pair.{PairMark, pair_paper, entries_given, is_record, are_records, answered, pair_filled, pair_ready, pair_reply, ListAfter, GivesCover}
use Rattle.pair.specs.Pair.{PairPromise}
use Rattle.pair.specs.Demand.{PairSuffices, PairDemand, SufficesExactly, ThirdDemand}

is-record : (tr : List Record) (i : ℕ) → i < length tr → is_record tr (i + 1) ≡ true
unfolding is_record
is-record tr i h = simp (le-leb 1 (i + 1) (omega arith), le-leb (i + 1) (length tr) (omega arith))

module _ (bytes : List ℕ) (t : Trace) (e : Accepts bytes t) (width clocks work list : ℕ) where
  abbrev tr : List Record
  tr = records_in bytes t

  -- a pair that races is neither refused by 11 nor by 12
  pub answers-race : (a b : ℕ) → PairSuffices tr width clocks work list → Race (setting_of tr) a b
      → pair_reply bytes width clocks work list (a + 1) (b + 1) ≡ gives (answered (coveredb (setting_of tr) a b) (length (entries (setting_of tr) b)))
  unfolding pair_reply pair_ready pair_filled asking then demand are_records
  answers-race a b s r =
      let x : a + 1 - 1 ≡ a = omega arith in
      let y : b + 1 - 1 ≡ b = omega arith in
      let m = sym (events-of bytes t e) in
      let first = is-record tr a (omega (arith, r.first, r.inside)) in
      let races = tests.passed (raceb (setting_of tr) a b) ((race-iff (setting_of tr) a b).1 r) in
      let found : gives t ≡ asking bytes (λ t. are_records (records_in bytes t) (a + 1) (b + 1)) = rw (← e, first, is-record tr b r.inside) refl in
      let ready = fitted _ width clocks (work_for work) t (record { found-is = found; has-space = rw m at (passes-21 s); has_work = rw m at (passes-22 s) }) in
      filled bytes _ width _ t ready (rw m at (passes-23 s)) ∙ rw (x, y, races, rw m at (passes-24 s)) refl

  pair-exactly : (a b : ℕ) → Race (setting_of tr) a b
      → PairSuffices tr width clocks work list ↔ ((n p : ℕ) → pair_reply bytes width clocks work list (a + 1) (b + 1) ≡ refused n p → ⊥)
  unfolding pair_reply pair_ready pair_filled
  pair-exactly a b r = (λ s n p q. not-both _ n p (sym (answers-race a b s r) ∙ q), λ f. back f _ refl)
    where
      back : ((n p : ℕ) → pair_reply bytes width clocks work list (a + 1) (b + 1) ≡ refused n p → ⊥) → (x : Reply PairMark) → x ≡ pair_reply bytes width clocks work list (a + 1) (b + 1)
          → PairSuffices tr width clocks work list
      back f (refused n p) q = absurd (f n p (sym q))
      back f (gives x) q =
          let g = filling bytes _ width _ x q in
          let h = fits _ width clocks (work_for work) g.trace g.ready_is in
          let z : g.trace ≡ t = same-given ((asks bytes _ g.trace h.found-is).accepted ∙ sym e) in
          let m : t.events ≡ events_in tr = events-of bytes t e in
          let l = rw z at (passed _ _ _ _ x (passed _ _ _ _ x g.answers).1).0 in
          suffices tr width clocks work (list / 2) (events_in tr) (rw (← m) (rw z at h.has-space)) (rw (← m) (rw z at h.has_work)) (rw (← m) (rw z at g.enough)) (rw (← m) l)

pub suffices-exactly : SufficesExactly
suffices-exactly = record { lists = lists-suffice; pairs = λ bytes t e width clocks work list a b r. pair-exactly bytes t e width clocks work list a b r }

module _ {tr : List Record} (a : Acceptable tr) (x b : ℕ) (r : Race (setting_of tr) x b) (list list' : List ℕ) where
  -- by the mark
  by-mark : (v : Result Verdict Refusal) (t : Bool) → coveredb (setting_of tr) x b ≡ t → pair_paper v ≡ gives (answered t (length (entries (setting_of tr) b)))
      → ListAfter tr x b (gives (answered t (length (entries (setting_of tr) b)))) (entries_given v) list list' → PairDemand tr x b list list' v
  unfolding answered
  by-mark (Err f) true e q l = let z : ◌≡◌ {A = ℕ} 0 1 = cc in absurd (omega arith)
  by-mark (Err f) false e q l = let z : ◌≡◌ {A = ℕ} 0 1 = cc in absurd (omega arith)
  by-mark (Ok (pair.Open k)) true e q l = let z : ◌≡◌ {A = ℕ} 0 1 = cc in absurd (omega arith)
  by-mark (Ok (pair.Covered k)) false e q l = let z : ◌≡◌ {A = ℕ} 0 1 = cc in absurd (omega arith)
  by-mark (Ok (pair.Open k)) false e q l =
      let o = exactly a x b r in
      record {
        is_answered = inl (k, refl);
        open_exactly = open_by a x b r _ (λ y. e, λ y. (k, refl));
        arrangement = λ i y. (l, subst (Accesses (setting_of tr) x b) (sym o.spelled) (o.given e));
        cover = λ i y. let z : ◌≡◌ {A = ℕ} 0 1 = cc in absurd (omega arith);
      }
  by-mark (Ok (pair.Covered k)) true e q l = record {
    is_answered = inr (k, refl);
    open_exactly = open_by a x b r _ (λ y. wrong y.0 y.1, λ y. let z : true ≡ false = sym e ∙ y in let o : ◌≡◌ {A = ℕ} 0 1 = cc in absurd (omega arith));
    arrangement = λ i y. wrong i y;
    cover = λ i y. let z : k ≡ i = cc in subst (λ (j : ℕ). GivesCover tr x b j list list') z l;
  }
    where
      wrong : {A : Type 0} (i : ℕ) → ◌≡◌ {A = Result Verdict Refusal} (Ok (pair.Covered k)) (Ok (pair.Open i)) → A
      wrong i y = let z : ◌≡◌ {A = ℕ} 0 1 = cc in absurd (omega arith)

module _ (bytes : List ℕ) (t : Trace) (e : Accepts bytes t) where
  pairs : (width : ℕ) (clocks clocks' work work' list list' : List ℕ) (a b : ℕ) (r : Result Verdict Refusal)
      → PairSuffices (records_in bytes t) width (length clocks) (length work) (length list) → Race (setting_of (records_in bytes t)) a b
      → PairPromise bytes width clocks clocks' work work' list list' (a + 1) (b + 1) r → PairDemand (records_in bytes t) a b list list' r
  pairs width clocks clocks' work work' list list' a b r s race p =
      let q = answers-race bytes t e width (length clocks) (length work) (length list) a b s race in
      let x : a + 1 - 1 ≡ a = omega arith in
      let y : b + 1 - 1 ≡ b = omega arith in
      by-mark (acceptable bytes t e) a b race list list' r (coveredb (setting_of (records_in bytes t)) a b) refl (p.answer ∙ q) (rw (q, records-read bytes t e, x, y) at p.list-after)

pub third-demand : ThirdDemand
third-demand = record { lists = lists-demand; pairs = pairs }
