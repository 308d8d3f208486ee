-- The third demand holds of both lists.
-- Assumes nothing.
use Prim.Native.Nat.{ℕ, ◌*◌, ◌/◌}
use mathlib.Core.Path.{◌≡◌, refl, sym, ap, ◌∙◌, subst}
use mathlib.Core.Bool.{Bool, true, false}
use mathlib.Core.List.{List, ◌++◌}
use mathlib.Core.Logic.{◌↔◌}
use native.Mathlib.Omega.{arith}
use borrow.Author.Tests.{le-leb, leb-true, eq-eqb, eqb-true}
use lib.Dec.{eqb, leb}
use lib.ListN.{length, drop}
use Rattle.records.specs.declared.Record.{Record}
use Rattle.records.specs.Records.{at}
use Rattle.records.specs.declared.Trace.{Trace}
use Rattle.trace.specs.Reply.{Reply, refused, gives, demand, unless}
use Rattle.trace.specs.Reading.{Acceptable, records_in, read_reply, Accepts}
use Rattle.trace.proofs.Accepted.{accepts, records-read}
use Rattle.trace.proofs.ReplyLaws.{not-both, same-given, passed}
use Rattle.clocks.specs.Rows.{space_for}
use Rattle.order.specs.Links.{leq}
use Rattle.order.specs.HappensBefore.{trace_links}
use Rattle.order.specs.Fill.{events_in, row_past_width, chains_used}
use Rattle.order.proofs.ChainLaws.{needs-none}
use Rattle.order.proofs.SpaceLaws.{has_room}
use Rattle.order.specs.Lent.{work_for}
use Rattle.order.proofs.LentLaws.{fits, fitted, filling, filled}
use Rattle.order.proofs.FilledTrace.{events-of}
use Rattle.coverage.specs.Below as below
use Rattle.coverage.specs.Race.{Race}
use Rattle.coverage.specs.Cover.{Open}
use Rattle.coverage.specs.Leading.{coveredb, entries}
use Rattle.coverage.specs.Demand.{OpenExactly}
use Rattle.coverage.proofs.Theorems.{in_all, open_exactly, open-cells}
use Rattle.std.proofs.Common.{Result, Ok, Err}
use Rattle.trace.specs.declared.Refusal.{Refusal}
use Rattle.races.specs.declared.Summary.{Summary}
use Rattle.races.specs.Traces.{cells_of, setting_of}
use Rattle.races.specs.Lists.{pairs_of, mark_of, numbers, list_filled, list_ready, list_reply, list_after}
use Rattle.races.specs.Paper.{list_paper, Lists}
use Rattle.races.specs.Demand.{Calls, Names, Suffices, ListSuffices, OpenBy, ListDemand, ListAnswers, ListsSuffice, ListsDemand}
use Rattle.races.proofs.Instance.{laws}
use Rattle.races.proofs.DemandLaws.{calls-of, calls-listed, names_of, names-listed, mark-open, open-marked}

-- where width and spaces suffice, the tests of 21, 22, 23 and 24 pass
module _ {tr : List Record} {width clocks work needed entries : ℕ} (s : Suffices tr width clocks work entries needed) where
  pub passes-21 : space_for width (events_in tr) clocks ≡ true
  unfolding space_for
  passes-21 = rw (le-leb 1 width s.some_width, le-leb width 1024 s.narrow, le-leb (events_in tr * width) clocks s.clock-space) refl

  pub passes-22 : leb (events_in tr) work ≡ true
  passes-22 = le-leb (events_in tr) work s.work-space

  pub passes-23 : eqb (row_past_width tr width) (events_in tr) ≡ true
  unfolding row_past_width chains_used
  passes-23 = eq-eqb (row_past_width tr width) (events_in tr) ((needs-none (leq (trace_links tr)) width (events_in tr)).1 s.enough-chains)

  pub passes-24 : leb needed entries ≡ true
  passes-24 = le-leb needed entries s.list-space

-- so a list is made
pub made : (bytes : List ℕ) (t : Trace) → Accepts bytes t → (width clocks work list : ℕ) (short : Bool) → ListSuffices (records_in bytes t) short width clocks work list
    → list_reply short bytes width clocks work list
    ≡ gives (record { events = t.events; records = length (records_in bytes t); chains = chains_used (records_in bytes t); count = length (pairs_of (records_in bytes t) short) })
unfolding list_reply list_ready list_filled demand
made bytes t e width clocks work list short s =
    let m = sym (events-of bytes t e) in
    let ready = fitted (read_reply bytes) width clocks (work_for work) t (record { found-is = e; has-space = rw m at (passes-21 s); has_work = rw m at (passes-22 s) }) in
    filled bytes _ width _ t ready (rw m at (passes-23 s)) ∙ rw (passes-24 s) refl

-- a call that no test refuses passes them all
pub suffices : (tr : List Record) (width clocks work entries needed : ℕ) → space_for width (events_in tr) clocks ≡ true → leb (events_in tr) work ≡ true
    → eqb (row_past_width tr width) (events_in tr) ≡ true → leb needed entries ≡ true → Suffices tr width clocks work entries needed
unfolding row_past_width chains_used
suffices tr width clocks work entries needed p q r s =
    let h = has_room width (events_in tr) clocks p in
    record {
      some_width = h.some;
      narrow = h.narrow;
      clock-space = h.fits;
      work-space = leb-true (events_in tr) work q;
      enough-chains = (needs-none (leq (trace_links tr)) width (events_in tr)).0 (eqb-true _ _ r);
      list-space = leb-true needed entries s;
    }

module _ (bytes : List ℕ) (t : Trace) (e : Accepts bytes t) (width clocks work list : ℕ) where
  list-exactly : (short : Bool) → ListSuffices (records_in bytes t) short width clocks work list ↔ ((n p : ℕ) → list_reply short bytes width clocks work list ≡ refused n p → ⊥)
  unfolding list_reply list_ready list_filled
  list-exactly short = (λ s n p q. not-both _ n p (sym (made bytes t e width clocks work list short s) ∙ q), λ f. back f _ refl)
    where
      back : ((n p : ℕ) → list_reply short bytes width clocks work list ≡ refused n p → ⊥) → (x : Reply Summary) → x ≡ list_reply short bytes width clocks work list
          → ListSuffices (records_in bytes t) short width clocks work list
      back f (refused n p) q = absurd (f n p (sym q))
      back f (gives x) q =
          let g = filling bytes _ width _ x q in
          let h = fits (read_reply bytes) width clocks (work_for work) g.trace g.ready_is in
          let z : g.trace ≡ t = same-given (h.found-is ∙ sym e) in
          let m : t.events ≡ events_in (records_in bytes t) = events-of bytes t e in
          suffices (records_in bytes t) width clocks work (list / 5) (length (pairs_of (records_in bytes t) short))
          (rw (← m) (rw z at h.has-space)) (rw (← m) (rw z at h.has_work)) (rw (← m) (rw z at g.enough)) (rw z at (passed _ _ _ _ x g.answers).0)

pub lists-suffice : ListsSuffice
lists-suffice = record { lists = λ bytes t e short width clocks work list. list-exactly bytes t e width clocks work list short }

module _ {tr : List Record} (a : Acceptable tr) where
  pub exactly : (x b : ℕ) → Race (setting_of tr) x b → OpenExactly (setting_of tr) x b
  exactly x b r = open_exactly (setting_of tr) (laws a) x b r

  -- what says that the mark is open says what the demand asks
  pub open_by : (x b : ℕ) → Race (setting_of tr) x b → (calls : Type 0) → calls ↔ (coveredb (setting_of tr) x b ≡ false) → OpenBy tr x b calls
  open_by x b r calls s =
      let o = exactly x b r in
      record {
        arranged = (λ c. o.arranged.0 (s.0 c), λ y. s.1 (o.arranged.1 y));
        uncovered = (λ c. o.uncovered.0 (s.0 c), λ y. s.1 (o.uncovered.1 y));
      }

  all_listed : (x b : ℕ) → Race (setting_of tr) x b → below.Listed x b (pairs_of tr false)
  unfolding pairs_of
  all_listed x b r = (in_all (setting_of tr) x b).1 r

  short-cells : (c : ℕ) → ((x b : ℕ) × below.Listed x b (pairs_of tr true) × ((at tr b).second ≡ c) × (coveredb (setting_of tr) x b ≡ false))
      ↔ ((x b : ℕ) × Race (setting_of tr) x b × ((at tr b).second ≡ c) × Open (setting_of tr) x b)
  unfolding pairs_of
  short-cells = open-cells (setting_of tr) (laws a) (cells_of tr) (λ x b. refl)

  -- the entries of a list as numbers, before some others
  abbrev listed_in : Bool → List ℕ → List ℕ
  listed_in short rest = numbers tr (pairs_of tr short) ++ rest

  abbrev CallsIn : Bool → List ℕ → ℕ → ℕ → ℕ → Type 0
  CallsIn short rest = Calls (listed_in short rest) (length (pairs_of tr short))

  abbrev NamesIn : Bool → List ℕ → ℕ → Type 0
  NamesIn short rest = Names (listed_in short rest) (length (pairs_of tr short))

  pub list-demand : (short : Bool) (rest : List ℕ) → ListDemand tr short (CallsIn short rest) (NamesIn short rest)
  list-demand short rest = record {
    marks = λ x b mark r c. open_by x b r _ (marked x b mark c);
    whole = λ e x b r. (mark_of tr x b, calls-of tr ps rest x b (subst (λ s. below.Listed x b (pairs_of tr s)) (sym e) (all_listed x b r)));
    cells = λ e c. cell short e c;
  }
    where
      ps : List (ℕ × ℕ)
      ps = pairs_of tr short

      marked : (x b mark : ℕ) → CallsIn short rest x b mark → CallsIn short rest x b 1 ↔ (coveredb (setting_of tr) x b ≡ false)
      marked x b mark c = (
        λ d. open-marked tr x b (sym (calls-listed tr ps rest x b 1 d).1),
        λ e. subst (CallsIn short rest x b) (mark-open tr x b e) (calls-of tr ps rest x b (calls-listed tr ps rest x b mark c).0),
      )

      cell : (s : Bool) → s ≡ true → (c : ℕ) → NamesIn s rest c ↔ ((x b : ℕ) × Race (setting_of tr) x b × ((at tr b).second ≡ c) × Open (setting_of tr) x b)
      cell false e c = let z : ◌≡◌ {A = ℕ} 0 1 = cc in absurd (omega arith)
      cell true e c = (
        λ n. let l = names-listed tr (pairs_of tr true) rest c n in (short-cells c).0 (l.0, l.1, l.2, l.3, open-marked tr l.0 l.1 l.4),
        λ r.
            let l = (short-cells c).1 r in
            subst (NamesIn true rest) l.3 (names_of tr (pairs_of tr true) rest l.0 l.1 l.2 (mark-open tr l.0 l.1 l.4)),
      )

-- what is asked of a list, by other words for the same calls
pub alike : {tr : List Record} {short : Bool} {calls calls' : ℕ → ℕ → ℕ → Type 0} {names names' : ℕ → Type 0}
    → ((x b mark : ℕ) → calls x b mark ↔ calls' x b mark) → ((c : ℕ) → names c ↔ names' c) → ListDemand tr short calls names → ListDemand tr short calls' names'
alike f g d = record {
  marks = λ x b mark r c.
      let o = d.marks x b mark r ((f x b mark).1 c) in
      record {
        arranged = (λ y. o.arranged.0 ((f x b 1).1 y), λ y. (f x b 1).0 (o.arranged.1 y));
        uncovered = (λ y. o.uncovered.0 ((f x b 1).1 y), λ y. (f x b 1).0 (o.uncovered.1 y));
      };
  whole = λ e x b r. let w = d.whole e x b r in (w.0, (f x b w.0).0 w.1);
  cells = λ e c. (λ y. (d.cells e c).0 ((g c).1 y), λ y. (g c).0 ((d.cells e c).1 y));
}

-- an answer that gives a list's numbers is that of a list made
pub made-answer : (r : Result Summary Refusal) (s : Summary) → list_paper r ≡ gives s → r ≡ Ok s
made-answer (Ok x) s q = ap Ok (same-given q)
made-answer (Err f) s q = absurd (not-both s _ _ (sym q))

module _ (bytes : List ℕ) (t : Trace) (e : Accepts bytes t) where
  abbrev tr : List Record
  tr = records_in bytes t

  pub acceptable : Acceptable tr
  acceptable = (accepts bytes t e).acceptable

  lists : (short : Bool) (width : ℕ) (clocks clocks' work work' list list' : List ℕ) (r : Result Summary Refusal)
      → ListSuffices tr short width (length clocks) (length work) (length list)
      → Lists short bytes width clocks clocks' work work' list list' r → ListAnswers tr short (Calls list') (Names list') r
  unfolding list_after unless
  lists short width clocks clocks' work work' list list' r s p =
      let q = made bytes t e width (length clocks) (length work) (length list) short s in
      let v = made-answer r _ (p.answer ∙ q) in
      record {
        summary = _;
        is_made = v;
        counted = refl;
        demand = rw (rw (q, records-read bytes t e) at p.list-after) (list-demand acceptable short (drop (5 * length (pairs_of tr short)) list));
      }

pub lists-demand : ListsDemand
lists-demand = record { lists = lists }
