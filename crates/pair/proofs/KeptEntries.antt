-- The entries of an open pair, written at the ends of the event actions before b, and at b. Assumes nothing.
use Prim.Native.Nat.{ℕ, suc, ◌+◌, ◌*◌, ◌≤◌, ◌<◌}
use mathlib.Core.Path.{◌≡◌, refl, sym, ap, ◌∙◌, subst}
use mathlib.Core.Logic.{◌≢◌, ◌⊎◌, inl, inr}
use mathlib.Core.Bool.{Bool, true, false, ◌&&◌}
use mathlib.Core.List.{List}
use native.Mathlib.Omega.{arith}
use native.Mathlib.Numerals.{add-one}
use borrow.Author.Tests.{eq-eqb, ne_eqb}
use lib.Dec.{T}
use lib.ListN.{length, get_or, set}
use Rattle.records.specs.declared.Record.{Record}
use Rattle.records.specs.Records.{at, event_of}
use Rattle.coverage.specs.Leading.{leads, last_kept, entries}
use Rattle.slices.proofs.Tests.{decide_eq, passed}
use Rattle.coverage.proofs.Leads.{leads-self}
use Rattle.races.specs.Traces.{setting_of}
use Rattle.pair.specs.loops.Leading.{mark, Marks}
use Rattle.races.specs.loops.FilledClocks.{rows}
use Rattle.pair.specs.loops.Kept.{row_of}
use Rattle.pair.specs.Pair.{with_entries, kept_entries}
use Rattle.pair.specs.loops.PairSearch.{kept_below, PutsEnd}
use Rattle.races.proofs.Instance.{laws}
use Rattle.pair.proofs.RecordRows.{row_low, row_first, row-goes-on, row_ends, goes_on, ends_there}
use Rattle.pair.proofs.RowMarks.{marks-tell, marks-room}
use Rattle.pair.proofs.PairEntries.{no-entries, entries-room, kept-none, kept-few, kept-room, kept-all, kept-count, kept-stays, kept-grows}

module _ {tr : List Record} {ranks work : List ℕ} {b : ℕ} (m : Marks tr ranks work b) where
  abbrev ev : ℕ → ℕ
  ev i = event_of (at tr i)

  abbrev last : ℕ → Bool
  last i = last_kept (setting_of tr) b i

  -- the last record kept of an event action is its end, or b
  last_end : (i : ℕ) → i < b → (at tr i).kind ≡ 2 → last i ≡ leads (setting_of tr) b (ev i)
  unfolding last_kept
  last_end i l k = rw (ne_eqb i b (λ e. omega arith), ne_eqb (ev (suc i)) (ev i) (ends_there m.acceptable i (omega (arith, m.inside)) k)) (and-true (leads (setting_of tr) b (ev i)))
    where
      and-true : (x : Bool) → (x && true) ≡ x
      and-true true = refl
      and-true false = refl

  last-other : (i : ℕ) → i < b → (at tr i).kind ≢ 2 → last i ≡ false
  unfolding last_kept
  last-other i l n = rw (ne_eqb i b (λ e. omega arith), eq-eqb (ev (suc i)) (ev i) (goes_on m.acceptable i (omega (arith, m.inside)) n)) (and-false (leads (setting_of tr) b (ev i)))
    where
      and-false : (x : Bool) → (x && false) ≡ false
      and-false true = refl
      and-false false = refl

  last-b : last b ≡ true
  unfolding last_kept
  last-b = rw (eq-eqb b b refl, passed (leads (setting_of tr) b (ev b)) (leads-self (setting_of tr) (laws m.acceptable) b)) refl

  -- The entries of the records before i are written; t is the row of record i.
  pub record Ends (entry : List ℕ) (i t k : ℕ) (list : List ℕ) : Type 0 where
    pub low : i ≤ b
    pub row_is : t ≡ row_of tr i
    pub count-is : k ≡ length (kept_below tr b i)
    pub list_is : list ≡ with_entries (kept_below tr b i) entry

  module _ {entry : List ℕ} (room : 2 * rows tr ≤ length entry) where
    pub ends-start : Ends entry 0 0 0 entry
    ends-start = record {
      low = omega arith;
      row_is = sym (row_first m.acceptable (omega (arith, m.inside)));
      count-is = rw (kept-none tr b) refl;
      list_is = rw (kept-none tr b) (no-entries entry);
    }

    module _ {i t k : ℕ} {list : List ℕ} (e : Ends entry i t k list) where
      pub ends-long : length list ≡ length entry
      ends-long = ap length e.list_is ∙ entries-room (kept_below tr b i) entry (omega (arith, e.low, kept-few m.acceptable b m.inside i (omega (arith, e.low))))

      -- there is room for an entry where record i is the last one kept
      room_for : T (last i) → 2 * k + 1 < length list
      room_for h = omega (arith, e.count-is, ends-long, kept-room m.acceptable b m.inside i e.low h)

      pub ends-row : t < length work
      ends-row = omega (arith, e.row_is, marks-room m, row_low m.acceptable i (omega (arith, e.low, m.inside)))

      mark-is : get_or work t 0 ≡ mark (leads (setting_of tr) b (ev i))
      mark-is = rw e.row_is (marks-tell m i (omega (arith, e.low, m.inside)))

      kept_if : (x : Bool) → get_or work t 0 ≡ mark x → get_or work t 0 ≡ 1 → x ≡ true
      kept_if true q z = refl
      kept_if false q z = absurd (omega arith)

      left-if : (x : Bool) → get_or work t 0 ≡ mark x → get_or work t 0 ≢ 1 → x ≡ false
      left-if true q n = absurd (n q)
      left-if false q n = refl

      pub ends-room : i < b → (at tr i).kind ≡ 2 → get_or work t 0 ≡ 1 → 2 * k + 1 < length list
      ends-room l q z = room_for (subst T (sym (last_end i l q ∙ kept_if (leads (setting_of tr) b (ev i)) mark-is z)) tt)

      -- one record more: an end, or another
      pub ends_next : i < b → (at tr i).kind ≡ 2 → {r : ℕ} {list' : List ℕ} → PutsEnd tr (get_or work t 0) i k list list' r → Ends entry (i + 1) (t + 1) r list'
      ends_next l q {r} {list'} p = record { low = omega arith; row_is = row; count-is = (go (decide_eq (get_or work t 0) 1)).0; list_is = (go (decide_eq (get_or work t 0) 1)).1 }
        where
          row : t + 1 ≡ row_of tr (i + 1)
          row = rw (add-one i, add-one t) (ap suc e.row_is ∙ sym (row_ends m.acceptable i (omega (arith, m.inside)) q))

          go : (get_or work t 0 ≡ 1) ⊎ (get_or work t 0 ≢ 1) → (r ≡ length (kept_below tr b (i + 1))) × (list' ≡ with_entries (kept_below tr b (i + 1)) entry)
          go (inl z) =
              let h = last_end i l q ∙ kept_if (leads (setting_of tr) b (ev i)) mark-is z in
              let (x, y) = p.put z in
              let g = kept-grows tr b i k list e.count-is h (ends-room l q z) (ev i) (i + 1) refl refl list' y in
              rw (add-one i) (x ∙ g.0, g.1 entry e.list_is)
          go (inr n) =
              let h = last_end i l q ∙ left-if (leads (setting_of tr) b (ev i)) mark-is n in
              let (x, y) = p.skipped n in
              let g = kept-stays tr b i k list e.count-is h in
              rw (add-one i) (x ∙ g.0, y ∙ g.1 entry e.list_is)

      pub ends-pass : i < b → (at tr i).kind ≢ 2 → Ends entry (i + 1) t k list
      ends-pass l n =
          let g = kept-stays tr b i k list e.count-is (last-other i l n) in
          rw (add-one i) (record { low = l; row_is = e.row_is ∙ sym (row-goes-on m.acceptable i (omega (arith, m.inside)) n); count-is = g.0; list_is = g.1 entry e.list_is })

      -- at b
      module _ (l : b ≤ i) where
        here : i ≡ b
        here = omega (arith, e.low)

        pub ends-last-room : 2 * k + 1 < length list
        ends-last-room = room_for (rw here (subst T (sym last-b) tt))

        pub ends_last : (x : ℕ) → x ≡ ev b → (list' : List ℕ) → list' ≡ set (set list (2 * k) x) (2 * k + 1) (b + 1) → (k + 1 ≡ length (entries (setting_of tr) b)) × (list' ≡ with_entries (kept_entries tr b) entry)
        ends_last x q list' y =
            let g = kept-grows tr b b k list (rw here at e.count-is) last-b ends-last-room x (b + 1) q refl list' y in
            (g.0 ∙ ap length (kept-all tr b) ∙ kept-count tr b, rw (kept-all tr b) at (g.1 entry (rw here at e.list_is)))
