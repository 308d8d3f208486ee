-- Raising in flat clocks: the row of a second access is merged with the rows of the firsts of its edges.
-- Assumes nothing.
use Prim.Native.Nat.{ℕ, zero, suc, ◌+◌, ◌*◌, ◌-◌, ◌≤◌, ◌<◌, max}
use mathlib.Core.Path.{◌≡◌, refl, sym, ap, ◌∙◌, subst}
use mathlib.Core.Logic.{◌≢◌, ◌⊎◌, inl, inr}
use mathlib.Core.Bool.{Bool}
use mathlib.Core.List.{List, [], ◌∷◌, ◌++◌}
use native.Mathlib.Omega.{arith}
use lib.ListN.{length, get_or}
use Rattle.records.specs.declared.Record.{Record}
use Rattle.records.specs.Records.{at}
use Rattle.trace.specs.Reading.{Acceptable}
use Rattle.ranks.specs.Ranks.{ranks_of}
use Rattle.slices.proofs.Tests.{decide_eq}
use Rattle.order.specs.Links.{leq}
use Rattle.order.specs.Chains.{used}
use Rattle.order.specs.Clocks.{chain_of, largest, flat}
use Rattle.order.specs.HappensBefore.{trace_links}
use Rattle.order.proofs.ChainLaws.{used-mono}
use Rattle.order.proofs.CoverRows.{race-earlier}
use Rattle.order.proofs.FlatLaws.{merge_into, into-own, into-other, merged-row}
use Rattle.order.proofs.RankLaws.{ranks_are}
use Rattle.races.specs.Traces.{setting_of}
use Rattle.races.specs.Lists.{shape_of, mark_of}
use Rattle.races.specs.loops.Marking.{first}
use Rattle.races.specs.loops.Raising.{row_in, raise_by, raise_down}
use Rattle.races.proofs.Instance.{laws}
use Rattle.races.proofs.CoverNumbers.{events, name_of, number, numbered, in_order, number-name}
use Rattle.races.proofs.RaisedRows.{final, final-short, name-of}
use Rattle.races.proofs.EntryOrder.{first_at, second_of_entry, at-passes, list-race}
use Rattle.races.proofs.OpenFirsts.{Second, Taken, Reads, reads_none, reads_more, taken_none, taken-open, taken-covered, taken-stop}
use Rattle.races.proofs.MarkedList.{mark-covered, mark-open, shape-reads, shape-writes}
use Rattle.races.proofs.RaiseLaws.{raise-open, raise-covered, raise-none, down-reads, down-writes}

-- what the entries from k on, before e, have in the list
pub record Shows (tr : List Record) (short : Bool) (list : List ℕ) (k e : ℕ) : Type 0 where
  pub firsts : (i : ℕ) → k ≤ i → i < e → first list i ≡ first_at tr short i + 1
  pub shapes : (i : ℕ) → k ≤ i → i < e → get_or list (5 * i + 3) 0 ≡ shape_of tr (first_at tr short i) (second_of_entry tr short i)
  pub marks : (i : ℕ) → k ≤ i → i < e → get_or list (5 * i + 4) 0 ≡ mark_of tr (first_at tr short i) (second_of_entry tr short i)

module _ (tr : List Record) (short : Bool) (w m : ℕ) (rest : List ℕ) (b k e u : ℕ) (base : ℕ → ℕ) (rows : ℕ → ℕ → ℕ) where
  -- row u is its base merged with the rows of what is taken, and the others stay
  pub record Climbed (clocks : List ℕ) : Type 0 where
    pub raised : ℕ → ℕ → ℕ
    pub vs : List ℕ
    pub clocks_are : clocks ≡ flat w m raised ++ rest
    pub others : (v c : ℕ) → v ≢ u → raised v c ≡ rows v c
    pub own : (c : ℕ) → raised u c ≡ max (base c) (largest vs (λ v. final tr v c))
    pub taken : Taken tr short b k e vs

module _ {tr : List Record} (a : Acceptable tr) (short : Bool) (ranks : List ℕ) (are : ranks ≡ ranks_of tr) (w chains m : ℕ) (rest : List ℕ) (narrow : w ≤ 1024) (many : m ≡ events tr) (list : List ℕ) {b k e : ℕ} (g : Second tr short b k e) (shows : Shows tr short list k e) (u : ℕ) (inside : u < events tr) (low : b < length tr) (row_is : number tr b ≡ u) (enough : used (leq (trace_links tr)) (suc u) ≤ chains) where
  -- the row of an entry's first access
  record Earlier (j : ℕ) : Type 0 where
    row : row_in tr ranks (first list j - 1) ≡ number tr (first_at tr short j)
    before : number tr (first_at tr short j) < u

  earlier : (j : ℕ) → k ≤ j → j < e → Earlier j
  earlier j l h = record { row = row; before = before }
    where
      row : row_in tr ranks (first list j - 1) ≡ number tr (first_at tr short j)
      row =
          let x : first list j - 1 ≡ first_at tr short j = omega (arith, shows.firsts j l h) in
          rw (x, are, ranks_are a (at tr (first_at tr short j)).first) refl

      before : number tr (first_at tr short j) < u
      before =
          let r = list-race tr short (first_at tr short j) (second_of_entry tr short j) (at-passes tr short j (omega (arith, g.high))) in
          let s = g.same j l h in
          let (p, q) = number-name a (first_at tr short j) (omega (arith, r.first, r.inside)) in
          race-earlier (setting_of tr) (laws a) (events tr) (name_of tr) (chain_of (trace_links tr)) (numbered a) (in_order a) (first_at tr short j) (second_of_entry tr short j) (number tr (first_at tr short j)) u r p inside q (name-of a (second_of_entry tr short j) u r.inside (ap (number tr) s ∙ row_is))

  module _ (base : ℕ → ℕ) (rows₀ : ℕ → ℕ → ℕ) (done : (v c : ℕ) → v < u → rows₀ v c ≡ final tr v c) where
    -- from entry j on, before e, all is merged
    record Climbing (j : ℕ) (rows : ℕ → ℕ → ℕ) (vs : List ℕ) : Type 0 where
      others : (v c : ℕ) → v ≢ u → rows v c ≡ rows₀ v c
      own : (c : ℕ) → rows u c ≡ max (base c) (largest vs (λ v. final tr v c))
      taken : Taken tr short b j e vs

    climb-end : {rows : ℕ → ℕ → ℕ} {vs : List ℕ} → Climbing k rows vs → Climbed tr short w m rest b k e u base rows₀ (flat w m rows ++ rest)
    climb-end {rows} {vs} s = record { raised = rows; vs = vs; clocks_are = refl; others = s.others; own = s.own; taken = s.taken }

    -- entry j
    record Step (j : ℕ) (rows : ℕ → ℕ → ℕ) : Type 0 where
      next : ℕ → ℕ → ℕ
      more : List ℕ
      is : flat w m next ++ rest ≡ raise_by tr ranks w chains u list j (flat w m rows ++ rest)
      climbing : Climbing j next more

    step : (j : ℕ) {rows : ℕ → ℕ → ℕ} {vs : List ℕ} → k ≤ j → j < e → Reads tr short (suc j) e → Climbing (suc j) rows vs → Step j rows
    unfolding largest
    step j {rows} {vs} l h r s = go (decide_eq (get_or list (5 * j + 4) 0) 1)
      where
        t : ℕ
        t = number tr (first_at tr short j)

        before : number tr (first_at tr short j) < u
        before = (earlier j l h).before

        mark : get_or list (5 * j + 4) 0 ≡ mark_of tr (first_at tr short j) b
        mark = shows.marks j l h ∙ ap (mark_of tr (first_at tr short j)) (g.same j l h)

        final-row : (c : ℕ) → rows (number tr (first_at tr short j)) c ≡ final tr (number tr (first_at tr short j)) c
        final-row c = s.others (number tr (first_at tr short j)) c (omega (arith, before)) ∙ done (number tr (first_at tr short j)) c before

        go : (get_or list (5 * j + 4) 0 ≡ 1) ⊎ (get_or list (5 * j + 4) 0 ≢ 1) → Step j rows
        go (inl o) = record {
          next = merge_into rows (number tr (first_at tr short j)) u;
          more = number tr (first_at tr short j) ∷ vs;
          is = sym (merged-row w m rest rows chains (number tr (first_at tr short j)) u narrow before (omega arith) (λ c x y. final-row c ∙ final-short tr (number tr (first_at tr short j)) c chains (omega (arith, before, used-mono (leq (trace_links tr)) (suc (number tr (first_at tr short j))) (suc u) (omega (arith, before)))) y)) ∙ raise-open tr ranks w chains u list j (flat w m rows ++ rest) o (number tr (first_at tr short j)) (sym (earlier j l h).row);
          climbing = record {
            others = λ v c n. into-other rows (number tr (first_at tr short j)) u v c n ∙ s.others v c n;
            own = λ c. into-own rows (number tr (first_at tr short j)) u c ∙ omega (arith, s.own c, final-row c);
            taken = taken-open tr short g l h r s.taken (mark-open tr (first_at tr short j) b (sym mark ∙ o));
          };
        }
        go (inr n) = record {
          next = rows;
          more = vs;
          is = raise-covered tr ranks w chains u list j (flat w m rows ++ rest) n;
          climbing = record { others = s.others; own = s.own; taken = taken-covered tr short g l h s.taken (mark-covered tr (first_at tr short j) b (λ z. n (mark ∙ z))) };
        }

    climb : (d : ℕ) (rows : ℕ → ℕ → ℕ) (vs : List ℕ) → k + d ≤ e → Reads tr short (k + d) e → Climbing (k + d) rows vs → Climbed tr short w m rest b k e u base rows₀ (raise_down tr ranks w chains u list k d (flat w m rows ++ rest))
    climb zero rows vs h r s = let z : k + 0 ≡ k = omega arith in rw (raise-none tr ranks w chains u list k (flat w m rows ++ rest)) (climb-end (subst (λ (x : ℕ). Climbing x rows vs) z s))
    climb (suc d) rows vs h r s = go (decide_eq (get_or list (5 * (k + d) + 3) 0) 3) (climb d)
      where
        eq : k + suc d ≡ suc (k + d)
        eq = omega arith

        one : Step (k + d) rows
        one = step (k + d) (omega arith) (omega arith) (subst (λ (x : ℕ). Reads tr short x e) eq r) (subst (λ (x : ℕ). Climbing x rows vs) eq s)

        shape : get_or list (5 * (k + d) + 3) 0 ≡ shape_of tr (first_at tr short (k + d)) (second_of_entry tr short (k + d))
        shape = shows.shapes (k + d) (omega arith) (omega arith)

        go : (get_or list (5 * (k + d) + 3) 0 ≡ 3) ⊎ (get_or list (5 * (k + d) + 3) 0 ≢ 3) → ((rows : ℕ → ℕ → ℕ) (vs : List ℕ) → k + d ≤ e → Reads tr short (k + d) e → Climbing (k + d) rows vs → Climbed tr short w m rest b k e u base rows₀ (raise_down tr ranks w chains u list k d (flat w m rows ++ rest))) → Climbed tr short w m rest b k e u base rows₀ (raise_down tr ranks w chains u list k (suc d) (flat w m rows ++ rest))
        go (inl q) f =
            rw (down-reads tr ranks w chains u list k d (flat w m rows ++ rest) (flat w m one.next ++ rest) one.is q) (f one.next one.more (omega arith) (reads_more tr short (subst (λ (x : ℕ). Reads tr short x e) eq r) (shape-reads tr (first_at tr short (k + d)) (second_of_entry tr short (k + d)) (sym shape ∙ q))) one.climbing)
        go (inr n) f =
            rw (down-writes tr ranks w chains u list k d (flat w m rows ++ rest) (flat w m one.next ++ rest) one.is n) (climb-end (record {
              others = one.climbing.others;
              own = one.climbing.own;
              taken = taken-stop tr short g (omega arith) (omega arith) one.climbing.taken (shape-writes tr (first_at tr short (k + d)) (second_of_entry tr short (k + d)) (λ z. n (shape ∙ z)));
            }))

  -- All of it: the row is merged with those of the firsts of b's edges.
  pub climbed : (rows : ℕ → ℕ → ℕ) → ((v c : ℕ) → v < u → rows v c ≡ final tr v c) → Climbed tr short w m rest b k e u (rows u) rows (raise_down tr ranks w chains u list k (e - k) (flat w m rows ++ rest))
  unfolding largest
  climbed rows done =
      let z : k + (e - k) ≡ e = omega (arith, g.some_of) in
      climb (rows u) rows done (e - k) rows [] (omega arith) (rw z (reads_none tr short e)) (record { others = λ v c n. refl; own = λ c. omega arith; taken = rw z (taken_none tr short b e) })
