-- The slim trace: what is dropped has a kept twin, the order is the trace's, and nothing more can be dropped. Assumes nothing.
use Prim.Native.Nat.{ℕ, zero, suc, ◌≤◌, ◌<◌}
use mathlib.Core.Path.{◌≡◌, refl, sym, ap, ◌∙◌, subst}
use mathlib.Core.Logic.{◌≢◌, ◌⊎◌, inl, inr}
use mathlib.Core.Bool.{true, ◌&&◌, ◌||◌}
use mathlib.Core.List.{List, [], ◌∷◌, map, map-append}
use native.Mathlib.Omega.{arith}
use lib.Dec.{T, eqb, eqb→eq}
use lib.ListN.{length, take}
use lib.Seq.{take-suc, take-length}
use Rattle.records.specs.declared.Record.{Record}
use Rattle.records.specs.Records.{no_record, at, is_write, is_begin, is_join, event_of}
use Rattle.records.specs.Kinds.{starts, same_link}
use Rattle.trace.specs.Reading.{Acceptable}
use Rattle.records.specs.Encoding.{trace_of}
use Rattle.trace.proofs.Accepted.{accepts}
use Rattle.trace.proofs.Encoded.{read-encoded, records-encoded}
use Rattle.order.specs.Fill.{events_in, trace_clocks}
use Rattle.precedence.specs.Before.{RecordBefore, across, within, starts_it, joins_it, behind_it}
use Rattle.precedence.proofs.Rows.{link-first, link-second}
use Rattle.order.specs.HappensBefore.{Begins, Link, HappensBefore, trace_links, happens_before}
use Rattle.order.specs.Rank.{rank}
use Rattle.order.proofs.TraceOrder.{decides}
use Rattle.coverage.specs.Below.{some, upto}
use Rattle.coverage.specs.Embedding.{Twin, Thinning}
use Rattle.slices.proofs.Tests.{both, and, decide, decide_eq, eq→eqb, passed}
use Rattle.coverage.proofs.Below.{found, find}
use Rattle.coverage.proofs.Indexed.{size, item-passes, item-at, item-rises, not-no, no-not}
use Rattle.coverage.proofs.Lists.{upto-ext, upto-empty}
use Rattle.coverage.proofs.Embedded.{same-cells, same-combinations}
use Rattle.races.specs.Traces.{is_access, cells_of, setting_of}
use Rattle.races.proofs.Instance.{laws, access-kind}
use Rattle.compactor.specs.SlimTrace.{repeats, dropped, kept, slim_of, old, dropped_in}
use Rattle.compactor.specs.Same.{IsTrace, SameOrder, SameRaces, NothingMore, SlimmerJobFiles}
use Rattle.compactor.proofs.Thinned.{thin-length, thin_at, thin-rank, thin-begins}
use Rattle.compactor.proofs.ThinLinks.{no_start, thin-acceptable, thin-links}

module _ (tr : List Record) where
  -- record i is dropped for an earlier record j
  pub record Repeat (i j : ℕ) : Type 0 where
    pub earlier : j < i
    pub access : T (is_access (at tr i))
    pub same_kind : (at tr j).kind ≡ (at tr i).kind
    pub same_event : event_of (at tr j) ≡ event_of (at tr i)
    pub same_cell : (at tr j).second ≡ (at tr i).second

  pub not-kept : (i : ℕ) → (T (kept tr i) → ⊥) → T (dropped tr i)
  not-kept i h = go (decide (dropped tr i))
    where
      go : T (dropped tr i) ⊎ (T (dropped tr i) → ⊥) → T (dropped tr i)
      go (inl d) = d
      go (inr d) = absurd (h (not-no (dropped tr i) d))

  pub repeat-of : (i : ℕ) → T (dropped tr i) → (j : ℕ) × Repeat i j
  unfolding dropped repeats
  repeat-of i h =
      let (a, s) = both (is_access (at tr i)) (some i (repeats tr i)) h in
      let (j, l, q) = found i (repeats tr i) s in
      let (k, r) = both (eqb (at tr j).kind (at tr i).kind) (eqb (event_of (at tr j)) (event_of (at tr i)) && eqb (at tr j).second (at tr i).second) q in
      let (e, c) = both (eqb (event_of (at tr j)) (event_of (at tr i))) (eqb (at tr j).second (at tr i).second) r in
      (j, record { earlier = l; access = a; same_kind = eqb→eq _ _ k; same_event = eqb→eq _ _ e; same_cell = eqb→eq _ _ c })

  pub of-repeat : (i j : ℕ) → Repeat i j → T (dropped tr i)
  unfolding dropped repeats
  of-repeat i j r =
      and (is_access (at tr i)) (some i (repeats tr i)) r.access (find i (repeats tr i) j r.earlier
      (and (eqb (at tr j).kind (at tr i).kind) (eqb (event_of (at tr j)) (event_of (at tr i)) && eqb (at tr j).second (at tr i).second)
      (eq→eqb _ _ r.same_kind)
      (and (eqb (event_of (at tr j)) (event_of (at tr i))) (eqb (at tr j).second (at tr i).second) (eq→eqb _ _ r.same_event) (eq→eqb _ _ r.same_cell))))

  pub drops : (i : ℕ) → i < length tr → (T (kept tr i) → ⊥) → T (is_access (at tr i))
  drops i l h = let (j, r) = repeat-of i (not-kept i h) in r.access

  access-same : {i j : ℕ} → Repeat i j → is_access (at tr j) ≡ is_access (at tr i)
  access-same r = ap (λ (k : ℕ). eqb k 5 || eqb k 6) r.same_kind

  through : {i j k : ℕ} → Repeat i j → Repeat j k → Repeat i k
  through q r = record {
    earlier = omega (arith, q.earlier, r.earlier);
    access = q.access;
    same_kind = r.same_kind ∙ q.same_kind;
    same_event = r.same_event ∙ q.same_event;
    same_cell = r.same_cell ∙ q.same_cell;
  }

  -- what is dropped repeats a record that is kept
  kept-repeat : (n i : ℕ) → i < n → T (dropped tr i) → (j : ℕ) × T (kept tr j) × Repeat i j
  kept-repeat zero i l h = absurd (omega arith)
  kept-repeat (suc n) i l h = let (j, r) = repeat-of i h in go j r (decide (dropped tr j)) (kept-repeat n)
    where
      go : (j : ℕ) → Repeat i j → T (dropped tr j) ⊎ (T (dropped tr j) → ⊥) → ((j : ℕ) → j < n → T (dropped tr j) → (k : ℕ) × T (kept tr k) × Repeat j k)
          → (j : ℕ) × T (kept tr j) × Repeat i j
      go j r (inl d) ih = let (k, y, q) = ih j (omega (arith, r.earlier)) d in (k, y, through r q)
      go j r (inr d) ih = (j, not-no (dropped tr j) d, r)

  twin : (i : ℕ) → i < length tr → (T (kept tr i) → ⊥) → (j : ℕ) × T (kept tr j) × Twin (setting_of tr) (cells_of tr) i j
  twin i l h =
      let (j, y, r) = kept-repeat (suc i) i (omega arith) (not-kept i h) in (
        j,
        y,
        record {
          earlier = r.earlier;
          same_event = r.same_event;
          access = r.access;
          access_twin = subst T (sym (access-same r)) r.access;
          same_cell = r.same_cell;
          same_kind = ap (λ (k : ℕ). eqb k 6) r.same_kind;
        },
      )

-- all records of a list, one by one
all-below : (tr : List Record) (m : ℕ) → m ≤ length tr → map (at tr) (upto m (λ i. true)) ≡ take m tr
unfolding upto
all-below tr zero l = refl
all-below tr (suc m) l = map-append (at tr) (upto m (λ i. true)) (m ∷ []) ∙ rw (all-below tr m (omega arith)) (sym (take-suc tr m no_record (omega arith)))

all_of : (tr : List Record) → map (at tr) (upto (length tr) (λ i. true)) ≡ tr
all_of tr = all-below tr (length tr) (omega arith) ∙ take-length tr

-- where nothing is dropped the slim trace is the trace
whole-slim : (tr : List Record) → ((k : ℕ) → k < length tr → T (dropped tr k) → ⊥) → slim_of tr ≡ tr
unfolding slim_of
whole-slim tr n =
    ap (map (at tr)) (upto-ext (length tr) (kept tr) (λ i. true) (λ i l. passed (kept tr i) (not-no (dropped tr i) (n i l)))) ∙ all_of tr

module _ {tr : List Record} (acc : Acceptable tr) where
  pub slim-length : length (slim_of tr) ≡ size (kept tr) (length tr)
  unfolding slim_of
  slim-length = thin-length acc (kept tr) (drops tr)

  pub slim-at : (k : ℕ) → k < length (slim_of tr) → at (slim_of tr) k ≡ at tr (old tr k)
  unfolding slim_of old
  slim-at k l = thin_at acc (kept tr) (drops tr) k (omega (arith, slim-length))

  pub slim-acceptable : Acceptable (slim_of tr)
  unfolding slim_of
  slim-acceptable = thin-acceptable acc (kept tr) (drops tr)

  pub slim-rank : (e : ℕ) → rank (slim_of tr) e ≡ rank tr e
  unfolding slim_of
  slim-rank e = thin-rank acc (kept tr) (drops tr) e

  pub slim-events : events_in (slim_of tr) ≡ events_in tr
  unfolding slim_of events_in
  slim-events = thin-begins acc (kept tr) (drops tr)

  pub slim-links : trace_links (slim_of tr) ≡ trace_links tr
  unfolding slim_of
  slim-links = thin-links acc (kept tr) (drops tr)

  pub slim-order : (t u : ℕ) → happens_before (slim_of tr) t u ≡ happens_before tr t u
  unfolding happens_before
  slim-order t u = rw (slim-rank t, slim-rank u, slim-links)

  -- the old number of a record of the slim trace, and the new number of one that is kept
  pub record Kept (k : ℕ) : Type 0 where
    pub inside : old tr k < length tr
    pub is_kept : T (kept tr (old tr k))

  pub old-kept : (k : ℕ) → k < length (slim_of tr) → Kept k
  unfolding old
  old-kept k l = let (m, y) = item-passes (kept tr) (length tr) k (omega (arith, slim-length)) in record { inside = m; is_kept = y }

  pub old-rises : (k l : ℕ) → k < l → l < length (slim_of tr) → old tr k < old tr l
  unfolding old
  old-rises k l h m = item-rises (kept tr) (length tr) k l h (omega (arith, slim-length))

  pub new-number : (i : ℕ) → i < length tr → T (kept tr i) → (k : ℕ) × (k < length (slim_of tr)) × (old tr k ≡ i)
  unfolding old
  new-number i l h = let (e, m) = item-at (kept tr) (length tr) i l h in (size (kept tr) i, omega (arith, slim-length, m), e)

  thinning : Thinning (setting_of tr) (cells_of tr) (setting_of (slim_of tr)) (cells_of (slim_of tr)) (kept tr) (old tr)
  thinning = record {
    means = λ a b. refl;
    means' = λ a b. refl;
    inside = λ k l. (old-kept k l).inside;
    increasing = λ k l h m. old-rises k l h m;
    kept = λ k l. (old-kept k l).is_kept;
    each = λ i l h. new-number i l h;
    same_event = λ k l. ap (λ (r : Record). event_of r) (slim-at k l);
    same_access = λ k l. ap (λ (r : Record). is_access r) (slim-at k l);
    same_cell = λ k l. ap (λ (r : Record). r.second) (slim-at k l);
    same_kind = λ k l. ap (λ (r : Record). is_write r) (slim-at k l);
    same-order = λ u v. slim-order u v;
    twin = λ i l h. twin tr i l h;
  }

  pub same_races : SameRaces tr
  same_races = record { cells = same-cells (laws acc) thinning; combinations = same-combinations (laws acc) thinning }

  -- a record that is no access is kept
  other-kept : (i : ℕ) → (T (is_access (at tr i)) → ⊥) → T (kept tr i)
  other-kept i h = not-no (dropped tr i) (λ d. let (j, r) = repeat-of tr i d in h r.access)

  -- records of the slim trace and of the trace that are one record
  pub record SameRecord (k i : ℕ) : Type 0 where
    pub new_inside : k < length (slim_of tr)
    pub old_inside : i < length tr
    pub old_is : old tr k ≡ i
    pub is_same : at (slim_of tr) k ≡ at tr i

  from-slim : (k : ℕ) → k < length (slim_of tr) → SameRecord k (old tr k)
  from-slim k l = record { new_inside = l; old_inside = (old-kept k l).inside; old_is = refl; is_same = slim-at k l }

  to-slim : (i : ℕ) → i < length tr → (T (is_access (at tr i)) → ⊥) → (k : ℕ) × SameRecord k i
  to-slim i l h =
      let (k, m, e) = new-number i l (other-kept i h) in
      (k, record { new_inside = m; old_inside = l; old_is = e; is_same = slim-at k m ∙ ap (at tr) e })

  -- a begin or a join is no access
  other-kind : (r : Record) (k : ℕ) → k < 5 → T (eqb r.kind k) → T (is_access r) → ⊥
  other-kind r k l h a = let e = eqb→eq r.kind k h in go (access-kind r a)
    where
      go : (r.kind ≡ 5) ⊎ (r.kind ≡ 6) → ⊥
      go (inl q) = let e = eqb→eq r.kind k h in omega arith
      go (inr q) = let e = eqb→eq r.kind k h in omega arith

  begins-from : (e : ℕ) → Begins (slim_of tr) e → Begins tr e
  begins-from e x =
      let q = from-slim x.position x.inside in
      record {
        position = old tr x.position;
        inside = q.old_inside;
        is-begin = subst (λ (r : Record). T (is_begin r)) q.is_same x.is-begin;
        of_event = sym (ap (λ (r : Record). r.first) q.is_same) ∙ x.of_event;
      }

  begins-to : (e : ℕ) → Begins tr e → Begins (slim_of tr) e
  begins-to e x =
      let (k, q) = to-slim x.position x.inside (other-kind (at tr x.position) 1 (omega arith) x.is-begin) in
      record {
        position = k;
        inside = q.new_inside;
        is-begin = subst (λ (r : Record). T (is_begin r)) (sym q.is_same) x.is-begin;
        of_event = ap (λ (r : Record). r.first) q.is_same ∙ x.of_event;
      }

  before-from : (t u : ℕ) → HappensBefore (slim_of tr) t u → HappensBefore tr t u
  before-from t u h = (decides acc t u).0 (subst T (slim-order t u) ((decides slim-acceptable t u).1 h))

  before-to : (t u : ℕ) → HappensBefore tr t u → HappensBefore (slim_of tr) t u
  before-to t u h = (decides slim-acceptable t u).0 (subst T (sym (slim-order t u)) ((decides acc t u).1 h))

  -- two records of both
  module _ {k l i j : ℕ} (p : SameRecord k i) (q : SameRecord l j) where
    first-event : event_of (at (slim_of tr) k) ≡ event_of (at tr i)
    first-event = ap (λ (r : Record). event_of r) p.is_same

    second-event : event_of (at (slim_of tr) l) ≡ event_of (at tr j)
    second-event = ap (λ (r : Record). event_of r) q.is_same

    record-from : RecordBefore (slim_of tr) (length (slim_of tr)) k l → RecordBefore tr (length tr) i j
    record-from (across d h) =
        across (λ e. d (first-event ∙ e ∙ sym second-event)) (before-from (event_of (at tr i)) (event_of (at tr j)) (rw (first-event, second-event) at h))
    record-from (within e h) =
        within (sym first-event ∙ e ∙ second-event) (omega (arith, old-rises k l h q.new_inside, p.old_is, q.old_is))

    record-to : RecordBefore tr (length tr) i j → RecordBefore (slim_of tr) (length (slim_of tr)) k l
    record-to (across d h) =
        across (λ e. d (sym first-event ∙ e ∙ second-event)) (rw (first-event, second-event) (before-to (event_of (at tr i)) (event_of (at tr j)) h))
    record-to (within e h) = within (first-event ∙ e ∙ sym second-event) (less (decide_eq k l))
      where
        less : (k ≡ l) ⊎ (k ≢ l) → k < l
        less (inl z) = absurd (omega (arith, h, p.old_is, q.old_is, ap (old tr) z))
        less (inr z) =
            let g : l < k → ⊥ = λ m. omega (arith, old-rises l k m p.new_inside, p.old_is, q.old_is, h) in
            omega (arith, g, z)

    link-same : same_link (at (slim_of tr) k) (at (slim_of tr) l) ≡ same_link (at tr i) (at tr j)
    link-same = rw (p.is_same, q.is_same)

  first_of : {k i : ℕ} → SameRecord k i → (at (slim_of tr) k).first ≡ (at tr i).first
  first_of q = ap (λ (r : Record). r.first) q.is_same

  second-of : {k i : ℕ} → SameRecord k i → (at (slim_of tr) k).second ≡ (at tr i).second
  second-of q = ap (λ (r : Record). r.second) q.is_same

  link-from : (t u : ℕ) → Link (slim_of tr) t u → Link tr t u
  link-from t u (starts_it i l k f s b) =
      let q = from-slim i l in
      starts_it (old tr i) q.old_inside (subst (λ (r : Record). T (starts r)) q.is_same k) (sym (first_of q) ∙ f) (sym (second-of q) ∙ s)
      (begins-from u b)
  link-from t u (joins_it i l k s f) =
      let q = from-slim i l in
      joins_it (old tr i) q.old_inside (subst (λ (r : Record). T (is_join r)) q.is_same k) (sym (second-of q) ∙ s) (sym (first_of q) ∙ f)
  link-from t u (behind_it i j l m c r e f x y d) =
      let p = from-slim i l in
      let q = from-slim j m in
      behind_it (old tr i) (old tr j) p.old_inside q.old_inside (subst T (link-same p q) c) (record-from p q r) (sym (second-of p) ∙ e)
      (sym (second-of q) ∙ f) (begins-from t x) (begins-from u y) d

  start-to : (i : ℕ) → i < length tr → T (starts (at tr i)) → (k : ℕ) × SameRecord k i
  start-to i l k = to-slim i l (λ a. no_start (at tr i) a k)

  link-to : (t u : ℕ) → Link tr t u → Link (slim_of tr) t u
  link-to t u (starts_it i l k f s b) =
      let (n, q) = start-to i l k in
      starts_it n q.new_inside (subst (λ (r : Record). T (starts r)) (sym q.is_same) k) (first_of q ∙ f) (second-of q ∙ s) (begins-to u b)
  link-to t u (joins_it i l k s f) =
      let (n, q) = to-slim i l (other-kind (at tr i) 4 (omega arith) k) in
      joins_it n q.new_inside (subst (λ (r : Record). T (is_join r)) (sym q.is_same) k) (second-of q ∙ s) (first_of q ∙ f)
  link-to t u (behind_it i j l m c r e f x y d) =
      let (n, p) = start-to i l (link-first (at tr i) (at tr j) c) in
      let (o, q) = start-to j m (link-second (at tr i) (at tr j) c) in
      behind_it n o p.new_inside q.new_inside (subst T (sym (link-same p q)) c) (record-to p q r) (second-of p ∙ e) (second-of q ∙ f)
      (begins-to t x) (begins-to u y) d

  pub same-order : SameOrder tr
  unfolding trace_clocks
  same-order = record {
    events = λ e. (begins-from e, begins-to e);
    links = λ t u. (link-from t u, link-to t u);
    order = λ t u. (before-from t u, before-to t u);
    chains = λ e. rw (slim-links, slim-rank e);
    rows = λ width. rw (slim-links, slim-events);
  }

  pub is_trace : IsTrace tr
  is_trace = record { acceptable = slim-acceptable; accepts = read-encoded slim-acceptable []; reads = records-encoded slim-acceptable [] }

  -- a record of the slim trace repeats none of it
  none_dropped : (k : ℕ) → k < length (slim_of tr) → T (dropped (slim_of tr) k) → ⊥
  none_dropped k l d =
      let (j, r) = repeat-of (slim_of tr) k d in
      let m : j < length (slim_of tr) = omega (arith, r.earlier) in
      let e = slim-at k l in
      let f = slim-at j m in
      no-not (dropped tr (old tr k)) (of-repeat tr (old tr k) (old tr j) (record {
        earlier = old-rises j k r.earlier l;
        access = subst (λ (x : Record). T (is_access x)) e r.access;
        same_kind = sym (ap (λ (x : Record). x.kind) f) ∙ r.same_kind ∙ ap (λ (x : Record). x.kind) e;
        same_event = sym (ap (λ (x : Record). x.first) f) ∙ r.same_event ∙ ap (λ (x : Record). x.first) e;
        same_cell = sym (ap (λ (x : Record). x.second) f) ∙ r.same_cell ∙ ap (λ (x : Record). x.second) e;
      })) (old-kept k l).is_kept

  pub nothing_more : NothingMore tr
  unfolding dropped_in
  nothing_more = record {
    zero = ap length (upto-empty (length (slim_of tr)) (dropped (slim_of tr)) none_dropped);
    bytes = ap trace_of (whole-slim (slim_of tr) none_dropped);
  }

pub slimmer-job-files : SlimmerJobFiles
slimmer-job-files = record {
  is_trace = λ b t e. is_trace (accepts b t e).acceptable;
  same-order = λ b t e. same-order (accepts b t e).acceptable;
  same_races = λ b t e. same_races (accepts b t e).acceptable;
  nothing_more = λ b t e. nothing_more (accepts b t e).acceptable;
}
