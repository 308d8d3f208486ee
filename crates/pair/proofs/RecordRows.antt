-- The rows of records: they rise along the trace, each row has a record, and an event action's records stand together. Assumes nothing.
use Prim.Native.Nat.{ℕ, zero, suc, ◌-◌, ◌≤◌, ◌<◌}
use mathlib.Core.Path.{◌≡◌, refl, sym, ap, ◌∙◌}
use mathlib.Core.Logic.{◌≢◌, ◌⊎◌, inl, inr}
use mathlib.Core.List.{List}
use native.Mathlib.Omega.{arith}
use lib.ListN.{length}
use Rattle.records.specs.declared.Record.{Record}
use Rattle.records.specs.Records.{at, past, event_of}
use Rattle.records.proofs.Positions.{lt-or-ge}
use Rattle.trace.specs.Reading.{Acceptable}
use Rattle.trace.specs.Place.{place}
use Rattle.trace.specs.Rule.{situation, owner}
use Rattle.trace.proofs.Blocks.{Passes, passes_at, contiguous, apart, end-last}
use Rattle.trace.proofs.PlaceRule.{Outside, begins, joins, Inside, ends, forks, reads, writes, sends, outside, inside}
use Rattle.order.specs.Rank.{rank}
use Rattle.order.proofs.TraceOrder.{record-begins, begins-rank, begins-at, rank-one}
use Rattle.order.proofs.Counted.{counted-passes}
use Rattle.slices.proofs.Tests.{decide_eq}
use Rattle.races.specs.loops.FilledClocks.{rows}
use Rattle.pair.specs.loops.Kept.{row_of, Starts, Split, Block}
use Rattle.races.proofs.CoverNumbers.{named, numbered}

-- Where an event action starts, looked for downwards: records lo to i are of one event action.
module _ (tr : List Record) (i : ℕ) where
  pub record One (lo : ℕ) : Type 0 where
    pub low : lo ≤ i
    pub same : (x : ℕ) → lo ≤ x → x ≤ i → event_of (at tr x) ≡ event_of (at tr i)

  pub one-start : One i
  one-start = record { low = omega arith; same = λ x l k. let e : x ≡ i = omega arith in rw e }

  pub one_more : (lo : ℕ) → 0 < lo → event_of (at tr (lo - 1)) ≡ event_of (at tr i) → One lo → One (lo - 1)
  one_more lo h e o = let m = o.low in record { low = omega arith; same = λ x l k. go x l k (decide_eq x (lo - 1)) }
    where
      go : (x : ℕ) → lo - 1 ≤ x → x ≤ i → (x ≡ lo - 1) ⊎ (x ≢ lo - 1) → event_of (at tr x) ≡ event_of (at tr i)
      go x l k (inl q) = rw q e
      go x l k (inr n) = o.same x (omega arith) k

  pub one-parted : (lo : ℕ) → 0 < lo → event_of (at tr (lo - 1)) ≢ event_of (at tr i) → One lo → Starts tr lo i
  one-parted lo h n o = record { low = o.low; same = o.same; parted = λ y q. let e : lo - 1 ≡ y = omega arith in rw e at n }

  pub one-first : (lo : ℕ) → lo ≤ 0 → One lo → Starts tr lo i
  one-first lo h o = record { low = o.low; same = o.same; parted = λ y q. absurd (omega arith) }

pub row-of-block : {tr : List Record} {t lo hi : ℕ} → Block tr t lo hi → row_of tr lo ≡ t
row-of-block {tr} {t} {lo} s = omega (arith, s.from.after lo (omega arith) (omega (arith, s.some, s.to.inside)), s.to.before lo s.some)

module _ {tr : List Record} (a : Acceptable tr) where
  abbrev ev : ℕ → ℕ
  ev i = event_of (at tr i)

  -- From the start of an event action on no record is of an event action before.
  pub starts-parted : (lo i : ℕ) → i < length tr → Starts tr lo i → (x y : ℕ) → x < lo → lo ≤ y → y < length tr → ev x ≢ ev y
  starts-parted zero i h s x y l m k e = absurd (omega arith)
  starts-parted (suc p) i h s x y l m k e =
      s.parted p refl (before (decide_eq x p) ∙ e ∙ sym (after (decide_eq (suc p) y)) ∙ s.same (suc p) (omega arith) s.low)
    where
      before : (x ≡ p) ⊎ (x ≢ p) → ev p ≡ ev x
      before (inl q) = ap ev (sym q)
      before (inr n) = contiguous a x p y (omega arith) (omega arith) k e

      after : (suc p ≡ y) ⊎ (suc p ≢ y) → ev (suc p) ≡ ev y
      after (inl q) = ap ev q
      after (inr n) = contiguous a x (suc p) y (omega arith) (omega arith) k e ∙ e

  -- Ranks rise along the trace.
  pub rank_rises : (i j : ℕ) → i < j → j < length tr → ev i ≢ ev j → rank tr (ev i) < rank tr (ev j)
  rank_rises i j l h n =
      let p = record-begins a i (omega arith) in
      let q = record-begins a j h in
      let k : p.position < q.position = apart a i p.position j q.position p.inside h (sym p.of_event) (sym q.of_event) n l in
      let c = counted-passes tr p.position q.position k (begins-at a p) in
      omega (arith, begins-rank a p, begins-rank a q)

  pub rank-some : (i : ℕ) → i < length tr → 0 < rank tr (ev i)
  rank-some i h = omega (arith, begins-rank a (record-begins a i h))

  pub rank-few : (i : ℕ) → i < length tr → rank tr (ev i) ≤ rows tr
  rank-few i h =
      let b = record-begins a i h in
      omega (arith, begins-rank a b, counted-passes tr b.position (length tr) b.inside (begins-at a b))

  -- The row of a record.
  pub row_low : (i : ℕ) → i < length tr → row_of tr i < rows tr
  row_low i h = omega (arith, rank-few i h, rank-some i h)

  pub row_one : (i j : ℕ) → i < length tr → j < length tr → row_of tr i ≡ row_of tr j → ev i ≡ ev j
  row_one i j h k e =
      let p = rank-some i h in
      let q = rank-some j k in
      rank-one a (ev i) (ev j) (row_of tr i) (omega arith) (omega arith)

  row-less : (i j : ℕ) → i < j → j < length tr → ev i ≢ ev j → row_of tr i < row_of tr j
  row-less i j l h n = omega (arith, rank_rises i j l h n, rank-some i (omega arith))

  row-rises : (i j : ℕ) → i ≤ j → j < length tr → row_of tr i ≤ row_of tr j
  row-rises i j l h = go (decide_eq (ev i) (ev j))
    where
      go : (ev i ≡ ev j) ⊎ (ev i ≢ ev j) → row_of tr i ≤ row_of tr j
      go (inl e) = let q : row_of tr i ≡ row_of tr j = ap (λ (x : ℕ). rank tr x - 1) e in omega arith
      go (inr n) = let m : i ≡ j → ⊥ = λ q. n (ap ev q) in let k : i < j = omega (arith, m) in omega (arith, row-less i j k h n)

  -- each row has a record
  row-found : (r : ℕ) → r < rows tr → (i : ℕ) × (i < length tr) × (row_of tr i ≡ r)
  row-found r h =
      let n = numbered a in
      let e : rank tr (ev (n.place r)) ≡ suc r = ap (rank tr) (n.at r h) ∙ named a r h in
      (n.place r, n.inside r h, omega arith)

  -- no row is passed over
  row_next : (i : ℕ) → suc i < length tr → row_of tr (suc i) ≤ suc (row_of tr i)
  row_next i h = go (lt-or-ge (suc (row_of tr i)) (rows tr))
    where
      on : (x : ℕ) → x < length tr → row_of tr x ≡ suc (row_of tr i) → (x < suc i) ⊎ (suc i ≤ x) → row_of tr (suc i) ≤ suc (row_of tr i)
      on x k e (inl l) = absurd (omega (arith, row-rises x i (omega arith) (omega arith)))
      on x k e (inr l) = omega (arith, row-rises (suc i) x l k)

      go : (suc (row_of tr i) < rows tr) ⊎ (rows tr ≤ suc (row_of tr i)) → row_of tr (suc i) ≤ suc (row_of tr i)
      go (inl l) = let (x, k, e) = row-found (suc (row_of tr i)) l in on x k e (lt-or-ge x (suc i))
      go (inr l) = omega (arith, row_low (suc i) h)

  -- the first record is of the first row
  pub row_first : 0 < length tr → row_of tr 0 ≡ 0
  row_first h = let (x, k, e) = row-found 0 (omega (arith, row_low 0 h)) in omega (arith, row-rises 0 x (omega arith) k)

  -- a record that is no end is followed by one of its event action
  pub goes_on : (i : ℕ) → suc i < length tr → (at tr i).kind ≢ 2 → ev (suc i) ≡ ev i
  unfolding situation owner past
  goes_on i h n = (passes_at a (suc i) h).owned (go (lt-or-ge (situation (past tr i)) 2))
    where
      p : Passes (past tr i) (at tr i)
      p = passes_at a i (omega arith)

      off : Outside (at tr i).kind (place (situation (past tr i)) (at tr i).kind) → place (situation (past tr i)) (at tr i).kind ≢ 0
      off (begins k q) z = omega arith
      off (joins k q) z = omega arith

      on : Inside (at tr i).kind (place (situation (past tr i)) (at tr i).kind) → place (situation (past tr i)) (at tr i).kind ≢ 0
      on (ends k q) z = n k
      on (forks k q) z = omega arith
      on (reads k q) z = omega arith
      on (writes k q) z = omega arith
      on (sends k l q) z = omega arith

      go : (situation (past tr i) < 2) ⊎ (2 ≤ situation (past tr i)) → place (situation (past tr i)) (at tr i).kind ≢ 0
      go (inl l) = off (outside (situation (past tr i)) (at tr i).kind p.known p.placed l)
      go (inr l) = on (inside (situation (past tr i)) (at tr i).kind p.known p.placed l)

  -- an end is followed by one of another
  pub ends_there : (i : ℕ) → suc i < length tr → (at tr i).kind ≡ 2 → ev (suc i) ≢ ev i
  ends_there i h k e = omega (arith, end-last a i (suc i) (omega arith) h k (sym e))

  pub row-goes-on : (i : ℕ) → suc i < length tr → (at tr i).kind ≢ 2 → row_of tr (suc i) ≡ row_of tr i
  row-goes-on i h n = ap (λ (x : ℕ). rank tr x - 1) (goes_on i h n)

  pub row_ends : (i : ℕ) → suc i < length tr → (at tr i).kind ≡ 2 → row_of tr (suc i) ≡ suc (row_of tr i)
  row_ends i h k = omega (arith, row_next i h, row-less i (suc i) (omega arith) h (λ e. ends_there i h k (sym e)))

  -- The rows from that of record i on stand from its start on.
  pub split_at : (lo i : ℕ) → i < length tr → Starts tr lo i → Split tr (row_of tr i) lo
  split_at lo i h s = record {
    inside = omega (arith, s.low);
    before = λ x l. row-less x i (omega (arith, s.low)) h (starts-parted lo i h s x i l s.low h);
    after = λ x l k. let e : row_of tr lo ≡ row_of tr i = ap (λ (u : ℕ). rank tr u - 1) (s.same lo (omega arith) s.low) in omega (arith, row-rises lo x l k);
  }

  -- before them stands a record of the row before
  module _ (t hi : ℕ) (h : 0 < t) (low : t ≤ rows tr) (s : Split tr t hi) where
    pub split-some : 0 < hi
    split-some = let (x, k, e) = row-found (t - 1) (omega arith) in go x k e (lt-or-ge x hi)
      where
        go : (x : ℕ) → x < length tr → row_of tr x ≡ t - 1 → (x < hi) ⊎ (hi ≤ x) → 0 < hi
        go x k e (inl l) = omega arith
        go x k e (inr l) = absurd (omega (arith, s.after x l k))

    split-last : row_of tr (hi - 1) ≡ t - 1
    split-last = let (x, k, e) = row-found (t - 1) (omega arith) in go x k e (lt-or-ge x hi)
      where
        go : (x : ℕ) → x < length tr → row_of tr x ≡ t - 1 → (x < hi) ⊎ (hi ≤ x) → row_of tr (hi - 1) ≡ t - 1
        go x k e (inl l) = let i = s.inside in omega (arith, row-rises x (hi - 1) (omega arith) (omega arith), s.before (hi - 1) (omega arith))
        go x k e (inr l) = absurd (omega (arith, s.after x l k))

    pub split-block : (lo : ℕ) → Starts tr lo (hi - 1) → Block tr (t - 1) lo hi
    split-block lo b =
        let i = s.inside in
        let z = split-some in
        let e : suc (t - 1) ≡ t = omega arith in
        record { some = omega (arith, b.low); from = rw split-last at (split_at lo (hi - 1) (omega arith) b); to = rw e s }
