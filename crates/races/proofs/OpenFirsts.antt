-- The entries of one second access, and the edges that raising takes from them: the open ones, the last first, down to the first whose first access writes.
-- Assumes nothing.
use Prim.Native.Nat.{ℕ, suc, ◌≤◌, ◌<◌}
use mathlib.Core.Path.{◌≡◌, sym, ap, ◌∙◌, subst}
use mathlib.Core.Logic.{◌≢◌, ◌⊎◌, inl, inr}
use mathlib.Core.Bool.{Bool, true, false, not, ◌&&◌}
use mathlib.Core.List.Memᴰ
use mathlib.Core.List.{List, [], ◌∷◌}
use native.Mathlib.Omega.{arith}
use lib.Dec.{T, ltb, ltb→lt, lt→ltb}
use lib.ListN.{length, get_or}
use Rattle.records.specs.declared.Record.{Record}
use Rattle.records.specs.Records.{at, is_write}
use Rattle.trace.specs.Reading.{Acceptable}
use Rattle.coverage.specs.Below.{some, Sooner}
use Rattle.coverage.specs.Leading.{coveredb}
use Rattle.coverage.specs.loops.Whole.{taken}
use Rattle.slices.proofs.Tests.{both, and, decide_eq, decide-lt}
use Rattle.coverage.proofs.Below.{found, find}
use Rattle.order.specs.Links.{◌∈◌}
use Rattle.order.specs.Clocks.{chain_of}
use Rattle.order.specs.HappensBefore.{trace_links}
use Rattle.order.specs.loops.Numbering.{Firsts}
use Rattle.order.proofs.CoverRows.{race-earlier}
use Rattle.races.specs.Traces.{cells_of, setting_of}
use Rattle.races.specs.Lists.{pairs_of}
use Rattle.races.proofs.Instance.{laws}
use Rattle.races.proofs.CoverNumbers.{events, name_of, number, Tested, numbered, in_order, number-name}
use Rattle.races.proofs.EntryOrder as entries
use Rattle.races.proofs.EntryOrder.{stands_in_list, first_at, second_of_entry, size, at-passes, passes_at, list-race, edge}
use Rattle.races.proofs.RaisedRows.{name-of}

not-both : (a : Bool) → T (not a) → T a → ⊥
not-both true n h = n
not-both false n h = h

is-not : (a : Bool) → (T a → ⊥) → T (not a)
is-not true n = absurd (n tt)
is-not false n = tt

module _ (tr : List Record) (short : Bool) where
  -- the entries below k have a second before y, and the others none
  pub record Split (k y : ℕ) : Type 0 where
    pub below : (i : ℕ) → i < k → second_of_entry tr short i < y
    pub from : (i : ℕ) → k ≤ i → i < size tr short → y ≤ second_of_entry tr short i

  -- the entries of second access b are those from k on, before e
  pub record Second (b k e : ℕ) : Type 0 where
    pub some_of : k < e
    pub high : e ≤ size tr short
    pub same : (i : ℕ) → k ≤ i → i < e → second_of_entry tr short i ≡ b
    pub all : (i : ℕ) → i < size tr short → second_of_entry tr short i ≡ b → (k ≤ i) × (i < e)

  -- rising seconds, and of one second rising firsts
  second-rises : (i j : ℕ) → i ≤ j → j < size tr short → second_of_entry tr short i ≤ second_of_entry tr short j
  second-rises i j l h = go (decide_eq i j)
    where
      rises : Sooner (get_or (pairs_of tr short) i (0, 0)) (get_or (pairs_of tr short) j (0, 0)) → second_of_entry tr short i ≤ second_of_entry tr short j
      rises (inl k) = omega arith
      rises (inr k) = omega (arith, k.0)

      go : (i ≡ j) ⊎ (i ≢ j) → second_of_entry tr short i ≤ second_of_entry tr short j
      go (inl q) = omega (arith, ap (second_of_entry tr short) q)
      go (inr q) = rises (entries.in_order tr short i j (omega arith) h)

  first-rises : (i j : ℕ) → i < j → j < size tr short → second_of_entry tr short i ≡ second_of_entry tr short j → first_at tr short i < first_at tr short j
  first-rises i j l h q = go (entries.in_order tr short i j l h)
    where
      go : Sooner (get_or (pairs_of tr short) i (0, 0)) (get_or (pairs_of tr short) j (0, 0)) → first_at tr short i < first_at tr short j
      go (inl k) = absurd (omega arith)
      go (inr k) = k.1

  pub split-start : Split 0 0
  split-start = record { below = λ i h. absurd (omega arith); from = λ i h k. omega arith }

  module _ {k y : ℕ} (s : Split k y) (h : k < size tr short) where
    -- an entry from y on is not before the next one
    pub split-next : (p d : ℕ) → T (edge tr short p d) → y ≤ d → second_of_entry tr short k ≤ d
    unfolding taken
    split-next p d t l =
        let (i, j, u, v) = passes_at tr short p d (both (stands_in_list tr short p d) _ t).0 in
        let n : i < k → ⊥ = λ m. omega (arith, s.below i m) in
        omega (arith, v, second-rises k i (omega (arith, n)) j)

    module _ (e : ℕ) (some_of : k < e) (high : e ≤ size tr short) (same : (i : ℕ) → k ≤ i → i < e → second_of_entry tr short i ≡ second_of_entry tr short k) (else : e < size tr short → second_of_entry tr short e ≢ second_of_entry tr short k) where
      pub second-of : Second (second_of_entry tr short k) k e
      second-of = record { some_of = some_of; high = high; same = same; all = all }
        where
          all : (i : ℕ) → i < size tr short → second_of_entry tr short i ≡ second_of_entry tr short k → (k ≤ i) × (i < e)
          all i l q =
              let n : i < k → ⊥ = λ m. omega (arith, s.below i m, s.from k (omega arith) h) in
              let z : e ≤ i → ⊥ = λ m. else (omega arith) (omega (arith, second-rises e i m l, second-rises k e (omega arith) (omega arith))) in
              (omega (arith, n), omega (arith, z))

      pub split_after : Split e (suc (second_of_entry tr short k))
      split_after = record { below = λ i l. below i l (decide-lt i k); from = from }
        where
          below : (i : ℕ) → i < e → (i < k) ⊎ (k ≤ i) → second_of_entry tr short i < suc (second_of_entry tr short k)
          below i l (inl m) = omega (arith, second-rises i k (omega arith) h)
          below i l (inr m) = omega (arith, same i m l)

          from : (i : ℕ) → e ≤ i → i < size tr short → suc (second_of_entry tr short k) ≤ second_of_entry tr short i
          from i l m = let n = else (omega arith) in let g = second-rises k e (omega arith) (omega arith) in omega (arith, second-rises e i l m)

  -- What is taken from the entries of b from j on, before e: the numbers of their first accesses' event actions.
  pub record Taken (b j e : ℕ) (vs : List ℕ) : Type 0 where
    pub edges : (v : ℕ) → v ∈ vs → (c : ℕ) × T (edge tr short c b) × (number tr c ≡ v)
    pub all : (i : ℕ) → j ≤ i → i < e → T (edge tr short (first_at tr short i) b) → number tr (first_at tr short i) ∈ vs

  -- their first accesses read
  abbrev pub Reads : ℕ → ℕ → Type 0
  Reads j e = (i : ℕ) → j ≤ i → i < e → T (is_write (at tr (first_at tr short i))) → ⊥

  pub taken_none : (b e : ℕ) → Taken b e e []
  taken_none b e = record { edges = λ v m. absurd (Memᴰ.not-nil m); all = λ i h k t. absurd (omega arith) }

  pub reads_none : (e : ℕ) → Reads e e
  reads_none e i h k t = omega arith

  pub reads_more : {j e : ℕ} → Reads (suc j) e → (T (is_write (at tr (first_at tr short j))) → ⊥) → Reads j e
  reads_more {j} r n i h k t = go (decide_eq i j)
    where
      go : (i ≡ j) ⊎ (i ≢ j) → ⊥
      go (inl q) = n (subst (λ (x : ℕ). T (is_write (at tr (first_at tr short x)))) q t)
      go (inr q) = r i (omega arith) k t

  module _ {b k e : ℕ} (g : Second b k e) where
    module _ {j : ℕ} (l : k ≤ j) (h : j < e) where
      inside : j < size tr short
      inside = omega (arith, g.high)

      -- an open entry is taken where those after it read
      edge_of : Reads (suc j) e → (T (coveredb (setting_of tr) (first_at tr short j) b) → ⊥) → T (edge tr short (first_at tr short j) b)
      unfolding taken
      edge_of r n = and (stands_in_list tr short c b) (not (coveredb (setting_of tr) c b) && not (some b later)) (subst (λ (x : ℕ). T (stands_in_list tr short c x)) (g.same j l h) (at-passes tr short j inside)) (and (not (coveredb (setting_of tr) c b)) (not (some b later)) (is-not (coveredb (setting_of tr) c b) n) (is-not (some b later) none))
        where
          c : ℕ
          c = first_at tr short j

          later : ℕ → Bool
          later x = ltb c x && (stands_in_list tr short x b && is_write (at tr x))

          none : T (some b later) → ⊥
          none t =
              let (x, z, w) = found b later t in
              let (p, q) = both (ltb c x) (stands_in_list tr short x b && is_write (at tr x)) w in
              let (u, v) = both (stands_in_list tr short x b) (is_write (at tr x)) q in
              let (i, m, y, o) = passes_at tr short x b u in
              let (f, a) = g.all i m o in
              place i m y o f a p v
            where
              place : (i : ℕ) → i < size tr short → {x : ℕ} → first_at tr short i ≡ x → second_of_entry tr short i ≡ b → k ≤ i → i < e → T (ltb c x) → T (is_write (at tr x)) → ⊥
              place i m {x} y o f a p v =
                  let d = ltb→lt c x p in
                  let n₁ : i < j → ⊥ = λ w. omega (arith, first-rises i j w inside (o ∙ sym (g.same j l h))) in
                  let n₂ : i ≡ j → ⊥ = λ w. omega (arith, ap (first_at tr short) w) in
                  r i (omega (arith, n₁, n₂)) a (subst (λ (z : ℕ). T (is_write (at tr z))) (sym y) v)

      pub taken-open : {vs : List ℕ} → Reads (suc j) e → Taken b (suc j) e vs → (T (coveredb (setting_of tr) (first_at tr short j) b) → ⊥) → Taken b j e (number tr (first_at tr short j) ∷ vs)
      taken-open {vs} r t n = record { edges = edges; all = λ i p q w. all i p q w (decide_eq i j) }
        where
          edges : (v : ℕ) → v ∈ number tr (first_at tr short j) ∷ vs → (c : ℕ) × T (edge tr short c b) × (number tr c ≡ v)
          edges v (Memᴰ.head q) = (first_at tr short j, edge_of r n, sym q)
          edges v (Memᴰ.tail m) = t.edges v m

          all : (i : ℕ) → j ≤ i → i < e → T (edge tr short (first_at tr short i) b) → (i ≡ j) ⊎ (i ≢ j) → number tr (first_at tr short i) ∈ number tr (first_at tr short j) ∷ vs
          all i p q w (inl z) = Memᴰ.head (ap (λ (x : ℕ). number tr (first_at tr short x)) z)
          all i p q w (inr z) = Memᴰ.tail (t.all i (omega arith) q w)

      pub taken-covered : {vs : List ℕ} → Taken b (suc j) e vs → T (coveredb (setting_of tr) (first_at tr short j) b) → Taken b j e vs
      unfolding taken
      taken-covered {vs} t n = record { edges = t.edges; all = λ i p q w. all i p q w (decide_eq i j) }
        where
          all : (i : ℕ) → j ≤ i → i < e → T (edge tr short (first_at tr short i) b) → (i ≡ j) ⊎ (i ≢ j) → number tr (first_at tr short i) ∈ vs
          all i p q w (inl z) = absurd (not-both (coveredb (setting_of tr) (first_at tr short j) b) (both (not (coveredb (setting_of tr) (first_at tr short j) b)) _ (both (stands_in_list tr short (first_at tr short j) b) _ (subst (λ (x : ℕ). T (edge tr short (first_at tr short x) b)) z w)).1).0 n)
          all i p q w (inr z) = t.all i (omega arith) q w

      -- nothing is taken before an entry whose first access writes
      pub taken-stop : {vs : List ℕ} → Taken b j e vs → T (is_write (at tr (first_at tr short j))) → Taken b k e vs
      unfolding taken
      taken-stop {vs} t w = record { edges = t.edges; all = λ i p q d. all i p q d (decide-lt i j) }
        where
          all : (i : ℕ) → k ≤ i → i < e → T (edge tr short (first_at tr short i) b) → (i < j) ⊎ (j ≤ i) → number tr (first_at tr short i) ∈ vs
          all i p q d (inr z) = t.all i z q d
          all i p q d (inl z) = absurd (not-both (some b later) (both (not (coveredb (setting_of tr) c b)) (not (some b later)) (both (stands_in_list tr short c b) _ d).1).1 (find b later x before (and (ltb c x) _ (lt→ltb c x rises) (and (stands_in_list tr short x b) (is_write (at tr x)) passes w))))
            where
              c : ℕ
              c = first_at tr short i

              x : ℕ
              x = first_at tr short j

              later : ℕ → Bool
              later x = ltb c x && (stands_in_list tr short x b && is_write (at tr x))

              passes : T (stands_in_list tr short x b)
              passes = subst (λ (z : ℕ). T (stands_in_list tr short x z)) (g.same j l h) (at-passes tr short j inside)

              before : x < b
              before = (list-race tr short x b passes).first

              rises : c < x
              rises = first-rises i j z inside (g.same i p q ∙ sym (g.same j l h))

    -- So these are the firsts of b's edges.
    pub taken-firsts : Acceptable tr → (u : ℕ) → u < events tr → b < length tr → number tr b ≡ u → {vs : List ℕ} → Taken b k e vs → Firsts (setting_of tr) (name_of tr) (Tested tr (taken (setting_of tr) (cells_of tr) (stands_in_list tr short))) u b vs
    unfolding taken
    taken-firsts a u i h n {vs} t = record { earlier = earlier; edges = edges; all = all }
      where
        earlier : (v : ℕ) → v ∈ vs → v < u
        earlier v m =
            let (c, d, q) = t.edges v m in
            let r = list-race tr short c b (both (stands_in_list tr short c b) _ d).0 in
            let (x, y) = number-name a c (omega (arith, r.first)) in
            race-earlier (setting_of tr) (laws a) (events tr) (name_of tr) (chain_of (trace_links tr)) (numbered a) (in_order a) c b v u r (omega arith) i (y ∙ ap (name_of tr) q) (name-of a b u h n)

        edges : (v : ℕ) → v ∈ vs → (c : ℕ) × T (edge tr short c b) × ((at tr c).first ≡ name_of tr v)
        edges v m =
            let (c, d, q) = t.edges v m in
            let r = list-race tr short c b (both (stands_in_list tr short c b) _ d).0 in
            (c, d, name-of a c v (omega (arith, r.first)) q)

        all : (c : ℕ) → T (edge tr short c b) → (v : ℕ) × (v ∈ vs) × ((at tr c).first ≡ name_of tr v)
        all c d =
            let p = (both (stands_in_list tr short c b) _ d).0 in
            let (i, m, y, o) = passes_at tr short c b p in
            let (f, w) = g.all i m o in
            let r = list-race tr short c b p in
            (number tr c, subst (λ (z : ℕ). number tr z ∈ vs) y (t.all i f w (subst (λ (z : ℕ). T (edge tr short z b)) (sym y) d)), (number-name a c (omega (arith, r.first))).1)
