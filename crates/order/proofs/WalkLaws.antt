-- Rows as the records go on, over any base rows B and final rows R; and the walk along the links in flat clocks. Serves filling, refilling
-- and raising alike. Assumes nothing.
use Prim.Native.Nat.{ℕ, zero, suc, ◌+◌, ◌-◌, ◌≤◌, ◌<◌, max}
use mathlib.Core.Path.{◌≡◌, refl, sym, ◌∙◌, ap}
use mathlib.Core.Logic.{◌≢◌, ◌⊎◌, inl, inr}
use mathlib.Core.Bool.{true, false}
use mathlib.Core.List.{List, [], ◌++◌}
use native.Mathlib.Omega.{arith}
use native.Mathlib.Nat.{max_comm}
use borrow.Author.Tests.{eq-eqb, ne_eqb}
use lib.ListN.{length, get_or}
use Rattle.records.specs.declared.Record.{Record}
use Rattle.records.specs.Records.{at, leading}
use Rattle.records.proofs.Leading.{leading_le, leading-accesses, leading-over}
use Rattle.ranks.specs.declared.Ordering.{Ordering}
use Rattle.ranks.specs.declared.Ordering.TheVariants.{Link, Begin, Nothing}
use Rattle.ranks.specs.OrderingOf.{ordering_of}
use Rattle.clocks.specs.Rows.{merge_row}
use Rattle.order.specs.Links.{Links, ◌∈◌}
use Rattle.order.specs.Clocks.{largest, flat}
use Rattle.order.specs.Schedule.{linked}
use Rattle.order.specs.loops.Standing.{begins, Ordered, Makes}
use Rattle.order.specs.loops.Walk.{Walked, stops, merged_with, walk_on, walk, ordering_by, walk_from}
use Rattle.slices.proofs.Tests.{decide_eq, decide-lt}
use Rattle.order.proofs.SetLaws.{largest-in, largest-le}
use Rattle.order.proofs.ScheduleLaws.{begins-zero, begins-suc, linked-suc, begins-mono, linked-exact, begin-next, link-between, link-after}
use Rattle.order.proofs.FlatLaws.{merge_into, into-own, into-other, merged-row}

-- the largest value depends on the members of the list alone
pub largest-same : (ps qs : List ℕ) (f : ℕ → ℕ) → ((p : ℕ) → p ∈ ps → p ∈ qs) → ((p : ℕ) → p ∈ qs → p ∈ ps) → largest ps f ≡ largest qs f
largest-same ps qs f there back =
    let h = largest-le ps f (largest qs f) (λ p m. largest-in qs f p (there p m)) in
    let k = largest-le qs f (largest ps f) (λ p m. largest-in ps f p (back p m)) in
    omega arith

-- the links to an event action after one record more
module _ (op : ℕ → Ordering) where
  linked-own : (i p v : ℕ) (g : ℕ → ℕ) → op i ≡ Link p v → largest (linked op (suc i) v) g ≡ max (largest (linked op i v) g) (g p)
  unfolding largest
  linked-own i p v g e = rw (linked-suc op i v (Link p v) e, eq-eqb v v refl) (max_comm (g p) (largest (linked op i v) g))

  linked-apart : (i p v u : ℕ) → op i ≡ Link p v → u ≢ v → linked op (suc i) u ≡ linked op i u
  linked-apart i p v u e h = rw (linked-suc op i u (Link p v) e, ne_eqb v u (λ j. h (sym j)))

  pub linked-zero : (u : ℕ) → linked op 0 u ≡ []
  unfolding linked
  linked-zero u = refl

  -- at its begin an event action has the links of all of its direct predecessors
  module _ (n : ℕ) (w : Ordered op n) (l : Links) (makes : Makes op n l) where
    -- a link from each of its direct predecessors came before it
    pub pred-linked : (i v : ℕ) → i < n → op i ≡ Begin v → (p : ℕ) → p ∈ l.preds v → (j : ℕ) × (j < i) × (op j ≡ Link p v)
    pred-linked i v h e p m = (r.0, early (decide-lt r.0 i), r.2)
      where
        begun : v < begins op n
        begun = omega (arith, begin-next op n w i v h e, begins-suc op i (Begin v) e, begins-mono op (suc i) n h)

        r : (j : ℕ) × (j < n) × (op j ≡ Link p v)
        r = (makes p v begun).0 m

        early : (r.0 < i) ⊎ (i ≤ r.0) → r.0 < i
        early (inl k) = k
        early (inr k) = absurd (omega (arith, link-after op n w i v e r.0 p v k r.1 r.2))

    pub linked-all : (i v : ℕ) (g : ℕ → ℕ) → i < n → op i ≡ Begin v → largest (linked op i v) g ≡ largest (l.preds v) g
    linked-all i v g h e = largest-same (linked op i v) (l.preds v) g there back
      where
        begun : v < begins op n
        begun = omega (arith, begin-next op n w i v h e, begins-suc op i (Begin v) e, begins-mono op (suc i) n h)

        there : (p : ℕ) → p ∈ linked op i v → p ∈ l.preds v
        there p m = let r = (linked-exact op i p v).0 m in (makes p v begun).1 (r.0, omega (arith, r.1), r.2)

        back : (p : ℕ) → p ∈ l.preds v → p ∈ linked op i v
        back p m = (linked-exact op i p v).1 (pred-linked i v h e p m)

  -- After the first i records: the rows of those that have begun are final, and the row of any other is its base row merged with the final
  -- rows linked to it so far.
  module _ (B R : ℕ → ℕ → ℕ) where
    pub record Along (i : ℕ) (rows : ℕ → ℕ → ℕ) : Type 0 where
      pub done : (u c : ℕ) → u < begins op i → rows u c ≡ R u c
      pub coming : (u c : ℕ) → begins op i ≤ u → rows u c ≡ max (B u c) (largest (linked op i u) (λ p. R p c))

    pub along-start : (rows : ℕ → ℕ → ℕ) → ((u c : ℕ) → rows u c ≡ B u c) → Along 0 rows
    unfolding largest
    along-start rows e = record {
      done = λ u c h. absurd (omega (arith, begins-zero op));
      coming = λ u c h. rw (linked-zero u) (omega (arith, e u c));
    }

    pub along-other : (i : ℕ) (rows : ℕ → ℕ → ℕ) → op i ≡ Nothing → Along i rows → Along (suc i) rows
    along-other i rows e f =
        let b = begins-suc op i Nothing e in
        record { done = λ u c h. f.done u c (omega arith); coming = λ u c h. rw (linked-suc op i u Nothing e) (f.coming u c (omega arith)) }

    module _ (n : ℕ) (w : Ordered op n) where
      pub along-link : (i p v : ℕ) (rows : ℕ → ℕ → ℕ) → i < n → op i ≡ Link p v → Along i rows → Along (suc i) (merge_into rows p v)
      along-link i p v rows h e f = record {
        done = λ u c k. into-other rows p v u c (omega (arith, b, between.1)) ∙ f.done u c (omega (arith, b));
        coming = λ u c k. coming u c (decide_eq u v) (omega (arith, b));
      }
        where
          b : begins op (suc i) ≡ begins op i
          b = begins-suc op i (Link p v) e

          between : (p < begins op i) × (begins op i ≤ v)
          between = link-between op n w i p v h e

          coming : (u c : ℕ) → (u ≡ v) ⊎ (u ≢ v) → begins op i ≤ u → merge_into rows p v u c ≡ max (B u c) (largest (linked op (suc i) u) (λ q. R q c))
          coming u c (inl j) k = rw (j, linked-own i p v (λ q. R q c) e) (omega (arith, into-own rows p v c, f.coming v c between.1, f.done p c between.0))
          coming u c (inr j) k = rw (linked-apart i p v u e j) (into-other rows p v u c j ∙ f.coming u c k)

      -- from the begin of v on, with its row final
      pub along-begin :
          (i v : ℕ) (rows rows' : ℕ → ℕ → ℕ) → i < n → op i ≡ Begin v → Along i rows →
          ((u c : ℕ) → u ≢ v → rows' u c ≡ rows u c) → ((c : ℕ) → rows' v c ≡ R v c) → Along (suc i) rows'
      along-begin i v rows rows' h e f same own = record {
        done = λ u c k. done u c (omega (arith, b)) (decide_eq u v);
        coming = λ u c k. same u c (omega (arith, b)) ∙ rw (linked-suc op i u (Begin v) e) (f.coming u c (omega (arith, b, next)));
      }
        where
          next : v ≡ begins op i
          next = begin-next op n w i v h e

          b : begins op (suc i) ≡ suc v
          b = begins-suc op i (Begin v) e ∙ ap suc (sym next)

          done : (u c : ℕ) → u < suc v → (u ≡ v) ⊎ (u ≢ v) → rows' u c ≡ R u c
          done u c k (inl j) = rw j (own c)
          done u c k (inr j) = same u c j ∙ f.done u c (omega (arith, next))

      -- at its begin a row has been merged with the rows of all of its direct predecessors
      module _ (l : Links) (makes : Makes op n l) where
        pub along-merged :
            (i v : ℕ) (rows : ℕ → ℕ → ℕ) → i < n → op i ≡ Begin v → Along i rows →
            (c : ℕ) → rows v c ≡ max (B v c) (largest (l.preds v) (λ p. R p c))
        along-merged i v rows h e f c =
            f.coming v c (omega (arith, begin-next op n w i v h e)) ∙ ap (max (B v c)) (linked-all n w l makes i v (λ p. R p c) h e)

-- The walk from record i on, in flat clocks of all rows: up to the next begin, with the rows along.
module _ (op : ℕ → Ordering) (n : ℕ) (B R : ℕ → ℕ → ℕ) (w : ℕ) (rest : List ℕ) where
  pub record Arrives (i : ℕ) (r : Walked) : Type 0 where
    pub later : i ≤ r.position
    pub inside : r.position ≤ n
    pub none_begun : begins op r.position ≡ begins op i
    pub at-begin : r.position < n → op r.position ≡ Begin (begins op i)
    pub rows : ℕ → ℕ → ℕ
    pub clocks_are : r.clocks ≡ flat w (begins op n) rows ++ rest
    pub along : Along op B R r.position rows

  pub arrives-here :
      (i : ℕ) (rows : ℕ → ℕ → ℕ) → i ≤ n → (i < n → op i ≡ Begin (begins op i)) → Along op B R i rows →
      Arrives i (record { position = i; clocks = flat w (begins op n) rows ++ rest })
  arrives-here i rows h k f = record {
    later = omega arith;
    inside = h;
    none_begun = refl;
    at-begin = k;
    rows = rows;
    clocks_are = refl;
    along = f;
  }

  -- from a record that is no begin on
  pub arrives-next : (i : ℕ) (r : Walked) → begins op (suc i) ≡ begins op i → Arrives (suc i) r → Arrives i r
  arrives-next i r b a = record {
    later = omega (arith, a.later);
    inside = a.inside;
    none_begun = a.none_begun ∙ b;
    at-begin = λ h. a.at-begin h ∙ ap Begin b;
    rows = a.rows;
    clocks_are = a.clocks_are;
    along = a.along;
  }

-- a row that has begun is 0 where no chain is taken and past its own number
abbrev pub ZeroPast : (ℕ → Ordering) → (ℕ → ℕ → ℕ) → ℕ → ℕ → ℕ → Type 0
ZeroPast op R w chains i = (p c : ℕ) → p < begins op i → c < w → (chains ≤ c) ⊎ (p < c) → R p c ≡ 0

module _
    (op : ℕ → Ordering) (n : ℕ) (o : Ordered op n) (within : (i p u : ℕ) → i < n → op i ≡ Link p u → u < begins op n)
    (B R : ℕ → ℕ → ℕ) (w chains : ℕ) (narrow : w ≤ 1024) (rest : List ℕ) where
  -- where k records are left
  pub walked :
      (k i : ℕ) (rows : ℕ → ℕ → ℕ) (cs : List ℕ) → i + k ≡ n → cs ≡ flat w (begins op n) rows ++ rest → Along op B R i rows → ZeroPast op R w chains i →
      Arrives op n B R w rest i (walk op w chains k i cs)
  unfolding walk
  walked zero i rows cs z e f s = rw e (arrives-here op n B R w rest i rows (omega arith) (λ h. absurd (omega arith)) f)
  walked (suc k) i rows cs z e f s = go (op i) refl (λ rows' cs'. walked k (suc i) rows' cs' (omega arith))
    where
      h : i < n
      h = omega arith

      go : (x : Ordering) → op i ≡ x →
          ((rows' : ℕ → ℕ → ℕ) (cs' : List ℕ) → cs' ≡ flat w (begins op n) rows' ++ rest → Along op B R (suc i) rows' → ZeroPast op R w chains (suc i) → Arrives op n B R w rest (suc i) (walk op w chains k (suc i) cs')) →
          Arrives op n B R w rest i (walk_on (stops x) i (merged_with w chains x cs) (walk op w chains k (suc i)))
      go (Link p u) x next =
          let b = begins-suc op i (Link p u) x in
          let g = link-between op n o i p u h x in
          let z : (c : ℕ) → c < w → (chains ≤ c) ⊎ (p < c) → rows p c ≡ 0 = λ c a d. f.done p c g.0 ∙ s p c g.0 a d in
          let m = ap (merge_row w chains p u) e ∙ merged-row w (begins op n) rest rows chains p u narrow (omega (arith, g.0, g.1)) (within i p u h x) z in
          arrives-next op n B R w rest i _ b (next (merge_into rows p u) (merge_row w chains p u cs) m (along-link op B R n o i p u rows h x f) (λ q c a d j. s q c (omega (arith, b)) d j))
      go (Begin u) x next = rw e (arrives-here op n B R w rest i rows (omega arith) (λ q. x ∙ ap Begin (begin-next op n o i u h x)) f)
      go Nothing x next =
          let b = begins-suc op i Nothing x in
          arrives-next op n B R w rest i _ b (next rows cs e (along-other op B R i rows x f) (λ q c a d j. s q c (omega (arith, b)) d j))

-- the walk as a loop makes it, from record i up to n
module _ (op : ℕ → Ordering) (w chains n i : ℕ) (cs : List ℕ) where
  pub walk-over : n ≤ i → walk op w chains (n - i) i cs ≡ record { position = i; clocks = cs }
  unfolding walk
  walk-over h = let e : n - i ≡ 0 = omega arith in rw e

  module _ (h : i < n) where
    pub walk-stop : stops (op i) ≡ true → walk op w chains (n - i) i cs ≡ record { position = i; clocks = merged_with w chains (op i) cs }
    unfolding walk
    walk-stop t = let e : n - i ≡ suc (n - suc i) = omega arith in rw (e, t)

    pub walk-next : stops (op i) ≡ false → walk op w chains (n - i) i cs ≡ walk op w chains (n - (i + 1)) (i + 1) (merged_with w chains (op i) cs)
    unfolding walk
    walk-next t =
        let e : n - i ≡ suc (n - suc i) = omega arith in
        let j : i + 1 ≡ suc i = omega arith in
        rw (e, t, j)

-- past records that say nothing
pub walk-past :
    (op : ℕ → Ordering) (w chains n : ℕ) (cs : List ℕ) (k i : ℕ) → i + k ≤ n → ((j : ℕ) → i ≤ j → j < i + k → op j ≡ Nothing) →
    walk op w chains (n - i) i cs ≡ walk op w chains (n - (i + k)) (i + k) cs
walk-past op w chains n cs zero i h f = let e : i + 0 ≡ i = omega arith in rw e
walk-past op w chains n cs (suc k) i h f =
    let o = f i (omega arith) (omega arith) in
    let j : i + suc k ≡ (i + 1) + k = omega arith in
    walk-next op w chains n i cs (omega arith) (ap stops o)
    ∙ (ap (walk op w chains (n - (i + 1)) (i + 1)) (ap (λ x. merged_with w chains x cs) o)
    ∙ rw j (walk-past op w chains n cs k (i + 1) (omega arith) (λ x a b. f x (omega arith) (omega arith))))

-- a read or a write says nothing of links and begins
pub access-other : (ranks : ℕ → ℕ) (r : Record) → 5 ≤ r.kind → ordering_of ranks r ≡ Nothing
unfolding ordering_of
access-other ranks r h = rw (ne_eqb r.kind 1 (omega arith), ne_eqb r.kind 3 (omega arith), ne_eqb r.kind 4 (omega arith))

-- the walk starts past the accesses
pub walk-skips :
    (tr : List Record) (ranks : List ℕ) (w chains from : ℕ) (cs : List ℕ) →
    walk (ordering_by tr ranks) w chains (length tr - (from + leading tr (length tr - from) from)) (from + leading tr (length tr - from) from) cs
    ≡ walk_from tr ranks w chains from cs
unfolding walk_from
walk-skips tr ranks w chains from cs = go (decide-lt (length tr) from)
  where
    k : ℕ
    k = leading tr (length tr - from) from

    go : (length tr < from) ⊎ (from ≤ length tr) → walk (ordering_by tr ranks) w chains (length tr - (from + k)) (from + k) cs ≡ walk (ordering_by tr ranks) w chains (length tr - from) from cs
    go (inl h) = let e : from + k ≡ from = leading-over tr (length tr) from (omega arith) in rw e
    go (inr h) = sym (walk-past (ordering_by tr ranks) w chains (length tr) cs k from (omega (arith, leading_le tr (length tr - from) from)) (λ j a b. access-other (λ e. get_or ranks e 0) (at tr j) (leading-accesses tr (length tr - from) from j a b)))
