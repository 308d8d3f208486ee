-- The records of an acceptable trace stand in order, as the pass over them takes forks and joins. Assumes nothing.
use Prim.Native.Nat.{ℕ, zero, suc, ◌<◌, ◌≤◌}
use mathlib.Core.Path.{◌≡◌, refl, sym, ap, ◌∙◌, subst, fun_ext}
use mathlib.Core.Bool.{false}
use mathlib.Core.List.{List}
use mathlib.Core.Logic.{◌≢◌, ◌⊎◌, inl, inr}
use native.Mathlib.Omega.{arith}
use native.Mathlib.Decide.{ℕ_discrete}
use borrow.Author.Tests.{eq-eqb, ne_eqb, eqb-true}
use lib.ListN.{length}
use Rattle.records.specs.declared.Record.{Record}
use Rattle.records.specs.Records.{at, is_begin, is_fork, is_join}
use Rattle.trace.specs.Reading.{Acceptable}
use Rattle.records.specs.Kinds.{has_send}
use Rattle.records.proofs.Positions.{Found}
use Rattle.records.proofs.Sends.{no_send}
use Rattle.trace.proofs.Blocks.{join-before-begin, body-after-begin, fork-before-begin, join-after-end}
use Rattle.order.specs.loops.Standing.{begins, begins_by, Stands, Ordered, Makes}
use Rattle.ranks.specs.declared.Ordering.{Ordering}
use Rattle.ranks.specs.declared.Ordering.TheVariants.{Link as link, Begin, Nothing}
use Rattle.ranks.specs.OrderingOf.{link_of, ordering_of}
use Rattle.order.specs.Rank.{rank}
use Rattle.order.specs.HappensBefore.{Begins, trace_links}
use Rattle.order.specs.loops.RecordLinks.{ordering_at, record_links}
use Rattle.order.proofs.ScheduleLaws.{begins-zero, begins-suc, links-made}
use Rattle.order.proofs.Counted.{counted, counted-begin, counted-zero, counted-other, counted-more, counted-passes}
use Rattle.order.proofs.LinkRuleLaws.{Linked, says-link, without-sends}
use Rattle.order.proofs.TraceOrder.{ranked, rank-begins, begins-rank, begins-at}

module _ {tr : List Record} (a : Acceptable tr) where
  -- what a record says, kind by kind
  op-begin : (i : ℕ) → i < length tr → (at tr i).kind ≡ 1 → ordering_at tr i ≡ Begin (counted tr i)
  unfolding ordering_at ordering_of
  op-begin i h k = rw (eq-eqb (at tr i).kind 1 k, ranked a i h k) (ap Begin (omega arith))

  op-fork : (i : ℕ) → (at tr i).kind ≡ 3 → ordering_at tr i ≡ link_of (rank tr (at tr i).first) (rank tr (at tr i).second)
  unfolding ordering_at ordering_of
  op-fork i k = rw k

  op-join : (i : ℕ) → (at tr i).kind ≡ 4 → ordering_at tr i ≡ link_of (rank tr (at tr i).second) (rank tr (at tr i).first)
  unfolding ordering_at ordering_of
  op-join i k = rw k

  op-other : (i : ℕ) → (at tr i).kind ≢ 1 → (at tr i).kind ≢ 3 → (at tr i).kind ≢ 4 → ordering_at tr i ≡ Nothing
  unfolding ordering_at ordering_of
  op-other i x y z = rw (ne_eqb (at tr i).kind 1 x, ne_eqb (at tr i).kind 3 y, ne_eqb (at tr i).kind 4 z)

  data Said (i : ℕ) : Type 0 where
    begins_it : (at tr i).kind ≡ 1 → Said i
    forks_it : (at tr i).kind ≡ 3 → Said i
    joins_it : (at tr i).kind ≡ 4 → Said i
    nothing : (at tr i).kind ≢ 1 → (at tr i).kind ≢ 3 → (at tr i).kind ≢ 4 → Said i

  said : (i : ℕ) → Said i
  said i = go (ℕ_discrete (at tr i).kind 1) (ℕ_discrete (at tr i).kind 3) (ℕ_discrete (at tr i).kind 4)
    where
      go : Dec ((at tr i).kind ≡ 1) → Dec ((at tr i).kind ≡ 3) → Dec ((at tr i).kind ≡ 4) → Said i
      go (yes k) _ _ = begins_it k
      go (no x) (yes k) _ = forks_it k
      go (no x) (no y) (yes k) = joins_it k
      go (no x) (no y) (no z) = nothing x y z

  -- the begins that the ops count are the trace's
  link-no-begin : (p u b : ℕ) → begins_by (link_of p u) b ≡ b
  link-no-begin zero u b = refl
  link-no-begin (suc p) zero b = refl
  link-no-begin (suc p) (suc u) b = refl

  pub ops-begins : (i : ℕ) → i ≤ length tr → begins (ordering_at tr) i ≡ counted tr i
  ops-begins zero h = begins-zero (ordering_at tr) ∙ sym (counted-zero tr)
  ops-begins (suc i) h = begins-suc (ordering_at tr) i (ordering_at tr i) refl ∙ go (said i) (ops-begins i (omega arith))
    where
      go : Said i → begins (ordering_at tr) i ≡ counted tr i → begins_by (ordering_at tr i) (begins (ordering_at tr) i) ≡ counted tr (suc i)
      go (begins_it k) ih = rw (op-begin i h k, counted-begin tr i k) (omega arith)
      go (forks_it k) ih =
          rw (op-fork i k)
          (link-no-begin (rank tr (at tr i).first) (rank tr (at tr i).second) (begins (ordering_at tr) i) ∙ ih ∙ sym (counted-other tr i (λ z. omega arith)))
      go (joins_it k) ih =
          rw (op-join i k)
          (link-no-begin (rank tr (at tr i).second) (rank tr (at tr i).first) (begins (ordering_at tr) i) ∙ ih ∙ sym (counted-other tr i (λ z. omega arith)))
      go (nothing x y z) ih = rw (op-other i x y z) (ih ∙ sym (counted-other tr i x))

  -- Of a link that a record makes: one that has begun before the record, and one that begins after it.
  begun-by : (e j i : ℕ) → j < i → i ≤ length tr → (at tr j).kind ≡ 1 → (at tr j).first ≡ e → (p : ℕ) → rank tr e ≡ suc p → p < counted tr i
  begun-by e j i l h k q p r =
      let m = counted-passes tr j i l k in
      let n = rw q at (ranked a j (omega arith) k) in
      omega arith

  begun-from : (e i : ℕ) (b : Begins tr e) → i ≤ b.position → (p : ℕ) → rank tr e ≡ suc p → counted tr i ≤ p
  begun-from e i b l p r =
      let m = counted-more tr i b.position l in
      let n = begins-rank a b in
      omega arith

  found-by : (e i : ℕ) → i ≤ length tr → Found tr is_begin e i → (p : ℕ) → rank tr e ≡ suc p → p < counted tr i
  found-by e i h f p r = begun-by e f.at_position i f.earlier h (eqb-true (at tr f.at_position).kind 1 f.passes) f.event p r

  some-rank : (e p : ℕ) → rank tr e ≡ suc p → Begins tr e
  some-rank e p r = rank-begins a e (λ z. omega arith)

  fork-stands : (i : ℕ) → i < length tr → (at tr i).kind ≡ 3 → (p u : ℕ) → rank tr (at tr i).first ≡ p → rank tr (at tr i).second ≡ u
      → Stands (counted tr i) (link_of p u)
  fork-stands i h k zero u r s = tt
  fork-stands i h k (suc p) zero r s = tt
  fork-stands i h k (suc p) (suc u) r s =
      let b = some-rank (at tr i).second u s in
      let l = fork-before-begin a i b.position h k (begins-at a b) (sym b.of_event) in
      let f = body-after-begin a i h (λ z. omega arith) (λ z. omega arith) in
      (found-by (at tr i).first i (omega arith) f p r, begun-from (at tr i).second i b (omega arith) u s)

  -- the event that a join waits for has begun before
  waited-found : (i : ℕ) → i < length tr → (at tr i).kind ≡ 4 → Found tr is_begin (at tr i).second i
  waited-found i h k =
      let f = join-after-end a i h k in
      let l = f.earlier in
      let e = eqb-true (at tr f.at_position).kind 2 f.passes in
      let g = body-after-begin a f.at_position (omega arith) (λ z. omega arith) (λ z. omega arith) in
      let m = g.earlier in
      record { at_position = g.at_position; earlier = omega arith; passes = g.passes; event = g.event ∙ f.event }

  join_stands : (i : ℕ) → i < length tr → (at tr i).kind ≡ 4 → (p u : ℕ) → rank tr (at tr i).second ≡ p → rank tr (at tr i).first ≡ u
      → Stands (counted tr i) (link_of p u)
  join_stands i h k zero u r s = tt
  join_stands i h k (suc p) zero r s = tt
  join_stands i h k (suc p) (suc u) r s =
      let b = some-rank (at tr i).first u s in
      let l = join-before-begin a i b.position h k (begins-at a b) (sym b.of_event) in
      (found-by (at tr i).second i (omega arith) (waited-found i h k) p r, begun-from (at tr i).first i b (omega arith) u s)

  -- event actions begin in order, and links go from one that has begun to one that has not
  pub ops-ordered : Ordered (ordering_at tr) (length tr)
  ops-ordered i h = rw (ops-begins i (omega arith)) (go (said i))
    where
      go : Said i → Stands (counted tr i) (ordering_at tr i)
      go (begins_it k) = rw (op-begin i h k) refl
      go (forks_it k) = rw (op-fork i k) (fork-stands i h k _ _ refl refl)
      go (joins_it k) = rw (op-join i k) (join_stands i h k _ _ refl refl)
      go (nothing x y z) = rw (op-other i x y z) tt

  -- the first record begins the first event action
  pub first-begins : 0 < length tr → ordering_at tr 0 ≡ Begin 0
  first-begins h = go (ℕ_discrete (at tr 0).kind 1) (ℕ_discrete (at tr 0).kind 4)
    where
      go : Dec ((at tr 0).kind ≡ 1) → Dec ((at tr 0).kind ≡ 4) → ordering_at tr 0 ≡ Begin 0
      go (yes k) d = op-begin 0 h k ∙ ap Begin (counted-zero tr)
      go (no x) (yes k) = absurd (omega (arith, (waited-found 0 h k).earlier))
      go (no x) (no y) = absurd (omega (arith, (body-after-begin a 0 h x y).earlier))

  -- the later end of a link begins in the trace
  target : (i p u : ℕ) → ordering_at tr i ≡ link p u → (v : ℕ) × (rank tr v ≡ suc u)
  unfolding ordering_at ordering_of
  target i p u e = go (says-link (is_begin r) (is_fork r) (is_join r) _ x y y x p u e)
    where
      r : Record
      r = at tr i

      x : ℕ
      x = rank tr r.first

      y : ℕ
      y = rank tr r.second

      go : Linked (is_fork r) x y p u ⊎ Linked (is_join r) y x p u → (v : ℕ) × (rank tr v ≡ suc u)
      go (inl (_, _, q)) = (r.second, q)
      go (inr (_, _, q)) = (r.first, q)

  pub link-target : (i p u : ℕ) → i < length tr → ordering_at tr i ≡ link p u → u < begins (ordering_at tr) (length tr)
  link-target i p u h e =
      let (v, r) = target i p u e in
      let b = some-rank v u r in
      let c = counted-passes tr b.position (length tr) b.inside (begins-at a b) in
      omega (arith, begins-rank a b, r, ops-begins (length tr) (omega arith))

  -- only a begin begins
  pub op-kind : (i u : ℕ) → ordering_at tr i ≡ Begin u → (at tr i).kind ≡ 1
  op-kind i u e = go (said i)
    where
      link-begins : (x y : ℕ) → link_of x y ≡ Begin u → ⊥
      link-begins zero y q = let z : ◌≡◌ {A = ℕ} 0 1 = cc in omega arith
      link-begins (suc x) zero q = let z : ◌≡◌ {A = ℕ} 0 1 = cc in omega arith
      link-begins (suc x) (suc y) q = let z : ◌≡◌ {A = ℕ} 0 1 = cc in omega arith

      other-begins : (o : Ordering) → o ≡ Nothing → o ≡ Begin u → ⊥
      other-begins o p q = let z : ◌≡◌ {A = ℕ} 0 1 = cc in omega arith

      go : Said i → (at tr i).kind ≡ 1
      go (begins_it k) = k
      go (forks_it k) = absurd (link-begins (rank tr (at tr i).first) (rank tr (at tr i).second) (sym (op-fork i k) ∙ e))
      go (joins_it k) = absurd (link-begins (rank tr (at tr i).second) (rank tr (at tr i).first) (sym (op-join i k) ∙ e))
      go (nothing x y z) = absurd (other-begins (ordering_at tr i) (op-other i x y z) e)

-- Without sends the links are those that the records make.
module _ (tr : List Record) (none : has_send tr ≡ false) where
  pub links-of-records : trace_links tr ≡ record_links tr
  links-of-records = ap (λ (f : ℕ → List ℕ). record { preds = f }) (fun_ext (without-sends tr (no_send tr none)))

  pub records-make : Makes (ordering_at tr) (length tr) (trace_links tr)
  records-make = subst (Makes (ordering_at tr) (length tr)) (sym links-of-records) (links-made (ordering_at tr) (length tr))
