-- The rows that the link rule puts before a row, what records say with sends, and that without sends nothing changes. Assumes nothing.
use Prim.Native.Nat.{ℕ, zero, suc, ◌-◌, ◌<◌, ◌≤◌}
use mathlib.Core.Path.{◌≡◌, refl, sym, ap, subst}
use mathlib.Core.Bool.{Bool, true, false, cond, not, ◌&&◌}
use mathlib.Core.List.Memᴰ
use mathlib.Core.List.{List, []}
use mathlib.Core.Logic.{◌≢◌, ◌⊎◌, inl, inr}
use native.Mathlib.Omega.{arith}
use borrow.Author.Tests.{ne_eqb}
use lib.Dec.{T, eqb, ltb, eqb→eq, ltb→lt, lt→ltb}
use lib.ListN.{length}
use Rattle.records.specs.declared.Record.{Record}
use Rattle.records.specs.Records.{at, is_begin, is_fork, is_join}
use Rattle.slices.proofs.Tests.{both, and, either, or_left, decide, decide_eq, eq→eqb, passed, failed, same as equal-tests}
use Rattle.coverage.specs.Below.{some, upto}
use Rattle.coverage.proofs.Below.{found, find}
use Rattle.coverage.proofs.Lists.{in_map, map-in, in-upto, upto-in, upto-empty}
use Rattle.records.specs.Kinds.{is_send, starts, same_link}
use Rattle.precedence.specs.Table.{table, ahead}
use Rattle.precedence.proofs.Rows.{begin-no-fork}
use Rattle.ranks.specs.declared.Ordering.{Ordering}
use Rattle.ranks.specs.declared.Ordering.TheVariants.{Link as link, Begin, Nothing}
use Rattle.ranks.specs.OrderingOf.{link_of, pick_ordering, ordering_of}
use Rattle.order.specs.Links.{◌∈◌}
use Rattle.order.specs.Schedule.{linked, linked_by}
use Rattle.order.specs.Rank.{rank}
use Rattle.order.specs.HappensBefore.{trace_links}
use Rattle.order.specs.loops.RecordLinks.{ordering_at, record_links}
use Rattle.order.specs.LinkRule.{linking_of, linking_at, puts_behind, targets_at, behind}
use Rattle.order.proofs.Counted.{counted, counted-passes}

differ : (m n : ℕ) → T (not (eqb m n)) → m ≢ n
differ m n h e = subst (λ b. T (not b)) (passed (eqb m n) (eq→eqb m n e)) h

-- what says a link, of the cases in turn
abbrev pub Linked : Bool → ℕ → ℕ → ℕ → ℕ → Type 0
Linked b x y p u = T b × (x ≡ suc p) × (y ≡ suc u)

link-parts : (b : Bool) (x y p u : ℕ) → T b → link_of x y ≡ link p u → Linked b x y p u
link-parts b zero y p u h e = let z : ◌≡◌ {A = ℕ} 0 1 = cc in absurd (omega arith)
link-parts b (suc x) zero p u h e = let z : ◌≡◌ {A = ℕ} 0 1 = cc in absurd (omega arith)
link-parts b (suc x) (suc y) p u h e = let q : x ≡ p = cc in let r : y ≡ u = cc in (h, ap suc q, ap suc r)

pub says-link : (a b c : Bool) (k x y v z p u : ℕ) → pick_ordering a (Begin k) (pick_ordering b (link_of x y) (pick_ordering c (link_of v z) Nothing)) ≡ link p u
    → Linked b x y p u ⊎ Linked c v z p u
says-link true b c k x y v z p u e = let n : ◌≡◌ {A = ℕ} 0 1 = cc in absurd (omega arith)
says-link false true c k x y v z p u e = inl (link-parts true x y p u tt e)
says-link false false true k x y v z p u e = inr (link-parts true v z p u tt e)
says-link false false false k x y v z p u e = let n : ◌≡◌ {A = ℕ} 0 1 = cc in absurd (omega arith)

module _ (tr : List Record) where
  -- a fork or send says a link, and a join does
  pub says-start : (i : ℕ) → T (starts (at tr i)) → linking_at tr i ≡ link_of (rank tr (at tr i).first) (rank tr (at tr i).second)
  unfolding linking_at linking_of
  says-start i h = rw (failed (is_begin (at tr i)) (λ b. begin-no-fork (at tr i) b h), passed (starts (at tr i)) h)

  pub says-join : (i : ℕ) → T (is_join (at tr i)) → linking_at tr i ≡ link_of (rank tr (at tr i).second) (rank tr (at tr i).first)
  unfolding linking_at linking_of
  says-join i h = rw (eqb→eq (at tr i).kind 4 h)

  -- the rows by the link rule are those found at the row's begin
  pub record Behind (n u p : ℕ) : Type 0 where
    pub position : ℕ
    pub inside : position < n
    pub is-begin : T (is_begin (at tr position))
    pub number : counted tr position ≡ u
    pub target : p ∈ targets_at tr position

  pub behind-found : (n u p : ℕ) → p ∈ behind tr n u → Behind n u p
  unfolding behind
  behind-found zero u p m = absurd (Memᴰ.not-nil m)
  behind-found (suc n) u p m = go (decide (is_begin (at tr n) && eqb (counted tr n) u)) m (behind-found n u p)
    where
      go : T (is_begin (at tr n) && eqb (counted tr n) u) ⊎ (T (is_begin (at tr n) && eqb (counted tr n) u) → ⊥)
          → p ∈ cond (is_begin (at tr n) && eqb (counted tr n) u) (targets_at tr n) (behind tr n u) → (p ∈ behind tr n u → Behind n u p) → Behind (suc n) u p
      go (inl h) k f =
          let (x, y) = both (is_begin (at tr n)) (eqb (counted tr n) u) h in
          record {
            position = n;
            inside = omega arith;
            is-begin = x;
            number = eqb→eq (counted tr n) u y;
            target = rw (passed (is_begin (at tr n) && eqb (counted tr n) u) h) at k;
          }
      go (inr h) k f =
          let b = f (rw (failed (is_begin (at tr n) && eqb (counted tr n) u) h) at k) in
          let l = b.inside in
          record { position = b.position; inside = omega arith; is-begin = b.is-begin; number = b.number; target = b.target }

  pub behind-here : (n i p : ℕ) → i < n → T (is_begin (at tr i)) → p ∈ targets_at tr i → p ∈ behind tr n (counted tr i)
  unfolding behind
  behind-here zero i p l b m = absurd (omega arith)
  behind-here (suc n) i p l b m = go (decide_eq i n) (behind-here n i p)
    where
      go : (i ≡ n) ⊎ (i ≢ n) → (i < n → T (is_begin (at tr i)) → p ∈ targets_at tr i → p ∈ behind tr n (counted tr i)) → p ∈ behind tr (suc n) (counted tr i)
      go (inl e) f =
          let h = and (is_begin (at tr n)) (eqb (counted tr n) (counted tr i)) (rw (← e) b) (eq→eqb (counted tr n) (counted tr i) (ap (counted tr) (sym e))) in
          rw (passed (is_begin (at tr n) && eqb (counted tr n) (counted tr i)) h) (subst (λ (x : ℕ). p ∈ targets_at tr x) e m)
      go (inr d) f =
          let l : i < n = omega arith in
          let h : T (is_begin (at tr n) && eqb (counted tr n) (counted tr i)) → ⊥ = λ x.
          let e = eqb→eq (counted tr n) (counted tr i) (both (is_begin (at tr n)) (eqb (counted tr n) (counted tr i)) x).1 in
          omega (arith, counted-passes tr i n l (eqb→eq (at tr i).kind 1 b)) in
          rw (failed (is_begin (at tr n) && eqb (counted tr n) (counted tr i)) h) (f l b m)

  -- sends x and y that put what record i begins behind x's target
  pub record Sends (i x y : ℕ) : Type 0 where
    pub earlier : x < y
    pub inside : y < i
    pub another : (at tr x).second ≢ (at tr i).first
    pub one_link : T (same_link (at tr x) (at tr y))
    pub to : (at tr y).second ≡ (at tr i).first
    pub senders : T (table tr i (at tr x).first (at tr y).first)

  pub sends-of : (i x : ℕ) → T (puts_behind tr i x) → (y : ℕ) × Sends i x y
  unfolding puts_behind ahead
  sends-of i x h =
      let (a, b) = both (not (eqb (at tr x).second (at tr i).first)) (some i (λ y. ltb x y && ahead tr (table tr i) (at tr i).first x y)) h in
      let (y, k, g) = found i (λ y. ltb x y && ahead tr (table tr i) (at tr i).first x y) b in
      let (c, d) = both (ltb x y) (ahead tr (table tr i) (at tr i).first x y) g in
      let (o, f) = both (same_link (at tr x) (at tr y)) (eqb (at tr y).second (at tr i).first && table tr i (at tr x).first (at tr y).first) d in
      let (q, r) = both (eqb (at tr y).second (at tr i).first) (table tr i (at tr x).first (at tr y).first) f in (
        y,
        record {
          earlier = ltb→lt x y c;
          inside = k;
          another = differ (at tr x).second (at tr i).first a;
          one_link = o;
          to = eqb→eq (at tr y).second (at tr i).first q;
          senders = r;
        },
      )

  pub sends-found : (i p : ℕ) → p ∈ targets_at tr i → (x : ℕ) × (y : ℕ) × Sends i x y × (p ≡ rank tr (at tr x).second - 1)
  unfolding targets_at
  sends-found i p m =
      let (x, n, e) = in_map (λ x. rank tr (at tr x).second - 1) (upto i (puts_behind tr i)) m in
      let (y, s) = sends-of i x (in-upto i (puts_behind tr i) n).1 in
      (x, y, s, e)

  pub sends-in : (i x y : ℕ) → Sends i x y → (rank tr (at tr x).second - 1) ∈ targets_at tr i
  unfolding targets_at puts_behind ahead
  sends-in i x y s =
      let k = s.earlier in
      let l = s.inside in
      let e = (at tr i).first in
      let d = and (eqb (at tr y).second e) (table tr i (at tr x).first (at tr y).first) (eq→eqb (at tr y).second e s.to) s.senders in
      let c = and (same_link (at tr x) (at tr y)) (eqb (at tr y).second e && table tr i (at tr x).first (at tr y).first) s.one_link d in
      let b = find i (λ y. ltb x y && ahead tr (table tr i) e x y) y l (and (ltb x y) (ahead tr (table tr i) e x y) (lt→ltb x y k) c) in
      let n : T (not (eqb (at tr x).second e)) = rw (ne_eqb (at tr x).second e s.another) tt in
      map-in (λ x. rank tr (at tr x).second - 1) (upto-in i (puts_behind tr i) x (omega arith)
      (and (not (eqb (at tr x).second e)) (some i (λ y. ltb x y && ahead tr (table tr i) e x y)) n b))

-- Without sends nothing changes: the links are those by forks and joins.
linked-local : (op op' : ℕ → Ordering) (n u : ℕ) → ((i : ℕ) → i < n → op i ≡ op' i) → linked op n u ≡ linked op' n u
unfolding linked
linked-local op op' zero u f = refl
linked-local op op' (suc n) u f = rw (f n (omega arith)) (ap (linked_by (op' n) u) (linked-local op op' n u (λ i l. f i (omega arith))))

module _ (tr : List Record) (none : (i : ℕ) → i < length tr → T (is_send (at tr i)) → ⊥) where
  forks-only : (i : ℕ) → i < length tr → starts (at tr i) ≡ is_fork (at tr i)
  forks-only i h =
      equal-tests (starts (at tr i)) (is_fork (at tr i)) (λ s. go (either (is_fork (at tr i)) (is_send (at tr i)) s))
      (or_left (is_fork (at tr i)) (is_send (at tr i)))
    where
      go : T (is_fork (at tr i)) ⊎ T (is_send (at tr i)) → T (is_fork (at tr i))
      go (inl k) = k
      go (inr k) = absurd (none i h k)

  same-ordering : (i : ℕ) → i < length tr → linking_at tr i ≡ ordering_at tr i
  unfolding linking_at linking_of ordering_at ordering_of
  same-ordering i h = rw (forks-only i h)

  no_targets : (i : ℕ) → i ≤ length tr → targets_at tr i ≡ []
  unfolding targets_at same_link
  no_targets i h = rw (upto-empty i (puts_behind tr i) (λ x l k.
      let (y, s) = sends-of tr i x k in
      none x (omega arith) (both (is_send (at tr x)) (eqb (at tr x).kind (at tr y).kind) s.one_link).0))

  none-behind : (n u : ℕ) → n ≤ length tr → behind tr n u ≡ []
  unfolding behind
  none-behind zero u h = refl
  none-behind (suc n) u h = rw (no_targets n (omega arith), none-behind n u (omega arith)) (either_way (is_begin (at tr n) && eqb (counted tr n) u) [])
    where
      either_way : (b : Bool) (l : List ℕ) → cond b l l ≡ l
      either_way true l = refl
      either_way false l = refl

  pub without-sends : (u : ℕ) → (trace_links tr).preds u ≡ (record_links tr).preds u
  without-sends u = rw (none-behind (length tr) u (omega arith)) (linked-local (linking_at tr) (ordering_at tr) (length tr) u same-ordering)
