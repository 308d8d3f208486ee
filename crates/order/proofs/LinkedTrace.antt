-- The links of a whole trace with sends go forward, are the direct links by event number, and give happens-before. Assumes nothing.
use Prim.Native.Nat.{ℕ, zero, suc, ◌-◌, ◌<◌, ◌≤◌}
use mathlib.Core.Path.{◌≡◌, refl, sym, ap, ◌∙◌, subst}
use mathlib.Core.Bool.{Bool, ◌&&◌, ◌||◌}
use mathlib.Core.List.Memᴰ
use mathlib.Core.List.{List}
use mathlib.Core.Logic.{◌≢◌, ◌⊎◌, inl, inr, ◌↔◌}
use native.Mathlib.Omega.{arith}
use native.Mathlib.Nat.{suc_inj}
use lib.Dec.{T, eqb, eqb→eq}
use lib.ListN.{length}
use Rattle.records.specs.declared.Record.{Record}
use Rattle.records.specs.Records.{at, past, is_begin, is_join, begun as has-begun}
use Rattle.slices.proofs.Tests.{both, either, or_left, or_right, decide_eq, eq→eqb, same as equal-tests}
use Rattle.records.specs.Kinds.{starts}
use Rattle.precedence.specs.Before.{Begins, same, start, join, behind as behind-by, path, HappensBefore, Link, starts_it, joins_it, behind_it}
use Rattle.precedence.specs.Table.{table, happens_before}
use Rattle.precedence.specs.Sound.{Whole}
use Rattle.precedence.proofs.Rows.{link-first, link-second, begins-later, begun-begins, start-before, target-begun, final}
use Rattle.precedence.proofs.Exact.{record-told, told, record-complete, begins-back}
use Rattle.precedence.proofs.Theorems.{table-decides, begins-order, test-sound, test-complete, test-decides, link-holds, link-differs}
use Rattle.precedence.proofs.Setting.{setting_of}
use Rattle.ranks.specs.declared.Ordering.TheVariants.{Link as link}
use Rattle.ranks.specs.OrderingOf.{link_of}
use Rattle.order.specs.Links.{Forward, leq, ◌⊢◌≼◌, ◌∈◌}
use Rattle.order.specs.Links as links
use Rattle.order.specs.Clocks.{chain_of}
use Rattle.order.specs.Schedule.{linked}
use Rattle.order.specs.Rank.{rank}
use Rattle.order.specs.HappensBefore.{trace_links, leq_ranks}
use Rattle.order.specs.LinkRule.{linking_of, linking_at, targets_at, behind}
use Rattle.order.specs.loops.Numbering.{Numbered, InOrder, Preds}
use Rattle.order.proofs.OrderLaws.{≼_trans, leq-decides}
use Rattle.order.proofs.ClockLaws.{chain-≼}
use Rattle.order.proofs.ScheduleLaws.{linked-exact}
use Rattle.order.proofs.Counted.{counted, counted-more, counted-passes, rank-at, rank-found}
use Rattle.order.proofs.EventRows.{events, name_of, begin_of, begun}
use Rattle.order.proofs.LinkRuleLaws.{Linked, says-link, says-start, says-join, Behind, behind-found, behind-here, Sends, sends-found, sends-in}

module _ {tr : List Record} (w : Whole tr) where
  pub begins-at : {e : ℕ} (b : Begins tr (length tr) e) → (at tr b.position).kind ≡ 1
  begins-at b = eqb→eq (at tr b.position).kind 1 b.is-begin

  -- an event that begins has a rank, and one with a rank begins
  pub begins-rank : {e : ℕ} (b : Begins tr (length tr) e) → rank tr e ≡ suc (counted tr b.position)
  unfolding rank
  begins-rank {e} b =
      rank-at tr e b.position (length tr) b.inside (begins-at b) b.of_event
      (λ k l q f. w.sound.begins_once k b.position l b.inside (eq→eqb (at tr k).kind 1 q) b.is-begin (f ∙ sym b.of_event))
      ∙ omega arith

  pub rank-begins : (e p : ℕ) → rank tr e ≡ suc p → Begins tr (length tr) e
  unfolding rank
  rank-begins e p r =
      let f = rank-found tr e (length tr) (λ z. omega arith) in
      record { position = f.at_position; inside = f.earlier; is-begin = subst T (sym f.passes) tt; of_event = f.event }

  -- two events of one rank are one
  pub rank-one : (t u p : ℕ) → rank tr t ≡ suc p → rank tr u ≡ suc p → t ≡ u
  rank-one t u p r s =
      let b = rank-begins t p r in
      let d = rank-begins u p s in
      let x = begins-rank b in
      let y = begins-rank d in
      let f : b.position < d.position → ⊥ = λ l. omega (arith, counted-passes tr b.position d.position l (begins-at b)) in
      let g : d.position < b.position → ⊥ = λ l. omega (arith, counted-passes tr d.position b.position l (begins-at d)) in
      let e : b.position ≡ d.position = omega (arith, f, g) in
      sym b.of_event ∙ ap (λ (i : ℕ). (at tr i).first) e ∙ d.of_event

  -- a link by event number is a link by rank
  pub record Ranked (t u : ℕ) : Type 0 where
    pub from : ℕ
    pub to : ℕ
    pub from_rank : rank tr t ≡ suc from
    pub to_rank : rank tr u ≡ suc to
    pub linked : from ∈ (trace_links tr).preds to

  by-record : (i p u : ℕ) → i < length tr → linking_at tr i ≡ link p u → p ∈ (trace_links tr).preds u
  by-record i p u h e = Memᴰ.append_right (behind tr (length tr) u) ((linked-exact (linking_at tr) (length tr) p u).1 (i, h, e))

  ranked : {t u : ℕ} (b : Begins tr (length tr) t) (c : Begins tr (length tr) u)
      → counted tr b.position ∈ (trace_links tr).preds (counted tr c.position) → Ranked t u
  ranked b c m = record { from = counted tr b.position; to = counted tr c.position; from_rank = begins-rank b; to_rank = begins-rank c; linked = m }

  send-ranked : {t u : ℕ} (x y : ℕ) (f : Begins tr (length tr) t) (g : Begins tr (length tr) u) → (at tr x).second ≡ t → Sends tr g.position x y → Ranked t u
  send-ranked {t} {u} x y f g e s =
      let r : rank tr (at tr x).second - 1 ≡ counted tr f.position = omega (arith, ap (rank tr) e, begins-rank f) in
      ranked f g (Memᴰ.append_left (linked (linking_at tr) (length tr) (counted tr g.position))
      (behind-here tr (length tr) g.position (counted tr f.position) g.inside g.is-begin
      (subst (λ (p : ℕ). p ∈ targets_at tr g.position) r (sends-in tr g.position x y s))))

  pub link-ranked : {t u : ℕ} → Link tr (length tr) t u → Ranked t u
  link-ranked {t} {u} (starts_it i l a e q b) =
      let c = subst (Begins tr (length tr)) e (w.all_begin i l) in
      let o : linking_at tr i ≡ link_of (rank tr t) (rank tr u) = rw (← e, ← q) (says-start tr i a) in
      ranked c b (by-record i _ _ l (o ∙ rw (begins-rank c, begins-rank b)))
  link-ranked {t} {u} (joins_it i l a e q) =
      let c = subst (Begins tr (length tr)) q (w.all_begin i l) in
      let b = subst (Begins tr (length tr)) e (begins-later tr (omega arith) (w.sound.waited_begun i l a)) in
      let o : linking_at tr i ≡ link_of (rank tr t) (rank tr u) = rw (← e, ← q) (says-join tr i a) in
      ranked b c (by-record i _ _ l (o ∙ rw (begins-rank b, begins-rank c)))
  link-ranked {t} {u} (behind_it x y l m c r e q f g d) =
      let a = link-second (at tr x) (at tr y) c in
      let (k, h) = record-complete w.sound r l m (link-first (at tr x) (at tr y) c) a in
      let z = g.inside in
      let b : Begins tr (length tr) (at tr y).second =
      record { position = g.position; inside = z; is-begin = g.is-begin; of_event = g.of_event ∙ sym q } in
      let j : y < g.position = start-before w.sound m a b in
      let v : Begins tr g.position (at tr y).first = begins-later tr (omega arith) (w.sound.starter_begun y m a) in
      send-ranked x y f g e (record {
        earlier = k;
        inside = j;
        another = λ n. d (sym e ∙ n ∙ g.of_event);
        one_link = c;
        to = q ∙ sym g.of_event;
        senders = final w.sound g.position (length tr) (at tr x).first (at tr y).first (omega arith) (omega arith) v h;
      })

  -- and the other way
  pub record Named (p u : ℕ) : Type 0 where
    pub from_event : ℕ
    pub to_event : ℕ
    pub from_rank : rank tr from_event ≡ suc p
    pub to_rank : rank tr to_event ≡ suc u
    pub linked : Link tr (length tr) from_event to_event

  record-named : (i p u : ℕ) → i < length tr → linking_at tr i ≡ link p u → Named p u
  unfolding linking_at linking_of
  record-named i p u h e = go (says-link (is_begin r) (starts r) (is_join r) _ x y y x p u e)
    where
      r : Record
      r = at tr i

      x : ℕ
      x = rank tr r.first

      y : ℕ
      y = rank tr r.second

      go : Linked (starts r) x y p u ⊎ Linked (is_join r) y x p u → Named p u
      go (inl (a, f, s)) =
          let b = rank-begins r.second u s in
          record { from_event = r.first; to_event = r.second; from_rank = f; to_rank = s; linked = starts_it i h a refl refl b }
      go (inr (a, f, s)) = record { from_event = r.second; to_event = r.first; from_rank = f; to_rank = s; linked = joins_it i h a refl refl }

  behind-named : (p u : ℕ) → Behind tr (length tr) u p → Named p u
  behind-named p u b =
      let (x, y, s, e) = sends-found tr b.position p b.target in
      go x y s e (target-begun w.sound b.position x y b.inside b.is-begin s.earlier s.inside s.one_link s.to s.senders)
    where
      i : ℕ
      i = b.position

      own : Begins tr (length tr) (at tr i).first
      own = record { position = i; inside = b.inside; is-begin = b.is-begin; of_event = refl }

      go : (x y : ℕ) → Sends tr i x y → p ≡ rank tr (at tr x).second - 1 → ((at tr x).second ≡ (at tr i).first) ⊎ Begins tr i (at tr x).second → Named p u
      go x y s e (inl z) = absurd (s.another z)
      go x y s e (inr f) =
          let l = b.inside in
          let k = s.inside in
          let m = s.earlier in
          let g : Begins tr (length tr) (at tr x).second = begins-later tr (omega arith) f in
          let a = link-second (at tr x) (at tr y) s.one_link in
          let n = b.number in
          let o = begins-rank own in
          let v = begins-rank g in
          let j : y < length tr = omega arith in
          let in_order = record-told w.sound i x y (told w.sound i (omega arith)) j a m s.senders in
          record {
            from_event = (at tr x).second;
            to_event = (at tr i).first;
            from_rank = omega arith;
            to_rank = omega arith;
            linked = behind_it x y (omega arith) j s.one_link in_order refl s.to g own s.another;
          }

  pub linked-named : (p u : ℕ) → p ∈ (trace_links tr).preds u → Named p u
  linked-named p u m = go (Memᴰ.append_cases (behind tr (length tr) u) m)
    where
      go : p ∈ behind tr (length tr) u ⊎ p ∈ linked (linking_at tr) (length tr) u → Named p u
      go (inl k) = behind-named p u (behind-found tr (length tr) u p k)
      go (inr k) = let (i, h, e) = (linked-exact (linking_at tr) (length tr) p u).0 k in record-named i p u h e

  link-before : {t u : ℕ} → Link tr (length tr) t u → HappensBefore tr t u
  link-before {t} {u} k = test-sound w t u (link-holds w k)

  -- "each direct predecessor begins earlier"
  pub forward-links : Forward (trace_links tr)
  forward-links u p m =
      let n = linked-named p u m in
      let b = rank-begins n.from_event p n.from_rank in
      let c = rank-begins n.to_event u n.to_rank in
      let l = begins-order w.sound (link-before n.linked) b c in
      let d : b.position ≢ c.position = λ e. link-differs w n.linked (sym b.of_event ∙ ap (λ (i : ℕ). (at tr i).first) e ∙ c.of_event) in
      let k : b.position < c.position = omega (arith, d) in
      omega (arith, counted-passes tr b.position c.position k (begins-at b), begins-rank b, begins-rank c, n.from_rank, n.to_rank)

  -- happens-before by event number is happens-before by rank
  abbrev Up : ℕ → ℕ → Type 0
  Up p u = (q : ℕ) × (rank tr u ≡ suc q) × (trace_links tr ⊢ p ≼ q)

  by-link : {t u : ℕ} (p : ℕ) → rank tr t ≡ suc p → Link tr (length tr) t u → Up p u
  by-link p r k =
      let g = link-ranked k in
      let e : p ≡ g.from = suc_inj (sym r ∙ g.from_rank) in
      (g.to, g.to_rank, links.step (links.same e) g.linked)

  pub up : {t u : ℕ} (p : ℕ) → rank tr t ≡ suc p → HappensBefore tr t u → Up p u
  up p r (same e) = (p, rw e at r, links.same refl)
  up p r (start i l a e q b) = by-link p r (starts_it i l a e q b)
  up p r (join i l a e q) = by-link p r (joins_it i l a e q)
  up {t} {u} p r (behind-by i j l m c s e q f g) = go (decide_eq t u)
    where
      go : (t ≡ u) ⊎ (t ≢ u) → Up p u
      go (inl z) = (p, rw z at r, links.same refl)
      go (inr d) = by-link p r (behind_it i j l m c s e q f g d)
  up p r (path h k) =
      let (m, x, y) = up p r h in
      let (q, z, v) = up m x k in
      (q, z, ≼_trans (trace_links tr) y v)

  pub down : {p q : ℕ} (t u : ℕ) → rank tr t ≡ suc p → rank tr u ≡ suc q → trace_links tr ⊢ p ≼ q → HappensBefore tr t u
  down {p} {q} t u r s (links.same e) = same (rank-one t u q (r ∙ ap suc e) s)
  down {p} {q} t u r s (links.step {p = m} h k) =
      let n = linked-named m q k in
      let e : n.to_event ≡ u = rank-one n.to_event u q n.to_rank s in
      path (down t n.from_event r n.from_rank h) (link-before (rw e at n.linked))

  by_rank : (t u x y : ℕ) → rank tr t ≡ x → rank tr u ≡ y → T (leq_ranks (trace_links tr) x y) → HappensBefore tr t u
  by_rank t u zero y r s h = absurd h
  by_rank t u (suc p) zero r s h = absurd h
  by_rank t u (suc p) (suc q) r s h = down t u r s ((leq-decides (trace_links tr) forward-links p q).0 h)

  pub ranks-decide : (t u : ℕ) → Begins tr (length tr) t → T (leq_ranks (trace_links tr) (rank tr t) (rank tr u)) ↔ HappensBefore tr t u
  ranks-decide t u b = (by_rank t u (rank tr t) (rank tr u) refl refl, back)
    where
      back : HappensBefore tr t u → T (leq_ranks (trace_links tr) (rank tr t) (rank tr u))
      back h =
          let r = begins-rank b in
          let (q, s, k) = up (counted tr b.position) r h in
          rw (r, s) ((leq-decides (trace_links tr) forward-links (counted tr b.position) q).1 k)

  -- so its test is precedence's, and the table's bit
  pub ranks-test : (t u : ℕ) → Begins tr (length tr) t → leq_ranks (trace_links tr) (rank tr t) (rank tr u) ≡ happens_before tr t u
  ranks-test t u b =
      equal-tests (leq_ranks (trace_links tr) (rank tr t) (rank tr u)) (happens_before tr t u) (λ h. (test-decides w t u).1 ((ranks-decide t u b).0 h))
      (λ h. (ranks-decide t u b).1 ((test-decides w t u).0 h))

  pub ranks-table : (t u : ℕ) → Begins tr (length tr) t → Begins tr (length tr) u → leq_ranks (trace_links tr) (rank tr t) (rank tr u) ≡ table tr (length tr) t u
  ranks-table t u b c =
      let d = table-decides w.sound t u c in
      equal-tests (leq_ranks (trace_links tr) (rank tr t) (rank tr u)) (table tr (length tr) t u) (λ h. d.1 ((ranks-decide t u b).0 h))
      (λ h. (ranks-decide t u b).1 (d.0 h))

  -- the test for t ≼ u, for all events
  ranked-first : (t u : ℕ) → T (happens_before tr t u) → t ≢ u → Begins tr (length tr) t
  unfolding happens_before
  ranked-first t u h n = go (either (eqb t u) (has-begun u (past tr (length tr)) && table tr (length tr) t u) h)
    where
      go : T (eqb t u) ⊎ T (has-begun u (past tr (length tr)) && table tr (length tr) t u) → Begins tr (length tr) t
      go (inl e) = absurd (n (eqb→eq t u e))
      go (inr k) =
          let (x, y) = both (has-begun u (past tr (length tr))) (table tr (length tr) t u) k in
          let c = begun-begins tr u (length tr) x in
          begins-back w.sound ((table-decides w.sound t u c).0 y) c

  pub test-is : (t u : ℕ) → (eqb t u || leq_ranks (trace_links tr) (rank tr t) (rank tr u)) ≡ happens_before tr t u
  test-is t u =
      equal-tests (eqb t u || leq_ranks (trace_links tr) (rank tr t) (rank tr u)) (happens_before tr t u)
      (λ h. test-complete w t u (there (either (eqb t u) (leq_ranks (trace_links tr) (rank tr t) (rank tr u)) h))) (λ h. back h (decide_eq t u))
    where
      there : T (eqb t u) ⊎ T (leq_ranks (trace_links tr) (rank tr t) (rank tr u)) → HappensBefore tr t u
      there (inl e) = same (eqb→eq t u e)
      there (inr k) = by_rank t u (rank tr t) (rank tr u) refl refl k

      back : T (happens_before tr t u) → (t ≡ u) ⊎ (t ≢ u) → T (eqb t u || leq_ranks (trace_links tr) (rank tr t) (rank tr u))
      back h (inl e) = or_left (eqb t u) (leq_ranks (trace_links tr) (rank tr t) (rank tr u)) (eq→eqb t u e)
      back h (inr n) =
          or_right (eqb t u) (leq_ranks (trace_links tr) (rank tr t) (rank tr u))
          ((ranks-decide t u (ranked-first t u h n)).1 (test-sound w t u h))

  -- the direct predecessors of a row are those with a direct link
  pub named : (r : ℕ) → r < events tr → rank tr (name_of tr r) ≡ suc r
  named r h =
      let b = begun tr r h in
      begins-rank (record { position = begin_of tr r; inside = b.inside; is-begin = eq→eqb (at tr (begin_of tr r)).kind 1 b.kind; of_event = refl })
      ∙ ap suc b.number

  pub preds-are : (u : ℕ) → u < events tr → Preds (name_of tr) (Link tr (length tr)) u ((trace_links tr).preds u)
  preds-are u h = record { earlier = forward-links u; linked = by_name; all = all }
    where
      by_name : (p : ℕ) → p ∈ (trace_links tr).preds u → Link tr (length tr) (name_of tr p) (name_of tr u)
      by_name p k =
          let n = linked-named p u k in
          let x : n.from_event ≡ name_of tr p = rank-one n.from_event (name_of tr p) p n.from_rank (named p (omega (arith, forward-links u p k))) in
          let y : n.to_event ≡ name_of tr u = rank-one n.to_event (name_of tr u) u n.to_rank (named u h) in
          subst (Link tr (length tr) (name_of tr p)) y (subst (λ (z : ℕ). Link tr (length tr) z n.to_event) x n.linked)

      all : (x : ℕ) → Link tr (length tr) x (name_of tr u) → (p : ℕ) × (p ∈ (trace_links tr).preds u) × (name_of tr p ≡ x)
      all x k =
          let g = link-ranked k in
          let e : g.to ≡ u = suc_inj (sym g.to_rank ∙ named u h) in
          let m = subst (λ (z : ℕ). g.from ∈ (trace_links tr).preds z) e g.linked in
          (g.from, m, rank-one (name_of tr g.from) x g.from (named g.from (omega (arith, forward-links u g.from m))) g.from_rank)

  -- by number: the order of rows is the table's
  row-begins : (r : ℕ) → r < events tr → Begins tr (length tr) (name_of tr r)
  row-begins r h = rank-begins (name_of tr r) r (named r h)

  pub rows-table : (p u : ℕ) → p < events tr → u < events tr → leq (trace_links tr) p u ≡ table tr (length tr) (name_of tr p) (name_of tr u)
  rows-table p u h k = rw (named p h, named u k) at (ranks-table (name_of tr p) (name_of tr u) (row-begins p h) (row-begins u k))

  pub rows-test : (p u : ℕ) → p < events tr → u < events tr → leq (trace_links tr) p u ≡ happens_before tr (name_of tr p) (name_of tr u)
  rows-test p u h k = rw (named p h, named u k) at (ranks-test (name_of tr p) (name_of tr u) (row-begins p h))

  -- what cover rows ask of the numbers and of the chains
  pub numbered : (conf : ℕ → ℕ → Bool) → Numbered (setting_of tr conf) (events tr) (name_of tr)
  numbered conf = record {
    place = begin_of tr;
    inside = λ r h. (begun tr r h).inside;
    at = λ r h. refl;
    distinct = λ r s h k e. suc_inj (sym (named r h) ∙ ap (rank tr) e ∙ named s k);
    rising = λ r s h k.
        let x = (begun tr r (omega arith)).number in
        let y = (begun tr s k).number in
        let g : begin_of tr s ≤ begin_of tr r → ⊥ = λ z. omega (arith, counted-more tr (begin_of tr s) (begin_of tr r) z) in
        omega (arith, g);
  }

  pub in_order : (conf : ℕ → ℕ → Bool) → InOrder (setting_of tr conf) (events tr) (name_of tr) (chain_of (trace_links tr))
  in_order conf s r h k e =
      subst T (rows-test s r (omega arith) k) ((leq-decides (trace_links tr) forward-links s r).1 (chain-≼ (trace_links tr) forward-links s r h e))
