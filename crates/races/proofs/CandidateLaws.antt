-- No first access that races with b is missed on the way to b. Assumes nothing.
use Prim.Native.Nat.{ℕ, zero, suc, ◌+◌, ◌-◌, ◌≤◌, ◌<◌}
use mathlib.Core.Path.{◌≡◌, refl, sym, ap, ◌∙◌, subst}
use mathlib.Core.Logic.{◌≢◌, ◌⊎◌, inl, inr}
use mathlib.Core.Bool.{Bool, true, false, cond, ◌&&◌}
use mathlib.Core.List.{List}
use native.Mathlib.Omega.{arith}
use native.Mathlib.Numerals.{add-one}
use native.Mathlib.Nat.{eq-or-lt_of_le, le_of_suc-le-suc}
use native.Mathlib.Decide.{ℕ_discrete}
use borrow.Author.Tests.{eq-eqb, ne_eqb, ltb-false}
use lib.Dec.{T, leb, ltb, eqb, eqb→eq, le→leb, ltb→lt}
use lib.ListN.{length, get_or, set, length-set, length-replicate, get_or-replicate}
use lib.Seq.{get_or-set_same, get_or-set_other}
use Rattle.records.specs.declared.Record.{Record}
use Rattle.records.specs.Records.{at, is_read, is_write, event_of}
use Rattle.trace.specs.Reading.{Acceptable}
use Rattle.slices.specs.Slices.{filled, zeros}
use Rattle.trace.specs.Rule.{numbered}
use Rattle.records.proofs.BaseKinds.{base-known, base-kind}
use Rattle.trace.proofs.Blocks.{passes_at, contiguous, begins_once, body-after-begin}
use Rattle.trace.proofs.Marked.{formed}
use Rattle.trace.proofs.Going.{in_range}
use Rattle.coverage.specs.Race.{raceb}
use Rattle.coverage.specs.Neighbours.{conflicts}
use Rattle.slices.proofs.Tests.{decide, both, and, either, or_left, or_right, eq→eqb, failed}
use Rattle.races.specs.Traces.{is_access, cells_of, setting_of}
use Rattle.races.specs.loops.Candidates.{cell, accesses, writes, start_of, Upto, last_write, Seen, Tables, ordered_in, seen_after, firsts_from}
use Rattle.records.specs.Kinds.{base_kind}
use Rattle.records.specs.Search.{least_kind, may_race, Past}
use Rattle.clocks.specs.WayRound.{relate_in, says_before}
use Rattle.order.specs.Rank.{rank}
use Rattle.order.specs.HappensBefore.{happens_before}
use Rattle.order.proofs.Counted.{counted, counted-zero, counted-begin, counted-other}
use Rattle.order.proofs.TraceOrder.{ranked, record-begins, begins-rank}
use Rattle.races.specs.loops.FilledClocks.{FilledClocks, BothIn}
use Rattle.races.proofs.FilledLaws.{before-told, rows_both}
use Rattle.races.proofs.Instance.{laws, access-kind}

module _ (tr : List Record) where
  -- a race is between accesses of one cell, one of which writes
  pub record Racing (a b : ℕ) : Type 0 where
    pub earlier : a < b
    pub first : T (is_access (at tr a))
    pub second : T (is_access (at tr b))
    pub same : cell tr a ≡ cell tr b
    pub one : T (is_write (at tr a)) ⊎ T (is_write (at tr b))

  pub racing : (a b : ℕ) → T (raceb (setting_of tr) a b) → Racing a b
  unfolding raceb conflicts
  racing a b h =
      let p = both (ltb a b) _ h in
      let q = both (ltb b (length tr)) _ p.1 in
      let r = both (conflicts (cells_of tr) a b) _ q.1 in
      let s = both (is_access (at tr a) && is_access (at tr b)) _ r.0 in
      let u = both (is_access (at tr a)) (is_access (at tr b)) s.0 in
      let v = both (eqb (cell tr a) (cell tr b)) _ s.1 in
      record { earlier = ltb→lt a b p.0; first = u.0; second = u.1; same = eqb→eq (cell tr a) (cell tr b) v.0; one = either (is_write (at tr a)) (is_write (at tr b)) v.1 }

  to-accesses : (c i : ℕ) → T (is_access (at tr i)) → cell tr i ≡ c → T (accesses tr c i)
  to-accesses c i h e = and (is_access (at tr i)) (eqb (cell tr i) c) h (eq→eqb (cell tr i) c e)

  of-accesses : (c i : ℕ) → T (accesses tr c i) → T (is_access (at tr i)) × (cell tr i ≡ c)
  of-accesses c i h = let p = both (is_access (at tr i)) (eqb (cell tr i) c) h in (p.0, eqb→eq (cell tr i) c p.1)

  pub race-accesses : (a b : ℕ) → T (raceb (setting_of tr) a b) → T (accesses tr (cell tr b) a)
  race-accesses a b h = let r = racing a b h in to-accesses (cell tr b) a r.first r.same

  pub write-accesses : (c i : ℕ) → T (writes tr c i) → T (accesses tr c i)
  write-accesses c i h = let p = both (eqb (cell tr i) c) (is_write (at tr i)) h in and (is_access (at tr i)) (eqb (cell tr i) c) (or_right (is_read (at tr i)) (is_write (at tr i)) p.1) p.0

  near : {x i : ℕ} → x < suc i → (x ≡ i) ⊎ (x < i)
  near l = eq-or-lt_of_le (le_of_suc-le-suc l)

  -- What the start of a cell before i is.
  pub record Start (short : Bool) (c i v : ℕ) : Type 0 where
    pub high : v ≤ i
    pub before : v ≢ 0 → T short × T (writes tr c v) × (v < i)
    pub after : T short → (x : ℕ) → v < x → x < i → T (writes tr c x) → ⊥

  pub start : (short : Bool) (c i : ℕ) → Start short c i (start_of tr short c i)
  unfolding start_of
  start short c zero = record { high = omega arith; before = λ n. absurd (n refl); after = λ s x l k h. omega arith }
  start short c (suc i) = go (short && writes tr c i) refl (start short c i)
    where
      v : ℕ
      v = start_of tr short c i

      go : (q : Bool) → (short && writes tr c i) ≡ q → Start short c i v → Start short c (suc i) (cond q i v)
      go true e w =
          let p = both short (writes tr c i) (subst T (sym e) tt) in
          record { high = omega arith; before = λ n. (p.0, p.1, omega arith); after = λ s x l k h. omega arith }
      go false e w = record {
        high = omega (arith, w.high);
        before = λ n. let p = w.before n in (p.0, p.1, omega (arith, p.2));
        after = λ s x l k h. late s x l (near k) h;
      }
        where
          late : T short → (x : ℕ) → v < x → (x ≡ i) ⊎ (x < i) → T (writes tr c x) → ⊥
          late s x l (inl d) h = subst T e (and short (writes tr c i) s (subst (λ (y : ℕ). T (writes tr c y)) d h))
          late s x l (inr k) h = w.after s x l k h

  start-stays : (short : Bool) (c i : ℕ) → (T (writes tr c i) → ⊥) → start_of tr short c (suc i) ≡ start_of tr short c i
  unfolding start_of
  start-stays short c i n = go short (writes tr c i) n
    where
      go : (s q : Bool) → (T q → ⊥) → cond (s && q) i (start_of tr short c i) ≡ start_of tr short c i
      go true true m = absurd (m tt)
      go true false m = refl
      go false q m = refl

  pub start-writes : (c i : ℕ) → T (writes tr c i) → start_of tr true c (suc i) ≡ i
  unfolding start_of
  start-writes c i h = go (writes tr c i) h
    where
      go : (q : Bool) → T q → cond q i (start_of tr true c i) ≡ i
      go true t = refl
      go false t = absurd t

  pub start-all : (c i : ℕ) → start_of tr false c i ≡ 0
  unfolding start_of
  start-all c zero = refl
  start-all c (suc i) = start-all c i

  -- The last write.
  pub last-write : (c i : ℕ) → T (writes tr c i) → last_write tr c (suc i) ≡ suc i
  unfolding last_write
  last-write c i h = go (writes tr c i) h
    where
      go : (q : Bool) → T q → cond q (suc i) (last_write tr c i) ≡ suc i
      go true t = refl
      go false t = absurd t

  pub last-stays : (c i : ℕ) → (T (writes tr c i) → ⊥) → last_write tr c (suc i) ≡ last_write tr c i
  unfolding last_write
  last-stays c i n = go (writes tr c i) n
    where
      go : (q : Bool) → (T q → ⊥) → cond q (suc i) (last_write tr c i) ≡ last_write tr c i
      go true m = absurd (m tt)
      go false m = refl

  pub last-zero : (c : ℕ) → last_write tr c 0 ≡ 0
  unfolding last_write
  last-zero c = refl

  pub last-high : (c i : ℕ) → last_write tr c i ≤ i
  last-high c zero = omega (arith, last-zero c)
  last-high c (suc i) = go (decide (writes tr c i)) (last-high c i)
    where
      go : T (writes tr c i) ⊎ (T (writes tr c i) → ⊥) → last_write tr c i ≤ i → last_write tr c (suc i) ≤ suc i
      go (inl t) l = omega (arith, last-write c i t)
      go (inr n) l = omega (arith, last-stays c i n)

  -- none of the records from it on writes the cell
  pub last-after : (c i x : ℕ) → last_write tr c i ≤ x → x < i → T (writes tr c x) → ⊥
  last-after c zero x l k t = omega arith
  last-after c (suc i) x l k t = go (decide (writes tr c i)) (near k) (last-after c i x)
    where
      go : T (writes tr c i) ⊎ (T (writes tr c i) → ⊥) → (x ≡ i) ⊎ (x < i) → (last_write tr c i ≤ x → x < i → T (writes tr c x) → ⊥) → ⊥
      go (inl w) d f = omega (arith, last-write c i w)
      go (inr n) (inl d) f = n (subst (λ (y : ℕ). T (writes tr c y)) d t)
      go (inr n) (inr m) f = f (omega (arith, last-stays c i n)) m t

  -- the start of a cell by its last write
  last-start : (c i : ℕ) → start_of tr true c i ≡ last_write tr c i - 1
  unfolding start_of last_write
  last-start c zero = refl
  last-start c (suc i) = go (writes tr c i) (last-start c i)
    where
      go : (q : Bool) → start_of tr true c i ≡ last_write tr c i - 1 → cond q i (start_of tr true c i) ≡ cond q (suc i) (last_write tr c i) - 1
      go true e = omega arith
      go false e = e

  pub from-start-is : (short : Bool) (c i : ℕ) → firsts_from short (last_write tr c i) ≡ start_of tr short c i
  unfolding firsts_from
  from-start-is true c i = sym (last-start c i)
  from-start-is false c i = sym (start-all c i)

  -- the start never falls
  start-rises : (short : Bool) (c b x : ℕ) → start_of tr short c (suc b) ≤ x → x < b → start_of tr short c b ≤ x
  unfolding start_of
  start-rises short c b x l k = go (short && writes tr c b) l
    where
      go : (q : Bool) → cond q b (start_of tr short c b) ≤ x → start_of tr short c b ≤ x
      go true m = absurd (omega arith)
      go false m = m

-- numbers are in range
pub cell-low : {tr : List Record} (a : Acceptable tr) (x : ℕ) → x < length tr → cell tr x < 1025
cell-low {tr} a x h = go (ltb (at tr x).kind 3) (formed (at tr x) (passes_at a x h).well-formed).1
  where
    go : (k : Bool) → cond k (eqb (at tr x).second 0) (numbered (at tr x).second) ≡ true → (at tr x).second < 1025
    go true e = let z = eqb→eq (at tr x).second 0 (subst T (sym e) tt) in omega arith
    go false e = in_range (at tr x).second e

-- The numbers of the cells, one record after the other.
module _ (tr : List Record) (short : Bool) where
  pub tables-none : Tables tr short 0 (zeros 1025) (zeros 1025)
  unfolding filled
  tables-none = record {
    seen_size = length-replicate {A = ℕ} 1025 0;
    written_size = length-replicate {A = ℕ} 1025 0;
    tells = λ c l. rw (get_or-replicate {A = ℕ} 1025 c 0 0 l) (record { none = λ e x k t. omega arith; upto = λ n h. absurd (n refl) });
    last = λ c l. get_or-replicate {A = ℕ} 1025 c 0 0 l ∙ sym (last-zero tr c);
  }

  -- a record that does not access the cell
  seen-still : {b c v : ℕ} → (T (accesses tr c b) → ⊥) → Seen tr short c b v → Seen tr short c (suc b) v
  seen-still {b} {c} n w = record {
    none = λ e x k t. other (near tr k) t (λ m. w.none e x m t);
    upto = λ z h. let (y, l, e, u) = w.upto z h in (y, omega arith, e, record { tells = λ x l k t. other (near tr k) t (λ m. u.tells x (start-rises tr short c b x l m) m t) });
  }
    where
      other : {x : ℕ} {A : Type 0} → (x ≡ b) ⊎ (x < b) → T (accesses tr c x) → (x < b → A) → A
      other (inl e) t f = absurd (n (subst (λ (y : ℕ). T (accesses tr c y)) e t))
      other (inr l) t f = f l

  pub tables-pass : {b : ℕ} {seen written : List ℕ} → is_access (at tr b) ≡ false → Tables tr short b seen written → Tables tr short (b + 1) seen written
  tables-pass {b} f s = rw (add-one b) (record {
    seen_size = s.seen_size;
    written_size = s.written_size;
    tells = λ c l. seen-still (still c) (s.tells c l);
    last = λ c l. s.last c l ∙ sym (last-stays tr c b (λ t. still c (write-accesses tr c b t)));
  })
    where
      still : (c : ℕ) → T (accesses tr c b) → ⊥
      still c t = subst T f (of-accesses tr c b t).0

  module _ (b v : ℕ) (seen written : List ℕ) (low : cell tr b < 1025) (s : Tables tr short b seen written) (w : Seen tr short (cell tr b) (b + 1) v) where
    seen_next : (c : ℕ) → c < 1025 → Dec (c ≡ cell tr b) → Seen tr short c (b + 1) (get_or (set seen (cell tr b) v) c 0)
    seen_next c l (yes d) = let z = s.seen_size in rw (d, get_or-set_same seen (cell tr b) v 0 (omega arith)) w
    seen_next c l (no d) = rw (get_or-set_other seen (cell tr b) c v 0 d, add-one b) (seen-still (λ t. d (sym (of-accesses tr c b t).1)) (s.tells c l))

    module _ (kind : ℕ) (e : kind ≡ (at tr b).kind) where
      abbrev after : Bool → List ℕ
      after q = cond q (set written (cell tr b) (b + 1)) written

      size-next : (q : Bool) → length (after q) ≡ 1025
      size-next true = length-set written (cell tr b) (b + 1) ∙ s.written_size
      size-next false = s.written_size

      last-next : (c : ℕ) → c < 1025 → (q : Bool) → eqb kind 6 ≡ q → Dec (c ≡ cell tr b) → get_or (after q) c 0 ≡ last_write tr c (b + 1)
      last-next c l true f (yes d) =
          let z = s.written_size in
          let x : T (is_write (at tr b)) = subst T (sym (ap (λ k. eqb k 6) (sym e) ∙ f)) tt in
          rw (d, get_or-set_same written (cell tr b) (b + 1) 0 (omega arith), add-one b) (sym (last-write tr (cell tr b) b (and (eqb (cell tr b) (cell tr b)) (is_write (at tr b)) (eq→eqb (cell tr b) (cell tr b) refl) x)))
      last-next c l true f (no d) = rw (get_or-set_other written (cell tr b) c (b + 1) 0 d, add-one b) (s.last c l ∙ sym (last-stays tr c b (λ t. d (sym (of-accesses tr c b (write-accesses tr c b t)).1))))
      last-next c l false f d = rw (add-one b) (s.last c l ∙ sym (last-stays tr c b (λ t. subst T (ap (λ k. eqb k 6) (sym e) ∙ f) (both (eqb (cell tr b) c) (is_write (at tr b)) t).1)))

      -- after the access b
      pub tables-next : (seen' written' : List ℕ) → seen' ≡ set seen (cell tr b) v → written' ≡ after (eqb kind 6) → Tables tr short (b + 1) seen' written'
      tables-next seen' written' p q = rw (p, q) (record {
        seen_size = length-set seen (cell tr b) v ∙ s.seen_size;
        written_size = size-next (eqb kind 6);
        tells = λ c l. seen_next c l (ℕ_discrete c (cell tr b));
        last = λ c l. last-next c l (eqb kind 6) refl (ℕ_discrete c (cell tr b));
      })

-- The number of b's cell after the access b, of row u.
module _ {tr : List Record} (acc : Acceptable tr) (b u : ℕ) (inside : b < length tr) (row : u ≡ rank tr (event_of (at tr b)) - 1) where
  has-rank : rank tr (event_of (at tr b)) ≢ 0
  has-rank z = omega (arith, begins-rank acc (record-begins acc b inside), z)

  -- the rank of its event action, where all accesses of the cell from the start on happen before it
  seen_last : (short : Bool) → ((x : ℕ) → start_of tr short (cell tr b) (suc b) ≤ x → x < b → T (accesses tr (cell tr b) x) → T (happens_before tr (event_of (at tr x)) (event_of (at tr b)))) → Seen tr short (cell tr b) (b + 1) (u + 1)
  seen_last short q =
      let n = has-rank in
      let e : u + 1 ≡ rank tr (event_of (at tr b)) = omega arith in
      rw (add-one b) (record {
        none = λ z x k t. omega arith;
        upto = λ z h. (b, omega arith, e, record { tells = λ x l k t. go x l (near tr k) t });
      })
    where
      go : (x : ℕ) → start_of tr short (cell tr b) (suc b) ≤ x → (x ≡ b) ⊎ (x < b) → T (accesses tr (cell tr b) x) → T (happens_before tr (event_of (at tr x)) (event_of (at tr b)))
      go x l (inl d) t = subst (λ (y : ℕ). T (happens_before tr (event_of (at tr y)) (event_of (at tr b)))) (sym d) ((laws acc).le_refl (event_of (at tr b)))
      go x l (inr k) t = q x l k t

  seen-lost : (short : Bool) → Seen tr short (cell tr b) (b + 1) 1025
  seen-lost short = record { none = λ e. absurd (omega (arith, e)); upto = λ z h. absurd (omega arith) }

  module _ (kind : ℕ) (e : kind ≡ (at tr b).kind) where
    restart : (short : Bool) → T (short && eqb kind 6) → Seen tr short (cell tr b) (b + 1) (u + 1)
    restart true t = seen_last true (λ x l k h. absurd (omega (arith, l, start-writes tr (cell tr b) b (and (eqb (cell tr b) (cell tr b)) (is_write (at tr b)) (eq→eqb (cell tr b) (cell tr b) refl) (subst (λ (k : ℕ). T (eqb k 6)) e t)))))
    restart false t = absurd t

    pub seen-after : (short ordered : Bool) → (ordered ≡ true → Upto tr short (cell tr b) b (event_of (at tr b))) → Seen tr short (cell tr b) (b + 1) (seen_after ordered short kind u)
    unfolding seen_after
    seen-after short true q = seen_last short (λ x l k t. (q refl).tells x (start-rises tr short (cell tr b) b x l k) k t)
    seen-after short false q = go (short && eqb kind 6) refl
      where
        go : (p : Bool) → (short && eqb kind 6) ≡ p → Seen tr short (cell tr b) (b + 1) (cond p (u + 1) 1025)
        go true f = restart short (subst T (sym f) tt)
        go false f = seen-lost short

-- What the number of b's cell says over filled clocks.
module _ {tr : List Record} {ranks chosen : List ℕ} {width : ℕ} {clocks : List ℕ} (f : FilledClocks tr ranks chosen width clocks) (short : Bool) (b u v : ℕ) (inside : b < length tr) (row : u ≡ rank tr (event_of (at tr b)) - 1) (w : Seen tr short (cell tr b) b v) where
  pub seen-rows : v ≢ 0 → v ≤ 1024 → BothIn chosen width clocks (v - 1) u
  seen-rows n h = let (y, l, e, _) = w.upto n h in rows_both f y b (v - 1) u (omega arith) inside (ap (λ k. k - 1) e) row

  pub ordered-upto : ordered_in chosen width clocks v u ≡ true → Upto tr short (cell tr b) b (event_of (at tr b))
  unfolding ordered_in
  ordered-upto g = go (eqb v 0) refl (ltb 1024 v) refl g
    where
      go : (p : Bool) → eqb v 0 ≡ p → (q : Bool) → ltb 1024 v ≡ q → cond p true (cond q false (says_before (relate_in clocks width (v - 1) (get_or chosen (v - 1) 0) u (get_or chosen u 0)))) ≡ true → Upto tr short (cell tr b) b (event_of (at tr b))
      go true d q e g = record { tells = λ x l k t. absurd (w.none (eqb→eq v 0 (subst T (sym d) tt)) x k t) }
      go false d true e g = absurd (subst T (sym g) tt)
      go false d false e g =
          let n : v ≢ 0 = λ z. subst T d (eq→eqb v 0 z) in
          let (y, l, r, t) = w.upto n (ltb-false 1024 v e) in
          let h = subst T (sym (sym (before-told f y b (v - 1) u (omega arith) inside (ap (λ k. k - 1) r) row) ∙ g)) tt in
          record { tells = λ x m k s. (laws f.acceptable).le_trans _ _ _ (t.tells x m k s) h }

-- From i on past records that may not race with an access of cell c.

-- an access by its kind among document 01's six
pub kind-access : (r : Record) → 5 ≤ base_kind r → T (is_access r)
kind-access r l = let (e, h) = base-kind r (omega arith) in go e h (ℕ_discrete r.kind 5)
  where
    go : base_kind r ≡ r.kind → r.kind ≤ 6 → Dec (r.kind ≡ 5) → T (is_access r)
    go e h (yes k) = or_left (is_read r) (is_write r) (eq→eqb r.kind 5 k)
    go e h (no n) = or_right (is_read r) (is_write r) (eq→eqb r.kind 6 (omega arith))

pub access-base : (r : Record) → T (is_access r) → base_kind r ≡ r.kind
access-base r t = go (access-kind r t)
  where
    go : (r.kind ≡ 5) ⊎ (r.kind ≡ 6) → base_kind r ≡ r.kind
    go (inl e) = base-known r (omega arith)
    go (inr e) = base-known r (omega arith)

pub kind-no-access : (r : Record) → base_kind r < 5 → is_access r ≡ false
kind-no-access r l = failed (is_access r) (λ t. go (access-base r t) (access-kind r t))
  where
    go : base_kind r ≡ r.kind → (r.kind ≡ 5) ⊎ (r.kind ≡ 6) → ⊥
    go e (inl k) = omega arith
    go e (inr k) = omega arith

-- what races with b is such a record
pub race-may : (tr : List Record) (a b : ℕ) (least : ℕ) → least ≡ least_kind (at tr b).kind → T (raceb (setting_of tr) a b) → T (may_race tr least (cell tr b) a)
unfolding may_race least_kind
race-may tr a b least f t =
    let r = racing tr a b t in
    and (eqb (cell tr a) (cell tr b)) (leb least (at tr a).kind) (eq→eqb (cell tr a) (cell tr b) r.same)
    (rw f (go (eqb (at tr b).kind 5) refl (either (is_read (at tr a)) (is_write (at tr a)) r.first) r.one))
  where
    k : ℕ
    k = (at tr a).kind

    high : (m : ℕ) → m ≤ k → T (leb m k)
    high m l = le→leb m k l

    go : (q : Bool) → eqb (at tr b).kind 5 ≡ q → T (is_read (at tr a)) ⊎ T (is_write (at tr a)) → T (is_write (at tr a)) ⊎ T (is_write (at tr b)) → T (leb (cond q 6 5) k)
    go true e h (inl u) = high 6 (omega (arith, eqb→eq k 6 u))
    go true e h (inr u) = let z = eqb→eq (at tr b).kind 5 (subst T (sym e) tt) in absurd (rw z at u)
    go false e (inl u) w = high 5 (omega (arith, eqb→eq k 5 u))
    go false e (inr u) w = high 5 (omega (arith, eqb→eq k 6 u))

-- a record of a kind above 6 may be found, and races with none
pub other-quiet : (tr : List Record) (a b : ℕ) → 6 < (at tr a).kind → raceb (setting_of tr) a b ≡ false
other-quiet tr a b l = failed (raceb (setting_of tr) a b) (λ t. go (access-kind (at tr a) (racing tr a b t).first))
  where
    go : ((at tr a).kind ≡ 5) ⊎ ((at tr a).kind ≡ 6) → ⊥
    go (inl e) = omega arith
    go (inr e) = omega arith

-- so no record that is passed races with b
pub past-quiet : (tr : List Record) {i r least c : ℕ} (b : ℕ) → c ≡ cell tr b → least ≡ least_kind (at tr b).kind → Past tr least c i r → (x : ℕ) → i ≤ x → x < r → T (raceb (setting_of tr) x b) → ⊥
past-quiet tr {i} {r} {least} b e f w x l k t = w.none x l k (rw e (race-may tr x b least f t))

-- The rank of an access is the number of begins before it.
module _ {tr : List Record} (acc : Acceptable tr) where
  access-kinds : (b : ℕ) → T (is_access (at tr b)) → ((at tr b).kind ≢ 1) × ((at tr b).kind ≢ 4)
  access-kinds b t = go (access-kind (at tr b) t)
    where
      go : ((at tr b).kind ≡ 5) ⊎ ((at tr b).kind ≡ 6) → ((at tr b).kind ≢ 1) × ((at tr b).kind ≢ 4)
      go (inl e) = (λ z. omega arith, λ z. omega arith)
      go (inr e) = (λ z. omega arith, λ z. omega arith)

  pub access-rank : (b : ℕ) → b < length tr → T (is_access (at tr b)) → rank tr (event_of (at tr b)) ≡ counted tr b
  access-rank b h t =
      let (n, m) = access-kinds b t in
      let f = body-after-begin acc b h n m in
      let p = f.at_position in
      let k : (at tr p).kind ≡ 1 = eqb→eq (at tr p).kind 1 (subst T (sym f.passes) tt) in
      let e : rank tr (event_of (at tr b)) ≡ counted tr p + 1 = ap (rank tr) (sym f.event) ∙ ranked acc p (omega (arith, f.earlier)) k in
      let q : suc p + (b - suc p) ≡ b = omega (arith, f.earlier) in
      e ∙ sym (counted-begin tr p k) ∙ sym (rw q at (stays p f.earlier k f.event (b - suc p) (omega arith)))
    where
      -- no begin stands between
      stays : (p : ℕ) → p < b → (at tr p).kind ≡ 1 → event_of (at tr p) ≡ event_of (at tr b) → (d : ℕ) → suc p + d ≤ b → counted tr (suc p + d) ≡ counted tr (suc p)
      stays p l k e zero q = let z : suc p + 0 ≡ suc p = omega arith in rw z refl
      stays p l k e (suc d) q = let z : suc p + suc d ≡ suc (suc p + d) = omega arith in rw z (counted-other tr (suc p + d) (λ x. omega (arith, begins_once acc p (suc p + d) (omega arith) (omega arith) k x (e ∙ sym (contiguous acc p (suc p + d) b (omega arith) (omega arith) h e ∙ e)))) ∙ stays p l k e d (omega arith))

  pub access-ranked : (b : ℕ) → b < length tr → rank tr (event_of (at tr b)) ≢ 0
  access-ranked b h z = omega (arith, begins-rank acc (record-begins acc b h), z)

-- begins counted one record after the other
module _ (tr : List Record) where
  pub counted-le : (i : ℕ) → counted tr i ≤ i
  counted-le zero = omega (arith, counted-zero tr)
  counted-le (suc i) = go (ℕ_discrete (at tr i).kind 1) (counted-le i)
    where
      go : Dec ((at tr i).kind ≡ 1) → counted tr i ≤ i → counted tr (suc i) ≤ suc i
      go (yes k) l = omega (arith, counted-begin tr i k)
      go (no n) l = omega (arith, counted-other tr i n)

  pub begun-next : (b : ℕ) {kind begun r : ℕ} → kind ≡ base_kind (at tr b) → begun ≡ counted tr b → r ≡ cond (eqb kind 1) (begun + 1) begun → r ≡ counted tr (b + 1)
  begun-next b {kind} {begun} {r} e f g = rw (add-one b) (go (ℕ_discrete kind 1))
    where
      go : Dec (kind ≡ 1) → r ≡ counted tr (suc b)
      go (yes k) = let (q, h) = base-kind (at tr b) (omega arith) in omega (arith, counted-begin tr b (omega arith), rw (eq-eqb kind 1 k) at g)
      go (no n) = omega (arith, counted-other tr b (λ z. n (e ∙ base-known (at tr b) (omega arith) ∙ z)), rw (ne_eqb kind 1 n) at g)

  pub access-begun : (b : ℕ) → 5 ≤ base_kind (at tr b) → counted tr (b + 1) ≡ counted tr b
  access-begun b l = let (q, h) = base-kind (at tr b) (omega arith) in rw (add-one b) (counted-other tr b (λ z. omega arith))
