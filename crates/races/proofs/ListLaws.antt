-- The lists, second access by second access.
-- Assumes nothing.
use Prim.Native.Nat.{ℕ, zero, suc, ◌+◌, ◌*◌, ◌-◌, ◌≤◌, ◌<◌}
use mathlib.Core.Path.{◌≡◌, refl, sym, ap, ap₂, ◌∙◌, subst}
use mathlib.Core.Bool.{Bool, true, false, not, cond, ◌&&◌, ◌||◌}
use mathlib.Core.List.{List, [], ◌∷◌, ◌++◌, map}
use mathlib.Core.Logic.{◌⊎◌, inl, inr}
use native.Mathlib.Omega.{arith}
use native.Mathlib.Nat.{suc-mul, mul_comm}
use native.Mathlib.Numerals.{add-one}
use native.Mathlib.Decide.{ℕ_discrete}
use borrow.Author.Tests.{eq-eqb, le-leb, lt-ltb}
use lib.Dec.{T, leb, ltb, eqb, eqb→eq, leb→le, le→leb, ltb→lt, T_not, not_T}
use lib.ListN.{length, get_or, length-append, length-map}
use Rattle.records.specs.declared.Record.{Record}
use Rattle.records.specs.Records.{at, is_read, is_write, event_of}
use Rattle.trace.specs.Reading.{Acceptable}
use Rattle.records.proofs.Positions.{lt-or-ge}
use Rattle.coverage.specs.Below.{upto, pairs}
use Rattle.coverage.specs.Race.{raceb}
use Rattle.coverage.specs.Neighbours.{conflicts, write_between, neighbour}
use Rattle.coverage.specs.Lists.{all_races, short_list}
use Rattle.slices.proofs.Tests.{both, and, or_left, or_right, decide, eq→eqb, passed, same as equal-tests}
use Rattle.coverage.proofs.Below.{found, find}
use Rattle.coverage.proofs.Lists.{upto-ext, upto_zero, upto-yes, upto-no, upto-empty}
use Rattle.races.specs.Traces.{is_access, cells_of, setting_of}
use Rattle.races.specs.loops.Clashes.{conflict}
use Rattle.races.specs.Lists.{pairs_of}
use Rattle.races.specs.loops.Candidates.{cell, accesses, writes, Upto, last_write, firsts_from, firsts_to}
use Rattle.records.specs.Search.{least_kind, may_race}
use Rattle.records.proofs.BaseKinds.{base-known}
use Rattle.races.specs.loops.ListPass.{from_of, firsts, with_second, listed_below, Ranges, Second, OneRoom}
use Rattle.order.specs.Fill.{events_in}
use Rattle.races.specs.loops.FilledClocks.{RowsIn, BothIn}
use Rattle.coverage.proofs.Order.{race-of, race-not-le}
use Rattle.clocks.specs.WayRound.{relate_in, says_unordered}
use Rattle.order.specs.Rank.{rank}
use Rattle.order.specs.HappensBefore.{happens_before}
use Rattle.races.proofs.Instance.{laws, access-kind}
use Rattle.races.proofs.FilledLaws.{same_event, other-event, rank_is, row_inside, rows_in, rows_both, unordered-told}
use Rattle.races.proofs.CandidateLaws.{start, racing, race-accesses, last-high, last-after, from-start-is, kind-access}

module _ (tr : List Record) where
  abbrev race : ℕ → ℕ → Bool
  race a b = raceb (setting_of tr) a b

  abbrev test : ℕ → ℕ → ℕ → Bool
  test from b a = leb from a && race a b

  pub firsts-start : (from b : ℕ) → firsts tr from b from ≡ []
  unfolding firsts
  firsts-start from b = upto-empty from (test from b) (λ a l h. omega (arith, leb→le from a (both (leb from a) (race a b) h).0))

  pub firsts-yes : (from b a : ℕ) → from ≤ a → race a b ≡ true → firsts tr from b (a + 1) ≡ firsts tr from b a ++ (a ∷ [])
  unfolding firsts
  firsts-yes from b a l e = rw (add-one a) (upto-yes a (test from b) (rw (le-leb from a l, e) tt))

  pub firsts-no : (from b a : ℕ) → race a b ≡ false → firsts tr from b (a + 1) ≡ firsts tr from b a
  unfolding firsts
  firsts-no from b a e = rw (add-one a) (upto-no a (test from b) (λ h. subst T e (both (leb from a) (race a b) h).1))

  -- only accesses race
  race-access : (a b : ℕ) → T (race a b) → T (is_access (at tr b))
  unfolding raceb conflicts
  race-access a b h =
      let p = both (ltb a b) _ h in
      let q = both (ltb b (length tr)) _ p.1 in
      let r = both (conflicts (cells_of tr) a b) _ q.1 in
      (both (is_access (at tr a)) (is_access (at tr b)) (both (is_access (at tr a) && is_access (at tr b)) _ r.0).0).1

  upto-length : (m : ℕ) (p : ℕ → Bool) → length (upto m p) ≤ m
  upto-length zero p = omega (arith, ap length (upto_zero p))
  upto-length (suc m) p = go (decide (p m)) (upto-length m p)
    where
      go : T (p m) ⊎ (T (p m) → ⊥) → length (upto m p) ≤ m → length (upto (suc m) p) ≤ suc m
      go (inl h) l = omega (arith, ap length (upto-yes m p h), length-append (upto m p) (m ∷ []))
      go (inr h) l = omega (arith, ap length (upto-no m p h))

  pub firsts-length : (from b i : ℕ) → length (firsts tr from b i) ≤ i
  unfolding firsts
  firsts-length from b i = upto-length i (test from b)

  -- nothing from a on: all is found
  upto_skip : (m d : ℕ) (p : ℕ → Bool) → ((x : ℕ) → m ≤ x → x < m + d → T (p x) → ⊥) → upto (m + d) p ≡ upto m p
  upto_skip m zero p n = let e : m + 0 ≡ m = omega arith in rw e refl
  upto_skip m (suc d) p n =
      let e : m + suc d ≡ suc (m + d) = omega arith in
      rw e (upto-no (m + d) p (n (m + d) (omega arith) (omega arith)) ∙ upto_skip m d p (λ x l k. n x l (omega arith)))

  pub firsts-skip : (from b a i : ℕ) → a ≤ i → ((x : ℕ) → a ≤ x → x < i → T (race x b) → ⊥) → firsts tr from b i ≡ firsts tr from b a
  unfolding firsts
  firsts-skip from b a i l n =
      let e : a + (i - a) ≡ i = omega arith in
      rw e at (upto_skip a (i - a) (test from b) (λ x k m h. n x k (omega arith) (both (leb from x) (race x b) h).1))

  -- none at all
  pub firsts-empty : (from b i : ℕ) → ((x : ℕ) → from ≤ x → x < i → T (race x b) → ⊥) → firsts tr from b i ≡ []
  unfolding firsts
  firsts-empty from b i n = upto-empty i (test from b) (λ a l h. let p = both (leb from a) (race a b) h in n a (leb→le from a p.0) l p.1)

  -- A neighbouring race is a race with no write of its cell between: its first stands at the last write before the second, or after it.
  race-conflict : (a b : ℕ) → T (race a b) → T (conflicts (cells_of tr) a b) × T (ltb a b)
  unfolding raceb
  race-conflict a b h =
      let p = both (ltb a b) _ h in
      let q = both (ltb b (length tr)) _ p.1 in
      ((both (conflicts (cells_of tr) a b) _ q.1).0, p.0)

  between-write : (a b w : ℕ) → a < w → w < b → T (is_write (at tr w)) → cell tr w ≡ cell tr b → T (write_between (cells_of tr) a b)
  unfolding write_between
  between-write a b w l k h e =
      find b _ w k (and (ltb a w) _ (rw (lt-ltb a w l) tt) (and (is_access (at tr w) && is_write (at tr w)) _ (and (is_access (at tr w)) (is_write (at tr w)) (or_right (is_read (at tr w)) (is_write (at tr w)) h) h) (eq→eqb (cell tr w) (cell tr b) e)))

  between-found : (a b : ℕ) → T (write_between (cells_of tr) a b) → (w : ℕ) × (a < w) × (w < b) × T (accesses tr (cell tr b) w) × T (is_write (at tr w))
  unfolding write_between
  between-found a b h =
      let f = found b _ h in
      let w = f.0 in
      let p = both (ltb a w) _ f.2 in
      let q = both (is_access (at tr w) && is_write (at tr w)) (eqb (cell tr w) (cell tr b)) p.1 in
      let r = both (is_access (at tr w)) (is_write (at tr w)) q.0 in
      (w, ltb→lt a w p.0, f.1, and (is_access (at tr w)) (eqb (cell tr w) (cell tr b)) r.0 q.1, r.1)

  neighbour-parts : (a b : ℕ) → T (neighbour (cells_of tr) a b) → T (write_between (cells_of tr) a b) → ⊥
  unfolding neighbour
  neighbour-parts a b h =
      let p = both (ltb a b) _ h in
      T_not (write_between (cells_of tr) a b) (both (conflicts (cells_of tr) a b) _ p.1).1

  neighbour-of : (a b : ℕ) → T (race a b) → (T (write_between (cells_of tr) a b) → ⊥) → T (neighbour (cells_of tr) a b)
  unfolding neighbour
  neighbour-of a b h n =
      let p = race-conflict a b h in
      and (ltb a b) _ p.1 (and (conflicts (cells_of tr) a b) _ p.0 (not_T (write_between (cells_of tr) a b) n))

  -- a race's first stands at the start of its cell, or after it: before it only where a write stands between
  from_start : (short : Bool) (a b : ℕ) → T (race a b) → (T short → T (writes tr (cell tr b) (from_of tr short b)) → a < from_of tr short b → from_of tr short b < b → ⊥) → T (leb (from_of tr short b) a)
  from_start short a b h n = go (lt-or-ge a (from_of tr short b))
    where
      go : (a < from_of tr short b) ⊎ (from_of tr short b ≤ a) → T (leb (from_of tr short b) a)
      go (inl l) = let p = (start tr short (cell tr b) b).before (λ z. omega arith) in absurd (n p.0 p.1 l p.2)
      go (inr l) = le→leb (from_of tr short b) a l

  short-test : (a b : ℕ) → (neighbour (cells_of tr) a b && race a b) ≡ test (from_of tr true b) b a
  short-test a b = equal-tests _ _ there back
    where
      there : T (neighbour (cells_of tr) a b && race a b) → T (test (from_of tr true b) b a)
      there h =
          let p = both (neighbour (cells_of tr) a b) (race a b) h in
          and (leb (from_of tr true b) a) (race a b)
          (from_start true a b p.1 (λ s t l k. let q = both (eqb (cell tr (from_of tr true b)) (cell tr b)) _ t in neighbour-parts a b p.0 (between-write a b (from_of tr true b) l k q.1 (eqb→eq (cell tr (from_of tr true b)) (cell tr b) q.0))))
          p.1

      back : T (test (from_of tr true b) b a) → T (neighbour (cells_of tr) a b && race a b)
      back h =
          let p = both (leb (from_of tr true b) a) (race a b) h in
          let l = leb→le (from_of tr true b) a p.0 in
          and (neighbour (cells_of tr) a b) (race a b)
          (neighbour-of a b p.1 (λ k. let f = between-found a b k in (start tr true (cell tr b) b).after tt f.0 (omega (arith, f.1)) f.2 (and (eqb (cell tr f.0) (cell tr b)) (is_write (at tr f.0)) (both (is_access (at tr f.0)) (eqb (cell tr f.0) (cell tr b)) f.3).1 f.4)))
          p.1

  -- Where all accesses of the cell from its start on happen before b none races with b.
  pub quiet : Acceptable tr → (short : Bool) {b : ℕ} → Upto tr short (cell tr b) b (event_of (at tr b)) → (x : ℕ) → from_of tr short b ≤ x → x < b → T (race x b) → ⊥
  quiet acc short {b} q x l k t = race-not-le (setting_of tr) (laws acc) x b (race-of (setting_of tr) x b t) (q.tells x l k (race-accesses tr x b t))

  -- The way to b by the last write of its cell.
  module _ (b kind : ℕ) (e : kind ≡ (at tr b).kind) where
    -- a read races with writes alone
    read_write : eqb kind 5 ≡ true → (x : ℕ) → T (race x b) → T (writes tr (cell tr b) x)
    read_write f x h = let r = racing tr x b h in and (eqb (cell tr x) (cell tr b)) (is_write (at tr x)) (eq→eqb (cell tr x) (cell tr b) r.same) (go r.one)
      where
        go : T (is_write (at tr x)) ⊎ T (is_write (at tr b)) → T (is_write (at tr x))
        go (inl t) = t
        go (inr t) =
            let z = eqb→eq kind 5 (subst T (sym f) tt) in
            let y = eqb→eq (at tr b).kind 6 t in
            absurd (omega arith)

    from-before : (short : Bool) (last : ℕ) → firsts_from short last ≤ last
    unfolding firsts_from
    from-before true last = omega arith
    from-before false last = omega arith

    abbrev last : ℕ
    last = last_write tr (cell tr b) b

    way-ends : (r : Bool) → eqb kind 5 ≡ r → (short : Bool) → (firsts_from short last ≤ firsts_to kind last b) × (firsts_to kind last b ≤ b) × ((x : ℕ) → firsts_to kind last b ≤ x → x < b → T (race x b) → ⊥)
    unfolding firsts_to
    way-ends true f s = rw f (from-before s last, last-high tr (cell tr b) b, λ x l k t. last-after tr (cell tr b) b x l k (read_write f x t))
    way-ends false f s = rw f (omega (arith, from-before s last, last-high tr (cell tr b) b), omega arith, λ x l k t. omega arith)

    pub way-found : (short : Bool) (from to : ℕ) → from ≡ firsts_from short (last_write tr (cell tr b) b) → to ≡ firsts_to kind (last_write tr (cell tr b) b) b → Ranges tr short b from to
    way-found short from to p q =
        let (l, h, n) = way-ends (eqb kind 5) refl short in
        record {
          range = record { low = omega arith; high = omega arith; none = λ x m k t. n x (omega arith) k t };
          firsts_are = ap (λ x. firsts tr x b b) (sym (p ∙ from-start-is tr short (cell tr b) b));
        }

  may-conflict : (a b : ℕ) → T (is_access (at tr b)) → (at tr a).kind ≤ 6 → T (may_race tr (least_kind (at tr b).kind) (cell tr b) a) → conflict (at tr a) (at tr b) ≡ true
  unfolding may_race least_kind conflict
  may-conflict a b y h m = passed (conflict (at tr a) (at tr b)) (and (is_access (at tr a) && is_access (at tr b)) _ (and (is_access (at tr a)) (is_access (at tr b)) x y) (and (eqb (cell tr a) (cell tr b)) _ p.0 (go (access-kind (at tr b) y) low)))
    where
      p : T (eqb (cell tr a) (cell tr b)) × T (leb (cond (eqb (at tr b).kind 5) 6 5) (at tr a).kind)
      p = both (eqb (cell tr a) (cell tr b)) (leb (cond (eqb (at tr b).kind 5) 6 5) (at tr a).kind) m

      five : (q : Bool) → cond q 6 5 ≤ (at tr a).kind → 5 ≤ (at tr a).kind
      five true k = omega arith
      five false k = k

      low : cond (eqb (at tr b).kind 5) 6 5 ≤ (at tr a).kind
      low = leb→le _ (at tr a).kind p.1

      x : T (is_access (at tr a))
      x = kind-access (at tr a) (omega (arith, base-known (at tr a) h, five (eqb (at tr b).kind 5) low))

      go : ((at tr b).kind ≡ 5) ⊎ ((at tr b).kind ≡ 6) → cond (eqb (at tr b).kind 5) 6 5 ≤ (at tr a).kind → T (is_write (at tr a) || is_write (at tr b))
      go (inl e) k = or_left (is_write (at tr a)) (is_write (at tr b)) (six (access-kind (at tr a) x))
        where
          six : ((at tr a).kind ≡ 5) ⊎ ((at tr a).kind ≡ 6) → T (is_write (at tr a))
          six (inl d) = let z : 6 ≤ (at tr a).kind = rw (eq-eqb (at tr b).kind 5 e) at k in absurd (omega arith)
          six (inr d) = eq→eqb (at tr a).kind 6 d
      go (inr e) k = or_right (is_write (at tr a)) (is_write (at tr b)) (eq→eqb (at tr b).kind 6 e)

  -- what may race with an access b and stands before it, no send, races exactly where its event action does not happen before that of b
  pub may-race : Acceptable tr → (a b : ℕ) → a < b → b < length tr → T (is_access (at tr b)) → (at tr a).kind ≤ 6 → T (may_race tr (least_kind (at tr b).kind) (cell tr b) a) → race a b ≡ not (happens_before tr (event_of (at tr a)) (event_of (at tr b)))
  may-race acc a b l h y s m = go (ℕ_discrete (event_of (at tr a)) (event_of (at tr b)))
    where
      c : conflict (at tr a) (at tr b) ≡ true
      c = may-conflict a b y s m

      go : Dec (event_of (at tr a) ≡ event_of (at tr b)) → race a b ≡ not (happens_before tr (event_of (at tr a)) (event_of (at tr b)))
      go (yes e) = same_event tr a b l h c e ∙ sym (ap not (passed (happens_before tr (event_of (at tr a)) (event_of (at tr b))) (subst (λ (x : ℕ). T (happens_before tr (event_of (at tr a)) x)) e ((laws acc).le_refl (event_of (at tr a))))))
      go (no n) = other-event tr a b l h c n

  -- so the pairs found below n are the list's
  all-test : (a b : ℕ) → test (from_of tr false b) b a ≡ race a b
  all-test a b = equal-tests _ _ (λ h. (both (leb (from_of tr false b) a) (race a b) h).1) (λ h. and (leb (from_of tr false b) a) (race a b) (from_start false a b h (λ s t l k. absurd s)) h)

  all-below : (m : ℕ) → listed_below tr false m ≡ pairs m (raceb (setting_of tr))
  unfolding listed_below pairs firsts
  all-below zero = refl
  all-below (suc m) = ap₂ ◌++◌ (all-below m) (ap (map (λ a. (a, m))) (upto-ext m (test (from_of tr false m) m) (λ a. race a m) (λ a l. all-test a m)))

  short-below : (m : ℕ) → listed_below tr true m ≡ pairs m (λ a b. neighbour (cells_of tr) a b && raceb (setting_of tr) a b)
  unfolding listed_below pairs firsts
  short-below zero = refl
  short-below (suc m) = ap₂ ◌++◌ (short-below m) (ap (map (λ a. (a, m))) (upto-ext m (test (from_of tr true m) m) (λ a. neighbour (cells_of tr) a m && race a m) (λ a l. sym (short-test a m))))

  pub pairs_below : (short : Bool) → listed_below tr short (length tr) ≡ pairs_of tr short
  unfolding pairs_of short_list all_races
  pairs_below true = short-below (length tr)
  pairs_below false = all-below (length tr)

  pub below_more : (short : Bool) (b : ℕ) → listed_below tr short (b + 1) ≡ listed_below tr short b ++ with_second tr b (firsts tr (from_of tr short b) b b)
  unfolding listed_below
  below_more short b = rw (add-one b)

  pub below_length : (short : Bool) (b : ℕ) → length (listed_below tr short (b + 1)) ≡ length (listed_below tr short b) + length (firsts tr (from_of tr short b) b b)
  below_length short b = ap length (below_more short b) ∙ (length-append (listed_below tr short b) (with_second tr b (firsts tr (from_of tr short b) b b)) ∙ ap (λ k. length (listed_below tr short b) + k) (length-map {B = ℕ × ℕ} (firsts tr (from_of tr short b) b b) (λ a. (a, b))))

  pub below_none : (short : Bool) → listed_below tr short 0 ≡ []
  unfolding listed_below
  below_none short = refl

  -- one for each pair of records at most
  pub below-few : (short : Bool) (n : ℕ) → 2 * length (listed_below tr short n) ≤ n * n
  below-few short zero = omega (arith, ap length (below_none short))
  below-few short (suc b) =
      let e : b + 1 ≡ suc b = omega arith in
      omega (arith, rw e at (below_length short b), firsts-length (from_of tr short b) b b, below-few short b, suc-mul b (suc b), mul_comm b (suc b), suc-mul b b)

  -- one first access more
  upto-mono : (m d : ℕ) (p : ℕ → Bool) → length (upto m p) ≤ length (upto (m + d) p)
  upto-mono m zero p = let e : m + 0 ≡ m = omega arith in rw e (omega arith)
  upto-mono m (suc d) p = let e : m + suc d ≡ suc (m + d) = omega arith in rw e (go (decide (p (m + d))) (upto-mono m d p))
    where
      go : T (p (m + d)) ⊎ (T (p (m + d)) → ⊥) → length (upto m p) ≤ length (upto (m + d) p) → length (upto m p) ≤ length (upto (suc (m + d)) p)
      go (inl h) l = omega (arith, ap length (upto-yes (m + d) p h), length-append (upto (m + d) p) ((m + d) ∷ []))
      go (inr h) l = omega (arith, ap length (upto-no (m + d) p h))

  pub firsts-grow : (from b a m : ℕ) → a < m → from ≤ a → race a b ≡ true → length (firsts tr from b a) + 1 ≤ length (firsts tr from b m)
  unfolding firsts
  firsts-grow from b a m l h e =
      let more = upto-mono (a + 1) (m - (a + 1)) (test from b) in
      let q : a + 1 + (m - (a + 1)) ≡ m = omega arith in
      omega (arith, ap length (firsts-yes from b a h e), length-append (upto a (test from b)) (a ∷ []), rw q at more)

-- the row of a second access stands in the clocks
pub second-row : {tr : List Record} {ranks chosen : List ℕ} {width : ℕ} {clocks : List ℕ} {b u : ℕ} → Second tr ranks chosen width clocks b u → RowsIn chosen width clocks u u
second-row {tr = tr} {b = b} {u = u} s =
    let h : u < events_in tr = omega (arith, s.row, row_inside s.filled b s.inside) in
    rows_in s.filled u u h h

-- The test of one pair of records by their rows.
module _ {writing : Bool} {tr : List Record} {ranks chosen : List ℕ} {width : ℕ} {clocks : List ℕ} {a b u k : ℕ} {list : List ℕ} (r : OneRoom writing tr ranks chosen width clocks a b u k list) (t : ℕ) (e : t ≡ get_or ranks (event_of (at tr a)) 0 - 1) where
  first_inside : a < length tr
  first_inside = omega (arith, r.earlier, r.second.inside)

  row_is : t ≡ rank tr (event_of (at tr a)) - 1
  row_is = e ∙ ap (λ x. x - 1) (rank_is r.second.filled a first_inside)

  pub race-rows : BothIn chosen width clocks t u
  race-rows = rows_both r.second.filled a b t u first_inside r.second.inside row_is r.second.row

  pub race-told : (at tr a).kind ≤ 6 → (v : Bool) → v ≡ says_unordered (relate_in clocks width t (get_or chosen t 0) u (get_or chosen u 0)) → raceb (setting_of tr) a b ≡ v
  race-told h v q =
      may-race tr r.second.filled.acceptable a b r.earlier r.second.inside r.second.access h r.may
      ∙ sym (q ∙ unordered-told r.second.filled a b t u first_inside r.second.inside row_is r.second.row r.earlier)

-- what was found on the way to b may race with it
pub may-found : (tr : List Record) {least c : ℕ} (a b : ℕ) → c ≡ cell tr b → least ≡ least_kind (at tr b).kind → T (may_race tr least c a) → T (may_race tr (least_kind (at tr b).kind) (cell tr b) a)
may-found tr a b e f t = rw (e, f) at t
