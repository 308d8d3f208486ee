-- Any records of an acceptable trace that leave out accesses alone are an acceptable trace, with the trace's links. Assumes nothing.
use Prim.Native.Nat.{ℕ, zero, suc, ◌-◌, ◌≤◌, ◌<◌}
use mathlib.Core.Path.{◌≡◌, refl, sym, ap, ap₂, ◌∙◌, fun_ext, subst}
use mathlib.Core.Logic.{◌⊎◌, inl, inr}
use mathlib.Core.Bool.{Bool, true, false, cond, not, ◌&&◌, ◌||◌}
use mathlib.Core.List.{List, [], ◌∷◌, ◌++◌, map, map-append}
use native.Mathlib.Omega.{arith}
use native.Mathlib.Numerals.{add-one}
use lib.Dec.{T, eqb, leb, ltb, ltb→lt, lt→ltb}
use lib.ListN.{length}
use Rattle.records.specs.declared.Record.{Record}
use Rattle.records.specs.Records.{at, past, begins, is_begin, is_join}
use Rattle.records.specs.Kinds.{starts, same_link}
use Rattle.trace.specs.Rule.{rule}
use Rattle.trace.specs.Plain.{plain_rule}
use Rattle.trace.specs.Reading.{Acceptable}
use Rattle.trace.proofs.Behind.{rule-passes, rule-free}
use Rattle.slices.proofs.Tests.{decide, failed, same as equal-tests}
use Rattle.coverage.specs.Below.{some, upto, only}
use Rattle.coverage.proofs.Lists.{upto_zero, upto-no}
use Rattle.coverage.proofs.Indexed.{size, item, size-zero, size-yes, size-no, item-passes, item-at, place_of, size-more, size-most}
use Rattle.precedence.specs.Table.{Table, ahead, some_target, sets, table, missing, blocked_for}
use Rattle.precedence.proofs.Rows.{link-first, link-second}
use Rattle.ranks.specs.declared.Ordering.TheVariants.{Nothing}
use Rattle.order.specs.Schedule.{linked}
use Rattle.order.specs.Rank.{rank}
use Rattle.order.specs.LinkRule.{linking_of, linking_at, puts_behind, targets_at, behind}
use Rattle.order.specs.HappensBefore.{trace_links}
use Rattle.races.specs.Traces.{is_access}
use Rattle.races.proofs.Instance.{access-kind}
use Rattle.compactor.proofs.Thinned.{rule-alike, thin, thin-length, thin_at, thin-rank, alike, all_alike}

upto_step : (n : ℕ) (q : ℕ → Bool) → upto (suc n) q ≡ upto n q ++ only (q n) n
unfolding upto
upto_step n q = refl

-- tests of kept numbers, by their places among those kept
module _ (keep : ℕ → Bool) where
  pub record Alike (n : ℕ) (q q' : ℕ → Bool) : Type 0 where
    pub kept : (i : ℕ) → i < n → T (keep i) → q' (size keep i) ≡ q i
    pub dropped : (i : ℕ) → i < n → (T (keep i) → ⊥) → q i ≡ false

  fewer : (n : ℕ) (q q' : ℕ → Bool) → Alike (suc n) q q' → Alike n q q'
  fewer n q q' a = record { kept = λ i l. a.kept i (omega arith); dropped = λ i l. a.dropped i (omega arith) }

  pub some_alike : (n : ℕ) (q q' : ℕ → Bool) → Alike n q q' → some (size keep n) q' ≡ some n q
  unfolding some
  some_alike zero q q' a = rw (size-zero keep)
  some_alike (suc n) q q' a = go (decide (keep n)) (some_alike n q q' (fewer n q q' a))
    where
      go : T (keep n) ⊎ (T (keep n) → ⊥) → some (size keep n) q' ≡ some n q → some (size keep (suc n)) q' ≡ (q n || some n q)
      go (inl h) e = rw (size-yes keep n h, add-one (size keep n), a.kept n (omega arith) h, e)
      go (inr h) e = rw (size-no keep n h, a.dropped n (omega arith) h) e

  pub upto-alike : {A : Type 0} (n : ℕ) (q q' : ℕ → Bool) (f f' : ℕ → A) → Alike n q q' → ((i : ℕ) → i < n → T (keep i) → f' (size keep i) ≡ f i)
      → map f' (upto (size keep n) q') ≡ map f (upto n q)
  upto-alike zero q q' f f' a e = rw (size-zero keep, upto_zero q, upto_zero q')
  upto-alike {A} (suc n) q q' f f' a e =
      go (decide (keep n)) (upto-alike n q q' f f' (fewer n q q' a) (λ i l. e i (omega arith)))
    where
      one : (b : Bool) (i j : ℕ) → f' i ≡ f j → map f' (only b i) ≡ map f (only b j)
      one true i j z = ap (λ (x : A). x ∷ []) z
      one false i j z = refl

      go : T (keep n) ⊎ (T (keep n) → ⊥) → map f' (upto (size keep n) q') ≡ map f (upto n q)
          → map f' (upto (size keep (suc n)) q') ≡ map f (upto (suc n) q)
      go (inl h) z =
          rw (size-yes keep n h, add-one (size keep n), upto_step (size keep n) q', upto_step n q, a.kept n (omega arith) h)
          (map-append f' (upto (size keep n) q') (only (q n) (size keep n))
          ∙ ap₂ (λ (x y : List A). x ++ y) z (one (q n) (size keep n) n (e n (omega arith) h))
          ∙ sym (map-append f (upto n q) (only (q n) n)))
      go (inr h) z = rw (size-no keep n h) (z ∙ ap (map f) (sym (upto-no n q (λ k. subst T (a.dropped n (omega arith) h) k))))

-- an access makes no link, and begins nothing
pub no_start : (r : Record) → T (is_access r) → T (starts r) → ⊥
no_start r h s = go (access-kind r h)
  where
    as-kind : {k : ℕ} → r.kind ≡ k → T (eqb k 3 || (leb 16 k && leb k 19))
    as-kind e = subst (λ (k : ℕ). T (eqb k 3 || (leb 16 k && leb k 19))) e s

    go : (r.kind ≡ 5) ⊎ (r.kind ≡ 6) → ⊥
    go (inl e) = as-kind e
    go (inr e) = as-kind e

access-start : (r : Record) → T (is_access r) → starts r ≡ false
access-start r h = failed (starts r) (no_start r h)

access-begin : (r : Record) → T (is_access r) → is_begin r ≡ false
access-begin r h = go (access-kind r h)
  where
    go : (r.kind ≡ 5) ⊎ (r.kind ≡ 6) → is_begin r ≡ false
    go (inl e) = rw e
    go (inr e) = rw e

access-join : (r : Record) → T (is_access r) → is_join r ≡ false
access-join r h = go (access-kind r h)
  where
    go : (r.kind ≡ 5) ⊎ (r.kind ≡ 6) → is_join r ≡ false
    go (inl e) = rw e
    go (inr e) = rw e

or-false : (a : Bool) → (a || false) ≡ a
or-false true = refl
or-false false = refl

and-false : (a : Bool) → (a && false) ≡ false
and-false true = refl
and-false false = refl

none_pass : (n : ℕ) (q : ℕ → Bool) → ((i : ℕ) → i < n → q i ≡ false) → some n q ≡ false
unfolding some
none_pass zero q h = refl
none_pass (suc n) q h = rw (h n (omega arith), none_pass n q (λ i l. h i (omega arith)))

module _ {tr : List Record} (acc : Acceptable tr) (keep : ℕ → Bool) (drops : (i : ℕ) → i < length tr → (T (keep i) → ⊥) → T (is_access (at tr i))) where
  abbrev thinned : List Record
  thinned = thin acc keep drops

  abbrev place : ℕ → ℕ
  place i = size keep i

  -- a kept record at its place
  at_place : (i : ℕ) → i < length tr → T (keep i) → at thinned (place i) ≡ at tr i
  at_place i l h = let (x, m) = item-at keep (length tr) i l h in thin_at acc keep drops (place i) m ∙ ap (at tr) x

  at-place-first : (i : ℕ) → i < length tr → T (keep i) → (at thinned (place i)).first ≡ (at tr i).first
  at-place-first i l h = ap (λ (r : Record). r.first) (at_place i l h)

  at-place-second : (i : ℕ) → i < length tr → T (keep i) → (at thinned (place i)).second ≡ (at tr i).second
  at-place-second i l h = ap (λ (r : Record). r.second) (at_place i l h)

  -- places go up
  place-less : (x y : ℕ) → T (keep x) → ltb (place x) (place y) ≡ ltb x y
  place-less x y h =
      equal-tests (ltb (place x) (place y)) (ltb x y) (λ k. lt→ltb x y (back (ltb→lt (place x) (place y) k)))
      (λ k. lt→ltb (place x) (place y) (omega (arith, size-yes keep x h, size-more keep (suc x) y (ltb→lt x y k))))
    where
      back : place x < place y → x < y
      back k = let g : y ≤ x → ⊥ = λ z. omega (arith, size-more keep y x z, k) in omega (arith, g)

  -- the sends ahead of a send, by any table
  module _ (b : Table) (e : ℕ) where
    ahead-first : (x y : ℕ) → T (is_access (at tr x)) → ahead tr b e x y ≡ false
    unfolding ahead
    ahead-first x y h = rw (failed (same_link (at tr x) (at tr y)) (λ k. no_start (at tr x) h (link-first (at tr x) (at tr y) k)))

    ahead-second : (x y : ℕ) → T (is_access (at tr y)) → ahead tr b e x y ≡ false
    unfolding ahead
    ahead-second x y h = rw (failed (same_link (at tr x) (at tr y)) (λ k. no_start (at tr y) h (link-second (at tr x) (at tr y) k)))

    ahead-kept : (x y : ℕ) → x < length tr → y < length tr → T (keep x) → T (keep y) → ahead thinned b e (place x) (place y) ≡ ahead tr b e x y
    unfolding ahead
    ahead-kept x y l m h k = rw (at_place x l h, at_place y m k)

    module _ (q : ℕ → Bool) where
      inner : (y n : ℕ) → y < length tr → n ≤ length tr → T (keep y)
          → Alike keep n (λ x. ahead tr b e x y && q (at tr x).second) (λ x. ahead thinned b e x (place y) && q (at thinned x).second)
      inner y n l m k = record {
        kept = λ x i h. rw (ahead-kept x y (omega arith) l h k, at-place-second x (omega arith) h);
        dropped = λ x i h. rw (ahead-first x y (drops x (omega arith) h));
      }

      target-alike : (i : ℕ) → i ≤ length tr → some_target thinned b (place i) e q ≡ some_target tr b i e q
      unfolding some_target
      target-alike i l =
          some_alike keep i (λ y. some y (λ x. ahead tr b e x y && q (at tr x).second)) (λ y. some y (λ x. ahead thinned b e x y && q (at thinned x).second))
          (record {
            kept = λ y m h.
                some_alike keep y (λ x. ahead tr b e x y && q (at tr x).second) (λ x. ahead thinned b e x (place y) && q (at thinned x).second)
                (inner y y (omega arith) (omega arith) h);
            dropped = λ y m h. none_pass y (λ x. ahead tr b e x y && q (at tr x).second) (λ x k. rw (ahead-second x y (drops y (omega arith) h)));
          })

  -- the table is the trace's, record by record
  sets-alike : (i : ℕ) → i ≤ length tr → (r : Record) (b : Table) (t u : ℕ) → sets thinned (place i) r b t u ≡ sets tr i r b t u
  unfolding sets
  sets-alike i l r b t u = rw (target-alike b u (b t) i l)

  sets-none : (i : ℕ) → T (is_access (at tr i)) → (b : Table) (t u : ℕ) → sets tr i (at tr i) b t u ≡ false
  unfolding sets
  sets-none i h b t u = rw (access-start (at tr i) h, access-join (at tr i) h, access-begin (at tr i) h)

  table-alike : (i : ℕ) → i ≤ length tr → (t u : ℕ) → table thinned (place i) t u ≡ table tr i t u
  unfolding table
  table-alike zero l t u = rw (size-zero keep)
  table-alike (suc i) l t u = go (decide (keep i)) (table-alike i (omega arith))
    where
      go : T (keep i) ⊎ (T (keep i) → ⊥) → ((t u : ℕ) → table thinned (place i) t u ≡ table tr i t u)
          → table thinned (place (suc i)) t u ≡ (table tr i t u || sets tr i (at tr i) (table tr i) t u)
      go (inl h) f =
          let z : table thinned (place i) ≡ table tr i = fun_ext (λ t. fun_ext (f t)) in
          rw (size-yes keep i h, add-one (place i), z, at_place i (omega arith) h, sets-alike i (omega arith) (at tr i) (table tr i) t u)
      go (inr h) f =
          rw (size-no keep i h, sets-none i (drops i (omega arith) h) (table tr i) t u) (f t u ∙ sym (or-false (table tr i t u)))

  tables : (i : ℕ) → i ≤ length tr → table thinned (place i) ≡ table tr i
  tables i l = fun_ext (λ t. fun_ext (table-alike i l t))

  -- so 31 refuses none of their begins
  missing-alike : (i : ℕ) → i ≤ length tr → (e v : ℕ) → missing thinned (place i) e v ≡ missing tr i e v
  missing-alike i l e v = rw ((alike acc keep drops i l).begun_same v)

  blocked-alike : (i : ℕ) → i ≤ length tr → (e : ℕ) → blocked_for thinned (place i) e ≡ blocked_for tr i e
  unfolding blocked_for
  blocked-alike i l e =
      let z : missing thinned (place i) e ≡ missing tr i e = fun_ext (missing-alike i l e) in
      rw (tables i l, z) (target-alike (table tr i) e (missing tr i e) i l)

  passes-at-place : (i : ℕ) → i < length tr → T (keep i) → rule (past thinned (place i)) (at thinned (place i)) ≡ 0
  passes-at-place i l h =
      let (plain, free) = rule-passes tr i (acc.passes i l) in
      rule-free thinned (place i)
      (λ b. ap (blocked_for thinned (place i)) (at-place-first i l h) ∙ blocked-alike i (omega arith) (at tr i).first
      ∙ free (subst (λ (r : Record). T (is_begin r)) (at_place i l h) b))
      ∙ ap (plain_rule (past thinned (place i))) (at_place i l h) ∙ rule-alike (alike acc keep drops i (omega arith)) (at tr i) ∙ plain

  -- they are an acceptable trace
  pub thin-acceptable : Acceptable thinned
  thin-acceptable = record {
    few = let m = size-most keep (length tr) in omega (arith, thin-length acc keep drops, acc.few, m);
    passes = λ k l.
        let h : k < size keep (length tr) = omega (arith, thin-length acc keep drops) in
        let (m, kept) = item-passes keep (length tr) k h in
        subst (λ (x : ℕ). rule (past thinned x) (at thinned x) ≡ 0) (place_of keep (length tr) k h) (passes-at-place (item keep (length tr) k) m kept);
    closed = (all_alike acc keep drops).situations ∙ acc.closed;
  }

  -- the targets that the link rule finds at a begin are the trace's
  between : (i x : ℕ) → i < length tr → x < i → T (keep x)
      → some (place i) (λ y. ltb (place x) y && ahead thinned (table tr i) (at tr i).first (place x) y)
      ≡ some i (λ y. ltb x y && ahead tr (table tr i) (at tr i).first x y)
  between i x l m h =
      some_alike keep i (λ y. ltb x y && ahead tr (table tr i) (at tr i).first x y)
      (λ y. ltb (place x) y && ahead thinned (table tr i) (at tr i).first (place x) y)
      (record {
        kept = λ y k g. rw (place-less x y h, ahead-kept (table tr i) (at tr i).first x y (omega arith) (omega arith) h g);
        dropped = λ y k g. rw (ahead-second (table tr i) (at tr i).first x y (drops y (omega arith) g)) (and-false (ltb x y));
      })

  puts-alike : (i : ℕ) → i < length tr → T (keep i) → Alike keep i (puts_behind tr i) (puts_behind thinned (place i))
  unfolding puts_behind
  puts-alike i l g = record {
    kept = λ x m h. rw (at-place-second x (omega arith) h, at-place-first i l g, tables i (omega arith), between i x l m h);
    dropped = λ x m h.
        rw (none_pass i (λ y. ltb x y && ahead tr (table tr i) (at tr i).first x y)
        (λ y k. rw (ahead-first (table tr i) (at tr i).first x y (drops x (omega arith) h)) (and-false (ltb x y))))
        (and-false (not (eqb (at tr x).second (at tr i).first)));
  }

  targets-alike : (i : ℕ) → i < length tr → T (keep i) → targets_at thinned (place i) ≡ targets_at tr i
  unfolding targets_at
  targets-alike i l g =
      upto-alike keep i (puts_behind tr i) (puts_behind thinned (place i)) (λ x. rank tr (at tr x).second - 1) (λ x. rank thinned (at thinned x).second - 1)
      (puts-alike i l g) (λ x m h. rw (thin-rank acc keep drops (at thinned (place x)).second, at-place-second x (omega arith) h))

  behind-alike : (u n : ℕ) → n ≤ length tr → behind thinned (place n) u ≡ behind tr n u
  unfolding behind
  behind-alike u zero l = rw (size-zero keep)
  behind-alike u (suc n) l = go (decide (keep n)) (behind-alike u n (omega arith))
    where
      go : T (keep n) ⊎ (T (keep n) → ⊥) → behind thinned (place n) u ≡ behind tr n u
          → behind thinned (place (suc n)) u ≡ cond (is_begin (at tr n) && eqb (begins (past tr n)) u) (targets_at tr n) (behind tr n u)
      go (inl h) e =
          let counts = (alike acc keep drops n (omega arith)).counts in
          rw (size-yes keep n h, add-one (place n), at_place n (omega arith) h, counts, targets-alike n (omega arith) h, e)
      go (inr h) e = rw (size-no keep n h, access-begin (at tr n) (drops n (omega arith) h)) e

  -- and what the records say
  same_op : (r : Record) → linking_of (rank thinned) r ≡ linking_of (rank tr) r
  same_op r = ap (λ (f : ℕ → ℕ). linking_of f r) (fun_ext (thin-rank acc keep drops))

  access-op : (r : Record) → T (is_access r) → linking_of (rank tr) r ≡ Nothing
  unfolding linking_of
  access-op r h = rw (access-begin r h, access-start r h, access-join r h)

  linked-alike : (u i : ℕ) → i ≤ length tr → linked (linking_at thinned) (place i) u ≡ linked (linking_at tr) i u
  unfolding linked linking_at
  linked-alike u zero l = rw (size-zero keep)
  linked-alike u (suc i) l = go (decide (keep i)) (linked-alike u i (omega arith))
    where
      go : T (keep i) ⊎ (T (keep i) → ⊥) → linked (linking_at thinned) (place i) u ≡ linked (linking_at tr) i u
          → linked (linking_at thinned) (place (suc i)) u ≡ linked (linking_at tr) (suc i) u
      go (inl h) e = rw (size-yes keep i h, add-one (place i), at_place i (omega arith) h, same_op (at tr i), e)
      go (inr h) e = rw (size-no keep i h, access-op (at tr i) (drops i (omega arith) h)) e

  preds-alike : (u : ℕ) → (trace_links thinned).preds u ≡ (trace_links tr).preds u
  preds-alike u = rw (thin-length acc keep drops, behind-alike u (length tr) (omega arith), linked-alike u (length tr) (omega arith))

  pub thin-links : trace_links thinned ≡ trace_links tr
  thin-links = ap (λ (f : ℕ → List ℕ). record { preds = f }) (fun_ext preds-alike)
