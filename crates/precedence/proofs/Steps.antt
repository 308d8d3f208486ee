-- What one record adds to the table, case by case. Assumes nothing.
use Prim.Native.Nat.{ℕ, suc, ◌<◌}
use mathlib.Core.Path.{◌≡◌, refl}
use mathlib.Core.Bool.{Bool, ◌&&◌, ◌||◌}
use mathlib.Core.Logic.{◌⊎◌, inl, inr}
use mathlib.Core.List.{List}
use lib.Dec.{T, eqb, eqb→eq}
use Rattle.records.specs.declared.Record.{Record}
use Rattle.records.specs.Records.{at, is_begin, is_join}
use Rattle.coverage.specs.Below.{some}
use Rattle.slices.proofs.Tests.{both, and, either, or_left, or_right, eq→eqb}
use Rattle.coverage.proofs.Below.{found, find}
use Rattle.records.specs.Kinds.{starts, same_link}
use Rattle.precedence.specs.Table.{Table, ahead, some_target, sets, table}

-- sends x and y, among the first i records, that put e behind x's target, and that passes
pub record Puts (tr : List Record) (b : Table) (i e : ℕ) (q : ℕ → Bool) : Type 0 where
  pub x : ℕ
  pub y : ℕ
  pub earlier : x < y
  pub inside : y < i
  pub one_link : T (same_link (at tr x) (at tr y))
  pub to : (at tr y).second ≡ e
  pub senders : T (b (at tr x).first (at tr y).first)
  pub passes : T (q (at tr x).second)

module _ (tr : List Record) (b : Table) (i e : ℕ) (q : ℕ → Bool) where
  pub puts : T (some_target tr b i e q) → Puts tr b i e q
  unfolding some_target ahead
  puts h =
      let f = found i (λ y. some y (λ x. ahead tr b e x y && q (at tr x).second)) h in
      let g = found f.0 (λ x. ahead tr b e x f.0 && q (at tr x).second) f.2 in
      let a = both (ahead tr b e g.0 f.0) (q (at tr g.0).second) g.2 in
      let c = both (same_link (at tr g.0) (at tr f.0)) (eqb (at tr f.0).second e && b (at tr g.0).first (at tr f.0).first) a.0 in
      let d = both (eqb (at tr f.0).second e) (b (at tr g.0).first (at tr f.0).first) c.1 in
      record { x = g.0; y = f.0; earlier = g.1; inside = f.1; one_link = c.0; to = eqb→eq (at tr f.0).second e d.0; senders = d.1; passes = a.1 }

  pub put : Puts tr b i e q → T (some_target tr b i e q)
  unfolding some_target ahead
  put p =
      let d = and (eqb (at tr p.y).second e) (b (at tr p.x).first (at tr p.y).first) (eq→eqb (at tr p.y).second e p.to) p.senders in
      let c = and (same_link (at tr p.x) (at tr p.y)) (eqb (at tr p.y).second e && b (at tr p.x).first (at tr p.y).first) p.one_link d in
      let a = and (ahead tr b e p.x p.y) (q (at tr p.x).second) c p.passes in
      find i (λ y. some y (λ x. ahead tr b e x y && q (at tr x).second)) p.y p.inside
      (find p.y (λ x. ahead tr b e x p.y && q (at tr x).second) p.x p.earlier a)

module _ (tr : List Record) where
  -- a bit after record i
  pub data New (i t u : ℕ) : Type 0 where
    kept : T (table tr i t u) → New i t u
    started : T (starts (at tr i)) → (at tr i).second ≡ u → T (table tr i t (at tr i).first) → New i t u
    joined : T (is_join (at tr i)) → (at tr i).first ≡ u → T (table tr i t (at tr i).second) → New i t u
    own : T (is_begin (at tr i)) → (at tr i).first ≡ u → t ≡ u → New i t u
    linked : T (is_begin (at tr i)) → (at tr i).first ≡ u → Puts tr (table tr i) i u (table tr i t) → New i t u

  module _ (i t u : ℕ) where
    by_start : Bool
    by_start = starts (at tr i) && (eqb (at tr i).second u && table tr i t (at tr i).first)

    by_join : Bool
    by_join = is_join (at tr i) && (eqb (at tr i).first u && table tr i t (at tr i).second)

    at_begin : Bool
    at_begin = eqb t u || some_target tr (table tr i) i u (table tr i t)

    by_begin : Bool
    by_begin = is_begin (at tr i) && (eqb (at tr i).first u && at_begin)

    begun-new : T by_begin → New i t u
    unfolding by_begin at_begin
    begun-new h =
        let a = both (is_begin (at tr i)) (eqb (at tr i).first u && at_begin) h in
        let c = both (eqb (at tr i).first u) at_begin a.1 in
        go a.0 (eqb→eq (at tr i).first u c.0) (either (eqb t u) (some_target tr (table tr i) i u (table tr i t)) c.1)
      where
        go : T (is_begin (at tr i)) → (at tr i).first ≡ u → T (eqb t u) ⊎ T (some_target tr (table tr i) i u (table tr i t)) → New i t u
        go a e (inl h) = own a e (eqb→eq t u h)
        go a e (inr h) = linked a e (puts tr (table tr i) i u (table tr i t) h)

    start-new : T by_start → New i t u
    unfolding by_start
    start-new h =
        let a = both (starts (at tr i)) (eqb (at tr i).second u && table tr i t (at tr i).first) h in
        let c = both (eqb (at tr i).second u) (table tr i t (at tr i).first) a.1 in
        started a.0 (eqb→eq (at tr i).second u c.0) c.1

    join-new : T by_join → New i t u
    unfolding by_join
    join-new h =
        let a = both (is_join (at tr i)) (eqb (at tr i).first u && table tr i t (at tr i).second) h in
        let c = both (eqb (at tr i).first u) (table tr i t (at tr i).second) a.1 in
        joined a.0 (eqb→eq (at tr i).first u c.0) c.1

    table_is : table tr (suc i) t u ≡ (table tr i t u || (by_start || (by_join || by_begin)))
    unfolding table sets by_start by_join by_begin at_begin
    table_is = refl

    pub new : T (table tr (suc i) t u) → New i t u
    new h = go (either (table tr i t u) (by_start || (by_join || by_begin)) (rw table_is at h))
      where
        go₂ : T by_join ⊎ T by_begin → New i t u
        go₂ (inl h) = join-new h
        go₂ (inr h) = begun-new h

        go₁ : T by_start ⊎ T (by_join || by_begin) → New i t u
        go₁ (inl h) = start-new h
        go₁ (inr h) = go₂ (either by_join by_begin h)

        go : T (table tr i t u) ⊎ T (by_start || (by_join || by_begin)) → New i t u
        go (inl h) = kept h
        go (inr h) = go₁ (either by_start (by_join || by_begin) h)

    by-begin : T (is_begin (at tr i)) → (at tr i).first ≡ u → T at_begin → T (table tr (suc i) t u)
    unfolding by_begin
    by-begin a e h =
        rw table_is
        (or_right (table tr i t u) (by_start || (by_join || by_begin))
        (or_right by_start (by_join || by_begin)
        (or_right by_join by_begin
        (and (is_begin (at tr i)) (eqb (at tr i).first u && at_begin) a (and (eqb (at tr i).first u) at_begin (eq→eqb (at tr i).first u e) h)))))

    pub set : New i t u → T (table tr (suc i) t u)
    unfolding by_start by_join at_begin
    set (kept h) = rw table_is (or_left (table tr i t u) (by_start || (by_join || by_begin)) h)
    set (started a e h) =
        rw table_is
        (or_right (table tr i t u) (by_start || (by_join || by_begin))
        (or_left by_start (by_join || by_begin)
        (and (starts (at tr i)) (eqb (at tr i).second u && table tr i t (at tr i).first) a
        (and (eqb (at tr i).second u) (table tr i t (at tr i).first) (eq→eqb (at tr i).second u e) h))))
    set (joined a e h) =
        rw table_is
        (or_right (table tr i t u) (by_start || (by_join || by_begin))
        (or_right by_start (by_join || by_begin)
        (or_left by_join by_begin
        (and (is_join (at tr i)) (eqb (at tr i).first u && table tr i t (at tr i).second) a
        (and (eqb (at tr i).first u) (table tr i t (at tr i).second) (eq→eqb (at tr i).first u e) h)))))
    set (own a e h) = by-begin a e (or_left (eqb t u) (some_target tr (table tr i) i u (table tr i t)) (eq→eqb t u h))
    set (linked a e p) = by-begin a e (or_right (eqb t u) (some_target tr (table tr i) i u (table tr i t)) (put tr (table tr i) i u (table tr i t) p))

  -- nothing is there at first
  pub none : (t u : ℕ) → T (table tr 0 t u) → ⊥
  unfolding table
  none t u h = h
