-- The laws of records that pass 4 to 8 one after the other: the records of one event action stand together, and links stand between the event
-- actions that they order.
-- Assumes nothing.
use Prim.Native.Nat.{ℕ, zero, suc, ◌+◌, ◌-◌, ◌<◌, ◌≤◌}
use mathlib.Core.Path.{◌≡◌, refl, sym, ap, ◌∙◌}
use mathlib.Core.Bool.{Bool, true, false, cond, not, ◌&&◌, ◌||◌}
use mathlib.Core.List.{List, [], ◌∷◌}
use mathlib.Core.Logic.{◌≢◌, ◌⊎◌, inl, inr}
use native.Mathlib.Omega.{arith}
use native.Mathlib.Nat.{not-suc-le-zero, eq-or-lt_of_le, le_of_suc-le-suc}
use native.Mathlib.Decide.{ℕ_discrete}
use borrow.Author.Tests.{eq-eqb, ne_eqb, eqb-true, not-false}
use lib.Dec.{T, eqb}
use Rattle.records.specs.declared.Record.{Record}
use Rattle.records.specs.Records.{at, past, is_begin, is_end, event_of, has, begun, ended}
use Rattle.trace.specs.Place.{between, unknown_kind, out_of_place, place}
use Rattle.records.specs.Kinds.{starts}
use Rattle.slices.proofs.Tests.{passed as is_true}
use Rattle.trace.specs.Rule.{situation, owner, well_formed, misplaced, again, early, judge}
use Rattle.trace.specs.Plain.{plain_rule}
use Rattle.records.proofs.Positions.{true-not-false, or-second, Found, has-found, has-intro, has-later, lt-or-ge}
use Rattle.trace.proofs.PlaceRule.{Outside, begins, joins, Inside, ends, forks, reads, writes, sends, outside, inside}

over : (t : Bool) (n y : ℕ) → cond t (suc n) y ≡ 0 → (t ≡ false) × (y ≡ 0)
over true n y e = absurd (omega arith)
over false n y e = (refl, e)

neither : (a b : Bool) → (a || b) ≡ false → (a ≡ false) × (b ≡ false)
neither true b e = let z : ◌≡◌ {A = ℕ} 0 1 = cc in absurd (omega arith)
neither false b e = (refl, e)

-- what it means that a record passes 4 to 8
pub record Passes (before : List Record) (r : Record) : Type 0 where
  pub known : eqb (place (situation before) r.kind) unknown_kind ≡ false
  pub well-formed : well_formed r ≡ true
  pub placed : eqb (place (situation before) r.kind) out_of_place ≡ false
  pub owned : situation before ≢ between → r.first ≡ owner before
  pub fresh : again r (begun r.first before) (begun r.second before) ≡ false
  pub waited : early r (ended r.second before) ≡ false

pub passing : (before : List Record) (r : Record) → plain_rule before r ≡ 0 → Passes before r
unfolding plain_rule judge misplaced
passing before r h =
    let s = situation before in
    let p1 = over (eqb (place s r.kind) unknown_kind) 3 _ h in
    let p2 = over (not (well_formed r)) 4 _ p1.1 in
    let p3 = over (misplaced s (owner before) r) 5 _ p2.1 in
    let p4 = over (again r (begun r.first before) (begun r.second before)) 6 _ p3.1 in
    let p5 = over (is_begin r && false) 30 _ p4.1 in
    let p6 = over (early r (ended r.second before)) 7 _ p5.1 in
    let q = neither (eqb (place s r.kind) out_of_place) (not (eqb s between) && not (eqb r.first (owner before))) p3.0 in
    record {
      known = p1.0;
      well-formed = not-false (well_formed r) p2.0;
      placed = q.0;
      owned = λ n. own (eqb r.first (owner before)) refl (rw (ne_eqb s between n) at q.1);
      fresh = p4.0;
      waited = p6.0;
    }
  where
    own : (b : Bool) → eqb r.first (owner before) ≡ b → (true && not b) ≡ false → r.first ≡ owner before
    own true e q = eqb-true r.first (owner before) e
    own false e q = let z : ◌≡◌ {A = ℕ} 0 1 = cc in absurd (omega arith)

-- begin and join: the event has not begun. Fork and send: the event started has not begun. Join: the event waited for has ended.
pub again-start : (r : Record) (x y : Bool) → (r.kind ≡ 1) ⊎ (r.kind ≡ 4) → again r x y ≡ false → x ≡ false
unfolding again
again-start r x y (inl k) h = rw k at h
again-start r x y (inr k) h = rw k at h

again-fork : (r : Record) (x y : Bool) → T (starts r) → again r x y ≡ false → y ≡ false
unfolding again
again-fork r x y k h = rw (is_true (starts r) k) at h

early-join : (r : Record) (x : Bool) → r.kind ≡ 4 → early r x ≡ false → x ≡ true
unfolding early
early-join r x k h = not-false x (rw k at h)

pub fork-starts : (r : Record) → r.kind ≡ 3 → T (starts r)
fork-starts r k = rw k tt

begin-starts-nothing : (r : Record) → r.kind ≡ 1 → T (starts r) → ⊥
begin-starts-nothing r k h = rw k at h

-- Inside an event action its event has begun.
abbrev pub Running : List Record → Type 0
Running before = 2 ≤ situation before → begun (owner before) before ≡ true

pub running-start : Running []
unfolding situation
running-start l = absurd (omega arith)

module _ {before : List Record} {r : Record} (p : Passes before r) (going : Running before) where
  inside-begun : 2 ≤ situation before → begun r.first before ≡ true
  inside-begun l = rw (p.owned (λ e. omega arith)) (going l)

  -- any record but a begin and a join
  pub body-begun : r.kind ≢ 1 → r.kind ≢ 4 → begun r.first before ≡ true
  body-begun n m = go (lt-or-ge (situation before) 2)
    where
      off : Outside r.kind (place (situation before) r.kind) → ⊥
      off (begins k q) = n k
      off (joins k q) = m k

      go : (situation before < 2) ⊎ (2 ≤ situation before) → begun r.first before ≡ true
      go (inl l) = absurd (off (outside (situation before) r.kind p.known p.placed l))
      go (inr l) = inside-begun l

  pub running-next : Running (r ∷ before)
  unfolding situation owner begun has
  running-next l = go (lt-or-ge (situation before) 2)
    where
      entered : Outside r.kind (place (situation before) r.kind) → begun r.first (r ∷ before) ≡ true
      entered (begins k q) = simp (k, eq-eqb r.first r.first refl)
      entered (joins k q) = absurd (omega arith)

      go : (situation before < 2) ⊎ (2 ≤ situation before) → begun r.first (r ∷ before) ≡ true
      go (inl m) = entered (outside (situation before) r.kind p.known p.placed m)
      go (inr m) = or-second (is_begin r && eqb r.first r.first) (begun r.first before) (inside-begun m)

-- the first n records pass
pub record AllPass (tr : List Record) (n : ℕ) : Type 0 where
  pub passes_at : (i : ℕ) → i < n → Passes (past tr i) (at tr i)

module _ {tr : List Record} {n : ℕ} (a : AllPass tr n) where
  abbrev ev : ℕ → ℕ
  ev i = event_of (at tr i)

  abbrev kind : ℕ → ℕ
  kind i = (at tr i).kind

  abbrev sit : ℕ → ℕ
  sit i = situation (past tr i)

  outside-at : (i : ℕ) → i < n → sit i < 2 → Outside (kind i) (sit (suc i))
  unfolding situation past
  outside-at i h l = let p = a.passes_at i h in outside (sit i) (kind i) p.known p.placed l

  inside-at : (i : ℕ) → i < n → 2 ≤ sit i → Inside (kind i) (sit (suc i))
  unfolding situation past
  inside-at i h l = let p = a.passes_at i h in inside (sit i) (kind i) p.known p.placed l

  owner-after : (i : ℕ) → owner (past tr (suc i)) ≡ ev i
  unfolding owner past
  owner-after i = refl

  -- before the record at position i
  record Started (i : ℕ) : Type 0 where
    low : sit i ≤ 2
    running : Running (past tr i)
    all : (x : ℕ) → x < i → (begun (ev x) (past tr i) ≡ true) ⊎ ((sit i ≡ 1) × (owner (past tr i) ≡ ev x))

  begun-here : (i : ℕ) → kind i ≡ 1 → begun (ev i) (past tr (suc i)) ≡ true
  unfolding begun
  begun-here i k = has-intro tr is_begin (ev i) (suc i) i (omega arith) (eq-eqb (kind i) 1 k) refl

  begun-later : (e i : ℕ) → begun e (past tr i) ≡ true → begun e (past tr (suc i)) ≡ true
  unfolding begun
  begun-later e i h = has-later tr is_begin e i (suc i) (omega arith) h

  -- one record more
  module _ (i : ℕ) (h : i < n) (s : Started i) where
    still : Running (past tr (suc i))
    unfolding past
    still = running-next (a.passes_at i h) s.running

    after-begin : kind i ≡ 1 → sit (suc i) ≡ 2 → Started (suc i)
    after-begin k q = record {
      low = omega arith;
      running = still;
      all = λ x l. inl (earlier x (eq-or-lt_of_le (le_of_suc-le-suc l)));
    }
      where
        known : (x : ℕ) → (begun (ev x) (past tr i) ≡ true) ⊎ ((sit i ≡ 1) × (owner (past tr i) ≡ ev x)) → begun (ev x) (past tr (suc i)) ≡ true
        known x (inl b) = begun-later (ev x) i b
        known x (inr p) =
            let o : ev i ≡ ev x = (a.passes_at i h).owned (λ e. omega (arith, p.0)) ∙ p.1 in
            rw o at (begun-here i k)

        earlier : (x : ℕ) → (x ≡ i) ⊎ (x < i) → begun (ev x) (past tr (suc i)) ≡ true
        earlier x (inl e) = rw e (begun-here i k)
        earlier x (inr l) = known x (s.all x l)

    after-join : kind i ≡ 4 → sit (suc i) ≡ 1 → Started (suc i)
    after-join k q = record {
      low = omega arith;
      running = still;
      all = λ x l. earlier x (eq-or-lt_of_le (le_of_suc-le-suc l));
    }
      where
        known : (x : ℕ) → (begun (ev x) (past tr i) ≡ true) ⊎ ((sit i ≡ 1) × (owner (past tr i) ≡ ev x)) → (begun (ev x) (past tr (suc i)) ≡ true) ⊎ ((sit (suc i) ≡ 1) × (owner (past tr (suc i)) ≡ ev x))
        known x (inl b) = inl (begun-later (ev x) i b)
        known x (inr p) = inr (q, owner-after i ∙ (a.passes_at i h).owned (λ e. omega (arith, p.0)) ∙ p.1)

        earlier : (x : ℕ) → (x ≡ i) ⊎ (x < i) → (begun (ev x) (past tr (suc i)) ≡ true) ⊎ ((sit (suc i) ≡ 1) × (owner (past tr (suc i)) ≡ ev x))
        earlier x (inl e) = inr (q, rw e (owner-after i))
        earlier x (inr l) = known x (s.all x l)

    after-inside : sit i ≡ 2 → sit (suc i) ≤ 2 → Started (suc i)
    after-inside t q = record {
      low = q;
      running = still;
      all = λ x l. inl (earlier x (eq-or-lt_of_le (le_of_suc-le-suc l)));
    }
      where
        mine : begun (ev i) (past tr (suc i)) ≡ true
        mine = begun-later (ev i) i (inside-begun (a.passes_at i h) s.running (omega arith))

        known : (x : ℕ) → (begun (ev x) (past tr i) ≡ true) ⊎ ((sit i ≡ 1) × (owner (past tr i) ≡ ev x)) → begun (ev x) (past tr (suc i)) ≡ true
        known x (inl b) = begun-later (ev x) i b
        known x (inr p) = absurd (omega (arith, p.0))

        earlier : (x : ℕ) → (x ≡ i) ⊎ (x < i) → begun (ev x) (past tr (suc i)) ≡ true
        earlier x (inl e) = rw e mine
        earlier x (inr l) = known x (s.all x l)

    after : (sit i < 2) ⊎ (2 ≤ sit i) → Started (suc i)
    after (inl l) = go (outside-at i h l)
      where
        go : Outside (kind i) (sit (suc i)) → Started (suc i)
        go (begins k q) = after-begin k q
        go (joins k q) = after-join k q
    after (inr l) = let m = s.low in after-inside (omega arith) (go (inside-at i h l))
      where
        go : Inside (kind i) (sit (suc i)) → sit (suc i) ≤ 2
        go (ends k q) = omega arith
        go (forks k q) = omega arith
        go (reads k q) = omega arith
        go (writes k q) = omega arith
        go (sends k m q) = omega arith

  nothing : Started 0
  unfolding situation past
  nothing = record { low = omega arith; running = running-start; all = λ x l. absurd (not-suc-le-zero l) }

  started : (i : ℕ) → i ≤ n → Started i
  started zero h = nothing
  started (suc i) h = after i h (started i (omega arith)) (lt-or-ge (sit i) 2)

  -- a begin's or a join's event has not begun before
  pub start-fresh : (i : ℕ) → i < n → (kind i ≡ 1) ⊎ (kind i ≡ 4) → begun (ev i) (past tr i) ≡ false
  start-fresh i h k = again-start (at tr i) _ _ k (a.passes_at i h).fresh

  outside-fresh : (i : ℕ) → i < n → sit i < 2 → begun (ev i) (past tr i) ≡ false
  outside-fresh i h l = go (outside-at i h l)
    where
      go : Outside (kind i) (sit (suc i)) → begun (ev i) (past tr i) ≡ false
      go (begins k q) = start-fresh i h (inl k)
      go (joins k q) = start-fresh i h (inr k)

  -- where a record of the same event action stands earlier, one stands directly before
  same-before : (x j : ℕ) → suc j < n → x ≤ j → ev x ≡ ev (suc j) → ev j ≡ ev (suc j)
  same-before x j h l e = go (ℕ_discrete (sit (suc j)) 0)
    where
      clash : (sit (suc j) ≡ 0) → (begun (ev x) (past tr (suc j)) ≡ true) ⊎ ((sit (suc j) ≡ 1) × (owner (past tr (suc j)) ≡ ev x)) → ⊥
      clash z (inl b) = true-not-false (rw e at b) (outside-fresh (suc j) h (omega arith))
      clash z (inr p) = omega (arith, p.0)

      go : Dec (sit (suc j) ≡ 0) → ev j ≡ ev (suc j)
      go (yes z) = absurd (clash z ((started (suc j) (omega arith)).all x (omega arith)))
      go (no d) = sym ((a.passes_at (suc j) h).owned d ∙ owner-after j)

  -- "Each event action's records, its joins included, stand together"
  contiguous-by : (d i j k : ℕ) → j + d ≡ k → i < j → k < n → ev i ≡ ev k → ev j ≡ ev i
  contiguous-by zero i j k q l h e = let f : k ≡ j = omega arith in rw f at (sym e)
  contiguous-by (suc d) i j zero q l h e = absurd (omega arith)
  contiguous-by (suc d) i j (suc k) q l h e = contiguous-by d i j k (omega arith) l (omega arith) (e ∙ sym (same-before i k h (omega arith) e))

  pub contiguous : (i j k : ℕ) → i < j → j < k → k < n → ev i ≡ ev k → ev j ≡ ev i
  contiguous i j k l m h e = contiguous-by (k - j) i j k (omega arith) l h e

  -- of two event actions, all records of one stand before all of the other
  pub apart : (x x' y y' : ℕ) → x' < n → y < n → ev x ≡ ev x' → ev y ≡ ev y' → ev x ≢ ev y → x < y → x' < y'
  apart x x' y y' hx hy ex ey o l = go (lt-or-ge x' y') (lt-or-ge x y') (ℕ_discrete y' x') (ℕ_discrete x y')
    where
      go : (x' < y') ⊎ (y' ≤ x') → (x < y') ⊎ (y' ≤ x) → Dec (y' ≡ x') → Dec (x ≡ y') → x' < y'
      go (inl k) _ _ _ = k
      go (inr k) _ (yes e) _ = absurd (o (ex ∙ sym (ap ev e) ∙ sym ey))
      go (inr k) _ (no d) (yes e) = absurd (o (ap ev e ∙ sym ey))
      go (inr k) (inl m) (no d) (no f) = absurd (o (sym (ey ∙ contiguous x y' x' m (omega arith) hx ex)))
      go (inr k) (inr m) (no d) (no f) = absurd (o (contiguous y' x y (omega arith) l hy (sym ey) ∙ sym ey))

  -- an event begins at most once
  begin-first : (i j : ℕ) → i < n → kind i ≡ 1 → kind j ≡ 1 → ev i ≡ ev j → j < i → ⊥
  unfolding begun
  begin-first i j h k k' e l = true-not-false (has-intro tr is_begin (ev i) i j l (eq-eqb (kind j) 1 k') (sym e)) (start-fresh i h (inl k))

  pub begins_once : (i j : ℕ) → i < n → j < n → kind i ≡ 1 → kind j ≡ 1 → ev i ≡ ev j → i ≡ j
  begins_once i j h h' k k' e =
      let f : j < i → ⊥ = begin-first i j h k k' e in
      let g : i < j → ⊥ = begin-first j i h' k' k (sym e) in
      omega (arith, f, g)

  -- the event of every record before a position has begun, or is joining
  pub begun-before : (i : ℕ) → i ≤ n → (x : ℕ) → x < i → (begun (ev x) (past tr i) ≡ true) ⊎ ((sit i ≡ 1) × (owner (past tr i) ≡ ev x))
  begun-before i h x l = (started i h).all x l

  -- a join stands before its event's begin, and any other record but a begin after it
  pub join-before-begin : (i j : ℕ) → i < n → kind i ≡ 4 → kind j ≡ 1 → ev i ≡ ev j → i < j
  unfolding begun
  join-before-begin i j h k k' e =
      let f : j < i → ⊥ = λ l. true-not-false (has-intro tr is_begin (ev i) i j l (eq-eqb (kind j) 1 k') (sym e)) (start-fresh i h (inr k)) in
      let g : i ≡ j → ⊥ = λ q. let z : kind i ≡ kind j = ap kind q in omega arith in
      omega (arith, f, g)

  pub body-after-begin : (i : ℕ) → i < n → kind i ≢ 1 → kind i ≢ 4 → Found tr is_begin (ev i) i
  unfolding begun
  body-after-begin i h o m = has-found tr is_begin (ev i) i (body-begun (a.passes_at i h) (started i (omega arith)).running o m)

  -- an end is its event action's last record
  pub end-last : (i x : ℕ) → i < n → x < n → kind i ≡ 2 → ev i ≡ ev x → x ≤ i
  end-last i x h h' k e = go (lt-or-ge i x)
    where
      out : (sit i < 2) ⊎ (2 ≤ sit i) → sit (suc i) ≡ 0
      out (inl l) = wrong (outside-at i h l)
        where
          wrong : Outside (kind i) (sit (suc i)) → sit (suc i) ≡ 0
          wrong (begins q z) = absurd (omega arith)
          wrong (joins q z) = absurd (omega arith)
      out (inr l) = right (inside-at i h l)
        where
          right : Inside (kind i) (sit (suc i)) → sit (suc i) ≡ 0
          right (ends q z) = z
          right (forks q z) = absurd (omega arith)
          right (reads q z) = absurd (omega arith)
          right (writes q z) = absurd (omega arith)
          right (sends q m z) = absurd (omega arith)

      next : i < x → ev (suc i) ≡ ev i
      next l = near (eq-or-lt_of_le l)
        where
          near : (suc i ≡ x) ⊎ (suc i < x) → ev (suc i) ≡ ev i
          near (inl q) = ap ev q ∙ sym e
          near (inr q) = contiguous i (suc i) x (omega arith) q h' e

      clash : i < x → sit (suc i) ≡ 0 → (begun (ev i) (past tr (suc i)) ≡ true) ⊎ ((sit (suc i) ≡ 1) × (owner (past tr (suc i)) ≡ ev i)) → ⊥
      clash l z (inl b) = true-not-false (rw (← next l) at b) (outside-fresh (suc i) (omega arith) (omega arith))
      clash l z (inr p) = omega (arith, p.0)

      go : (i < x) ⊎ (x ≤ i) → x ≤ i
      go (inr l) = l
      go (inl l) = absurd (clash l (out (lt-or-ge (sit i) 2)) ((started (suc i) (omega arith)).all i (omega arith)))

  -- a fork or a send: the event started has not begun
  pub target_fresh : (i : ℕ) → i < n → T (starts (at tr i)) → begun (at tr i).second (past tr i) ≡ false
  target_fresh i h k = again-fork (at tr i) _ _ k (a.passes_at i h).fresh

  -- so it stands before that event's begin
  pub start-before-begin : (i j : ℕ) → i < n → T (starts (at tr i)) → kind j ≡ 1 → (at tr i).second ≡ ev j → i < j
  unfolding begun
  start-before-begin i j h k k' e =
      let f : j < i → ⊥ = λ l. true-not-false (has-intro tr is_begin (at tr i).second i j l (eq-eqb (kind j) 1 k') (sym e)) (target_fresh i h k) in
      let g : i ≡ j → ⊥ = λ q. begin-starts-nothing (at tr i) (ap kind q ∙ k') k in
      omega (arith, f, g)

  -- the event that a join waits for has ended before
  pub join-after-end : (i : ℕ) → i < n → kind i ≡ 4 → Found tr is_end (at tr i).second i
  unfolding ended
  join-after-end i h k = has-found tr is_end (at tr i).second i (early-join (at tr i) _ k (a.passes_at i h).waited)
