-- The event actions that lead to b, found by the clocks from its row down: at the start, one row more, and at the end. Assumes nothing.
use Prim.Native.Nat.{ℕ, suc, ◌+◌, ◌*◌, ◌-◌, ◌≤◌, ◌<◌, max}
use mathlib.Core.Path.{◌≡◌, refl, sym, ap, ◌∙◌, subst}
use mathlib.Core.Logic.{◌≢◌, ◌⊎◌, inl, inr, ◌↔◌}
use mathlib.Core.Bool.{Bool, true, false, ◌&&◌, ◌||◌}
use mathlib.Core.List.{List}
use native.Mathlib.Omega.{arith}
use native.Mathlib.Numerals.{add-one}
use lib.Dec.{T, eqb, eqb→eq, leb, ltb, leb→le, le→leb, ltb→lt, lt→ltb}
use lib.ListN.{length, get_or, set, length-set, get_or-eq_default}
use lib.Seq.{get_or-set_same, get_or-set_other}
use Rattle.records.specs.declared.Record.{Record}
use Rattle.records.specs.Records.{at, is_write, event_of}
use Rattle.records.specs.Kinds.{base_kind}
use Rattle.slices.specs.Slices.{zeros}
use Rattle.slices.proofs.Cleared.{zeros-length, zeros-at}
use Rattle.records.proofs.Positions.{lt-or-ge}
use Rattle.records.proofs.BaseKinds.{base-kind}
use Rattle.trace.specs.Reading.{Acceptable}
use Rattle.ranks.specs.Ranks.{ranks_of}
use Rattle.clocks.specs.Rows.{compare_in}
use Rattle.order.specs.HappensBefore.{Link, happens_before}
use Rattle.order.specs.Rank.{rank}
use Rattle.coverage.specs.Race.{Race}
use Rattle.coverage.specs.Leading.{leads}
use Rattle.coverage.specs.Neighbours.{conflicts}
use Rattle.slices.proofs.Tests.{both, and, either, or_left, or_right, decide_eq, eq→eqb, passed, failed}
use Rattle.coverage.proofs.Order.{race-apart}
use Rattle.coverage.proofs.Leads.{leads-self, leads-below, leads-race, leads-ahead, leads-unfold}
use Rattle.coverage.proofs.Steps.{leads-closed}
use Rattle.races.specs.Traces.{is_access, cells_of, setting_of}
use Rattle.pair.specs.loops.Leading.{mark}
use Rattle.races.specs.loops.FilledClocks.{rows, FilledClocks}
use Rattle.pair.specs.loops.Kept.{row_of, level, Starts, Split, Block, Accessed, Noted, clashes, OneClashes, Bytes, Merged, Rest, KeptAccess, Below, Kept, MarksKept}
use Rattle.races.proofs.Instance.{laws, links, access-kind, access-inside}
use Rattle.races.proofs.CandidateLaws.{cell-low, kind-access, access-base}
use Rattle.races.proofs.FilledLaws.{rows_before}
use Rattle.pair.proofs.RecordRows.{row_low, row_one, row-of-block, split_at}
use Rattle.pair.proofs.RowMarks.{marks-made}

-- Conflicts by level.
pub kind-high : (r : Record) → base_kind r ≤ 6
kind-high r = go (lt-or-ge 0 (base_kind r))
  where
    go : (0 < base_kind r) ⊎ (base_kind r ≤ 0) → base_kind r ≤ 6
    go (inl l) = let (e, h) = base-kind r l in omega arith
    go (inr l) = omega arith

module _ (tr : List Record) where
  abbrev kind : ℕ → ℕ
  kind i = base_kind (at tr i)

  of-levels : (i d : ℕ) → 5 ≤ kind i → 7 - kind i ≤ level tr d → (at tr d).second ≡ (at tr i).second → T (conflicts (cells_of tr) i d)
  unfolding conflicts
  of-levels i d l m e =
      let n = kind-high (at tr i) in
      let x = kind-access (at tr i) l in
      let y = kind-access (at tr d) (omega arith) in
      and (is_access (at tr i) && is_access (at tr d)) _ (and (is_access (at tr i)) (is_access (at tr d)) x y)
      (and (eqb (at tr i).second (at tr d).second) _ (eq→eqb (at tr i).second (at tr d).second (sym e)) (go (access-base (at tr i) x) (access-kind (at tr i) x)))
    where
      go : kind i ≡ (at tr i).kind → ((at tr i).kind ≡ 5) ⊎ ((at tr i).kind ≡ 6) → T (is_write (at tr i) || is_write (at tr d))
      go b (inl q) =
          let (f, h) = base-kind (at tr d) (omega arith) in
          or_right (is_write (at tr i)) (is_write (at tr d)) (eq→eqb (at tr d).kind 6 (omega arith))
      go b (inr q) = or_left (is_write (at tr i)) (is_write (at tr d)) (eq→eqb (at tr i).kind 6 q)

  levels-of : (i d : ℕ) → T (conflicts (cells_of tr) i d) → (5 ≤ kind i) × (7 - kind i ≤ level tr d) × ((at tr d).second ≡ (at tr i).second)
  unfolding conflicts
  levels-of i d h =
      let p = both (is_access (at tr i) && is_access (at tr d)) _ h in
      let q = both (is_access (at tr i)) (is_access (at tr d)) p.0 in
      let s = both (eqb (at tr i).second (at tr d).second) _ p.1 in
      go (access-base (at tr i) q.0) (access-base (at tr d) q.1) (access-kind (at tr i) q.0) (access-kind (at tr d) q.1)
      (eqb→eq (at tr i).second (at tr d).second s.0) (either (is_write (at tr i)) (is_write (at tr d)) s.1)
    where
      go : kind i ≡ (at tr i).kind → kind d ≡ (at tr d).kind → ((at tr i).kind ≡ 5) ⊎ ((at tr i).kind ≡ 6) → ((at tr d).kind ≡ 5) ⊎ ((at tr d).kind ≡ 6)
          → (at tr i).second ≡ (at tr d).second → T (is_write (at tr i)) ⊎ T (is_write (at tr d)) → (5 ≤ kind i) × (7 - kind i ≤ level tr d) × ((at tr d).second ≡ (at tr i).second)
      go b f (inr x) (inl y) e w = (omega arith, omega arith, sym e)
      go b f (inr x) (inr y) e w = (omega arith, omega arith, sym e)
      go b f (inl x) y e (inl w) = absurd (omega (arith, eqb→eq (at tr i).kind 6 w))
      go b f (inl x) y e (inr w) = (omega arith, omega (arith, eqb→eq (at tr d).kind 6 w), sym e)

-- The test of one record.
module _ (tr : List Record) (cells : List ℕ) (i : ℕ) where
  pub clash-none : base_kind (at tr i) < 5 → clashes tr cells i ≡ false
  unfolding clashes
  clash-none l = failed (leb 5 (base_kind (at tr i)) && ltb 6 (base_kind (at tr i) + get_or cells (at tr i).second 0)) (λ h. omega (arith, leb→le 5 (base_kind (at tr i)) (both (leb 5 (base_kind (at tr i))) (ltb 6 (base_kind (at tr i) + get_or cells (at tr i).second 0)) h).0))

  pub clash-is : 5 ≤ base_kind (at tr i) → clashes tr cells i ≡ ltb 6 (base_kind (at tr i) + get_or cells (at tr i).second 0)
  unfolding clashes
  clash-is l = rw (passed (leb 5 (base_kind (at tr i))) (le→leb 5 (base_kind (at tr i)) l)) refl

  clash-level : T (clashes tr cells i) → (5 ≤ base_kind (at tr i)) × (7 ≤ base_kind (at tr i) + get_or cells (at tr i).second 0)
  unfolding clashes
  clash-level h = let p = both (leb 5 (base_kind (at tr i))) (ltb 6 (base_kind (at tr i) + get_or cells (at tr i).second 0)) h in (leb→le 5 (base_kind (at tr i)) p.0, ltb→lt 6 _ p.1)

  level-clash : 5 ≤ base_kind (at tr i) → 7 - base_kind (at tr i) ≤ get_or cells (at tr i).second 0 → T (clashes tr cells i)
  unfolding clashes
  level-clash l m = and (leb 5 (base_kind (at tr i))) (ltb 6 (base_kind (at tr i) + get_or cells (at tr i).second 0)) (le→leb 5 (base_kind (at tr i)) l) (lt→ltb 6 (base_kind (at tr i) + get_or cells (at tr i).second 0) (omega arith))

-- Looked for from lo on: none before i does.
module _ (tr : List Record) (cells : List ℕ) (lo : ℕ) where
  abbrev pub NoClash : ℕ → Type 0
  NoClash i = (lo ≤ i) × ((x : ℕ) → lo ≤ x → x < i → T (clashes tr cells x) → ⊥)

  pub no-clash-start : NoClash lo
  no-clash-start = (omega arith, λ x l k t. omega arith)

  pub no-clash-next : (i : ℕ) → NoClash i → clashes tr cells i ≡ false → NoClash (i + 1)
  no-clash-next i (m, n) e = (omega arith, λ x l k t. go x l k t (decide_eq x i))
    where
      go : (x : ℕ) → lo ≤ x → x < i + 1 → T (clashes tr cells x) → (x ≡ i) ⊎ (x ≢ i) → ⊥
      go x l k t (inl q) = subst T (ap (clashes tr cells) q ∙ e) t
      go x l k t (inr d) = n x l (omega arith) t

  pub no-clash-end : (hi i : ℕ) → hi ≤ i → NoClash i → (r : Bool) → r ≡ false → T r ↔ OneClashes tr cells lo hi
  no-clash-end hi i h (m, n) r e = (λ t. absurd (subst T e t), λ (x, l, k, t). absurd (n x l (omega arith) t))

  pub clash-found : (hi i : ℕ) → i < hi → NoClash i → clashes tr cells i ≡ true → (r : Bool) → r ≡ true → T r ↔ OneClashes tr cells lo hi
  clash-found hi i h (m, n) e r q = (λ t. (i, m, h, subst T (sym e) tt), λ w. subst T (sym q) tt)

-- Records noted one after the other.
module _ (tr : List Record) (lo : ℕ) (cells : List ℕ) where
  pub noted-none : Noted tr lo lo cells cells
  noted-none = record { size = refl; tells = λ v c p l. (λ h. inl h, λ h. back v c h) }
    where
      back : (v c : ℕ) → (v ≤ get_or cells c 0) ⊎ Accessed tr v c lo lo → v ≤ get_or cells c 0
      back v c (inl h) = h
      back v c (inr s) = absurd (omega (arith, s.from, s.below))

  module _ (i : ℕ) (l : lo ≤ i) (cells' : List ℕ) (n : Noted tr lo i cells cells') where
    more : (v c : ℕ) → Accessed tr v c lo i → Accessed tr v c lo (suc i)
    more v c s = record { position = s.position; from = s.from; below = omega (arith, s.below); level_is = s.level_is; cell-is = s.cell-is }

    last : (v c : ℕ) → Accessed tr v c lo (suc i) → Accessed tr v c lo i ⊎ ((v ≤ level tr i) × ((at tr i).second ≡ c))
    last v c s = go (decide_eq s.position i)
      where
        go : (s.position ≡ i) ⊎ (s.position ≢ i) → Accessed tr v c lo i ⊎ ((v ≤ level tr i) × ((at tr i).second ≡ c))
        go (inl e) = inr (rw e at s.level_is, rw e at s.cell-is)
        go (inr d) = inl (record { position = s.position; from = s.from; below = omega (arith, s.below); level_is = s.level_is; cell-is = s.cell-is })

    -- one record more, where each byte is then what it was or the level of this record
    more_by : (cells'' : List ℕ) → length cells'' ≡ length cells → ((v c : ℕ) → 0 < v → c < length cells → (v ≤ get_or cells'' c 0) ↔ ((v ≤ get_or cells' c 0) ⊎ ((v ≤ level tr i) × ((at tr i).second ≡ c)))) → Noted tr lo (suc i) cells cells''
    more_by cells'' z f = record { size = z; tells = λ v c p k. (λ h. there v c p k ((f v c p k).0 h), λ h. (f v c p k).1 (back v c p k h)) }
      where
        wide : (v c : ℕ) → (v ≤ get_or cells c 0) ⊎ Accessed tr v c lo i → (v ≤ get_or cells c 0) ⊎ Accessed tr v c lo (suc i)
        wide v c (inl h) = inl h
        wide v c (inr s) = inr (more v c s)

        there : (v c : ℕ) → 0 < v → c < length cells → (v ≤ get_or cells' c 0) ⊎ ((v ≤ level tr i) × ((at tr i).second ≡ c)) → (v ≤ get_or cells c 0) ⊎ Accessed tr v c lo (suc i)
        there v c p k (inl h) = wide v c ((n.tells v c p k).0 h)
        there v c p k (inr (h, e)) = inr (record { position = i; from = l; below = omega arith; level_is = h; cell-is = e })

        near : (v c : ℕ) → 0 < v → c < length cells → Accessed tr v c lo i ⊎ ((v ≤ level tr i) × ((at tr i).second ≡ c)) → (v ≤ get_or cells' c 0) ⊎ ((v ≤ level tr i) × ((at tr i).second ≡ c))
        near v c p k (inl s) = inl ((n.tells v c p k).1 (inr s))
        near v c p k (inr h) = inr h

        back : (v c : ℕ) → 0 < v → c < length cells → (v ≤ get_or cells c 0) ⊎ Accessed tr v c lo (suc i) → (v ≤ get_or cells' c 0) ⊎ ((v ≤ level tr i) × ((at tr i).second ≡ c))
        back v c p k (inl h) = inl ((n.tells v c p k).1 (inl h))
        back v c p k (inr s) = near v c p k (last v c s)

    pub noted-still : base_kind (at tr i) ≤ 4 → Noted tr lo (i + 1) cells cells'
    noted-still h = rw (add-one i) (more_by cells' n.size (λ v c p k. (λ q. inl q, λ q. back v c p q)))
      where
        back : (v c : ℕ) → 0 < v → (v ≤ get_or cells' c 0) ⊎ ((v ≤ level tr i) × ((at tr i).second ≡ c)) → v ≤ get_or cells' c 0
        back v c p (inl q) = q
        back v c p (inr (q, e)) = absurd (omega arith)

    pub noted-next : (at tr i).second < length cells → (k d : ℕ) → k ≡ base_kind (at tr i) → d ≡ (at tr i).second → (cells'' : List ℕ) → cells'' ≡ set cells' d (max (get_or cells' d 0) (k - 4)) → Noted tr lo (i + 1) cells cells''
    noted-next h k d ek ed cells'' e = rw (add-one i, e, ek, ed) (more_by (set cells' x y) (length-set cells' x y ∙ n.size) (λ v c p k. go v c k (decide_eq c x)))
      where
        x : ℕ
        x = (at tr i).second

        y : ℕ
        y = max (get_or cells' x 0) (level tr i)

        go : (v c : ℕ) → c < length cells → (c ≡ x) ⊎ (c ≢ x) → (v ≤ get_or (set cells' x y) c 0) ↔ ((v ≤ get_or cells' c 0) ⊎ ((v ≤ level tr i) × (x ≡ c)))
        go v c k (inl q) = rw (q, get_or-set_same cells' x y 0 (omega (arith, n.size))) (there (lt-or-ge (get_or cells' x 0) v), back)
          where
            there : (get_or cells' x 0 < v) ⊎ (v ≤ get_or cells' x 0) → v ≤ max (get_or cells' x 0) (level tr i) → (v ≤ get_or cells' x 0) ⊎ ((v ≤ level tr i) × (x ≡ x))
            there (inl o) m = inr (omega arith, refl)
            there (inr o) m = inl o

            back : (v ≤ get_or cells' x 0) ⊎ ((v ≤ level tr i) × (x ≡ x)) → v ≤ max (get_or cells' x 0) (level tr i)
            back (inl m) = omega arith
            back (inr (m, _)) = omega arith
        go v c k (inr d) = rw (get_or-set_other cells' x c y 0 d) (λ m. inl m, back)
          where
            back : (v ≤ get_or cells' c 0) ⊎ ((v ≤ level tr i) × (x ≡ c)) → v ≤ get_or cells' c 0
            back (inl m) = m
            back (inr (m, q)) = absurd (d (sym q))

-- nothing is noted
pub none-bytes : Bytes (zeros 1025)
none-bytes = record { size = zeros-length 1025; low = λ c. omega (arith, zeros-at 1025 c) }

-- bytes stay at most 2
pub noted-bytes : {tr : List Record} (a : Acceptable tr) (lo hi : ℕ) (cells cells' : List ℕ) → hi ≤ length tr → Bytes cells → Noted tr lo hi cells cells' → Bytes cells'
noted-bytes {tr} a lo hi cells cells' h b n = record { size = n.size ∙ b.size; low = λ c. low c (lt-or-ge c (length cells)) }
  where
    high : (c : ℕ) → (3 ≤ get_or cells c 0) ⊎ Accessed tr 3 c lo hi → ⊥
    high c (inl m) = omega (arith, b.low c)
    high c (inr s) = omega (arith, s.level_is, kind-high (at tr s.position))

    low : (c : ℕ) → (c < length cells) ⊎ (length cells ≤ c) → get_or cells' c 0 ≤ 2
    low c (inl l) = let g : 3 ≤ get_or cells' c 0 → ⊥ = λ m. high c ((n.tells 3 c (omega arith) l).0 m) in omega (arith, g)
    low c (inr l) = let e : get_or cells' c 0 ≡ 0 = get_or-eq_default cells' 0 (omega (arith, n.size)) in omega arith

-- Over filled clocks.
module _ {tr : List Record} (b : ℕ) (access : T (is_access (at tr b))) {chosen : List ℕ} {width : ℕ} {clocks : List ℕ} (f : FilledClocks tr (ranks_of tr) chosen width clocks) where
  abbrev ev : ℕ → ℕ
  ev i = event_of (at tr i)

  abbrev Leading : ℕ → Type 0
  Leading x = T (leads (setting_of tr) b (ev x))

  -- a row's own entry, and an entry of a row of that chain
  abbrev own : ℕ → ℕ
  own x = get_or clocks (row_of tr x * width + get_or chosen (row_of tr x) 0) 0

  abbrev chain : ℕ → ℕ
  chain x = get_or chosen (row_of tr x) 0

  abbrev a : Acceptable tr
  a = f.acceptable

  inside : b < length tr
  inside = access-inside tr b access

  entry-before : (x y : ℕ) → x < length tr → y < length tr → (own x ≤ get_or clocks (row_of tr y * width + chain x) 0) ↔ T (happens_before tr (ev x) (ev y))
  unfolding compare_in
  entry-before x y h k = (λ l. subst T e (le→leb (own x) _ l), λ t. leb→le (own x) _ (subst T (sym e) t))
    where
      e : leb (own x) (get_or clocks (row_of tr y * width + chain x) 0) ≡ happens_before tr (ev x) (ev y)
      e = rows_before f x y (row_of tr x) (row_of tr y) h k refl refl

  -- One row more: t, whose records stand from lo on, before hi.
  module _ {t lo hi : ℕ} (s : Block tr t lo hi) {work row cells : List ℕ} (p : Kept tr b chosen width clocks (suc t) hi work row cells) where
    lo-in : lo < length tr
    lo-in = omega (arith, s.some, s.to.inside)

    row-own : (x : ℕ) → lo ≤ x → x < hi → row_of tr x ≡ t
    row-own x l k = omega (arith, s.from.after x l (omega (arith, s.to.inside)), s.to.before x k)

    row-lo : row_of tr lo ≡ t
    row-lo = row-of-block s

    own-event : (x : ℕ) → lo ≤ x → x < hi → ev x ≡ ev lo
    own-event x l k = row_one a x lo (omega (arith, s.to.inside)) lo-in (row-own x l k ∙ sym row-lo)

    -- the records of this event action are just those
    from-lo : (x : ℕ) → x < length tr → ev x ≡ ev lo → lo ≤ x
    from-lo x h e = go (lt-or-ge x lo)
      where
        r : row_of tr x ≡ t
        r = ap (λ (u : ℕ). rank tr u - 1) e ∙ row-lo

        go : (x < lo) ⊎ (lo ≤ x) → lo ≤ x
        go (inl l) = absurd (omega (arith, r, s.from.before x l))
        go (inr l) = l

    to-hi : (x : ℕ) → x < length tr → ev x ≡ ev lo → x < hi
    to-hi x h e = go (lt-or-ge x hi)
      where
        r : row_of tr x ≡ t
        r = ap (λ (u : ℕ). rank tr u - 1) e ∙ row-lo

        go : (x < hi) ⊎ (hi ≤ x) → x < hi
        go (inl l) = l
        go (inr l) = absurd (omega (arith, r, s.to.after x l h))

    beyond : (x : ℕ) → lo ≤ x → ev x ≢ ev lo → hi ≤ x
    beyond x l n = go (lt-or-ge x hi)
      where
        go : (x < hi) ⊎ (hi ≤ x) → hi ≤ x
        go (inl k) = absurd (n (own-event x l k))
        go (inr k) = k

    -- it is kept where it happens before a kept one, or a record of it conflicts with a kept access
    clash-leads : OneClashes tr cells lo hi → Leading lo
    clash-leads (i, l, m, h) =
        let i-in : i < length tr = omega (arith, s.to.inside) in
        let (five, seven) = clash-level tr cells i h in
        let k = (p.levels (7 - base_kind (at tr i)) (at tr i).second (omega (arith, kind-high (at tr i))) (cell-low a i i-in)).0 (omega arith) in
        let d = k.found.position in
        let lower = k.found.below in
        leads-closed (setting_of tr) (laws a) (Link tr) (links a) b inside (ev lo) (inr (i, d, own-event i l m, omega (arith, k.found.from), lower, of-levels tr i d five k.found.level_is k.found.cell-is, k.leading))

    below-leads : own lo ≤ get_or row (chain lo) 0 → Leading lo
    below-leads l = let k = (p.entries lo lo-in).0 l in leads-below (setting_of tr) (laws a) b (ev lo) (ev k.position) k.before k.leading

    pub led-leads : (own lo ≤ get_or row (chain lo) 0) ⊎ OneClashes tr cells lo hi → Leading lo
    led-leads (inl l) = below-leads l
    led-leads (inr c) = clash-leads c

    pub leads-led : Leading lo → (own lo ≤ get_or row (chain lo) 0) ⊎ OneClashes tr cells lo hi
    leads-led h = go ((leads-unfold (setting_of tr) (laws a) b (ev lo) inside).0 h)
      where
        above : (x : ℕ) → hi ≤ x → x < length tr → Leading x → T (happens_before tr (ev lo) (ev x)) → own lo ≤ get_or row (chain lo) 0
        above x l k q e = (p.entries lo lo-in).1 (record { position = x; from = l; inside = k; leading = q; before = e })

        raced : (c d : ℕ) → Race (setting_of tr) c d → T (happens_before tr (ev lo) (ev c)) → d < b → Leading d → (ev c ≡ ev lo) ⊎ (ev c ≢ ev lo) → (own lo ≤ get_or row (chain lo) 0) ⊎ OneClashes tr cells lo hi
        raced c d r q l k (inl e) =
            let c-in : c < length tr = omega (arith, r.first, r.inside) in
            let (five, seven, cell) = levels-of tr c d r.conflict in
            let m = beyond d (omega (arith, r.first, from-lo c c-in e)) (λ z. race-apart (setting_of tr) (laws a) c d r (e ∙ sym z)) in
            let g = (p.levels (7 - base_kind (at tr c)) (at tr c).second (omega (arith, kind-high (at tr c))) (cell-low a c c-in)).1 (record { found = record { position = d; from = m; below = l; level_is = seven; cell-is = cell }; leading = k }) in
            inr (c, from-lo c c-in e, to-hi c c-in e, level-clash tr cells c five g)
        raced c d r q l k (inr n) =
            let c-in : c < length tr = omega (arith, r.first, r.inside) in
            let m : lo < c = (laws a).forward lo c lo-in c-in q (λ z. n (sym z)) in
            inl (above c (beyond c (omega arith) n) c-in (leads-race (setting_of tr) (laws a) b c d r l k) q)

        go : T (happens_before tr (ev lo) (ev b)) ⊎ ((c d : ℕ) × Race (setting_of tr) c d × T (happens_before tr (ev lo) (ev c)) × (d < b) × Leading d) → (own lo ≤ get_or row (chain lo) 0) ⊎ OneClashes tr cells lo hi
        go (inl q) = inl (above b p.low inside (leads-self (setting_of tr) (laws a) b) q)
        go (inr (c, d, r, q, l, k)) = raced c d r q l k (decide_eq (ev c) (ev lo))

    -- What is kept from lo on: what was, or the records of this event action where it is kept.
    access-wider : (v c : ℕ) → KeptAccess tr b v c hi → KeptAccess tr b v c lo
    access-wider v c k =
        let g = k.found in
        record { found = record { position = g.position; from = omega (arith, g.from, s.some); below = g.below; level_is = g.level_is; cell-is = g.cell-is }; leading = k.leading }

    access-split : (v c : ℕ) → KeptAccess tr b v c lo → KeptAccess tr b v c hi ⊎ (Accessed tr v c lo hi × Leading lo)
    access-split v c k = go (lt-or-ge k.found.position hi)
      where
        go : (k.found.position < hi) ⊎ (hi ≤ k.found.position) → KeptAccess tr b v c hi ⊎ (Accessed tr v c lo hi × Leading lo)
        go (inl l) =
            let g = k.found in
            inr (record { position = g.position; from = g.from; below = l; level_is = g.level_is; cell-is = g.cell-is }, subst (λ (u : ℕ). T (leads (setting_of tr) b u)) (own-event g.position g.from l) k.leading)
        go (inr l) =
            let g = k.found in
            inl (record { found = record { position = g.position; from = l; below = g.below; level_is = g.level_is; cell-is = g.cell-is }; leading = k.leading })

    below_wider : (x : ℕ) → Below tr b x hi → Below tr b x lo
    below_wider x k = record { position = k.position; from = omega (arith, k.from, s.some); inside = k.inside; leading = k.leading; before = k.before }

    below_split : (x : ℕ) → Below tr b x lo → Below tr b x hi ⊎ (T (happens_before tr (ev x) (ev lo)) × Leading lo)
    below_split x k = go (lt-or-ge k.position hi)
      where
        go : (k.position < hi) ⊎ (hi ≤ k.position) → Below tr b x hi ⊎ (T (happens_before tr (ev x) (ev lo)) × Leading lo)
        go (inl l) =
            let e = own-event k.position k.from l in
            inr (subst (λ (u : ℕ). T (happens_before tr (ev x) u)) e k.before, subst (λ (u : ℕ). T (leads (setting_of tr) b u)) e k.leading)
        go (inr l) = inl (record { position = k.position; from = l; inside = k.inside; leading = k.leading; before = k.before })

    low-lo : lo ≤ b
    low-lo = omega (arith, p.low, s.some)

    -- it is not kept
    pub keeps-by : (Leading lo → ⊥) → Kept tr b chosen width clocks t lo work row cells
    keeps-by n = record {
      low = low-lo;
      marks = λ x l k. marks x l k (lt-or-ge x hi);
      zeros = λ r l. p.zeros r (omega arith);
      levels = λ v c q l. let e = p.levels v c q l in (λ h. access-wider v c (e.0 h), λ h. e.1 (levels v c (access-split v c h)));
      entries = λ x l. let e = p.entries x l in (λ h. below_wider x (e.0 h), λ h. e.1 (entries x (below_split x h)));
    }
      where
        marks : (x : ℕ) → lo ≤ x → x < length tr → (x < hi) ⊎ (hi ≤ x) → get_or work (row_of tr x) 0 ≡ mark (leads (setting_of tr) b (ev x))
        marks x l k (inl m) = rw (row-own x l m, own-event x l m, failed (leads (setting_of tr) b (ev lo)) n) (p.zeros t (omega arith))
        marks x l k (inr m) = p.marks x m k

        levels : (v c : ℕ) → KeptAccess tr b v c hi ⊎ (Accessed tr v c lo hi × Leading lo) → KeptAccess tr b v c hi
        levels v c (inl k) = k
        levels v c (inr (g, h)) = absurd (n h)

        entries : (x : ℕ) → Below tr b x hi ⊎ (T (happens_before tr (ev x) (ev lo)) × Leading lo) → Below tr b x hi
        entries x (inl k) = k
        entries x (inr (g, h)) = absurd (n h)

    -- it is kept
    module _ (h : Leading lo) (room : rows tr ≤ length work) (size : length cells ≡ 1025) (work' row' cells' : List ℕ) (marked : work' ≡ set work t 1) (noted : Noted tr lo hi cells cells') where
      keeps : ((x : ℕ) → x < length tr → (own x ≤ get_or row' (chain x) 0) ↔ ((own x ≤ get_or row (chain x) 0) ⊎ T (happens_before tr (ev x) (ev lo)))) → Kept tr b chosen width clocks t lo work' row' cells'
      keeps raised = record {
        low = low-lo;
        marks = λ x l k. rw marked (marks x l k (lt-or-ge x hi));
        zeros = λ r l. rw (marked, get_or-set_other work t r 1 0 (λ e. omega arith)) (p.zeros r (omega arith));
        levels = λ v c q l. let e = noted.tells v c q (omega arith) in let g = p.levels v c q l in (λ k. there v c g.0 (e.0 k), λ k. e.1 (back v c g.1 (access-split v c k)));
        entries = λ x l. let e = raised x l in let g = p.entries x l in (λ k. up x g.0 (e.0 k), λ k. e.1 (down x g.1 (below_split x k)));
      }
        where
          marks : (x : ℕ) → lo ≤ x → x < length tr → (x < hi) ⊎ (hi ≤ x) → get_or (set work t 1) (row_of tr x) 0 ≡ mark (leads (setting_of tr) b (ev x))
          marks x l k (inl m) = rw (row-own x l m, own-event x l m, passed (leads (setting_of tr) b (ev lo)) h, get_or-set_same work t 1 0 (omega (arith, row_low a lo lo-in, row-lo))) refl
          marks x l k (inr m) = rw (get_or-set_other work t (row_of tr x) 1 0 (λ e. omega (arith, s.to.after x m k))) (p.marks x m k)

          there : (v c : ℕ) → (v ≤ get_or cells c 0 → KeptAccess tr b v c hi) → (v ≤ get_or cells c 0) ⊎ Accessed tr v c lo hi → KeptAccess tr b v c lo
          there v c g (inl k) = access-wider v c (g k)
          there v c g (inr k) = record { found = record { position = k.position; from = k.from; below = omega (arith, k.below, p.low); level_is = k.level_is; cell-is = k.cell-is }; leading = subst (λ (u : ℕ). T (leads (setting_of tr) b u)) (sym (own-event k.position k.from k.below)) h }

          back : (v c : ℕ) → (KeptAccess tr b v c hi → v ≤ get_or cells c 0) → KeptAccess tr b v c hi ⊎ (Accessed tr v c lo hi × Leading lo) → (v ≤ get_or cells c 0) ⊎ Accessed tr v c lo hi
          back v c g (inl k) = inl (g k)
          back v c g (inr k) = inr k.0

          up : (x : ℕ) → (own x ≤ get_or row (chain x) 0 → Below tr b x hi) → (own x ≤ get_or row (chain x) 0) ⊎ T (happens_before tr (ev x) (ev lo)) → Below tr b x lo
          up x g (inl k) = below_wider x (g k)
          up x g (inr k) = record { position = lo; from = omega arith; inside = lo-in; leading = h; before = k }

          down : (x : ℕ) → (Below tr b x hi → own x ≤ get_or row (chain x) 0) → Below tr b x hi ⊎ (T (happens_before tr (ev x) (ev lo)) × Leading lo) → (own x ≤ get_or row (chain x) 0) ⊎ T (happens_before tr (ev x) (ev lo))
          down x g (inl k) = inl (g k)
          down x g (inr k) = inr k.0

      -- by happens-before: the row is as it was
      pub keeps_below : own lo ≤ get_or row (chain lo) 0 → row' ≡ row → Kept tr b chosen width clocks t lo work' row' cells'
      keeps_below l e = keeps (λ x k. rw e (λ m. inl m, back x k))
        where
          back : (x : ℕ) → x < length tr → (own x ≤ get_or row (chain x) 0) ⊎ T (happens_before tr (ev x) (ev lo)) → own x ≤ get_or row (chain x) 0
          back x k (inl m) = m
          back x k (inr m) =
              let g = (p.entries lo lo-in).0 l in
              (p.entries x k).1 (record { position = g.position; from = g.from; inside = g.inside; leading = g.leading; before = (laws a).le_trans (ev x) (ev lo) (ev g.position) m g.before })

      -- by a conflict: its row is merged
      pub keeps-merged : {chains : ℕ} → ((x : ℕ) → x < length tr → chain x < chains) → Merged clocks (t * width) chains row row' → Kept tr b chosen width clocks t lo work' row' cells'
      keeps-merged few m = keeps (λ x k. rw (m.tells (chain x) (few x k)) (there x k (lt-or-ge (get_or row (chain x) 0) (own x)), back x k))
        where
          e : (x : ℕ) → get_or clocks (t * width + chain x) 0 ≡ get_or clocks (row_of tr lo * width + chain x) 0
          e x = ap (λ (r : ℕ). get_or clocks (r * width + chain x) 0) (sym row-lo)

          there : (x : ℕ) → x < length tr → (get_or row (chain x) 0 < own x) ⊎ (own x ≤ get_or row (chain x) 0) → own x ≤ max (get_or row (chain x) 0) (get_or clocks (t * width + chain x) 0) → (own x ≤ get_or row (chain x) 0) ⊎ T (happens_before tr (ev x) (ev lo))
          there x k (inl q) l = inr ((entry-before x lo k lo-in).0 (omega (arith, e x)))
          there x k (inr q) l = inl q

          back : (x : ℕ) → x < length tr → (own x ≤ get_or row (chain x) 0) ⊎ T (happens_before tr (ev x) (ev lo)) → own x ≤ max (get_or row (chain x) 0) (get_or clocks (t * width + chain x) 0)
          back x k (inl l) = omega arith
          back x k (inr l) = omega (arith, e x, (entry-before x lo k lo-in).1 l)

  -- At the start: the row of b is marked, its records before b are noted, and the row holds its entries.
  module _ (lo : ℕ) (s : Starts tr lo b) where
    from-b : Split tr (row_of tr b) lo
    from-b = split_at a lo b inside s

    -- nothing else from lo on leads to b
    own-leads : (x : ℕ) → lo ≤ x → x < length tr → Leading x → ev x ≡ ev b
    own-leads x l h k = go (decide_eq (ev x) (ev b))
      where
        go : (ev x ≡ ev b) ⊎ (ev x ≢ ev b) → ev x ≡ ev b
        go (inl e) = e
        go (inr n) = let m = leads-ahead (setting_of tr) (laws a) b x inside h n k in s.same x l (omega arith)

    leads-own : (x : ℕ) → ev x ≡ ev b → Leading x
    leads-own x e = subst (λ (u : ℕ). T (leads (setting_of tr) b u)) (sym e) (leads-self (setting_of tr) (laws a) b)

    module _ (work work' row row' cells : List ℕ) (room : rows tr ≤ length work) (unmarked : (r : ℕ) → r < rows tr → get_or work r 0 ≡ 0) (marked : work' ≡ set work (row_of tr b) 1) (noted : Noted tr lo b (zeros 1025) cells) where
      pub keeps-start : {chains : ℕ} → ((x : ℕ) → x < length tr → chain x < chains) → ((c : ℕ) → get_or row c 0 ≡ 0) → Merged clocks (row_of tr b * width) chains row row' → Kept tr b chosen width clocks (row_of tr b) lo work' row' cells
      keeps-start few blank m = record {
        low = s.low;
        marks = λ x l k. rw marked (marks x l k (decide_eq (ev x) (ev b)));
        zeros = λ r l. rw (marked, get_or-set_other work (row_of tr b) r 1 0 (λ e. omega arith)) (unmarked r (omega (arith, row_low a b inside)));
        levels = λ v c q l. let e = noted.tells v c q (omega (arith, zeros-length 1025)) in (λ k. there v c q l (e.0 k), λ k. e.1 (inr k.found));
        entries = λ x l. (λ k. up x l k, λ k. down x l k);
      }
        where
          marks : (x : ℕ) → lo ≤ x → x < length tr → (ev x ≡ ev b) ⊎ (ev x ≢ ev b) → get_or (set work (row_of tr b) 1) (row_of tr x) 0 ≡ mark (leads (setting_of tr) b (ev x))
          marks x l k (inl e) = rw (e, passed (leads (setting_of tr) b (ev b)) (leads-self (setting_of tr) (laws a) b), get_or-set_same work (row_of tr b) 1 0 (omega (arith, row_low a b inside))) refl
          marks x l k (inr n) =
              rw (get_or-set_other work (row_of tr b) (row_of tr x) 1 0 (λ e. n (row_one a x b k inside e)), failed (leads (setting_of tr) b (ev x)) (λ h. n (own-leads x l k h)))
              (unmarked (row_of tr x) (row_low a x k))

          there : (v c : ℕ) → 0 < v → c < 1025 → (v ≤ get_or (zeros 1025) c 0) ⊎ Accessed tr v c lo b → KeptAccess tr b v c lo
          there v c q l (inl k) = absurd (omega (arith, zeros-at 1025 c))
          there v c q l (inr k) = record { found = k; leading = leads-own k.position (s.same k.position k.from (omega (arith, k.below))) }

          entry : (x : ℕ) → x < length tr → get_or row' (chain x) 0 ≡ get_or clocks (row_of tr b * width + chain x) 0
          entry x l = omega (arith, m.tells (chain x) (few x l), blank (chain x))

          up : (x : ℕ) → x < length tr → own x ≤ get_or row' (chain x) 0 → Below tr b x lo
          up x l k = record { position = b; from = s.low; inside = inside; leading = leads-self (setting_of tr) (laws a) b; before = (entry-before x b l inside).0 (omega (arith, entry x l)) }

          down : (x : ℕ) → x < length tr → Below tr b x lo → own x ≤ get_or row' (chain x) 0
          down x l k = omega (arith, entry x l, (entry-before x b l inside).1 (subst (λ (u : ℕ). T (happens_before tr (ev x) u)) (own-leads k.position k.from k.inside k.leading) k.before))

  -- At the end: the marks of all event actions.
  pub keeps-end : {hi : ℕ} {work work' row cells : List ℕ} → Kept tr b chosen width clocks 0 hi work' row cells → Split tr 0 hi → rows tr ≤ length work → Rest tr work work' → MarksKept tr b work work'
  keeps-end {hi} {work} {work'} p s room rest = record {
    marks = record { acceptable = a; ranks_are = refl; inside = inside; work_is = marks-made a b work' (omega (arith, rest.size)) (λ x h. p.marks x (from x (lt-or-ge x hi)) h) };
    rest = rest;
  }
    where
      from : (x : ℕ) → (x < hi) ⊎ (hi ≤ x) → hi ≤ x
      from x (inl l) = absurd (omega (arith, s.before x l))
      from x (inr l) = l
