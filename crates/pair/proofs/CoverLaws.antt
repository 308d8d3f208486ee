-- The search for a cover: the next race is found, and the races found are a cover. Assumes nothing.
use Prim.Native.Nat.{ℕ, ◌+◌, ◌*◌, ◌-◌, ◌≤◌, ◌<◌}
use mathlib.Core.Path.{◌≡◌, refl, sym, ap, ap₂, ◌∙◌, subst}
use mathlib.Core.Logic.{◌≢◌, ◌⊎◌, inl, inr}
use mathlib.Core.Bool.{Bool, true, false, ◌&&◌}
use mathlib.Core.List.{List, [], ◌∷◌, ◌++◌, append_assoc}
use native.Mathlib.Omega.{arith}
use native.Mathlib.Decide.{ℕ_discrete}
use borrow.Author.Tests.{le-leb, lt-leb}
use lib.Dec.{T}
use lib.ListN.{length, get_or, set, length-append, length-map}
use Rattle.records.specs.declared.Record.{Record}
use Rattle.records.specs.Records.{at, event_of}
use Rattle.trace.specs.Reading.{Acceptable}
use Rattle.records.proofs.Positions.{lt-or-ge}
use Rattle.order.specs.Rank.{rank}
use Rattle.order.specs.HappensBefore.{happens_before}
use Rattle.coverage.specs.Race.{before, Race, raceb}
use Rattle.coverage.specs.Cover.{CoversFrom, one, more}
use Rattle.coverage.specs.Leading.{leads, coveredb}
use Rattle.slices.proofs.Tests.{both, and}
use Rattle.coverage.proofs.Order.{le-before, before-le, race-of, of-race, race-apart, race-after}
use Rattle.coverage.proofs.Theorems.{cover-next}
use Rattle.coverage.proofs.Leads.{le-leads}
use Rattle.races.specs.Traces.{setting_of}
use Rattle.pair.specs.loops.Leading.{mark, Marks}
use Rattle.races.specs.loops.FilledClocks.{rows, FilledClocks}
use Rattle.races.specs.loops.Candidates.{cell}
use Rattle.records.specs.Kinds.{base_kind}
use Rattle.records.specs.Search.{least_kind, may_race, Past, NextAccess}
use Rattle.pair.specs.Pair.{race_entry, race_entries, GivesCover}
use Rattle.pair.specs.loops.Kept.{row_of, Starts}
use Rattle.pair.specs.loops.PairSearch.{races_from, First, NoneFrom, FirstFrom, goes_on, NoRace, Sought, Next, Written}
use Rattle.races.proofs.Instance.{laws}
use Rattle.pair.proofs.RecordRows.{starts-parted, rank_rises, rank-some, rank-few, row_low}
use Rattle.pair.proofs.RowMarks.{marks-tell}
use Rattle.trace.proofs.Events.{few-events}
use Rattle.races.proofs.FilledLaws.{rank_is, chosen-length, before-told, unordered-told}
use Rattle.races.proofs.CandidateLaws.{racing, past-quiet, other-quiet, kind-access, access-base, kind-no-access}
use Rattle.races.proofs.ListLaws.{may-race, may-found}
use Rattle.pair.proofs.PairEntries.{no-entries, entries-room, put-more}

module _ {tr : List Record} (a : Acceptable tr) (b : ℕ) (inside : b < length tr) where
  abbrev ev : ℕ → ℕ
  ev i = event_of (at tr i)

  -- what such a race has
  parts : (t c d : ℕ) → T (races_from tr t c d) → Race (setting_of tr) c d × T (happens_before tr (ev t) (ev c))
  unfolding races_from
  parts t c d h = let p = both (raceb (setting_of tr) c d) (happens_before tr (ev t) (ev c)) h in (race-of (setting_of tr) c d p.0, p.1)

  of_parts : (t c d : ℕ) → Race (setting_of tr) c d → T (happens_before tr (ev t) (ev c)) → T (races_from tr t c d)
  unfolding races_from
  of_parts t c d r h = and (raceb (setting_of tr) c d) (happens_before tr (ev t) (ev c)) (of-race (setting_of tr) c d r) h

  module _ (t lo : ℕ) where
    pub no-race-start : NoRace tr b lo t lo
    no-race-start x y l k h r = let p = (parts t x y r).0.first in omega arith

    pub no-race-next : (d c : ℕ) → d ≤ c → First tr b lo t d c → NoRace tr b lo t d → NoRace tr b lo t (d + 1)
    no-race-next d c m q n x y l k h r = go (ℕ_discrete y d)
      where
        go : Dec (y ≡ d) → ⊥
        go (yes z) = q.none m x l (subst (λ (i : ℕ). T (leads (setting_of tr) b (ev i))) z h) (subst (λ (i : ℕ). T (races_from tr t x i)) z r)
        go (no z) = n x y l (omega arith) h r

    pub next-found : (d c : ℕ) → d < b → c < d → First tr b lo t d c → Next tr b t c d
    next-found d c l k q =
        let f = q.found k in
        let p = parts t c d f.1 in
        record { race = p.0; above = p.1; below = l; leading = f.0 }

    -- there is one, and its first record stands in the event action of t or after it
    pub next-some : Sought tr b t → Starts tr lo t → (d : ℕ) → b ≤ d → NoRace tr b lo t d → ⊥
    next-some q s d m n = go (cover-next (setting_of tr) (laws a) b (ev t) inside q.leading q.apart)
      where
        leading : (d : ℕ) → T (before (setting_of tr) d b) ⊎ (T (leads (setting_of tr) b (ev d)) × (T (happens_before tr (ev d) (ev b)) → ⊥)) → T (leads (setting_of tr) b (ev d))
        leading d (inl h) = le-leads (setting_of tr) (laws a) b (ev d) (before-le (setting_of tr) (laws a) d b h)
        leading d (inr h) = h.0

        later : (x : ℕ) → x < b → T (happens_before tr (ev t) (ev x)) → lo ≤ x
        later x k h = go' (lt-or-ge x lo)
          where
            go' : (x < lo) ⊎ (lo ≤ x) → lo ≤ x
            go' (inl l) =
                let z = s.low in
                let u = q.below in
                let f = (laws a).forward t x (omega arith) (omega arith) h (λ e. starts-parted a lo t (omega arith) s x t l z (omega arith) (sym e)) in
                omega arith
            go' (inr l) = l

        go : (c d : ℕ) × Race (setting_of tr) c d × T (happens_before tr (ev t) (ev c)) × (d < b) × (T (before (setting_of tr) d b) ⊎ (T (leads (setting_of tr) b (ev d)) × (T (happens_before tr (ev d) (ev b)) → ⊥))) → ⊥
        go (x, y, r, h, l, w) = n x y (later x (omega (arith, r.first)) h) (omega arith) (leading y w) (of_parts t x y r h)

-- the row that the code finds
pub row_told : {tr : List Record} {ranks chosen : List ℕ} {width : ℕ} {clocks : List ℕ} (f : FilledClocks tr ranks chosen width clocks) (x : ℕ) → x < length tr → {r : ℕ} → r ≡ get_or ranks (event_of (at tr x)) 0 - 1 → row_of tr x ≡ r
row_told f x h e = sym (e ∙ ap (λ (k : ℕ). k - 1) (rank_is f x h))

-- The first record that so races with d, looked for along the accesses of its cell.
module _ {tr : List Record} {ranks chosen : List ℕ} {width : ℕ} {clocks : List ℕ} (f : FilledClocks tr ranks chosen width clocks) (lo t d : ℕ) (inside : d < length tr) where
  abbrev acc : Acceptable tr
  acc = f.acceptable

  first-none : (b x c : ℕ) → d ≤ c → ((y : ℕ) → lo ≤ y → y < d → T (leads (setting_of tr) b (event_of (at tr d))) → T (races_from tr x y d) → ⊥) → First tr b lo x d c
  first-none b x c l n = record { found = λ k. absurd (omega arith); none = λ _ y m h r. n y m (parts acc d inside x y d r).0.first h r }

  -- d is no access
  pub from-no-access : (work : List ℕ) → base_kind (at tr d) < 5 → FirstFrom tr ranks work lo t d d
  from-no-access work l b x m h e = first-none b x d (omega arith) (λ y k i q r. subst T (kind-no-access (at tr d) l) (racing tr y d (of-race (setting_of tr) y d (parts acc d inside x y d r).0)).second)

  -- or its event action is not marked
  row-of-d : (u : ℕ) → u ≡ get_or ranks (event_of (at tr d)) 0 - 1 → u ≡ row_of tr d
  row-of-d u e = sym (row_told f d inside e)

  marked : (work : List ℕ) (u : ℕ) → u ≡ get_or ranks (event_of (at tr d)) 0 - 1 → (b : ℕ) → Marks tr ranks work b → get_or work u 0 ≡ mark (leads (setting_of tr) b (event_of (at tr d)))
  marked work u e b m = ap (λ (r : ℕ). get_or work r 0) (row-of-d u e) ∙ marks-tell m d inside

  pub from-unmarked : (work : List ℕ) (u : ℕ) → u ≡ get_or ranks (event_of (at tr d)) 0 - 1 → get_or work u 0 ≡ 0 → FirstFrom tr ranks work lo t d d
  from-unmarked work u e z b x m h k = first-none b x d (omega arith) (λ y i j q r. no (leads (setting_of tr) b (event_of (at tr d))) (sym z ∙ marked work u e b m) q)
    where
      no : (v : Bool) → 0 ≡ mark v → T v → ⊥
      no true z q = omega arith
      no false z q = q

  -- Along the accesses of its cell that may race with it, at c: none before has raced so.
  pub record Along (work : List ℕ) (u x least c : ℕ) : Type 0 where
    pub cell-is : x ≡ cell tr d
    pub least-is : least ≡ least_kind (at tr d).kind
    pub access : 5 ≤ base_kind (at tr d)
    pub row_is : u ≡ get_or ranks (event_of (at tr d)) 0 - 1
    pub marked_is : get_or work u 0 ≢ 0
    pub high : c ≤ d
    pub may : c < d → T (may_race tr least x c)
    pub none : NoneFrom tr t lo d c

  -- none that is passed races with d
  passed_none : {least c i r : ℕ} → c ≡ cell tr d → least ≡ least_kind (at tr d).kind → Past tr least c i r → (x y : ℕ) → i ≤ y → y < r → T (races_from tr x y d) → ⊥
  passed_none e g p x y l k t = past-quiet tr d e g p y l k (of-race (setting_of tr) y d (parts acc d inside x y d t).0)

  pub along-start : {work : List ℕ} {u x least c : ℕ} → x ≡ cell tr d → least ≡ least_kind (base_kind (at tr d)) → 5 ≤ base_kind (at tr d) → u ≡ get_or ranks (event_of (at tr d)) 0 - 1 → get_or work u 0 ≢ 0 → NextAccess tr least x lo d c → Along work u x least c
  along-start {least = least} e g five eu m n =
      let k : least ≡ least_kind (at tr d).kind = g ∙ ap least_kind (access-base (at tr d) (kind-access (at tr d) five)) in
      record { cell-is = e; least-is = k; access = five; row_is = eu; marked_is = m; high = n.high; may = n.found; none = λ x y h q l i. passed_none e k n.past x y l i }

  module _ {work : List ℕ} {u x least c : ℕ} (n : Along work u x least c) where
    pub along-end : d ≤ c → FirstFrom tr ranks work lo t d c
    along-end l b y m h q = first-none b y c l (λ z k i _ r. n.none y z h q k (omega arith) r)

    -- the test of c, of that kind and row s
    module _ (l : c < d) {kind s : ℕ} (ek : kind ≡ (at tr c).kind) (es : s ≡ get_or ranks (event_of (at tr c)) 0 - 1) where
      inside-c : c < length tr
      inside-c = omega arith

      row-c : s ≡ row_of tr c
      row-c = sym (row_told f c inside-c es)

      pub along-rows : t < rows tr → (width ≤ 1024) × (t < 1024) × (s < 1024) × (u < 1024) × (length chosen ≡ 1024)
      along-rows k =
          let m = few-events acc in
          (f.narrow, omega (arith, k, m), omega (arith, row-c, row_low acc c inside-c, m), omega (arith, row-of-d u n.row_is, row_low acc d inside, m), chosen-length f)

      told-send : (y : ℕ) → 6 < kind → races_from tr y c d ≡ goes_on chosen width clocks kind t s u
      unfolding races_from goes_on
      told-send y h = rw (other-quiet tr c d (omega arith), lt-leb kind 6 h) refl

      told-access : (y : ℕ) → y < length tr → row_of tr y ≡ t → kind ≤ 6 → races_from tr y c d ≡ goes_on chosen width clocks kind t s u
      unfolding races_from goes_on
      told-access y h q k = rw (le-leb kind 6 k) (ap₂ ◌&&◌
          (may-race tr acc c d l inside (kind-access (at tr d) n.access) (omega arith) (may-found tr c d n.cell-is n.least-is (n.may l)) ∙ sym (unordered-told f c d s u inside-c inside row-c (row-of-d u n.row_is) l))
          (sym (before-told f y c t s h inside-c (sym q) row-c)))

      told : (y : ℕ) → y < length tr → row_of tr y ≡ t → races_from tr y c d ≡ goes_on chosen width clocks kind t s u
      told y h q = go (lt-or-ge 6 kind)
        where
          go : (6 < kind) ⊎ (kind ≤ 6) → races_from tr y c d ≡ goes_on chosen width clocks kind t s u
          go (inl k) = told-send y k
          go (inr k) = told-access y h q k

      pub along-found : goes_on chosen width clocks kind t s u ≡ true → FirstFrom tr ranks work lo t d c
      along-found v b y m h q = record { found = λ k. (leading (leads (setting_of tr) b (event_of (at tr d))) (marked work u n.row_is b m), subst T (sym (told y h q ∙ v)) tt); none = λ k. absurd (omega arith) }
        where
          leading : (v : Bool) → get_or work u 0 ≡ mark v → T v
          leading true z = tt
          leading false z = absurd (n.marked_is z)

      pub along-next : {r : ℕ} → goes_on chosen width clocks kind t s u ≡ false → NextAccess tr least x (c + 1) d r → Along work u x least r
      along-next {r} off p = record { cell-is = n.cell-is; least-is = n.least-is; access = n.access; row_is = n.row_is; marked_is = n.marked_is; high = p.high; may = p.found; none = λ y z h q m k w. go y z h q m k w (lt-or-ge z c) (lt-or-ge c z) }
        where
          go : (y z : ℕ) → y < length tr → row_of tr y ≡ t → lo ≤ z → z < r → T (races_from tr y z d) → (z < c) ⊎ (c ≤ z) → (c < z) ⊎ (z ≤ c) → ⊥
          go y z h q m k w (inl i) _ = n.none y z h q m i w
          go y z h q m k w (inr i) (inl j) = passed_none n.cell-is n.least-is p.past y z (omega arith) k w
          go y z h q m k w (inr i) (inr j) = let e : z ≡ c = omega arith in subst T (told y h q ∙ off) (subst (λ (o : ℕ). T (races_from tr y o d)) e w)

race-snoc : (es : List (ℕ × ℕ)) (c d : ℕ) → race_entries (es ++ (c, d) ∷ []) ≡ race_entries es ++ (c + 1, d + 1) ∷ []
unfolding race_entries
race-snoc [] c d = refl
race-snoc (e ∷ es) c d = ap (λ (l : List (ℕ × ℕ)). race_entry e ∷ l) (race-snoc es c d)

race-count : (es : List (ℕ × ℕ)) → length (race_entries es) ≡ length es
unfolding race_entries
race-count es = length-map es race_entry

no-races : race_entries [] ≡ []
unfolding race_entries
no-races = refl

-- A cover written as far as t.
module _ {tr : List Record} (acc : Acceptable tr) (a b : ℕ) (r : Race (setting_of tr) a b) where
  abbrev st : ℕ → ℕ
  st i = event_of (at tr i)

  pub written_start : T (coveredb (setting_of tr) a b) → (entry : List ℕ) → Written tr a b a 0 entry entry
  written_start h entry = record {
    races = [];
    onward = λ cs c. c;
    whole = λ k. absurd (r.unordered k);
    below = r.first;
    leading = h;
    few = rank-some acc a (omega (arith, r.first, r.inside));
    count-is = refl;
    list_is = rw no-races (no-entries entry);
  }

  pub written-sought : {t k : ℕ} {entry list : List ℕ} → Written tr a b t k entry list → happens_before tr (st t) (st b) ≡ false → Sought tr b t
  written-sought w e = record { below = w.below; leading = w.leading; apart = λ h. subst T e h }

  module _ {t k : ℕ} {entry list : List ℕ} (w : Written tr a b t k entry list) (room : 2 * rows tr ≤ length entry) where
    pub few-rows : k < rows tr
    few-rows = omega (arith, w.few, w.below, r.inside, rank-few acc t (omega (arith, w.below, r.inside)))

    pub written-long : length list ≡ length entry
    written-long =
        let f = few-rows in
        ap length w.list_is ∙ entries-room (race_entries w.races) entry (omega (arith, race-count w.races, w.count-is))

    pub written-room : 2 * k + 1 < length list
    written-room = let f = few-rows in omega (arith, written-long)

    pub written_on : (c d : ℕ) → Next tr b t c d → t < d
    written_on c d n = race-after (setting_of tr) (laws acc) t c d (omega (arith, w.below, r.inside)) n.above n.race

    pub written_next : (c d : ℕ) → Next tr b t c d → (x y : ℕ) → x ≡ c + 1 → y ≡ d + 1 → (list' : List ℕ) → list' ≡ set (set list (2 * k) x) (2 * k + 1) y → Written tr a b d (k + 1) entry list'
    written_next c d n x y ex ey list' e = record {
      races = w.races ++ (c, d) ∷ [];
      onward = λ cs q. subst (CoversFrom (setting_of tr) b (st a)) (sym (append_assoc w.races ((c, d) ∷ []) cs)) (w.onward ((c, d) ∷ cs) (more n.above n.race q));
      whole = λ h. w.onward ((c, d) ∷ []) (one n.above n.race h);
      below = n.below;
      leading = n.leading;
      few = omega (arith, w.few, rise);
      count-is = simp length-append (omega (arith, w.count-is));
      list_is = e ∙ rw (ex, ey, race-snoc w.races c d) (put-more (race_entries w.races) k (c + 1) (d + 1) entry list (w.count-is ∙ sym (race-count w.races)) room' w.list_is);
    }
      where
        room' : 2 * k + 1 < length entry
        room' = omega (arith, few-rows)

        -- else d would stand before c
        apart : st t ≢ st d
        apart z =
            let l = (laws acc).forward d c n.race.inside (omega (arith, n.race.first, n.race.inside)) (subst (λ (u : ℕ). T (happens_before tr u (st c))) z n.above) (λ e. race-apart (setting_of tr) (laws acc) c d n.race (sym e)) in
            omega (arith, n.race.first)

        rise : rank tr (st t) < rank tr (st d)
        rise = rank_rises acc t d (written_on c d n) n.race.inside apart

    pub written-end : happens_before tr (st t) (st b) ≡ true → GivesCover tr a b k entry list
    written-end h = record {
      races = w.races;
      covers = w.whole (le-before (setting_of tr) t b w.below (subst T (sym h) tt));
      count-is = w.count-is;
      list_is = w.list_is;
    }
