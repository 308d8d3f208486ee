-- The walk that fills, record by record: the first link to a row copies, whatever the row held; and what the hints tell.
-- Assumes nothing.
use Prim.Native.Nat.{ℕ, zero, suc, ◌+◌, ◌-◌, ◌≤◌, ◌<◌, max}
use mathlib.Core.Path.{◌≡◌, refl, sym, ◌∙◌, ap, ap₂}
use mathlib.Core.Logic.{◌≢◌, ◌⊎◌, inl, inr}
use mathlib.Core.Bool.{true, false}
use mathlib.Core.List.Memᴰ
use mathlib.Core.List.{List, [], ◌∷◌, ◌++◌}
use native.Mathlib.Omega.{arith}
use borrow.Author.Tests.{eq-eqb, ne_eqb}
use lib.ListN.{length, get_or, set, length-set}
use lib.Seq.{get_or-set_same, get_or-set_other}
use Rattle.records.specs.declared.Record.{Record}
use Rattle.records.specs.Records.{at, leading}
use Rattle.records.proofs.Leading.{leading_le, leading-accesses, leading-over}
use Rattle.ranks.specs.declared.Ordering.{Ordering}
use Rattle.ranks.specs.declared.Ordering.TheVariants.{Link, Begin, Nothing}
use Rattle.clocks.specs.Rows.{merge_row, copy_row}
use Rattle.order.specs.Clocks.{largest, flat}
use Rattle.order.specs.Schedule.{linked}
use Rattle.order.specs.loops.Standing.{begins, Ordered}
use Rattle.order.specs.loops.Walk.{FillWalked, stops, fill_on, linked_by, hinted_by, fill_walk, ordering_by}
use Rattle.slices.proofs.Tests.{decide_eq, decide-lt}
use Rattle.order.proofs.ScheduleLaws.{begins-suc, begins-mono, linked-exact, begin-next, link-between}
use Rattle.order.proofs.FlatLaws.{merge_into, into-own, into-other, copy_into, copy-own, copy-other, merged-row, copied-row}
use Rattle.order.proofs.WalkLaws.{Along, along-link, along-other, ZeroPast, access-other}

abbrev source_of : Ordering → ℕ
source_of (Link p u) = suc p
source_of (Begin u) = 0
source_of Nothing = 0

abbrev target_of : Ordering → ℕ
target_of (Link p u) = u
target_of (Begin u) = 0
target_of Nothing = 0

module _ (op : ℕ → Ordering) where
  -- a link among the first records and one more
  last_or : (i j p u : ℕ) (x : Ordering) → op i ≡ x → j < suc i → op j ≡ Link p u → (j < i) ⊎ (x ≡ Link p u)
  last_or i j p u x e h k = go (decide-lt j i)
    where
      go : (j < i) ⊎ (i ≤ j) → (j < i) ⊎ (x ≡ Link p u)
      go (inl l) = inl l
      go (inr l) = let same : i ≡ j = omega arith in inr (sym e ∙ (ap op same ∙ k))

  -- The list after the first i records: the chain of each that has begun, and for any other a number by which no link came from a lower chain
  -- than 1,024 less that.
  module _ (C : ℕ → ℕ) where
    pub record Hinted (i : ℕ) (hs : List ℕ) : Type 0 where
      pub chains : (p : ℕ) → p < begins op i → get_or hs p 0 ≡ C p
      pub hints : (u p j : ℕ) → begins op i ≤ u → u < length hs → j < i → op j ≡ Link p u → 1024 - C p ≤ get_or hs u 0
      pub low : (u : ℕ) → u < length hs → get_or hs u 0 ≤ 1024

    hinted-other : (i : ℕ) (hs : List ℕ) → op i ≡ Nothing → Hinted i hs → Hinted (suc i) hs
    hinted-other i hs e f = record {
      chains = λ p h. f.chains p (omega (arith, b));
      hints = λ u p j a k h x. go u p j a k x (last_or i j p u Nothing e h x);
      low = f.low;
    }
      where
        b : begins op (suc i) ≡ begins op i
        b = begins-suc op i Nothing e

        go : (u p j : ℕ) → begins op (suc i) ≤ u → u < length hs → op j ≡ Link p u → (j < i) ⊎ (Nothing ≡ Link p u) → 1024 - C p ≤ get_or hs u 0
        go u p j a k x (inl h) = f.hints u p j (omega (arith, b)) k h x
        go u p j a k x (inr h) = absurd (omega (arith, ap source_of h))

    hinted-link :
        (i p v : ℕ) (hs : List ℕ) → op i ≡ Link p v → p < begins op i → begins op i ≤ v → Hinted i hs →
        Hinted (suc i) (set hs v (max (get_or hs v 0) (1024 - get_or hs p 0)))
    hinted-link i p v hs e before after f = record {
      chains = λ q h. get_or-set_other hs v q x 0 (omega (arith, b)) ∙ f.chains q (omega (arith, b));
      hints = λ u q j a k h y. each u q j (omega (arith, b)) (omega (arith, size)) y (last_or i j q u (Link p v) e h y) (decide_eq u v);
      low = λ u h. high u (omega (arith, size)) (decide_eq u v);
    }
      where
        x : ℕ
        x = max (get_or hs v 0) (1024 - get_or hs p 0)

        b : begins op (suc i) ≡ begins op i
        b = begins-suc op i (Link p v) e

        size : length (set hs v x) ≡ length hs
        size = length-set hs v x

        own : v < length hs → get_or (set hs v x) v 0 ≡ x
        own h = get_or-set_same hs v x 0 h

        each :
            (u q j : ℕ) → begins op i ≤ u → u < length hs → op j ≡ Link q u → (j < i) ⊎ (Link p v ≡ Link q u) → (u ≡ v) ⊎ (u ≢ v) →
            1024 - C q ≤ get_or (set hs v x) u 0
        each u q j a k y (inl h) (inl m) = rw m (omega (arith, own (rw m at k), f.hints v q j (rw m at a) (rw m at k) h (rw m at y)))
        each u q j a k y (inl h) (inr m) = rw (get_or-set_other hs v u x 0 m) (f.hints u q j a k h y)
        each u q j a k y (inr h) (inl m) =
            let s = ap source_of h in
            let same : p ≡ q = omega arith in
            rw m (omega (arith, own (rw m at k), f.chains p before, ap C same))
        each u q j a k y (inr h) (inr m) = absurd (m (sym (ap target_of h)))

        high : (u : ℕ) → u < length hs → (u ≡ v) ⊎ (u ≢ v) → get_or (set hs v x) u 0 ≤ 1024
        high u h (inl m) = rw m (omega (arith, own (rw m at h), f.low v (rw m at h)))
        high u h (inr m) = rw (get_or-set_other hs v u x 0 m) (f.low u h)

    pub hinted-begin : (i v : ℕ) (hs : List ℕ) → op i ≡ Begin v → v ≡ begins op i → v < length hs → C v ≤ 1024 → Hinted i hs → Hinted (suc i) (set hs v (C v))
    hinted-begin i v hs e next inside top f = record {
      chains = λ q h. chain q (omega (arith, b)) (decide_eq q v);
      hints = λ u q j a k h y. each u q j (omega (arith, b)) (omega (arith, size)) y (last_or i j q u (Begin v) e h y);
      low = λ u h. high u (omega (arith, size)) (decide_eq u v);
    }
      where
        b : begins op (suc i) ≡ suc v
        b = begins-suc op i (Begin v) e ∙ ap suc (sym next)

        size : length (set hs v (C v)) ≡ length hs
        size = length-set hs v (C v)

        chain : (q : ℕ) → q < suc v → (q ≡ v) ⊎ (q ≢ v) → get_or (set hs v (C v)) q 0 ≡ C q
        chain q h (inl m) = rw m (get_or-set_same hs v (C v) 0 inside)
        chain q h (inr m) = get_or-set_other hs v q (C v) 0 m ∙ f.chains q (omega arith)

        each : (u q j : ℕ) → suc v ≤ u → u < length hs → op j ≡ Link q u → (j < i) ⊎ (Begin v ≡ Link q u) → 1024 - C q ≤ get_or (set hs v (C v)) u 0
        each u q j a k y (inl h) = rw (get_or-set_other hs v u (C v) 0 (omega arith)) (f.hints u q j (omega arith) k h y)
        each u q j a k y (inr h) = absurd (omega (arith, ap source_of h))

        high : (u : ℕ) → u < length hs → (u ≡ v) ⊎ (u ≢ v) → get_or (set hs v (C v)) u 0 ≤ 1024
        high u h (inl m) = rw m (omega (arith, get_or-set_same hs v (C v) 0 inside))
        high u h (inr m) = rw (get_or-set_other hs v u (C v) 0 m) (f.low u h)

    -- no link came where the hint is 0
    pub unhinted :
        (n : ℕ) → Ordered op n → (i : ℕ) → i ≤ n → (hs : List ℕ) → Hinted i hs → ((p : ℕ) → p < begins op i → C p < 1024) →
        (u : ℕ) → begins op i ≤ u → u < length hs → get_or hs u 0 ≡ 0 → linked op i u ≡ []
    unhinted n o i h hs f few u a k z = none (linked op i u) refl
      where
        none : (ps : List ℕ) → linked op i u ≡ ps → ps ≡ []
        none [] e = refl
        none (q ∷ ps) e =
            let r = (linked-exact op i q u).0 (rw e (Memᴰ.head refl)) in
            let g = link-between op n o r.0 q u (omega (arith, r.1)) r.2 in
            absurd (omega (arith, f.hints u q r.0 a k r.1 r.2, few q (omega (arith, g.0, begins-mono op r.0 i (omega (arith, r.1))))))

module _ (op : ℕ → Ordering) (n : ℕ) (R : ℕ → ℕ → ℕ) (w : ℕ) (rest : List ℕ) where
  -- The clocks show the rows of those that have begun or to which a link came; any other row of theirs may hold anything.
  pub record Shows (i : ℕ) (hs cs : List ℕ) : Type 0 where
    pub rows : ℕ → ℕ → ℕ
    pub along : Along op (λ u c. 0) R i rows
    pub shown : ℕ → ℕ → ℕ
    pub shown-is : (u c : ℕ) → (u < begins op i) ⊎ (get_or hs u 0 ≢ 0) → shown u c ≡ rows u c
    pub clocks_are : cs ≡ flat w (begins op n) shown ++ rest

module _
    (op : ℕ → Ordering) (n : ℕ) (o : Ordered op n) (within : (i p u : ℕ) → i < n → op i ≡ Link p u → u < begins op n)
    (R : ℕ → ℕ → ℕ) (C : ℕ → ℕ) (w chains : ℕ) (narrow : w ≤ 1024) (rest : List ℕ) where
  pub record FillArrives (i : ℕ) (hs : List ℕ) (r : FillWalked) : Type 0 where
    pub later : i ≤ r.position
    pub inside : r.position ≤ n
    pub none_begun : begins op r.position ≡ begins op i
    pub at-begin : r.position < n → op r.position ≡ Begin (begins op i)
    pub shows : Shows op n R w rest r.position r.hints r.clocks
    pub same_length : length r.hints ≡ length hs
    pub hinted : Hinted op C r.position r.hints
    pub past : (u : ℕ) → begins op n ≤ u → get_or r.hints u 0 ≡ get_or hs u 0

  module _ (i p u : ℕ) (hs cs : List ℕ) (h : i < n) (x : op i ≡ Link p u) (f : Shows op n R w rest i hs cs) (s : ZeroPast op R w chains i) (t : Hinted op C i hs)
      (few : (q : ℕ) → q < begins op i → C q < 1024) (room : begins op n ≤ length hs) where
    between : (p < begins op i) × (begins op i ≤ u)
    between = link-between op n o i p u h x

    to : u < begins op n
    to = within i p u h x

    -- row p is shown, and 0 past its chains
    source : (c : ℕ) → f.shown p c ≡ f.rows p c
    source c = f.shown-is p c (inl between.0)

    zeros : (c : ℕ) → c < w → (chains ≤ c) ⊎ (p < c) → f.shown p c ≡ 0
    zeros c a d = source c ∙ (f.along.done p c between.0 ∙ s p c between.0 a d)

    -- the row is 0 where no link has come to it
    fresh : get_or hs u 0 ≡ 0 → (d : ℕ) → f.rows u d ≡ 0
    unfolding largest
    fresh z d =
        let none = unhinted op C n o i (omega arith) hs t few u between.1 (omega (arith, to)) z in
        f.along.coming u d between.1 ∙ rw none refl

    abbrev noted : List ℕ
    noted = set hs u (max (get_or hs u 0) (1024 - get_or hs p 0))

    -- one row is made, the others stay
    shows-link :
        (cs' : List ℕ) (made : ℕ → ℕ → ℕ) → cs' ≡ flat w (begins op n) made ++ rest → ((v c : ℕ) → v ≢ u → made v c ≡ f.shown v c) →
        ((c : ℕ) → made u c ≡ merge_into f.rows p u u c) → Shows op n R w rest (suc i) noted cs'
    shows-link cs' made e else own = record {
      rows = merge_into f.rows p u;
      along = along-link op (λ v c. 0) R n o i p u f.rows h x f.along;
      shown = made;
      shown-is = λ v c k. each v c k (decide_eq v u);
      clocks_are = e;
    }
      where
        before : (v : ℕ) → v ≢ u → (v < begins op (suc i)) ⊎ (get_or noted v 0 ≢ 0) → (v < begins op i) ⊎ (get_or hs v 0 ≢ 0)
        before v m (inl k) = inl (omega (arith, begins-suc op i (Link p u) x))
        before v m (inr k) = inr (λ z. k (get_or-set_other hs u v (max (get_or hs u 0) (1024 - get_or hs p 0)) 0 m ∙ z))

        each : (v c : ℕ) → (v < begins op (suc i)) ⊎ (get_or noted v 0 ≢ 0) → (v ≡ u) ⊎ (v ≢ u) → made v c ≡ merge_into f.rows p u v c
        each v c k (inl m) = rw m (own c)
        each v c k (inr m) = else v c m ∙ (f.shown-is v c (before v m k) ∙ sym (into-other f.rows p u v c m))

    shows-linked : (get_or hs u 0 ≡ 0) ⊎ (get_or hs u 0 ≢ 0) → Shows op n R w rest (suc i) noted (linked_by w chains (Link p u) hs cs)
    shows-linked (inl z) =
        let copied = copied-row w (begins op n) rest f.shown chains p u narrow (omega (arith, between.0, between.1)) to zeros in
        let own : (c : ℕ) → copy_into f.shown p u u c ≡ merge_into f.rows p u u c = λ c.
        omega (arith, copy-own f.shown p u c, source c, into-own f.rows p u c, fresh z c) in
        rw (eq-eqb (get_or hs u 0) 0 z) (shows-link _ (copy_into f.shown p u) (ap (copy_row w chains p u) f.clocks_are ∙ copied) (copy-other f.shown p u) own)
    shows-linked (inr z) =
        let merged = merged-row w (begins op n) rest f.shown chains p u narrow (omega (arith, between.0, between.1)) to zeros in
        let own : (c : ℕ) → merge_into f.shown p u u c ≡ merge_into f.rows p u u c = λ c. into-own f.shown p u c ∙ (ap₂ max (f.shown-is u c (inr z)) (source c) ∙ sym (into-own f.rows p u c)) in
        rw (ne_eqb (get_or hs u 0) 0 z) (shows-link _ (merge_into f.shown p u) (ap (merge_row w chains p u) f.clocks_are ∙ merged) (into-other f.shown p u) own)

  shows-other : (i : ℕ) (hs cs : List ℕ) → op i ≡ Nothing → Shows op n R w rest i hs cs → Shows op n R w rest (suc i) hs cs
  shows-other i hs cs x f = record {
    rows = f.rows;
    along = along-other op (λ u c. 0) R i f.rows x f.along;
    shown = f.shown;
    shown-is = λ u c k. f.shown-is u c (before u k);
    clocks_are = f.clocks_are;
  }
    where
      before : (u : ℕ) → (u < begins op (suc i)) ⊎ (get_or hs u 0 ≢ 0) → (u < begins op i) ⊎ (get_or hs u 0 ≢ 0)
      before u (inl k) = inl (omega (arith, begins-suc op i Nothing x))
      before u (inr k) = inr k

  fill_here :
      (i : ℕ) (cs hs : List ℕ) → i ≤ n → (i < n → op i ≡ Begin (begins op i)) → Shows op n R w rest i hs cs → Hinted op C i hs →
      FillArrives i hs (record { position = i; clocks = cs; hints = hs })
  fill_here i cs hs h k f t = record {
    later = omega arith;
    inside = h;
    none_begun = refl;
    at-begin = k;
    shows = f;
    same_length = refl;
    hinted = t;
    past = λ u a. refl;
  }

  -- from a record that is no begin on
  fill-further :
      (i : ℕ) (hs hs' : List ℕ) (r : FillWalked) → begins op (suc i) ≡ begins op i → length hs' ≡ length hs →
      ((u : ℕ) → begins op n ≤ u → get_or hs' u 0 ≡ get_or hs u 0) → FillArrives (suc i) hs' r → FillArrives i hs r
  fill-further i hs hs' r b l same a = record {
    later = omega (arith, a.later);
    inside = a.inside;
    none_begun = a.none_begun ∙ b;
    at-begin = λ h. a.at-begin h ∙ ap Begin b;
    shows = a.shows;
    same_length = a.same_length ∙ l;
    hinted = a.hinted;
    past = λ u h. a.past u h ∙ same u h;
  }

  -- where k records are left
  pub fill-walked :
      (k i : ℕ) (cs hs : List ℕ) → i + k ≡ n → Shows op n R w rest i hs cs → ZeroPast op R w chains i → Hinted op C i hs →
      ((q : ℕ) → q < begins op i → C q < 1024) → begins op n ≤ length hs → FillArrives i hs (fill_walk op w chains k i cs hs)
  unfolding fill_walk
  fill-walked zero i cs hs z f s t few room = fill_here i cs hs (omega arith) (λ h. absurd (omega arith)) f t
  fill-walked (suc k) i cs hs z f s t few room = go (op i) refl (λ cs' hs'. fill-walked k (suc i) cs' hs' (omega arith))
    where
      h : i < n
      h = omega arith

      go : (x : Ordering) → op i ≡ x →
          ((cs' hs' : List ℕ) → Shows op n R w rest (suc i) hs' cs' → ZeroPast op R w chains (suc i) → Hinted op C (suc i) hs' →
          ((q : ℕ) → q < begins op (suc i) → C q < 1024) → begins op n ≤ length hs' → FillArrives (suc i) hs' (fill_walk op w chains k (suc i) cs' hs')) →
          FillArrives i hs (fill_on (stops x) i (linked_by w chains x hs cs) (hinted_by x hs) (fill_walk op w chains k (suc i)))
      go (Link p u) x next =
          let b = begins-suc op i (Link p u) x in
          let g = link-between op n o i p u h x in
          let y = max (get_or hs u 0) (1024 - get_or hs p 0) in
          let size = length-set hs u y in
          let to = within i p u h x in
          let shows = shows-linked i p u hs cs h x f s t few room (decide_eq (get_or hs u 0) 0) in
          let r = next _ (set hs u y) shows (λ q c a d j. s q c (omega (arith, b)) d j) (hinted-link op C i p u hs x g.0 g.1 t)
          (λ q a. few q (omega (arith, b))) (omega arith) in
          fill-further i hs (set hs u y) _ b size (λ v q. get_or-set_other hs u v y 0 (omega arith)) r
      go (Begin u) x next = fill_here i cs hs (omega arith) (λ q. x ∙ ap Begin (begin-next op n o i u h x)) f t
      go Nothing x next =
          let b = begins-suc op i Nothing x in
          let r = next cs hs (shows-other i hs cs x f) (λ q c a d j. s q c (omega (arith, b)) d j) (hinted-other op C i hs x t)
          (λ q a. few q (omega (arith, b))) room in
          fill-further i hs hs _ b refl (λ v q. refl) r

-- the walk as a loop makes it, from record i up to n
module _ (op : ℕ → Ordering) (w chains n i : ℕ) (cs hs : List ℕ) where
  pub fill-over : n ≤ i → fill_walk op w chains (n - i) i cs hs ≡ record { position = i; clocks = cs; hints = hs }
  unfolding fill_walk
  fill-over h = let e : n - i ≡ 0 = omega arith in rw e

  module _ (h : i < n) where
    pub fill_stop :
        stops (op i) ≡ true →
        fill_walk op w chains (n - i) i cs hs ≡ record { position = i; clocks = linked_by w chains (op i) hs cs; hints = hinted_by (op i) hs }
    unfolding fill_walk
    fill_stop t = let e : n - i ≡ suc (n - suc i) = omega arith in rw (e, t)

    pub fill-next :
        stops (op i) ≡ false →
        fill_walk op w chains (n - i) i cs hs ≡ fill_walk op w chains (n - (i + 1)) (i + 1) (linked_by w chains (op i) hs cs) (hinted_by (op i) hs)
    unfolding fill_walk
    fill-next t =
        let e : n - i ≡ suc (n - suc i) = omega arith in
        let j : i + 1 ≡ suc i = omega arith in
        rw (e, t, j)

-- past records that say nothing
fill-past :
    (op : ℕ → Ordering) (w chains n : ℕ) (cs hs : List ℕ) (k i : ℕ) → i + k ≤ n → ((j : ℕ) → i ≤ j → j < i + k → op j ≡ Nothing) →
    fill_walk op w chains (n - i) i cs hs ≡ fill_walk op w chains (n - (i + k)) (i + k) cs hs
fill-past op w chains n cs hs zero i h f = let e : i + 0 ≡ i = omega arith in rw e
fill-past op w chains n cs hs (suc k) i h f =
    let o = f i (omega arith) (omega arith) in
    let j : i + suc k ≡ (i + 1) + k = omega arith in
    fill-next op w chains n i cs hs (omega arith) (ap stops o)
    ∙ (ap₂ (fill_walk op w chains (n - (i + 1)) (i + 1)) (ap (λ x. linked_by w chains x hs cs) o) (ap (λ x. hinted_by x hs) o)
    ∙ rw j (fill-past op w chains n cs hs k (i + 1) (omega arith) (λ x a b. f x (omega arith) (omega arith))))

-- the walk starts past the accesses
pub fill-skips :
    (tr : List Record) (ranks : List ℕ) (w chains from : ℕ) (cs hs : List ℕ) →
    fill_walk (ordering_by tr ranks) w chains (length tr - (from + leading tr (length tr - from) from)) (from + leading tr (length tr - from) from) cs hs
    ≡ fill_walk (ordering_by tr ranks) w chains (length tr - from) from cs hs
fill-skips tr ranks w chains from cs hs = go (decide-lt (length tr) from)
  where
    k : ℕ
    k = leading tr (length tr - from) from

    go :
        (length tr < from) ⊎ (from ≤ length tr) →
        fill_walk (ordering_by tr ranks) w chains (length tr - (from + k)) (from + k) cs hs ≡ fill_walk (ordering_by tr ranks) w chains (length tr - from) from cs hs
    go (inl h) = let e : from + k ≡ from = leading-over tr (length tr) from (omega arith) in rw e
    go (inr h) =
        sym (fill-past (ordering_by tr ranks) w chains (length tr) cs hs k from (omega (arith, leading_le tr (length tr - from) from))
        (λ j a b. access-other (λ e. get_or ranks e 0) (at tr j) (leading-accesses tr (length tr - from) from j a b)))
