-- The walk over the table of bits does what the pass over the table of happens-before does. Assumes nothing.
use Prim.Native.Nat.{ℕ, zero, suc, ◌-◌, ◌≤◌, ◌<◌}
use mathlib.Core.Path.{◌≡◌, refl, sym, ap, ap₂, ◌∙◌, subst}
use mathlib.Core.Logic.{◌≢◌, ◌⊎◌, inl, inr}
use mathlib.Core.Bool.{Bool, true, false, not, ◌&&◌, ◌||◌}
use mathlib.Core.List.{List}
use native.Mathlib.Omega.{arith}
use borrow.Author.Tests.{eq-eqb, ne_eqb, leb-true}
use lib.Dec.{T, eqb, leb, eqb→eq}
use lib.ListN.{length}
use Rattle.slices.proofs.Tests.{both, and, either, or_left, or_right, same, passed, decide_eq}
use Rattle.records.specs.declared.Record.{Record}
use Rattle.records.specs.Records.{at}
use Rattle.records.proofs.Positions.{decide, true-not-false}
use Rattle.bits.specs.Laws.{Proper}
use Rattle.bits.specs.Words.{words_if}
use Rattle.bits.specs.Table.{bit_of, or_row, member, or_set}
use Rattle.bits.proofs.RowLaws.{proper-or, takes-row, takes-into, sets-room}
use Rattle.records.specs.Kinds.{is_send}
use Rattle.precedence.specs.Table.{Table}
use Rattle.precedence.specs.Scan.{Scan, hit, reached, turn, run}
use Rattle.links.specs.Rule.{missing, behind, reach, sends, hits, turn_words, turn_sets, turn_stuck, Walked, walk}
use Rattle.links.proofs.RuleLaws.{missing-none, missing-later, not-missing, behind-already, behind-new, reach-already, reach-new}

-- What the walk for e, of rank u, asks of ranks, table and records, where `has` tells which events have begun.
pub record Ready (tr : List Record) (f : ℕ → ℕ) (e u i : ℕ) (b : Table) (has : ℕ → Bool) : Type 0 where
  -- ranks from 1, those that have begun before e's, no other one theirs
  pub own_rank : (x y : ℕ) → T (has x) → f x ≡ f y → x ≡ y
  pub positive : (x : ℕ) → T (has x) → 0 < f x
  pub lower : (x : ℕ) → T (has x) → f x < u
  pub later : (x : ℕ) → has x ≡ false → x ≢ e → (f x ≡ 0) ⊎ (u < f x)
  pub within : u ≤ 1024
  -- who sends has begun
  pub sender : (j : ℕ) → j < i → T (is_send (at tr j)) → T (has (at tr j).first)
  -- the table is transitive
  pub through : (t p v : ℕ) → T (b t p) → T (b p v) → T (b t v)

-- The words tell the table, e's row and what has reached the links; other rows are as they were, B.
pub record Tells (f : ℕ → ℕ) (u : ℕ) (b : Table) (has : ℕ → Bool) (B : ℕ → ℕ → Bool) (ws sets : List ℕ) (s : Scan) : Type 0 where
  pub proper : Proper ws
  pub room : 64 ≤ length sets
  pub rows : (t v : ℕ) → T (has t) → T (has v) → bit_of ws (f t - 1) (f v - 1) ≡ b t v
  pub frame : (t v : ℕ) → v ≢ u - 1 → bit_of ws t v ≡ B t v
  pub itself : bit_of ws (u - 1) (u - 1) ≡ true
  pub own : (t : ℕ) → T (has t) → bit_of ws (f t - 1) (u - 1) ≡ s.row t
  pub reaches : (k x : ℕ) → 16 ≤ k → k ≤ 19 → T (has x) → member sets (k - 16) (f x - 1) ≡ s.reach k x
  pub row_closed : (t p : ℕ) → T (b t p) → T (s.row p) → T (s.row t)
  pub reach_closed : (k t p : ℕ) → T (b t p) → T (s.reach k p) → T (s.reach k t)

pub holds : {a : Bool} → a ≡ true → T a
holds e = subst T (sym e) tt

pub or_no : (a : Bool) → a ≡ (a || false)
or_no true = refl
or_no false = refl

module _ {tr : List Record} {f : ℕ → ℕ} {e u i : ℕ} {b : Table} {has : ℕ → Bool} (B : ℕ → ℕ → Bool) (w : Ready tr f e u i b has) (j : ℕ) (l : j < i) where
  abbrev r : Record
  r = at tr j

  module _ (ws sets : List ℕ) (s : Scan) (z : Tells f u b has B ws sets s) where
    send-from : T (is_send r) → 16 ≤ r.kind
    send-from h = leb-true 16 r.kind (passed (leb 16 r.kind) (both (leb 16 r.kind) (leb r.kind 19) h).0)

    send-to : T (is_send r) → r.kind ≤ 19
    send-to h = leb-true r.kind 19 (passed (leb r.kind 19) (both (leb 16 r.kind) (leb r.kind 19) h).1)

    begun-sender : T (is_send r) → T (has r.first)
    begun-sender h = w.sender j l h

    -- both look at sends alone
    sends-is : sends f e u r ws sets ≡ is_send r
    unfolding sends
    sends-is = go (decide (is_send r))
      where
        go : (is_send r ≡ true) ⊎ (is_send r ≡ false) → (is_send r && not (eqb (f r.first) 0)) ≡ is_send r
        go (inr n) = rw n
        go (inl y) =
            let p = w.positive r.first (begun-sender (holds y)) in
            let d : f r.first ≡ 0 → ⊥ = λ q. omega (arith, q) in
            rw (y, ne_eqb (f r.first) 0 d)

    hits-is : hits f e u r ws sets ≡ hit e s.reach r
    unfolding hits hit
    hits-is = rw sends-is (go (decide (is_send r)))
      where
        go : (is_send r ≡ true) ⊎ (is_send r ≡ false)
            → (is_send r && (not (eqb r.second e) && member sets (r.kind - 16) (f r.first - 1))) ≡ (is_send r && (not (eqb r.second e) && s.reach r.kind r.first))
        go (inr n) = rw n
        go (inl y) = let h = holds y in rw (z.reaches r.kind r.first (send-from h) (send-to h) (begun-sender h))

    hit_other : T (hit e s.reach r) → T (is_send r) × (r.second ≢ e) × T (s.reach r.kind r.first)
    unfolding hit
    hit_other h =
        let a = both (is_send r) (not (eqb r.second e) && s.reach r.kind r.first) h in
        let c = both (not (eqb r.second e)) (s.reach r.kind r.first) a.1 in
        (a.0, (λ q. no-not (subst (λ (x : Bool). T (not x)) (eq-eqb r.second e q) c.0)), c.1)
      where
        no-not : T (not true) → ⊥
        no-not x = x

    -- a target is missing where it hasn't begun
    missing-is : r.second ≢ e → missing (f r.second) u ≡ not (has r.second)
    missing-is d = go (decide (has r.second))
      where
        go : (has r.second ≡ true) ⊎ (has r.second ≡ false) → missing (f r.second) u ≡ not (has r.second)
        go (inl y) =
            let p = w.positive r.second (holds y) in
            let q = w.lower r.second (holds y) in
            let n : f r.second ≡ 0 → ⊥ = λ k. omega (arith, k) in
            rw y (sym (not-missing (f r.second) u ws n (omega arith)))
        go (inr y) = rw y (by (w.later r.second y d))
          where
            by : (f r.second ≡ 0) ⊎ (u < f r.second) → missing (f r.second) u ≡ true
            by (inl q) = sym (missing-none (f r.second) u ws q)
            by (inr q) = let n : f r.second ≡ 0 → ⊥ = λ k. omega (arith, k) in sym (missing-later (f r.second) u ws n q)

    pub stuck_is : turn_stuck f e u r ws sets ≡ (hit e s.reach r && not (has r.second))
    unfolding turn_stuck
    stuck_is = rw hits-is (go (decide (hit e s.reach r)))
      where
        go : (hit e s.reach r ≡ true) ⊎ (hit e s.reach r ≡ false)
            → (hit e s.reach r && missing (f r.second) u) ≡ (hit e s.reach r && not (has r.second))
        go (inr n) = rw n
        go (inl y) = rw (missing-is (hit_other (holds y)).1)

    abbrev hitting : Bool
    hitting = hit e s.reach r

    -- e's row as the pass gives it
    abbrev gained : ℕ → Bool
    gained t = s.row t || (hitting && (has r.second && b t r.second))

    record NewWords (ws' : List ℕ) : Type 0 where
      proper' : Proper ws'
      rows' : (t v : ℕ) → T (has t) → T (has v) → bit_of ws' (f t - 1) (f v - 1) ≡ b t v
      frame' : (t v : ℕ) → v ≢ u - 1 → bit_of ws' t v ≡ B t v
      itself' : bit_of ws' (u - 1) (u - 1) ≡ true
      own' : (t : ℕ) → T (has t) → bit_of ws' (f t - 1) (u - 1) ≡ gained t

    old-words : ((t : ℕ) → T (has t) → s.row t ≡ gained t) → NewWords ws
    old-words g = record { proper' = z.proper; rows' = z.rows; frame' = z.frame; itself' = z.itself; own' = λ t a. z.own t a ∙ g t a }

    module _ (y : hitting ≡ true) (h : has r.second ≡ true) where
      abbrev p : ℕ
      p = f r.second - 1

      before-own : p < u - 1
      before-own = let a = w.positive r.second (holds h) in let c = w.lower r.second (holds h) in omega arith

      inside-table : u - 1 < 1024
      inside-table = let a = w.positive r.second (holds h) in let c = w.lower r.second (holds h) in let d = w.within in omega arith

      gained-is : (t : ℕ) → gained t ≡ (s.row t || b t r.second)
      gained-is t = rw (y, h)

      already : bit_of ws p (u - 1) ≡ true → NewWords ws
      already k =
          let q : T (s.row r.second) = holds (sym (z.own r.second (holds h)) ∙ k) in
          old-words (λ t a. same (s.row t) (s.row t || b t r.second) (or_left (s.row t) (b t r.second)) (λ c. back t q (either (s.row t) (b t r.second) c)) ∙ sym (gained-is t))
        where
          back : (t : ℕ) → T (s.row r.second) → T (s.row t) ⊎ T (b t r.second) → T (s.row t)
          back t q (inl c) = c
          back t q (inr c) = z.row_closed t r.second c q

      taken : NewWords (or_row p (u - 1) ws)
      taken = record {
        proper' = proper-or p (u - 1) before-own inside-table ws z.proper;
        rows' = λ t v a c. takes-row p (u - 1) before-own inside-table ws z.proper (f t - 1) (f v - 1)
            ∙ ap₂ (λ (x q : Bool). x || q) (z.rows t v a c) (other t v a c) ∙ sym (or_no (b t v));
        frame' = λ t v d. takes-row p (u - 1) before-own inside-table ws z.proper t v
            ∙ ap₂ (λ (x q : Bool). x || q) (z.frame t v d) (apart t v d) ∙ sym (or_no (B t v));
        itself' = takes-row p (u - 1) before-own inside-table ws z.proper (u - 1) (u - 1)
            ∙ ap (λ (x : Bool). x || (eqb (u - 1) (u - 1) && bit_of ws (u - 1) p)) z.itself;
        own' = λ t a. takes-row p (u - 1) before-own inside-table ws z.proper (f t - 1) (u - 1)
            ∙ ap₂ (λ (x q : Bool). x || q) (z.own t a) (this t a) ∙ sym (gained-is t);
      }
        where
          other : (t v : ℕ) → T (has t) → T (has v) → (eqb (f v - 1) (u - 1) && bit_of ws (f t - 1) p) ≡ false
          other t v a c =
              let k = w.lower v c in
              let m = w.positive v c in
              let d : f v - 1 ≡ u - 1 → ⊥ = λ q. omega (arith, q) in
              rw (ne_eqb (f v - 1) (u - 1) d)

          apart : (t v : ℕ) → v ≢ u - 1 → (eqb v (u - 1) && bit_of ws t p) ≡ false
          apart t v d = rw (ne_eqb v (u - 1) d)

          this : (t : ℕ) → T (has t) → (eqb (u - 1) (u - 1) && bit_of ws (f t - 1) p) ≡ b t r.second
          this t a = rw (eq-eqb (u - 1) (u - 1) refl) (z.rows t r.second a (holds h))

      behind-words : NewWords (behind (f r.second) u ws)
      behind-words = go (decide (bit_of ws p (u - 1)))
        where
          there : false ≡ missing (f r.second) u
          there = sym (missing-is (hit_other (holds y)).1 ∙ ap not h)

          go : (bit_of ws p (u - 1) ≡ true) ⊎ (bit_of ws p (u - 1) ≡ false) → NewWords (behind (f r.second) u ws)
          go (inl k) = subst NewWords (behind-already (f r.second) u ws there k) (already k)
          go (inr k) = subst NewWords (behind-new (f r.second) u ws there k) taken

    words_step : (hitting && not (has r.second)) ≡ false → NewWords (turn_words f e u r ws sets)
    unfolding turn_words
    words_step n = rw hits-is (go (decide hitting) (decide (has r.second)))
      where
        go : (hitting ≡ true) ⊎ (hitting ≡ false) → (has r.second ≡ true) ⊎ (has r.second ≡ false)
            → NewWords (words_if hitting (behind (f r.second) u ws) ws)
        go (inr y) _ = subst (λ (x : Bool). NewWords (words_if x (behind (f r.second) u ws) ws)) (sym y) (old-words (λ t a. none y t))
          where
            none : hitting ≡ false → (t : ℕ) → s.row t ≡ gained t
            none y t = rw y (or_no (s.row t))
        go (inl y) (inl h) = subst (λ (x : Bool). NewWords (words_if x (behind (f r.second) u ws) ws)) (sym y) (behind-words y h)
        go (inl y) (inr h) = absurd (subst T (sym (ap₂ (λ (x q : Bool). x && not q) y h) ∙ n) tt)

    record NewSets (sets' : List ℕ) : Type 0 where
      room' : 64 ≤ length sets'
      reaches' : (k x : ℕ) → 16 ≤ k → k ≤ 19 → T (has x) → member sets' (k - 16) (f x - 1) ≡ reached e b r s.reach k x

    old-sets : ((k x : ℕ) → T (has x) → s.reach k x ≡ reached e b r s.reach k x) → NewSets sets
    old-sets g = record { room' = z.room; reaches' = λ k x c d a. z.reaches k x c d a ∙ g k x a }

    module _ (y : is_send r ≡ true) (q : eqb r.second e ≡ true) where
      abbrev x₀ : ℕ
      x₀ = r.first

      abbrev l₀ : ℕ
      l₀ = r.kind - 16

      reached-is : (k x : ℕ) → reached e b r s.reach k x ≡ (s.reach k x || (eqb r.kind k && b x x₀))
      unfolding reached
      reached-is k x = rw (y, q)

      reached-already : member sets l₀ (f x₀ - 1) ≡ true → NewSets sets
      reached-already k₀ =
          let h = holds y in
          let c : T (s.reach r.kind x₀) = holds (sym (z.reaches r.kind x₀ (send-from h) (send-to h) (begun-sender h)) ∙ k₀) in
          old-sets (λ k x a. same (s.reach k x) (s.reach k x || (eqb r.kind k && b x x₀)) (or_left (s.reach k x) (eqb r.kind k && b x x₀))
          (λ d. back k x c (either (s.reach k x) (eqb r.kind k && b x x₀) d)) ∙ sym (reached-is k x))
        where
          back : (k x : ℕ) → T (s.reach r.kind x₀) → T (s.reach k x) ⊎ T (eqb r.kind k && b x x₀) → T (s.reach k x)
          back k x c (inl d) = d
          back k x c (inr d) =
              let g = both (eqb r.kind k) (b x x₀) d in
              z.reach_closed k x x₀ g.1 (subst (λ (m : ℕ). T (s.reach m x₀)) (eqb→eq r.kind k g.0) c)

      reached-new : NewSets (or_set ws l₀ (f x₀ - 1) sets)
      reached-new =
          let h = holds y in
          let a = w.lower x₀ (begun-sender h) in
          let d = w.within in
          let c = send-to h in
          let o = send-from h in
          let i₁ : l₀ < 4 = omega arith in
          let i₂ : f x₀ - 1 < 1024 = omega arith in
          record {
            room' = sets-room ws l₀ (f x₀ - 1) i₁ i₂ sets z.room z.proper;
            reaches' = λ k x m n g. takes-into ws l₀ (f x₀ - 1) i₁ i₂ sets z.room z.proper (k - 16) (f x - 1)
                ∙ ap₂ (λ (v v' : Bool). v || v') (z.reaches k x m n g) (ap₂ (λ (v v' : Bool). v && v') (one k m o) (z.rows x x₀ g (begun-sender h)))
                ∙ sym (reached-is k x);
          }
        where
          one : (k : ℕ) → 16 ≤ k → 16 ≤ r.kind → eqb (k - 16) (r.kind - 16) ≡ eqb r.kind k
          one k m o = go (decide_eq r.kind k)
            where
              go : (r.kind ≡ k) ⊎ (r.kind ≢ k) → eqb (k - 16) (r.kind - 16) ≡ eqb r.kind k
              go (inl v) = rw (eq-eqb r.kind k v) (eq-eqb (k - 16) (r.kind - 16) (ap (λ (x : ℕ). x - 16) (sym v)))
              go (inr v) = let d : k - 16 ≡ r.kind - 16 → ⊥ = λ c. v (omega arith) in rw (ne_eqb r.kind k v) (ne_eqb (k - 16) (r.kind - 16) d)

      reach-sets : NewSets (reach l₀ (f x₀ - 1) ws sets)
      reach-sets = go (decide (member sets l₀ (f x₀ - 1)))
        where
          go : (member sets l₀ (f x₀ - 1) ≡ true) ⊎ (member sets l₀ (f x₀ - 1) ≡ false) → NewSets (reach l₀ (f x₀ - 1) ws sets)
          go (inl k) = subst NewSets (reach-already l₀ (f x₀ - 1) ws sets k) (reached-already k)
          go (inr k) = subst NewSets (reach-new l₀ (f x₀ - 1) ws sets k) reached-new

    abbrev SetsIf : Bool → Type 0
    SetsIf x = NewSets (words_if x (reach (r.kind - 16) (f r.first - 1) ws sets) sets)

    sets-step : NewSets (turn_sets f e u r ws sets)
    unfolding turn_sets reached
    sets-step = rw sends-is (go (decide (is_send r)) (decide (eqb r.second e)))
      where
        go : (is_send r ≡ true) ⊎ (is_send r ≡ false) → (eqb r.second e ≡ true) ⊎ (eqb r.second e ≡ false) → SetsIf (is_send r && eqb r.second e)
        go (inr n) _ = subst SetsIf (sym (ap (λ (x : Bool). x && eqb r.second e) n)) (old-sets (λ k x a. rw n (or_no (s.reach k x))))
        go (inl y) (inr n) = subst SetsIf (sym (ap₂ (λ (x v : Bool). x && v) y n)) (old-sets (λ k x a. rw (y, n) (or_no (s.reach k x))))
        go (inl y) (inl q) = subst SetsIf (sym (ap₂ (λ (x v : Bool). x && v) y q)) (reach-sets y q)

    -- closed again
    gained-closed : (t p : ℕ) → T (b t p) → T (gained p) → T (gained t)
    gained-closed t p a g = go (either (s.row p) (hitting && (has r.second && b p r.second)) g)
      where
        go : T (s.row p) ⊎ T (hitting && (has r.second && b p r.second)) → T (gained t)
        go (inl c) = or_left (s.row t) (hitting && (has r.second && b t r.second)) (z.row_closed t p a c)
        go (inr c) =
            let d = both hitting (has r.second && b p r.second) c in
            let o = both (has r.second) (b p r.second) d.1 in
            or_right (s.row t) (hitting && (has r.second && b t r.second))
            (and hitting (has r.second && b t r.second) d.0 (and (has r.second) (b t r.second) o.0 (w.through t p r.second a o.1)))

    reached-closed : (k t p : ℕ) → T (b t p) → T (reached e b r s.reach k p) → T (reached e b r s.reach k t)
    unfolding reached
    reached-closed k t p a g = go (either (s.reach k p) (more p) g)
      where
        more : ℕ → Bool
        more x = is_send r && (eqb r.second e && (eqb r.kind k && b x r.first))

        go : T (s.reach k p) ⊎ T (more p) → T (s.reach k t || more t)
        go (inl c) = or_left (s.reach k t) (more t) (z.reach_closed k t p a c)
        go (inr c) =
            let d = both (is_send r) (eqb r.second e && (eqb r.kind k && b p r.first)) c in
            let o = both (eqb r.second e) (eqb r.kind k && b p r.first) d.1 in
            let m = both (eqb r.kind k) (b p r.first) o.1 in
            or_right (s.reach k t) (more t)
            (and (is_send r) (eqb r.second e && (eqb r.kind k && b t r.first)) d.0
            (and (eqb r.second e) (eqb r.kind k && b t r.first) o.0
            (and (eqb r.kind k) (b t r.first) m.0 (w.through t p r.first a m.1))))

    -- one turn
    pub turn-tells : (hit e s.reach r && not (has r.second)) ≡ false
        → Tells f u b has B (turn_words f e u r ws sets) (turn_sets f e u r ws sets) (turn e b has r s)
    unfolding turn
    turn-tells n =
        let a = words_step n in
        let c = sets-step in
        record {
          proper = a.proper';
          room = c.room';
          rows = a.rows';
          frame = a.frame';
          itself = a.itself';
          own = a.own';
          reaches = c.reaches';
          row_closed = gained-closed;
          reach_closed = reached-closed;
        }

-- the whole walk
module _ {tr : List Record} {f : ℕ → ℕ} {e u i : ℕ} {b : Table} {has : ℕ → Bool} (B : ℕ → ℕ → Bool) (w : Ready tr f e u i b has) where
  stays-stuck : (j : ℕ) (s : Scan) → s.stuck ≡ true → (run tr e b has j s).stuck ≡ true
  unfolding run turn
  stays-stuck zero s h = h
  stays-stuck (suc j) s h = stays-stuck j (turn e b has (at tr j) s) (rw h)

  stuck-turn : (s : Scan) (j : ℕ) → (hit e s.reach (at tr j) && not (has (at tr j).second)) ≡ true → (turn e b has (at tr j) s).stuck ≡ true
  unfolding turn
  stuck-turn s j y = passed _ (or_right s.stuck (hit e s.reach (at tr j) && not (has (at tr j).second)) (holds y))

  free-turn : (s : Scan) (j : ℕ) → s.stuck ≡ false → (hit e s.reach (at tr j) && not (has (at tr j).second)) ≡ false
      → (turn e b has (at tr j) s).stuck ≡ false
  unfolding turn
  free-turn s j n y = rw n y

  -- what the walk from j leaves, against the pass
  pub record Walks (j : ℕ) (ws sets : List ℕ) (s : Scan) : Type 0 where
    pub stuck_same : (walk tr f e u j ws sets).stuck ≡ (run tr e b has j s).stuck
    pub proper_left : (run tr e b has j s).stuck ≡ false → Proper (walk tr f e u j ws sets).words
    pub frame_left : (run tr e b has j s).stuck ≡ false → (t v : ℕ) → v ≢ u - 1 → bit_of (walk tr f e u j ws sets).words t v ≡ B t v
    pub itself_left : (run tr e b has j s).stuck ≡ false → bit_of (walk tr f e u j ws sets).words (u - 1) (u - 1) ≡ true
    pub own_left : (run tr e b has j s).stuck ≡ false → (t : ℕ) → T (has t)
        → bit_of (walk tr f e u j ws sets).words (f t - 1) (u - 1) ≡ (run tr e b has j s).row t

  pub walks : (j : ℕ) → j ≤ i → (ws sets : List ℕ) (s : Scan) → s.stuck ≡ false → Tells f u b has B ws sets s → Walks j ws sets s
  unfolding walk run
  walks zero l ws sets s n z =
      record { stuck_same = sym n; proper_left = λ h. z.proper; frame_left = λ h. z.frame; itself_left = λ h. z.itself; own_left = λ h. z.own }
  walks (suc j) l ws sets s n z =
      go (decide (turn_stuck f e u (at tr j) ws sets))
      (walks j (omega arith) (turn_words f e u (at tr j) ws sets) (turn_sets f e u (at tr j) ws sets) (turn e b has (at tr j) s))
    where
      stuck₀ : turn_stuck f e u (at tr j) ws sets ≡ (hit e s.reach (at tr j) && not (has (at tr j).second))
      stuck₀ = stuck_is B w j l ws sets s z

      go : (turn_stuck f e u (at tr j) ws sets ≡ true) ⊎ (turn_stuck f e u (at tr j) ws sets ≡ false)
          → ((turn e b has (at tr j) s).stuck ≡ false → Tells f u b has B (turn_words f e u (at tr j) ws sets) (turn_sets f e u (at tr j) ws sets) (turn e b has (at tr j) s)
          → Walks j (turn_words f e u (at tr j) ws sets) (turn_sets f e u (at tr j) ws sets) (turn e b has (at tr j) s))
          → Walks (suc j) ws sets s
      go (inl y) g =
          let q : (walk tr f e u (suc j) ws sets).stuck ≡ true = rw y in
          let m = stays-stuck j (turn e b has (at tr j) s) (stuck-turn s j (sym stuck₀ ∙ y)) in
          record {
            stuck_same = q ∙ sym m;
            proper_left = λ h. absurd (true-not-false m h);
            frame_left = λ h. absurd (true-not-false m h);
            itself_left = λ h. absurd (true-not-false m h);
            own_left = λ h. absurd (true-not-false m h);
          }
      go (inr y) g =
          let q : walk tr f e u (suc j) ws sets ≡ walk tr f e u j (turn_words f e u (at tr j) ws sets) (turn_sets f e u (at tr j) ws sets) = rw y in
          let k = sym stuck₀ ∙ y in
          let v = g (free-turn s j n k) (turn-tells B w j l ws sets s z k) in
          record {
            stuck_same = ap (λ (x : Walked). x.stuck) q ∙ v.stuck_same;
            proper_left = λ h. subst (λ (x : Walked). Proper x.words) (sym q) (v.proper_left h);
            frame_left = λ h t m d. subst (λ (x : Walked). bit_of x.words t m ≡ B t m) (sym q) (v.frame_left h t m d);
            itself_left = λ h. subst (λ (x : Walked). bit_of x.words (u - 1) (u - 1) ≡ true) (sym q) (v.itself_left h);
            own_left = λ h t a.
                subst (λ (x : Walked). bit_of x.words (f t - 1) (u - 1) ≡ (run tr e b has j (turn e b has (at tr j) s)).row t) (sym q) (v.own_left h t a);
          }
