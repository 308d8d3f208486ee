-- The row made straight from the order is the largest of the direct predecessors' rows. Assumes nothing.
use Prim.Native.Nat.{ℕ, zero, suc, ◌+◌, ◌*◌, ◌≤◌, ◌<◌}
use mathlib.Core.Path.{◌≡◌, refl, sym, ◌∙◌, ap}
use mathlib.Core.Logic.{◌≢◌, ◌⊎◌, inl, inr}
use mathlib.Core.Bool.{Bool, true, false, cond, ◌&&◌}
use mathlib.Core.List.{List, ◌++◌}
use native.Mathlib.Omega.{arith}
use lib.Dec.{T, eqb, eqb→eq}
use lib.ListN.{length, get_or, length-set}
use borrow.Author.Tests.{eq-eqb, ne_eqb}
use Rattle.clocks.specs.Rows.{rows_if}
use Rattle.order.specs.Links.{Links, Forward, leq}
use Rattle.order.specs.Chains.{count}
use Rattle.order.specs.Clocks.{flat, chain_of, entry, merged}
use Rattle.order.specs.loops.FromTable.{row_from, take_own, take_before, RoomToTake}
use Rattle.slices.proofs.Tests.{both, decide, decide_eq, passed, failed}
use Rattle.order.proofs.OrderLaws.{≼_trans}
use Rattle.order.proofs.CountLaws.{count-mono}
use Rattle.order.proofs.ClockLaws.{below, of-below, is_below, chain-≼, clock, merged-count}
use Rattle.order.proofs.RowLaws.{SameBut, same-but, flat-same, place}
use Rattle.order.proofs.FlatLaws.{flat-read, flat-store}

-- Members of a chain are ordered, so the last one met has the largest own entry: it counts all that are before u.
module _ (l : Links) (fw : Forward l) where
  own-counts : (u c t : ℕ) → T (below l u c t) → entry l t (chain_of l t) ≡ count (below l u c) (suc t)
  own-counts u c t h =
      let (e, k) = of-below l fw u c t h in
      let less = count-mono (below l t (chain_of l t)) (below l u c) (suc t) (suc t) (λ s a b.
      let (f, g) = of-below l fw t (chain_of l t) s b in
      (a, is_below l fw u c s (f ∙ e) (≼_trans l g k))) in
      let more = count-mono (below l u c) (below l t (chain_of l t)) (suc t) (suc t) (λ s a b.
      let f = (of-below l fw u c s b).0 ∙ sym e in
      (a, is_below l fw t (chain_of l t) s f (chain-≼ l fw s t (omega arith) f))) in
      omega (arith, clock l fw t (chain_of l t))

  module _ (u : ℕ) (ch own : ℕ → ℕ) (before : ℕ → Bool) (row : ℕ → ℕ)
      (chains : (t : ℕ) → t < u → ch t ≡ chain_of l t) (entries : (t : ℕ) → t < u → own t ≡ entry l t (chain_of l t))
      (tests : (t : ℕ) → t < u → before t ≡ leq l t u) (zeros : (c : ℕ) → row c ≡ 0) where
    row_counts : (k c : ℕ) → k ≤ u → row_from ch own before row k c ≡ count (below l u c) k
    unfolding row_from count
    row_counts zero c h = zeros c
    row_counts (suc k) c h = rw (chains k h, tests k h, entries k h) (go (decide (below l u c k)) (row_counts k c (omega arith)))
      where
        go : T (below l u c k) ⊎ (T (below l u c k) → ⊥) → row_from ch own before row k c ≡ count (below l u c) k
            → cond (below l u c k) (entry l k (chain_of l k)) (row_from ch own before row k c) ≡ count (below l u c) (suc k)
        go (inl b) e = ap (λ z. cond z (entry l k (chain_of l k)) (row_from ch own before row k c)) (passed (below l u c k) b) ∙ own-counts u c k b
        go (inr b) e = rw (failed (below l u c k) b) (omega arith)

    pub from-table : (c : ℕ) → row_from ch own before row u c ≡ merged l u c
    from-table c = row_counts u c (omega arith) ∙ sym (merged-count l fw u c)

-- In clocks: the first k event actions leave their own entries in row u, and no other row changes.
module _ (w m : ℕ) (rest : List ℕ) (before : ℕ → Bool) (u : ℕ) (chosen : List ℕ) (r : ℕ → ℕ → ℕ) where
  abbrev ch : ℕ → ℕ
  ch t = get_or chosen t 0

  abbrev row_at : ℕ → ℕ → ℕ
  row_at k c = row_from ch (λ t. r t (ch t)) before (r u) k c

  -- what becomes of rows
  abbrev pub taken_rows : ℕ → ℕ → ℕ → ℕ
  taken_rows k v c = cond (eqb v u) (row_at k c) (r v c)

  pub taken_own : (k c : ℕ) → taken_rows k u c ≡ row_at k c
  taken_own k c = rw (eq-eqb u u refl)

  pub taken-other : (k v c : ℕ) → v ≢ u → taken_rows k v c ≡ r v c
  taken-other k v c n = rw (ne_eqb v u n)

  row_zero : (c : ℕ) → row_at 0 c ≡ r u c
  unfolding row_from
  row_zero c = refl

  row-taken : (k : ℕ) → T (before k) → row_at (suc k) (ch k) ≡ r k (ch k)
  unfolding row_from
  row-taken k b = rw (passed (before k) b, eq-eqb (ch k) (ch k) refl)

  row_kept : (k c : ℕ) → (T (eqb (ch k) c && before k) → ⊥) → row_at (suc k) c ≡ row_at k c
  unfolding row_from
  row_kept k c n = rw (failed (eqb (ch k) c && before k) n)

  same_rows : (k j : ℕ) → ((c : ℕ) → row_at k c ≡ row_at j c)
      → flat w m (taken_rows k) ≡ flat w m (taken_rows j)
  same_rows k j f = flat-same w m (taken_rows k) (taken_rows j) (λ v c h i. ap (λ (x : ℕ). cond (eqb v u) x (r v c)) (f c))

  module _ (inside : u < m) (fits : (t : ℕ) → t < u → ch t < w) where
    taken_next : (k : ℕ) → k < u → T (before k) → take_own w u chosen k (flat w m (taken_rows k) ++ rest) ≡ flat w m (taken_rows (suc k)) ++ rest
    unfolding take_own
    taken_next k h b =
        let i = fits k h in
        let n : k ≢ u = λ e. omega arith in
        rw (flat-read w m rest (taken_rows k) k (ch k) (omega arith) i, taken-other k k (ch k) n, ← row-taken k b, ← taken_own (suc k) (ch k))
        (flat-store w m rest (taken_rows k) (taken_rows (suc k)) u (ch k) inside i but)
      where
        but : SameBut u (ch k) (taken_rows k) (taken_rows (suc k))
        but =
            same-but u (ch k) (taken_rows k) (taken_rows (suc k)) (λ v d n. taken-other (suc k) v d n ∙ sym (taken-other k v d n)) (λ d n.
            taken_own (suc k) d ∙ row_kept k d (λ x. n (sym (eqb→eq (ch k) d (both (eqb (ch k) d) (before k) x).0))) ∙ sym (taken_own k d))

    pub taken-before : (k : ℕ) → k ≤ u → take_before before w u chosen k (flat w m r ++ rest) ≡ flat w m (taken_rows k) ++ rest
    unfolding take_before
    taken-before zero h = ap (λ cs. cs ++ rest) (flat-same w m r (taken_rows 0) (λ v c a b. at v c (decide_eq v u)))
      where
        at : (v c : ℕ) → (v ≡ u) ⊎ (v ≢ u) → r v c ≡ taken_rows 0 v c
        at v c (inl e) = rw e (sym (taken_own 0 c ∙ row_zero c))
        at v c (inr n) = sym (taken-other 0 v c n)
    taken-before (suc k) h = rw (taken-before k (omega arith)) (go (decide (before k)))
      where
        cs : List ℕ
        cs = flat w m (taken_rows k) ++ rest

        go : T (before k) ⊎ (T (before k) → ⊥) → rows_if (before k) (take_own w u chosen k cs) cs ≡ flat w m (taken_rows (suc k)) ++ rest
        go (inl b) = ap (λ z. rows_if z (take_own w u chosen k cs) cs) (passed (before k) b) ∙ taken_next k h b
        go (inr b) =
            ap (λ z. rows_if z (take_own w u chosen k cs) cs) (failed (before k) b)
            ∙ ap (λ cs. cs ++ rest) (same_rows k (suc k) (λ c. sym (row_kept k c (λ x. b (both (eqb (ch k) c) (before k) x).1))))

-- Of any test that tells happens-before of those that begin earlier: the row, and the clocks.
module _ (l : Links) (fw : Forward l) (m : ℕ) (before : ℕ → ℕ → Bool) (tests : (p u : ℕ) → p < u → u < m → before p u ≡ leq l p u) where
  pub row-from-table : (u c : ℕ) → u < m → row_from (chain_of l) (λ t. entry l t (chain_of l t)) (λ t. before t u) (λ d. 0) u c ≡ merged l u c
  row-from-table u c h =
      from-table l fw u (chain_of l) (λ t. entry l t (chain_of l t)) (λ t. before t u) (λ d. 0) (λ t a. refl) (λ t a. refl) (λ t a. tests t u a h) (λ d. refl) c

  pub clocks-from-table : (w u : ℕ) (rest chosen : List ℕ) (r : ℕ → ℕ → ℕ) → u < m → ((t : ℕ) → t < u → get_or chosen t 0 ≡ chain_of l t)
      → ((t : ℕ) → t < u → chain_of l t < w) → ((t c : ℕ) → t < u → r t c ≡ entry l t c) → ((c : ℕ) → r u c ≡ 0)
      → take_before (λ t. before t u) w u chosen u (flat w m r ++ rest) ≡ flat w m (λ v c. cond (eqb v u) (merged l u c) (r v c)) ++ rest
  clocks-from-table w u rest chosen r h chains fits entries zeros =
      taken-before w m rest (λ t. before t u) u chosen r h (λ t a. omega (arith, chains t a, fits t a)) u (omega arith)
      ∙ ap (λ cs. cs ++ rest) (flat-same w m (taken_rows w m rest (λ t. before t u) u chosen r u) (λ v c. cond (eqb v u) (merged l u c) (r v c)) (λ v c a b.
      ap (λ (x : ℕ). cond (eqb v u) x (r v c)) (row c)))
    where
      row : (c : ℕ) → row_from (λ t. get_or chosen t 0) (λ t. r t (get_or chosen t 0)) (λ t. before t u) (r u) u c ≡ merged l u c
      row =
          from-table l fw u (λ t. get_or chosen t 0) (λ t. r t (get_or chosen t 0)) (λ t. before t u) (r u) chains
          (λ t a. entries t (get_or chosen t 0) a ∙ ap (entry l t) (chains t a)) (λ t a. tests t u a h) zeros

-- the loop, turn by turn
module _ (before : ℕ → Bool) (w u : ℕ) (chosen : List ℕ) where
  pub take_none : (cs : List ℕ) → take_before before w u chosen 0 cs ≡ cs
  unfolding take_before
  take_none cs = refl

  pub take_more : (t : ℕ) (cs : List ℕ) → take_before before w u chosen (t + 1) cs
      ≡ rows_if (before t) (take_own w u chosen t (take_before before w u chosen t cs)) (take_before before w u chosen t cs)
  unfolding take_before
  take_more t cs = let e : t + 1 ≡ suc t = omega arith in rw e

  pub take-length : (t : ℕ) (cs : List ℕ) → length (take_before before w u chosen t cs) ≡ length cs
  unfolding take_before take_own
  take-length zero cs = refl
  take-length (suc t) cs = go (before t) (take-length t cs)
    where
      go : (b : Bool) → length (take_before before w u chosen t cs) ≡ length cs
          → length (rows_if b (take_own w u chosen t (take_before before w u chosen t cs)) (take_before before w u chosen t cs)) ≡ length cs
      go true e = length-set (take_before before w u chosen t cs) _ _ ∙ e
      go false e = e

pub room_after : {w u : ℕ} {cs cs' chosen : List ℕ} → length cs' ≡ length cs → RoomToTake w u cs chosen → RoomToTake w u cs' chosen
room_after e s = let r = s.row in record { narrow = s.narrow; few = s.few; row = omega arith; chosen_room = s.chosen_room; fits = s.fits }

-- t's own entry stands before row u
pub own-place : {w u t : ℕ} {cs chosen : List ℕ} → RoomToTake w u cs chosen → t < u → t * w + get_or chosen t 0 < u * w
own-place {w} {u} {t} {cs} {chosen} s h = place w u t (get_or chosen t 0) h (s.fits t h)
