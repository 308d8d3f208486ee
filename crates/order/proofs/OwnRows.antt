-- Each step by which a row is made writes that row's part of the lent clocks and no other; and what it makes of that part.
-- Assumes nothing.
use Prim.Native.Nat.{ℕ, zero, suc, ◌+◌, ◌*◌, ◌-◌, ◌≤◌, ◌<◌, max}
use mathlib.Core.Path.{◌≡◌, refl, sym, ap, ◌∙◌}
use mathlib.Core.Logic.{◌≢◌, ◌⊎◌, inl, inr}
use mathlib.Core.Bool.{Bool, true, false, ◌&&◌}
use mathlib.Core.List.{List, ◌++◌}
use native.Mathlib.Omega.{arith}
use borrow.Author.Tests.{leb-false}
use lib.Dec.{leb, ltb}
use lib.ListN.{length, get_or, set, take, drop, replicate, length-append, length-take, length-drop, length-set, length-replicate}
use lib.ListN.{get_or-append}
use lib.Seq.{length-take-le, get_or-append-add, get_or-set_same, get_or-set_other, get_or-take, get_or-drop}
use Rattle.clocks.specs.Rows.{has_row, rows_if, reach, merge_at, merge_from, merge_row, span, clear_past, copy_at, copy_from, copy_row, clear_row}
use Rattle.clocks.proofs.RowLaws.{row-stands, stands-row, row_before, rows_apart, reach-le, span-le, span-past, copy-row-fits, clear-row-past, past-length, past-before, past-in, past_after}
use Rattle.slices.proofs.Tests.{decide_eq, decide-lt}
use Rattle.order.specs.loops.Pass.{tick, Rows, pick_rows, enter_row, begin_row, choose_in}
use Rattle.order.specs.ByEvent.{OnlyRow}

module _ (w u : ℕ) where
  only_same : (cs : List ℕ) → OnlyRow w u cs cs
  only_same cs = record { as_long = refl; before = λ i h. refl; after = λ i h. refl }

  only_then : {xs ys zs : List ℕ} → OnlyRow w u xs ys → OnlyRow w u ys zs → OnlyRow w u xs zs
  only_then f g = record { as_long = g.as_long ∙ f.as_long; before = λ i h. g.before i h ∙ f.before i h; after = λ i h. g.after i h ∙ f.after i h }

  only_if : (t : Bool) (xs ys cs : List ℕ) → (t ≡ true → OnlyRow w u cs xs) → OnlyRow w u cs ys → OnlyRow w u cs (rows_if t xs ys)
  only_if true xs ys cs f g = f refl
  only_if false xs ys cs f g = g

  -- a store in the part
  only_set : (c x : ℕ) (cs : List ℕ) → c < w → OnlyRow w u cs (set cs (u * w + c) x)
  only_set c x cs h = record {
    as_long = length-set cs (u * w + c) x;
    before = λ i k. get_or-set_other cs (u * w + c) i x 0 (λ e. omega (arith, e));
    after = λ i k. get_or-set_other cs (u * w + c) i x 0 (λ e. omega (arith, e));
  }

  pub only-put : (row cs : List ℕ) → length row ≡ w → u * w + w ≤ length cs → OnlyRow w u cs (take (u * w) cs ++ (row ++ drop (u * w + w) cs))
  only-put row cs e h = record { as_long = as_long; before = before; after = after }
    where
      front : length (take (u * w) cs) ≡ u * w
      front = length-take-le (u * w) cs (omega arith)

      as_long : length (take (u * w) cs ++ (row ++ drop (u * w + w) cs)) ≡ length cs
      as_long = simp (length-append, length-take, length-drop) (omega arith)

      before : (i : ℕ) → i < u * w → get_or (take (u * w) cs ++ (row ++ drop (u * w + w) cs)) i 0 ≡ get_or cs i 0
      before i k = get_or-append (take (u * w) cs) (row ++ drop (u * w + w) cs) 0 i (omega (arith, front)) ∙ get_or-take (u * w) cs i 0 k

      after : (i : ℕ) → u * w + w ≤ i → get_or (take (u * w) cs ++ (row ++ drop (u * w + w) cs)) i 0 ≡ get_or cs i 0
      after i k =
          let j = i - (u * w + w) in
          let p : i ≡ length (take (u * w) cs) + (length row + j) = omega (arith, front, e) in
          let q : u * w + w + j ≡ i = omega arith in
          ap (λ (x : ℕ). get_or (take (u * w) cs ++ (row ++ drop (u * w + w) cs)) x 0) p
          ∙ (get_or-append-add (take (u * w) cs) (row ++ drop (u * w + w) cs) (length row + j) 0
          ∙ (get_or-append-add row (drop (u * w + w) cs) j 0 ∙ (get_or-drop (u * w + w) cs j 0 ∙ ap (λ (x : ℕ). get_or cs x 0) q)))

  pub only-cleared : (cs : List ℕ) → OnlyRow w u cs (clear_row w u cs)
  unfolding clear_row
  only-cleared cs =
      let z = length-replicate {A = ℕ} w 0 in
      only_if (has_row (length cs) w u) _ cs cs (λ e. only-put (replicate w 0) cs z (row-stands (length cs) w u e).inside) (only_same cs)

  only-merged-from : (p c k : ℕ) (cs : List ℕ) → c + k ≤ w → OnlyRow w u cs (merge_from w p u c k cs)
  unfolding merge_from merge_at
  only-merged-from p c zero cs h = only_same cs
  only-merged-from p c (suc k) cs h =
      only_then (only_set c (max (get_or cs (u * w + c) 0) (get_or cs (p * w + c) 0)) cs (omega arith))
      (only-merged-from p (suc c) k _ (omega arith))

  pub only-merged : (chains p : ℕ) (cs : List ℕ) → OnlyRow w u cs (merge_row w chains p u cs)
  unfolding merge_row
  only-merged chains p cs =
      let all = only-merged-from p 0 (reach w chains p) cs (omega (arith, reach-le w chains p)) in
      only_if (ltb p u && has_row (length cs) w u) _ cs cs (λ e. all) (only_same cs)

  only-copied-from : (p c k : ℕ) (cs : List ℕ) → c + k ≤ w → OnlyRow w u cs (copy_from w p u c k cs)
  unfolding copy_from copy_at
  only-copied-from p c zero cs h = only_same cs
  only-copied-from p c (suc k) cs h = only_then (only_set c (get_or cs (p * w + c) 0) cs (omega arith)) (only-copied-from p (suc c) k _ (omega arith))

  only-past : (c : ℕ) (cs : List ℕ) → u * w + w ≤ length cs → c ≤ w → OnlyRow w u cs (clear_past w u c cs)
  only-past c cs h k = record {
    as_long = past-length w u c cs h k;
    before = λ i j. past-before w u c cs h k i (omega arith);
    after = past_after w u c cs h k;
  }

  pub only-copied : (chains p : ℕ) (cs : List ℕ) → OnlyRow w u cs (copy_row w chains p u cs)
  unfolding copy_row
  only-copied chains p cs =
      let k = span w chains p in
      let all = only-copied-from p 0 k cs (omega (arith, span-le w chains p)) in
      only_if (ltb p u && has_row (length cs) w u) _ cs cs
      (λ e. only_then all (only-past k _ (omega (arith, all.as_long, (rows_apart (length cs) w p u e).stands.inside)) (span-le w chains p))) (only_same cs)

  -- where the row stands, clearing leaves zeros in it
  pub cleared-own : (d : ℕ) (cs : List ℕ) → w ≤ 1024 → u * w + w ≤ length cs → d < w → get_or (clear_row w u cs) (u * w + d) 0 ≡ 0
  cleared-own d cs g h k =
      ap (λ (x : List ℕ). get_or x (u * w + d) 0) (clear-row-past w u cs (stands-row (length cs) w u g h)) ∙ past-in w u 0 cs h (omega arith) (u * w + d) (omega arith) (omega arith)

  -- and copying the entries of row p
  copied-off : (p k c i : ℕ) (cs : List ℕ) → i < u * w + c → get_or (copy_from w p u c k cs) i 0 ≡ get_or cs i 0
  unfolding copy_from copy_at
  copied-off p zero c i cs h = refl
  copied-off p (suc k) c i cs h =
      copied-off p k (suc c) i (set cs (u * w + c) (get_or cs (p * w + c) 0)) (omega arith)
      ∙ get_or-set_other cs (u * w + c) i (get_or cs (p * w + c) 0) 0 (omega arith)

  copied_on :
      (p k c d : ℕ) (cs : List ℕ) → p * w + w ≤ u * w → c + k ≤ w → u * w + w ≤ length cs → c ≤ d → d < c + k →
      get_or (copy_from w p u c k cs) (u * w + d) 0 ≡ get_or cs (p * w + d) 0
  unfolding copy_from copy_at
  copied_on p zero c d cs b h l g i = absurd (omega arith)
  copied_on p (suc k) c d cs b h l g i = go (decide_eq d c) (copied_on p k (suc c) d one b (omega arith) (omega (arith, length-set cs (u * w + c) x)))
    where
      x : ℕ
      x = get_or cs (p * w + c) 0

      one : List ℕ
      one = set cs (u * w + c) x

      go : (d ≡ c) ⊎ (d ≢ c) → (suc c ≤ d → d < suc c + k → get_or (copy_from w p u (suc c) k one) (u * w + d) 0 ≡ get_or one (p * w + d) 0) →
          get_or (copy_from w p u (suc c) k one) (u * w + d) 0 ≡ get_or cs (p * w + d) 0
      go (inl e) next = rw e (copied-off p k (suc c) (u * w + c) one (omega arith) ∙ get_or-set_same cs (u * w + c) x 0 (omega arith))
      go (inr e) next = next (omega arith) (omega arith) ∙ get_or-set_other cs (u * w + c) (p * w + d) x 0 (omega arith)

  pub copied-own :
      (chains p d : ℕ) (cs : List ℕ) → p < u → w ≤ 1024 → u * w + w ≤ length cs → d < w →
      ((c : ℕ) → c < w → (chains ≤ c) ⊎ (p < c) → get_or cs (p * w + c) 0 ≡ 0) → get_or (copy_row w chains p u cs) (u * w + d) 0 ≡ get_or cs (p * w + d) 0
  copied-own chains p d cs h g l i z = ap (λ (x : List ℕ). get_or x (u * w + d) 0) (copy-row-fits w chains p u cs h g l) ∙ go (decide-lt d k)
    where
      k : ℕ
      k = span w chains p

      long : u * w + w ≤ length (copy_from w p u 0 k cs)
      long = omega (arith, (only-copied-from p 0 k cs (omega (arith, span-le w chains p))).as_long)

      go : (d < k) ⊎ (k ≤ d) → get_or (clear_past w u k (copy_from w p u 0 k cs)) (u * w + d) 0 ≡ get_or cs (p * w + d) 0
      go (inl a) =
          past-before w u k (copy_from w p u 0 k cs) long (span-le w chains p) (u * w + d) (omega arith)
          ∙ copied_on p k 0 d cs (row_before w p u h) (omega (arith, span-le w chains p)) l (omega arith) (omega arith)
      go (inr a) =
          past-in w u k (copy_from w p u 0 k cs) long (span-le w chains p) (u * w + d) (omega arith) (omega arith)
          ∙ sym (z d i (span-past w chains p d i a))

  only-picked : (t : Bool) (x y : Rows) (cs : List ℕ) → OnlyRow w u cs x.clocks → (t ≡ false → OnlyRow w u cs y.clocks)
      → OnlyRow w u cs (pick_rows t x y).clocks
  only-picked true x y cs f g = f
  only-picked false x y cs f g = g refl

  pub only-begun : (s : Rows) → OnlyRow w u s.clocks (begin_row w u s).clocks
  unfolding enter_row tick
  only-begun s =
      only-picked (leb w c) _ _ s.clocks (only_same s.clocks) (λ e. only_set c (get_or s.clocks (u * w + c) 0 + 1) s.clocks (leb-false w c e))
    where
      c : ℕ
      c = choose_in w u s.clocks s.sizes s.chains
