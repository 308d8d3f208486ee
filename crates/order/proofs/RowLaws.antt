-- The flat clocks: where each entry stands, and the comparison in them. Assumes nothing.
use Prim.Native.Nat.{ℕ, zero, suc, ◌+◌, ◌*◌, ◌/◌, ◌%◌, ◌≤◌, ◌<◌}
use mathlib.Core.Path.{◌≡◌, refl, sym, ◌∙◌, ap, ap₂}
use mathlib.Core.Logic.{◌≢◌, ◌⊎◌, inl, inr}
use mathlib.Core.List.{List, [], ◌∷◌, ◌++◌}
use native.Mathlib.Omega.{arith}
use native.Mathlib.Nat.{suc-mul, zero-mul, mul-zero, mul-le-mul_right, div-add-mod', div-lt_iff_lt-mul, mod-lt}
use lib.Dec.{leb}
use lib.ListN.{length, get_or, set, replicate, length-append, length-set, length-replicate, get_or-replicate, get_or-append}
use lib.Seq.{get_or-append-add, get_or-append_seam, get_or-set_same, get_or-set_other, ext_get_or}
use Rattle.clocks.specs.Rows.{compare_in}
use Rattle.order.specs.Links.{Links}
use Rattle.order.specs.Clocks.{table, flat, chain_of, entry, clocks_of, compare}
use Rattle.slices.proofs.Tests.{decide_eq, decide-lt}

pub table-length : (n : ℕ) (f : ℕ → ℕ) → length (table n f) ≡ n
unfolding table
table-length zero f = refl
table-length (suc n) f = length-append (table n f) (f n ∷ []) ∙ omega (arith, table-length n f)

pub table_at : (n : ℕ) (f : ℕ → ℕ) (i : ℕ) → i < n → get_or (table n f) i 0 ≡ f i
unfolding table
table_at zero f i h = absurd (omega arith)
table_at (suc n) f i h = go (decide_eq i n) (table_at n f i)
  where
    go : (i ≡ n) ⊎ (i ≢ n) → (i < n → get_or (table n f) i 0 ≡ f i) → get_or (table n f ++ (f n ∷ [])) i 0 ≡ f i
    go (inl e) g = let k : i ≡ length (table n f) = e ∙ sym (table-length n f) in rw (k, get_or-append_seam, table-length n f)
    go (inr d) g = get_or-append (table n f) (f n ∷ []) 0 i (omega (arith, table-length n f)) ∙ g (omega arith)

-- rows that differ at most in entry c of row u
abbrev pub SameBut : ℕ → ℕ → (ℕ → ℕ → ℕ) → (ℕ → ℕ → ℕ) → Type 0
SameBut u c r s = (v d : ℕ) → ((v ≡ u) × (d ≡ c) → ⊥) → s v d ≡ r v d

-- by whether they differ in a row or in an entry
pub same-but : (u c : ℕ) (r s : ℕ → ℕ → ℕ) → ((v d : ℕ) → v ≢ u → s v d ≡ r v d) → ((d : ℕ) → d ≢ c → s u d ≡ r u d) → SameBut u c r s
same-but u c r s row column v d n = go (decide_eq v u)
  where
    go : (v ≡ u) ⊎ (v ≢ u) → s v d ≡ r v d
    go (inl e) = rw e (column d (λ f. n (e, f)))
    go (inr e) = row v d e

module _ (w : ℕ) where
  pub flat-length : (m : ℕ) (rows : ℕ → ℕ → ℕ) → length (flat w m rows) ≡ m * w
  unfolding flat
  flat-length zero rows = sym (zero-mul w)
  flat-length (suc m) rows =
      let e = length-append (flat w m rows) (table w (rows m)) in
      omega (arith, e, flat-length m rows, table-length w (rows m), suc-mul m w)

  -- entry c of row u has its place
  pub place : (m u c : ℕ) → u < m → c < w → u * w + c < m * w
  place m u c h k = omega (arith, mul-le-mul_right w h, suc-mul u w)

  pub flat-at : (m : ℕ) (rows : ℕ → ℕ → ℕ) (u c : ℕ) → u < m → c < w → get_or (flat w m rows) (u * w + c) 0 ≡ rows u c
  unfolding flat
  flat-at zero rows u c h k = absurd (omega arith)
  flat-at (suc m) rows u c h k = go (decide_eq u m) (λ i. flat-at m rows u c i k)
    where
      go :
          (u ≡ m) ⊎ (u ≢ m) →
          (u < m → get_or (flat w m rows) (u * w + c) 0 ≡ rows u c) →
          get_or (flat w m rows ++ table w (rows m)) (u * w + c) 0 ≡ rows u c
      go (inl e) f = rw (e, ← flat-length m rows) (get_or-append-add (flat w m rows) (table w (rows m)) c 0 ∙ table_at w (rows m) c k)
      go (inr n) f =
          let i : u < m = omega arith in
          get_or-append (flat w m rows) (table w (rows m)) 0 (u * w + c) (omega (arith, flat-length m rows, place m u c i k)) ∙ f i

  -- every place is that of one entry
  pub row_below : (m i : ℕ) → i < m * w → (i / w < m) × (i % w < w)
  row_below m i h = go (decide_eq w 0)
    where
      go : (w ≡ 0) ⊎ (w ≢ 0) → (i / w < m) × (i % w < w)
      go (inl e) = absurd (omega (arith, ap (λ x. m * x) e, mul-zero m))
      go (inr n) = let k : 0 < w = omega arith in ((div-lt_iff_lt-mul k).1 h, mod-lt i k)

  row_one : (u v c d : ℕ) → c < w → u * w + c ≡ v * w + d → (u < v) ⊎ (v ≤ u) → v ≤ u
  row_one u v c d h e (inl k) = absurd (omega (arith, mul-le-mul_right w k, suc-mul u w))
  row_one u v c d h e (inr k) = k

  pub place-one : (u v c d : ℕ) → c < w → d < w → u * w + c ≡ v * w + d → (u ≡ v) × (c ≡ d)
  place-one u v c d h k e =
      let a = row_one u v c d h e (decide-lt u v) in
      let b = row_one v u d c k (sym e) (decide-lt v u) in
      let f : u ≡ v = omega arith in
      (f, omega (arith, e, ap (λ x. x * w) f))

  pub flat-place : (m : ℕ) (rows : ℕ → ℕ → ℕ) (i : ℕ) → i < m * w → get_or (flat w m rows) i 0 ≡ rows (i / w) (i % w)
  flat-place m rows i h =
      let r = row_below m i h in
      ap (λ x. get_or (flat w m rows) x 0) (sym (div-add-mod' i w)) ∙ flat-at m rows (i / w) (i % w) r.0 r.1

  -- a list is flat rows if each entry stands at its place
  pub flat-is :
      (m : ℕ) (rows : ℕ → ℕ → ℕ) (cs : List ℕ) → length cs ≡ m * w →
      ((u c : ℕ) → u < m → c < w → get_or cs (u * w + c) 0 ≡ rows u c) → cs ≡ flat w m rows
  flat-is m rows cs e f = ext_get_or 0 cs (flat w m rows) (e ∙ sym (flat-length m rows)) each
    where
      each : (i : ℕ) → i < length cs → get_or cs i 0 ≡ get_or (flat w m rows) i 0
      each i h =
          let k : i < m * w = omega arith in
          let r = row_below m i k in
          ap (λ x. get_or cs x 0) (sym (div-add-mod' i w)) ∙ (f (i / w) (i % w) r.0 r.1 ∙ sym (flat-place m rows i k))

  pub flat-same : (m : ℕ) (r s : ℕ → ℕ → ℕ) → ((u c : ℕ) → u < m → c < w → r u c ≡ s u c) → flat w m r ≡ flat w m s
  flat-same m r s f = flat-is m s (flat w m r) (flat-length m r) (λ u c h k. flat-at m r u c h k ∙ f u c h k)

  pub flat-zero : (m : ℕ) → replicate (m * w) 0 ≡ flat w m (λ u c. 0)
  flat-zero m =
      flat-is m (λ u c. 0) (replicate (m * w) 0) (length-replicate (m * w) 0) (λ u c h k.
      get_or-replicate (m * w) (u * w + c) 0 0 (place m u c h k))

  -- a store at an entry's place
  pub flat-set :
      (m : ℕ) (r s : ℕ → ℕ → ℕ) (u c : ℕ) → u < m → c < w → SameBut u c r s →
      set (flat w m r) (u * w + c) (s u c) ≡ flat w m s
  flat-set m r s u c h k f =
      flat-is m s (set (flat w m r) i (s u c)) (length-set (flat w m r) i (s u c) ∙ flat-length m r) (λ v d a b.
      at v d a b (decide_eq (v * w + d) i))
    where
      i : ℕ
      i = u * w + c

      at : (v d : ℕ) → v < m → d < w → (v * w + d ≡ i) ⊎ (v * w + d ≢ i) → get_or (set (flat w m r) i (s u c)) (v * w + d) 0 ≡ s v d
      at v d a b (inl e) =
          let o = place-one v u d c b k e in
          rw (o.0, o.1) (get_or-set_same (flat w m r) i (s u c) 0 (omega (arith, flat-length m r, place m u c h k)))
      at v d a b (inr n) =
          let other = f v d (λ o. n (ap₂ (λ y z. y * w + z) o.0 o.1)) in
          get_or-set_other (flat w m r) i (v * w + d) (s u c) 0 n ∙ (flat-at m r v d a b ∙ sym other)

module _ (l : Links) where
  pub clocks-length : (w m : ℕ) → length (clocks_of l w m) ≡ m * w
  unfolding clocks_of
  clocks-length w m = flat-length w m (entry l)

  pub clocks-at : (w m u c : ℕ) → u < m → c < w → get_or (clocks_of l w m) (u * w + c) 0 ≡ entry l u c
  unfolding clocks_of
  clocks-at w m u c h k = flat-at w m (entry l) u c h k

  pub clocks-place : (w m i : ℕ) → i < m * w → get_or (clocks_of l w m) i 0 ≡ entry l (i / w) (i % w)
  unfolding clocks_of
  clocks-place w m i h = flat-place w m (entry l) i h

  -- the order question's comparison over clocks that filling left
  pub compare-filled : (w m t u : ℕ) → t < m → u < m → chain_of l t < w → compare_in (clocks_of l w m) w (chain_of l t) t u ≡ compare l t u
  unfolding compare_in compare
  compare-filled w m t u h k i = ap₂ leb (clocks-at w m t (chain_of l t) h i) (clocks-at w m u (chain_of l t) k i)
