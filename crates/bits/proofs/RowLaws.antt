-- The laws of specs/Laws: what entering a bit and taking rows do, bit by bit. Assumes nothing.
use Prim.Native.Nat.{ℕ, zero, suc, ◌+◌, ◌*◌, ◌-◌, ◌/◌, ◌%◌, ◌^◌, ◌≤◌, ◌<◌}
use mathlib.Core.Path.{◌≡◌, refl, sym, ap, ap₂, ◌∙◌, subst}
use mathlib.Core.Logic.{◌≢◌, ◌⊎◌, inl, inr}
use mathlib.Core.Bool.{Bool, true, false, ◌&&◌, ◌||◌}
use mathlib.Core.List.{List}
use native.Mathlib.Omega.{arith}
use native.Mathlib.Nat.{div-add-mod'}
use borrow.Author.Tests.{eq-eqb, ne_eqb, lt-ltb, le-ltb}
use lib.Dec.{eqb, ltb}
use lib.ListN.{length, get_or, set, length-set, length-replicate}
use lib.Seq.{get_or-set_same, get_or-set_other}
use Rattle.slices.specs.Slices.{filled, zeros}
use Rattle.bits.specs.Words.{bit_at, with_bit, or_from, or_others}
use Rattle.bits.specs.Table.{row_start, in_table, place, bit_of, put_bit, or_row, member, or_set}
use Rattle.bits.specs.Laws.{Proper, PutsBit, TakesRow, TakesInto}
use Rattle.bits.proofs.WordLaws.{or-at-length}
use Rattle.bits.proofs.TableLaws.{row_low, row-high, row_inside, lt-or-ge, outside_low, outside_high, inside, bit-none, bit_is, put_is, or-row-is, member-none, member_is, or-set-is}
use Rattle.bits.proofs.BitLaws.{or-bit, one_bit, zero_bit, Outside, from-outside, from-inside, others-outside, others-inside}

eq-or-not : (m n : ℕ) → (m ≡ n) ⊎ (m ≢ n)
eq-or-not m n = go (lt-or-ge m n) (lt-or-ge n m)
  where
    go : (m < n) ⊎ (n ≤ m) → (n < m) ⊎ (m ≤ n) → (m ≡ n) ⊎ (m ≢ n)
    go (inl h) _ = inr (λ e. omega (arith, e))
    go (inr h) (inl k) = inr (λ e. omega (arith, e))
    go (inr h) (inr k) = inl (omega arith)

-- rows stand apart
row_apart : (u v i j : ℕ) → u < 1024 → v < 1024 → i ≤ u / 64 → j ≤ v / 64 → u ≢ v → row_start u + i ≢ row_start v + j
row_apart u v i j a b c d n e = go (lt-or-ge u 512) (lt-or-ge v 512)
  where
    go : (u < 512) ⊎ (512 ≤ u) → (v < 512) ⊎ (512 ≤ v) → ⊥
    go (inl h) (inl k) = let p = row_low u h in let q = row_low v k in n (omega arith)
    go (inl h) (inr k) = let p = row_low u h in let q = row-high v k in n (omega arith)
    go (inr h) (inl k) = let p = row-high u h in let q = row_low v k in n (omega arith)
    go (inr h) (inr k) = let p = row-high u h in let q = row-high v k in n (omega arith)

row-outside : (u v m j : ℕ) → u < 1024 → v < 1024 → m ≤ u / 64 → j ≤ v / 64 → u ≢ v → Outside (row_start u + 0) (row_start u + 0 + (m + 1)) (row_start v + j)
row-outside u v m j a b c d n = go (lt-or-ge (row_start v + j) (row_start u)) (lt-or-ge (row_start v + j) (row_start u + (m + 1)))
  where
    go : (row_start v + j < row_start u) ⊎ (row_start u ≤ row_start v + j) → (row_start v + j < row_start u + (m + 1)) ⊎ (row_start u + (m + 1) ≤ row_start v + j)
        → Outside (row_start u + 0) (row_start u + 0 + (m + 1)) (row_start v + j)
    go (inl h) _ = inl (omega arith)
    go (inr h) (inr k) = inr (omega arith)
    go (inr h) (inl k) =
        let e : row_start u + (row_start v + j - row_start u) ≡ row_start v + j = omega arith in
        absurd (row_apart u v (row_start v + j - row_start u) j a b (omega arith) d n e)

from-length : (a b k c : ℕ) (ws : List ℕ) → length (or_from a b c k ws) ≡ length ws
unfolding or_from
from-length a b zero c ws = refl
from-length a b (suc k) c ws = from-length a b k (suc c) _ ∙ or-at-length ws a b c ws

or-none : (a b : Bool) → b ≡ false → a ≡ (a || b)
or-none true b e = refl
or-none false b e = sym e

-- bit t of row u's words, past the row too
abbrev word_bit : List ℕ → ℕ → ℕ → Bool
word_bit ws t u = bit_at (get_or ws (place t u) 0) (t % 64)

module _ (p u : ℕ) (l : p < u) (h : u < 1024) (ws : List ℕ) (w : Proper ws) where
  taken : List ℕ
  taken = or_from (row_start u) (row_start p) 0 (p / 64 + 1) ws

  taken_is : or_row p u ws ≡ taken
  unfolding taken
  taken_is = or-row-is p u ws l h w.room

  taken-other : (t v : ℕ) → v < 1024 → t / 64 ≤ v / 64 → v ≢ u → word_bit taken t v ≡ word_bit ws t v
  unfolding taken
  taken-other t v a b n =
      ap (λ (x : ℕ). bit_at x (t % 64))
      (from-outside (row_start u) (row_start p) (place t v) (p / 64 + 1) 0 ws (row-outside u v (p / 64) (t / 64) h a (omega arith) b (λ e. n (sym e))))

  taken-past : (t : ℕ) → p / 64 < t / 64 → word_bit taken t u ≡ word_bit ws t u
  unfolding taken
  taken-past t a = ap (λ (x : ℕ). bit_at x (t % 64)) (from-outside (row_start u) (row_start p) (place t u) (p / 64 + 1) 0 ws (inr (omega arith)))

  taken-row : (t : ℕ) → t / 64 ≤ p / 64 → word_bit taken t u ≡ (word_bit ws t u || word_bit ws t p)
  unfolding taken
  taken-row t a =
      let i = row_inside u h in
      let n = w.room in
      ap (λ (x : ℕ). bit_at x (t % 64))
      (from-inside (row_start u) (row_start p) (t / 64) (p / 64 + 1) 0 ws
      (λ x y s r e. row_apart p u x y (omega arith) h (omega arith) (omega arith) (λ q. omega (arith, q)) e)
      (omega arith) (omega arith) (omega arith))
      ∙ or-bit (get_or ws (place t u) 0) (get_or ws (place t p) 0) (t % 64)

  -- past the row nothing is taken
  taken_none : (t : ℕ) → p < t → word_bit taken t u ≡ word_bit ws t u
  taken_none t a = go (lt-or-ge (p / 64) (t / 64))
    where
      or-false : (x : Bool) → (x || false) ≡ x
      or-false true = refl
      or-false false = refl

      go : (p / 64 < t / 64) ⊎ (t / 64 ≤ p / 64) → word_bit taken t u ≡ word_bit ws t u
      go (inl b) = taken-past t b
      go (inr b) = taken-row t b ∙ ap (λ (x : Bool). word_bit ws t u || x) (w.past t p (omega arith) a b) ∙ or-false (word_bit ws t u)

  pub proper-or : Proper (or_row p u ws)
  unfolding taken
  proper-or = rw taken_is (record {
    room = let n = w.room in let k = from-length (row_start u) (row_start p) (p / 64 + 1) 0 ws in omega arith;
    past = λ t v a b c. go t v a b c (eq-or-not v u);
  })
    where
      go : (t v : ℕ) → v < 1024 → v < t → t / 64 ≤ v / 64 → (v ≡ u) ⊎ (v ≢ u) → word_bit taken t v ≡ false
      go t v a b c (inr n) = taken-other t v a c n ∙ w.past t v a b c
      go t v a b c (inl e) = rw e (taken_none t (omega (arith, e)) ∙ w.past t u h (omega (arith, e)) (subst (λ (x : ℕ). t / 64 ≤ x / 64) e c))

  none_before : (t v : ℕ) → (v ≡ u → p < t) → (eqb v u && bit_of ws t p) ≡ false
  none_before t v f = go (eq-or-not v u)
    where
      go : (v ≡ u) ⊎ (v ≢ u) → (eqb v u && bit_of ws t p) ≡ false
      go (inr n) = rw (ne_eqb v u n)
      go (inl e) = rw (eq-eqb v u e, ← bit-none t p ws (outside_low t p (f e)))

  pub takes-row : TakesRow p u ws
  takes-row t v = rw taken_is (go (lt-or-ge v t) (lt-or-ge v 1024) (eq-or-not v u) (lt-or-ge p t))
    where
      go : (v < t) ⊎ (t ≤ v) → (v < 1024) ⊎ (1024 ≤ v) → (v ≡ u) ⊎ (v ≢ u) → (p < t) ⊎ (t ≤ p) → bit_of taken t v ≡ (bit_of ws t v || (eqb v u && bit_of ws t p))
      go (inl a) _ _ _ =
          let o = outside_low t v a in
          sym (bit-none t v taken o) ∙ bit-none t v ws o ∙ or-none _ _ (none_before t v (λ e. omega (arith, e)))
      go (inr a) (inr b) _ _ =
          let o = outside_high t v a b in
          sym (bit-none t v taken o) ∙ bit-none t v ws o ∙ or-none _ _ (none_before t v (λ e. absurd (omega (arith, e))))
      go (inr a) (inl b) (inr n) _ =
          bit_is t v taken (inside t v a b) ∙ taken-other t v b (omega arith) n ∙ sym (bit_is t v ws (inside t v a b))
          ∙ or-none _ _ (none_before t v (λ e. absurd (n e)))
      go (inr a) (inl b) (inl e) (inl c) =
          bit_is t v taken (inside t v a b) ∙ subst (λ (x : ℕ). word_bit taken t x ≡ word_bit ws t x) (sym e) (taken_none t c)
          ∙ sym (bit_is t v ws (inside t v a b)) ∙ or-none _ _ (none_before t v (λ q. c))
      go (inr a) (inl b) (inl e) (inr c) =
          let q : (eqb v u && bit_of ws t p) ≡ word_bit ws t p = rw (eq-eqb v u e) (bit_is t p ws (inside t p c (omega arith))) in
          bit_is t v taken (inside t v a b)
          ∙ subst (λ (x : ℕ). word_bit taken t x ≡ (word_bit ws t x || word_bit ws t p)) (sym e) (taken-row t (omega arith))
          ∙ sym (ap₂ (λ (x y : Bool). x || y) (bit_is t v ws (inside t v a b)) q)

-- a bit enters
module _ (p u : ℕ) (l : p ≤ u) (h : u < 1024) (ws : List ℕ) (w : Proper ws) where
  given : List ℕ
  given = set ws (place p u) (with_bit (get_or ws (place p u) 0) (p % 64))

  given_is : put_bit p u ws ≡ given
  unfolding given
  given_is = put_is p u ws (inside p u l h)

  given-other : (t v : ℕ) → place t v ≢ place p u → word_bit given t v ≡ word_bit ws t v
  unfolding given
  given-other t v n = ap (λ (x : ℕ). bit_at x (t % 64)) (get_or-set_other ws (place p u) (place t v) (with_bit (get_or ws (place p u) 0) (p % 64)) 0 n)

  given-here : (t v : ℕ) → place t v ≡ place p u → word_bit given t v ≡ (word_bit ws t v || eqb (t % 64) (p % 64))
  unfolding given with_bit
  given-here t v e =
      let i = row_inside u h in
      let n = w.room in
      ap (λ (x : ℕ). bit_at (get_or given x 0) (t % 64)) e
      ∙ ap (λ (x : ℕ). bit_at x (t % 64)) (get_or-set_same ws (place p u) (with_bit (get_or ws (place p u) 0) (p % 64)) 0 (omega arith))
      ∙ or-bit (get_or ws (place p u) 0) (2 ^ (p % 64)) (t % 64)
      ∙ ap₂ (λ (x y : Bool). x || y) (ap (λ (x : ℕ). bit_at (get_or ws x 0) (t % 64)) (sym e)) (one_bit (p % 64) (t % 64))

  given-bit : (t v : ℕ) → v < 1024 → t / 64 ≤ v / 64 → word_bit given t v ≡ (word_bit ws t v || (eqb t p && eqb v u))
  given-bit t v a b = go (eq-or-not v u) (eq-or-not (t / 64) (p / 64))
    where
      go : (v ≡ u) ⊎ (v ≢ u) → (t / 64 ≡ p / 64) ⊎ (t / 64 ≢ p / 64) → word_bit given t v ≡ (word_bit ws t v || (eqb t p && eqb v u))
      go (inr n) _ =
          given-other t v (λ e. row_apart v u (t / 64) (p / 64) a h b (omega arith) n e) ∙ or-none _ _ (none (eq-or-not t p))
        where
          none : (t ≡ p) ⊎ (t ≢ p) → (eqb t p && eqb v u) ≡ false
          none (inl e) = rw (eq-eqb t p e, ne_eqb v u n)
          none (inr d) = rw (ne_eqb t p d)
      go (inl e) (inr n) =
          let d : t ≡ p → ⊥ = λ q. n (ap (λ (x : ℕ). x / 64) q) in
          let q : place t v ≡ place p u → ⊥ = λ z. n (cancel z) in
          given-other t v q ∙ or-none _ _ (rw (ne_eqb t p d))
        where
          cancel : place t v ≡ place p u → t / 64 ≡ p / 64
          cancel z = let y : row_start u + t / 64 ≡ row_start u + p / 64 = subst (λ (x : ℕ). row_start x + t / 64 ≡ row_start u + p / 64) e z in omega arith
      go (inl e) (inl q) =
          given-here t v (ap₂ (λ (x y : ℕ). row_start x + y) e q) ∙ ap (λ (x : Bool). word_bit ws t v || x) (same (eq-or-not t p))
        where
          same : (t ≡ p) ⊎ (t ≢ p) → eqb (t % 64) (p % 64) ≡ (eqb t p && eqb v u)
          same (inl z) = rw (eq-eqb t p z, eq-eqb v u e) (eq-eqb (t % 64) (p % 64) (ap (λ (x : ℕ). x % 64) z))
          same (inr z) =
              let d : t % 64 ≡ p % 64 → ⊥ = λ y. z (sym (div-add-mod' t 64) ∙ ap₂ (λ (x y : ℕ). x * 64 + y) q y ∙ div-add-mod' p 64) in
              rw (ne_eqb t p z) (ne_eqb (t % 64) (p % 64) d)

  pub proper-put : Proper (put_bit p u ws)
  unfolding given
  proper-put = rw given_is (record {
    room = let n = w.room in let k = length-set ws (place p u) (with_bit (get_or ws (place p u) 0) (p % 64)) in omega arith;
    past = λ t v a b c. given-bit t v a c ∙ sym (or-none _ _ (none t v b)) ∙ w.past t v a b c;
  })
    where
      none : (t v : ℕ) → v < t → (eqb t p && eqb v u) ≡ false
      none t v b = go (eq-or-not t p) (eq-or-not v u)
        where
          go : (t ≡ p) ⊎ (t ≢ p) → (v ≡ u) ⊎ (v ≢ u) → (eqb t p && eqb v u) ≡ false
          go (inr d) _ = rw (ne_eqb t p d)
          go (inl e) (inr d) = rw (eq-eqb t p e, ne_eqb v u d)
          go (inl e) (inl q) = absurd (omega (arith, e, q))

  pub puts-bit : PutsBit p u ws
  puts-bit t v = rw given_is (go (lt-or-ge v t) (lt-or-ge v 1024))
    where
      none : (v < t) ⊎ (1024 ≤ v) → (eqb t p && eqb v u) ≡ false
      none c = by c (eq-or-not t p) (eq-or-not v u)
        where
          by : (v < t) ⊎ (1024 ≤ v) → (t ≡ p) ⊎ (t ≢ p) → (v ≡ u) ⊎ (v ≢ u) → (eqb t p && eqb v u) ≡ false
          by _ (inr d) _ = rw (ne_eqb t p d)
          by _ (inl e) (inr d) = rw (eq-eqb t p e, ne_eqb v u d)
          by (inl b) (inl e) (inl q) = absurd (omega (arith, e, q))
          by (inr b) (inl e) (inl q) = absurd (omega (arith, e, q))

      go : (v < t) ⊎ (t ≤ v) → (v < 1024) ⊎ (1024 ≤ v) → bit_of given t v ≡ (bit_of ws t v || (eqb t p && eqb v u))
      go (inl a) _ = let o = outside_low t v a in sym (bit-none t v given o) ∙ bit-none t v ws o ∙ or-none _ _ (none (inl a))
      go (inr a) (inr b) = let o = outside_high t v a b in sym (bit-none t v given o) ∙ bit-none t v ws o ∙ or-none _ _ (none (inr b))
      go (inr a) (inl b) =
          bit_is t v given (inside t v a b) ∙ given-bit t v b (omega arith) ∙ ap (λ (x : Bool). x || (eqb t p && eqb v u)) (sym (bit_is t v ws (inside t v a b)))

-- a row is taken into a set
abbrev set_bit : List ℕ → ℕ → ℕ → Bool
set_bit ws k y = bit_at (get_or ws (16 * k + y / 64) 0) (y % 64)

others-length : (others : List ℕ) (a b k c : ℕ) (ws : List ℕ) → length (or_others others a b c k ws) ≡ length ws
unfolding or_others
others-length others a b zero c ws = refl
others-length others a b (suc k) c ws = others-length others a b k (suc c) _ ∙ or-at-length others a b c ws

module _ (table : List ℕ) (l x : ℕ) (i : l < 4) (h : x < 1024) (ws : List ℕ) (n : 64 ≤ length ws) (w : Proper table) where
  into : List ℕ
  into = or_others table (16 * l) (row_start x) 0 (x / 64 + 1) ws

  into-is : or_set table l x ws ≡ into
  unfolding into
  into-is = or-set-is l x ws table i h n w.room

  into-other : (k y : ℕ) → Outside (16 * l + 0) (16 * l + 0 + (x / 64 + 1)) (16 * k + y / 64) → set_bit into k y ≡ set_bit ws k y
  unfolding into
  into-other k y o = ap (λ (z : ℕ). bit_at z (y % 64)) (others-outside table (16 * l) (row_start x) (16 * k + y / 64) (x / 64 + 1) 0 ws o)

  into-here : (y : ℕ) → y / 64 ≤ x / 64 → set_bit into l y ≡ (set_bit ws l y || word_bit table y x)
  unfolding into
  into-here y a =
      ap (λ (z : ℕ). bit_at z (y % 64)) (others-inside table (16 * l) (row_start x) (y / 64) (x / 64 + 1) 0 ws (omega arith) (omega arith) (omega arith))
      ∙ or-bit (get_or ws (16 * l + y / 64) 0) (get_or table (place y x) 0) (y % 64)

  into-past : (y : ℕ) → x < y → set_bit into l y ≡ set_bit ws l y
  into-past y a = go (lt-or-ge (x / 64) (y / 64))
    where
      go : (x / 64 < y / 64) ⊎ (y / 64 ≤ x / 64) → set_bit into l y ≡ set_bit ws l y
      go (inl b) = into-other l y (inr (omega arith))
      go (inr b) = into-here y b ∙ sym (or-none _ _ (w.past y x h a b))

  outside_set : (k y : ℕ) → k < 4 → y < 1024 → k ≢ l → Outside (16 * l + 0) (16 * l + 0 + (x / 64 + 1)) (16 * k + y / 64)
  outside_set k y a b d = go (lt-or-ge k l)
    where
      go : (k < l) ⊎ (l ≤ k) → Outside (16 * l + 0) (16 * l + 0 + (x / 64 + 1)) (16 * k + y / 64)
      go (inl c) = inl (omega arith)
      go (inr c) = let e : l < k = omega (arith, d) in inr (omega arith)

  none_in : (k y : ℕ) → (k ≡ l → x < y) → (eqb k l && bit_of table y x) ≡ false
  none_in k y f = go (eq-or-not k l)
    where
      go : (k ≡ l) ⊎ (k ≢ l) → (eqb k l && bit_of table y x) ≡ false
      go (inr d) = rw (ne_eqb k l d)
      go (inl e) = rw (eq-eqb k l e, ← bit-none y x table (outside_low y x (f e)))

  pub sets-room : 64 ≤ length (or_set table l x ws)
  unfolding into
  sets-room = rw into-is (let e = others-length table (16 * l) (row_start x) (x / 64 + 1) 0 ws in omega arith)

  pub takes-into : TakesInto table l x ws
  takes-into k y = rw into-is (go (lt-or-ge k 4) (lt-or-ge y 1024) (eq-or-not k l) (lt-or-ge x y))
    where
      go : (k < 4) ⊎ (4 ≤ k) → (y < 1024) ⊎ (1024 ≤ y) → (k ≡ l) ⊎ (k ≢ l) → (x < y) ⊎ (y ≤ x)
          → member into k y ≡ (member ws k y || (eqb k l && bit_of table y x))
      go (inr a) _ _ _ =
          let o : (ltb k 4 && ltb y 1024) ≡ false = rw (le-ltb k 4 a) in
          sym (member-none k y into o) ∙ member-none k y ws o ∙ or-none _ _ (none_in k y (λ e. absurd (omega (arith, e))))
      go (inl a) (inr b) _ _ =
          let o : (ltb k 4 && ltb y 1024) ≡ false = rw (lt-ltb k 4 a, le-ltb y 1024 b) in
          sym (member-none k y into o) ∙ member-none k y ws o ∙ or-none _ _ (none_in k y (λ e. omega arith))
      go (inl a) (inl b) (inr d) _ =
          member_is k y into a b ∙ into-other k y (outside_set k y a b d) ∙ sym (member_is k y ws a b) ∙ or-none _ _ (none_in k y (λ e. absurd (d e)))
      go (inl a) (inl b) (inl e) (inl c) =
          member_is k y into a b ∙ subst (λ (z : ℕ). set_bit into z y ≡ set_bit ws z y) (sym e) (into-past y c)
          ∙ sym (member_is k y ws a b) ∙ or-none _ _ (none_in k y (λ q. c))
      go (inl a) (inl b) (inl e) (inr c) =
          let q : (eqb k l && bit_of table y x) ≡ word_bit table y x = rw (eq-eqb k l e) (bit_is y x table (inside y x c h)) in
          member_is k y into a b
          ∙ subst (λ (z : ℕ). set_bit into z y ≡ (set_bit ws z y || word_bit table y x)) (sym e) (into-here y (omega arith))
          ∙ sym (ap₂ (λ (z r : Bool). z || r) (member_is k y ws a b) q)

-- words without bits
pub zeros-word : (n j : ℕ) → get_or (zeros n) j 0 ≡ 0
unfolding filled
zeros-word zero j = refl
zeros-word (suc n) zero = refl
zeros-word (suc n) (suc j) = zeros-word n j

zeros-bit : (n j k : ℕ) → bit_at (get_or (zeros n) j 0) k ≡ false
zeros-bit n j k = ap (λ (x : ℕ). bit_at x k) (zeros-word n j) ∙ zero_bit k

pub zeros-room : (n m : ℕ) → m ≤ n → m ≤ length (zeros n)
unfolding filled
zeros-room n m h = rw (length-replicate n zero) h

and_none : (a b : Bool) → b ≡ false → (a && b) ≡ false
and_none true b e = e
and_none false b e = refl

pub proper-zeros : Proper (zeros 8704)
proper-zeros = record { room = zeros-room 8704 8704 (omega arith); past = λ t u a b c. zeros-bit 8704 (place t u) (t % 64) }

pub no-bit : (n t u : ℕ) → bit_of (zeros n) t u ≡ false
unfolding bit_of
no-bit n t u = and_none (in_table t u) _ (zeros-bit n (place t u) (t % 64))

pub no_member : (n l x : ℕ) → member (zeros n) l x ≡ false
unfolding member
no_member n l x = and_none (ltb l 4 && ltb x 1024) _ (zeros-bit n (16 * l + x / 64) (x % 64))

pub no-sets-room : 64 ≤ length (zeros 64)
no-sets-room = zeros-room 64 64 (omega arith)
