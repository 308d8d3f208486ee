-- Merging and adding in flat clocks, over any rows. Assumes nothing.
use Prim.Native.Nat.{ℕ, zero, suc, ◌+◌, ◌*◌, ◌-◌, ◌/◌, ◌%◌, ◌≤◌, ◌<◌, max}
use mathlib.Core.Path.{◌≡◌, refl, sym, ◌∙◌, ap, ap₂}
use mathlib.Core.Logic.{◌≢◌, ◌⊎◌, inl, inr}
use mathlib.Core.Bool.{cond, ◌&&◌, and-false}
use mathlib.Core.List.{List, ◌++◌}
use native.Mathlib.Omega.{arith}
use native.Mathlib.Nat.{mul-le-mul_right, suc-mul, div-add-mod'}
use lib.Dec.{eqb}
use lib.ListN.{length, get_or, set, take, drop, length-append, length-take, length-drop, get_or-append, take-append-drop}
use lib.Seq.{set-append_left, get_or-take, get_or-drop, get_or-append-add, ext_get_or, length-take-le}
use borrow.Author.Tests.{eq-eqb, ne_eqb}
use Rattle.order.specs.Chains.{bit, first_from}
use Rattle.order.specs.Clocks.{flat}
use Rattle.clocks.specs.Rows.{reach, merge_at, merge_from, merge_row, copy_row, clear_row}
use Rattle.clocks.proofs.RowLaws.{reach-le, reach-past, merge-row-fits, stored}
use borrow.Rule.Slice.PartMut.{put_mid}
use Rattle.order.specs.loops.Pass.{tick, full_at, choose_in, NoneFull}
use Rattle.order.specs.ByEvent.{OnlyRow}
use Rattle.slices.proofs.Tests.{decide_eq, decide-lt}
use Rattle.order.proofs.CountLaws.{first_past, first-over}
use Rattle.order.proofs.RowLaws.{SameBut, same-but, flat-length, flat-at, flat-is, flat-same, flat-set, place, row_below}
use Rattle.order.proofs.OwnRows.{only-cleared, only-copied, cleared-own, copied-own}

-- row p merged into row u
abbrev pub merge_into : (ℕ → ℕ → ℕ) → ℕ → ℕ → ℕ → ℕ → ℕ
merge_into r p u v c = cond (eqb v u) (max (r v c) (r p c)) (r v c)

pub into-own : (r : ℕ → ℕ → ℕ) (p u c : ℕ) → merge_into r p u u c ≡ max (r u c) (r p c)
into-own r p u c = rw (eq-eqb u u refl)

pub into-other : (r : ℕ → ℕ → ℕ) (p u v c : ℕ) → v ≢ u → merge_into r p u v c ≡ r v c
into-other r p u v c n = rw (ne_eqb v u n)

-- row p copied over row u
abbrev pub copy_into : (ℕ → ℕ → ℕ) → ℕ → ℕ → ℕ → ℕ → ℕ
copy_into r p u v c = cond (eqb v u) (r p c) (r v c)

pub copy-own : (r : ℕ → ℕ → ℕ) (p u c : ℕ) → copy_into r p u u c ≡ r p c
copy-own r p u c = rw (eq-eqb u u refl)

pub copy-other : (r : ℕ → ℕ → ℕ) (p u v c : ℕ) → v ≢ u → copy_into r p u v c ≡ r v c
copy-other r p u v c n = rw (ne_eqb v u n)

-- zeros in row u
abbrev pub zero_in : (ℕ → ℕ → ℕ) → ℕ → ℕ → ℕ → ℕ
zero_in r u v c = cond (eqb v u) 0 (r v c)

pub zero-own : (r : ℕ → ℕ → ℕ) (u c : ℕ) → zero_in r u u c ≡ 0
zero-own r u c = rw (eq-eqb u u refl)

pub zero-other : (r : ℕ → ℕ → ℕ) (u v c : ℕ) → v ≢ u → zero_in r u v c ≡ r v c
zero-other r u v c n = rw (ne_eqb v u n)

-- 1 added at entry c of row u
abbrev pub add_at : (ℕ → ℕ → ℕ) → ℕ → ℕ → ℕ → ℕ → ℕ
add_at r u c v d = r v d + bit (eqb v u && eqb c d)

pub add-own : (r : ℕ → ℕ → ℕ) (u c d : ℕ) → add_at r u c u d ≡ r u d + bit (eqb c d)
add-own r u c d = rw (eq-eqb u u refl)

pub add-other : (r : ℕ → ℕ → ℕ) (u c v d : ℕ) → v ≢ u → add_at r u c v d ≡ r v d
add-other r u c v d n = rw (ne_eqb v u n) (omega arith)

-- entry c of row u set to the larger of it and the entry of row p
abbrev edit : (ℕ → ℕ → ℕ) → ℕ → ℕ → ℕ → ℕ → ℕ → ℕ
edit r p u c v d = cond (eqb v u && eqb d c) (max (r v d) (r p d)) (r v d)

edit-own : (r : ℕ → ℕ → ℕ) (p u c : ℕ) → edit r p u c u c ≡ max (r u c) (r p c)
edit-own r p u c = rw (eq-eqb u u refl, eq-eqb c c refl)

edit-row : (r : ℕ → ℕ → ℕ) (p u c v d : ℕ) → v ≢ u → edit r p u c v d ≡ r v d
edit-row r p u c v d n = rw (ne_eqb v u n)

edit-column : (r : ℕ → ℕ → ℕ) (p u c v d : ℕ) → d ≢ c → edit r p u c v d ≡ r v d
edit-column r p u c v d n = rw (ne_eqb d c n, and-false (eqb v u))

module _ (w m : ℕ) (rest : List ℕ) where
  pub flat-read : (r : ℕ → ℕ → ℕ) (u c : ℕ) → u < m → c < w → get_or (flat w m r ++ rest) (u * w + c) 0 ≡ r u c
  flat-read r u c h k = get_or-append (flat w m r) rest 0 (u * w + c) (omega (arith, flat-length w m r, place w m u c h k)) ∙ flat-at w m r u c h k

  pub flat-store :
      (r s : ℕ → ℕ → ℕ) (u c : ℕ) → u < m → c < w → SameBut u c r s →
      set (flat w m r ++ rest) (u * w + c) (s u c) ≡ flat w m s ++ rest
  flat-store r s u c h k f =
      let inside : u * w + c < length (flat w m r) = omega (arith, flat-length w m r, place w m u c h k) in
      set-append_left (flat w m r) rest (u * w + c) (s u c) inside ∙ ap (λ cs. cs ++ rest) (flat-set w m r s u c h k f)

  -- row u stands in the clocks
  flat-fits : (r : ℕ → ℕ → ℕ) (u : ℕ) → u < m → u * w + w ≤ length (flat w m r ++ rest)
  flat-fits r u h = omega (arith, flat-length w m r, length-append (flat w m r) rest, mul-le-mul_right w h, suc-mul u w)

  -- clocks that differ in the part of row u alone
  flat-only :
      (r s : ℕ → ℕ → ℕ) (u : ℕ) (xs : List ℕ) → u < m → OnlyRow w u (flat w m r ++ rest) xs → ((v d : ℕ) → v ≢ u → s v d ≡ r v d) →
      ((d : ℕ) → d < w → get_or xs (u * w + d) 0 ≡ s u d) → xs ≡ flat w m s ++ rest
  flat-only r s u xs h o else own = ext_get_or 0 xs (flat w m s ++ rest) long (λ i a. each i (decide-lt i (m * w)))
    where
      long : length xs ≡ length (flat w m s ++ rest)
      long = omega (arith, o.as_long, length-append (flat w m r) rest, length-append (flat w m s) rest, flat-length w m r, flat-length w m s)

      entry : (v d : ℕ) → v < m → d < w → (v < u) ⊎ (u ≤ v) → (v ≡ u) ⊎ (v ≢ u) → get_or xs (v * w + d) 0 ≡ s v d
      entry v d a b k (inl e) = rw e (own d b)
      entry v d a b (inl k) (inr e) =
          o.before (v * w + d) (omega (arith, place w u v d k b)) ∙ (flat-read r v d a b ∙ sym (else v d e))
      entry v d a b (inr k) (inr e) =
          let l : u < v = omega arith in
          o.after (v * w + d) (omega (arith, mul-le-mul_right w l, suc-mul u w)) ∙ (flat-read r v d a b ∙ sym (else v d e))

      each : (i : ℕ) → (i < m * w) ⊎ (m * w ≤ i) → get_or xs i 0 ≡ get_or (flat w m s ++ rest) i 0
      each i (inl a) =
          let q = row_below w m i a in
          let e = div-add-mod' i w in
          sym (ap (λ (x : ℕ). get_or xs x 0) e)
          ∙ (entry (i / w) (i % w) q.0 q.1 (decide-lt (i / w) u) (decide_eq (i / w) u)
          ∙ (sym (flat-read s (i / w) (i % w) q.0 q.1) ∙ ap (λ (x : ℕ). get_or (flat w m s ++ rest) x 0) e))
      each i (inr a) =
          let past : (t : ℕ → ℕ → ℕ) → get_or (flat w m t ++ rest) i 0 ≡ get_or rest (i - m * w) 0 = λ t.
          let e : i ≡ length (flat w m t) + (i - m * w) = omega (arith, flat-length w m t) in
          ap (λ (x : ℕ). get_or (flat w m t ++ rest) x 0) e ∙ get_or-append-add (flat w m t) rest (i - m * w) 0 in
          o.after i (omega (arith, mul-le-mul_right w h, suc-mul u w)) ∙ (past r ∙ sym (past s))

  pub cleared-row : (r : ℕ → ℕ → ℕ) (u : ℕ) → w ≤ 1024 → u < m → clear_row w u (flat w m r ++ rest) ≡ flat w m (zero_in r u) ++ rest
  cleared-row r u g h =
      flat-only r (zero_in r u) u _ h (only-cleared w u (flat w m r ++ rest)) (zero-other r u)
      (λ d k. cleared-own w u d (flat w m r ++ rest) g (flat-fits r u h) k ∙ sym (zero-own r u d))

  -- row p is 0 where no chain is taken and past its own number
  pub copied-row :
      (r : ℕ → ℕ → ℕ) (chains p u : ℕ) → w ≤ 1024 → p < u → u < m → ((c : ℕ) → c < w → (chains ≤ c) ⊎ (p < c) → r p c ≡ 0) →
      copy_row w chains p u (flat w m r ++ rest) ≡ flat w m (copy_into r p u) ++ rest
  copied-row r chains p u g h i z =
      let read : (d : ℕ) → d < w → get_or (flat w m r ++ rest) (p * w + d) 0 ≡ r p d = λ d k. flat-read r p d (omega arith) k in
      flat-only r (copy_into r p u) u _ i (only-copied w u chains p (flat w m r ++ rest)) (copy-other r p u)
      (λ d k. copied-own w u chains p d (flat w m r ++ rest) h g (flat-fits r u i) k (λ c a b. read c a ∙ z c a b) ∙ (read d k ∙ sym (copy-own r p u d)))

  merge-at : (r : ℕ → ℕ → ℕ) (p u c : ℕ) → p < m → u < m → c < w → merge_at w p u c (flat w m r ++ rest) ≡ flat w m (edit r p u c) ++ rest
  unfolding merge_at
  merge-at r p u c h k i =
      let but = same-but u c r (edit r p u c) (edit-row r p u c) (edit-column r p u c u) in
      rw (flat-read r u c k i, flat-read r p c h i, ← edit-own r p u c) (flat-store r (edit r p u c) u c k i but)

  -- what merging row p into row u from entry c on makes of rows
  record Merges (p u c : ℕ) (r s : ℕ → ℕ → ℕ) : Type 0 where
    on : (d : ℕ) → c ≤ d → s u d ≡ max (r u d) (r p d)
    off : (d : ℕ) → d < c → s u d ≡ r u d
    else : (v d : ℕ) → v ≢ u → s v d ≡ r v d

  merges-next : (p u c : ℕ) (r s : ℕ → ℕ → ℕ) → p ≢ u → Merges p u c r s → Merges p u (suc c) (edit r p u c) s
  merges-next p u c r s n f = record {
    on = λ d h. f.on d (omega arith) ∙ ap₂ max (sym (edit-column r p u c u d (omega arith))) (sym (edit-row r p u c p d n));
    off = λ d h. off d h (decide_eq d c);
    else = λ v d h. f.else v d h ∙ sym (edit-row r p u c v d h);
  }
    where
      off : (d : ℕ) → d < suc c → (d ≡ c) ⊎ (d ≢ c) → s u d ≡ edit r p u c u d
      off d h (inl e) = rw e (f.on c (omega arith) ∙ sym (edit-own r p u c))
      off d h (inr k) = f.off d (omega arith) ∙ sym (edit-column r p u c u d k)

  -- row p is 0 past the k entries, so there is nothing more to merge
  merge-from :
      (p u : ℕ) → p < m → u < m → p ≢ u → (k c : ℕ) (r s : ℕ → ℕ → ℕ) → c + k ≤ w → ((d : ℕ) → c + k ≤ d → d < w → r p d ≡ 0) → Merges p u c r s →
      merge_from w p u c k (flat w m r ++ rest) ≡ flat w m s ++ rest
  unfolding merge_from
  merge-from p u h i n zero c r s e z f = ap (λ cs. cs ++ rest) (flat-same w m r s (λ v d a b. same v d b (decide_eq v u) (decide-lt d c)))
    where
      same : (v d : ℕ) → d < w → (v ≡ u) ⊎ (v ≢ u) → (d < c) ⊎ (c ≤ d) → r v d ≡ s v d
      same v d l (inl j) (inl b) = rw j (sym (f.off d b))
      same v d l (inl j) (inr b) = rw j (omega (arith, f.on d b, z d (omega arith) l))
      same v d l (inr j) b = sym (f.else v d j)
  merge-from p u h i n (suc k) c r s e z f =
      rw (merge-at r p u c h i (omega arith))
      (merge-from p u h i n k (suc c) (edit r p u c) s (omega arith) (λ d g l. edit-row r p u c p d n ∙ z d (omega arith) l) (merges-next p u c r s n f))

  -- row p is 0 where no chain is taken and past its own number
  pub merged-row :
      (r : ℕ → ℕ → ℕ) (chains p u : ℕ) → w ≤ 1024 → p < u → u < m → ((c : ℕ) → c < w → (chains ≤ c) ⊎ (p < c) → r p c ≡ 0) →
      merge_row w chains p u (flat w m r ++ rest) ≡ flat w m (merge_into r p u) ++ rest
  merged-row r chains p u g h i z =
      merge-row-fits w chains p u (flat w m r ++ rest) h g (omega (arith, flat-length w m r, length-append (flat w m r) rest, mul-le-mul_right w i, suc-mul u w))
      ∙ merge-from p u (omega arith) i (omega arith) (reach w chains p) 0 r (merge_into r p u) (omega (arith, reach-le w chains p)) (λ d a b. z d b (reach-past w chains p d b (omega arith))) (record {
        on = λ d a. into-own r p u d;
        off = λ d a. absurd (omega arith);
        else = λ v d a. into-other r p u v d a;
      })

  pub ticked-row : (r : ℕ → ℕ → ℕ) (u c : ℕ) → u < m → c < w → tick w u c (flat w m r ++ rest) ≡ flat w m (add_at r u c) ++ rest
  unfolding tick
  ticked-row r u c h k =
      let more : r u c + 1 ≡ add_at r u c u c = sym (add-own r u c c ∙ rw (eq-eqb c c refl)) in
      rw (flat-read r u c h k, more) (flat-store r (add_at r u c) u c h k but)
    where
      but : SameBut u c r (add_at r u c)
      but = same-but u c r (add_at r u c) (add-other r u c) (λ d n. add-own r u c d ∙ rw (ne_eqb c d (λ f. n (sym f))) (omega arith))

-- any clocks that have space for the rows
pub flat-any : (w m : ℕ) (cs : List ℕ) → m * w ≤ length cs → cs ≡ flat w m (λ u c. get_or cs (u * w + c) 0) ++ drop (m * w) cs
flat-any w m cs h =
    let front = flat-is w m (λ u c. get_or cs (u * w + c) 0) (take (m * w) cs) (length-take-le (m * w) cs h)
    (λ u c a b. get_or-take (m * w) cs (u * w + c) 0 (place w m u c a b)) in
    sym (take-append-drop (m * w) cs) ∙ ap (λ (x : List ℕ). x ++ drop (m * w) cs) front

-- in the part of row u
pub part-entry : (w u c : ℕ) (xs : List ℕ) → u * w + w ≤ length xs → c < w → (c < length (take (u * w + w - u * w) (drop (u * w) xs))) × (get_or (take (u * w + w - u * w) (drop (u * w) xs)) c 0 ≡ get_or xs (u * w + c) 0)
part-entry w u c xs h k = (simp (length-take, length-drop) (omega arith), rw (get_or-take (u * w + w - u * w) (drop (u * w) xs) c 0 (omega arith), get_or-drop (u * w) xs c 0))

pub ticked-part : (w u c : ℕ) (xs ys : List ℕ) → u * w + w ≤ length xs → c < w → ys ≡ set (take (u * w + w - u * w) (drop (u * w) xs)) c (get_or (take (u * w + w - u * w) (drop (u * w) xs)) c 0 + 1) → put_mid (u * w) (u * w + w - u * w) xs ys ≡ tick w u c xs
unfolding tick
ticked-part w u c xs ys h i e = stored (λ x. x + 1) (u * w) (u * w + w - u * w) c xs ys (omega arith) (omega arith) e

-- where no chain has all its members in the row, a new one is chosen
pub none-chosen : (w u : ℕ) (cs sizes : List ℕ) (chains : ℕ) → NoneFull (u * w) cs sizes chains → choose_in w u cs sizes chains ≡ chains
unfolding choose_in
none-chosen w u cs sizes chains f =
    let q = full_at (u * w) cs sizes in
    let e : chains - 0 ≡ chains = omega arith in
    let z : 0 + chains ≡ chains = omega arith in
    sym (ap (first_from q 0) e)
    ∙ (first_past q chains chains 0 (omega arith) (λ j h. let k : 0 + j ≡ j = omega arith in rw k (ne_eqb _ _ (f j h)))
    ∙ rw z (first-over q chains chains (omega arith)))
