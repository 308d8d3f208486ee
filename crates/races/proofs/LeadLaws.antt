-- Making a row ready in flat clocks.
-- Assumes nothing.
use Prim.Native.Nat.{ℕ, zero, suc, ◌+◌, ◌*◌, ◌-◌, ◌≤◌, ◌<◌, max}
use mathlib.Core.Path.{◌≡◌, refl, sym, ap, ◌∙◌, subst}
use mathlib.Core.Logic.{◌≢◌, ◌⊎◌, inl, inr}
use mathlib.Core.Bool.{Bool, true, false, cond, ◌&&◌}
use mathlib.Core.List.{List, ◌++◌}
use native.Mathlib.Omega.{arith}
use native.Mathlib.Nat.{mul-le-mul_right, suc-mul}
use borrow.Author.Tests.{eq-eqb, ne_eqb, le-leb, lt-leb, leb-true, ltb-false}
use lib.Dec.{T, eqb, leb, ltb}
use lib.ListN.{length, get_or, set, take, drop, length-set, length-replicate, length-take, length-drop, length-append, get_or-append}
use lib.Seq.{get_or-set_same, get_or-set_other, get_or-take, get_or-drop, get_or-append_right, ext_get_or}
use Rattle.records.proofs.Positions.{lt-or-ge}
use Rattle.slices.specs.Slices.{filled, zeros}
use Rattle.slices.proofs.Tests.{decide_eq}
use Rattle.clocks.specs.Rows.{rows_if, merge_row, clear_row}
use Rattle.order.specs.Links.{Links, Forward, ◌⊢◌≼◌}
use Rattle.order.specs.Clocks.{chain_of, entry, largest, flat}
use Rattle.order.proofs.RowLaws.{SameBut}
use Rattle.order.proofs.ClockLaws.{entry-decides}
use Rattle.order.proofs.FlatLaws.{merge_into, into-own, into-other, zero_in, zero-own, zero-other, flat-read, flat-store, cleared-row, merged-row}
use Rattle.races.specs.loops.FilledClocks.{RowsIn}
use Rattle.races.specs.loops.Leading.{kept_to, leads_in, lead_from, lead_down, raise_to, lead_in, MayLead}
use Rattle.races.proofs.LeadRows.{Closed, ready, Leading, lead-start, lead-merge, lead-skip, lead-end, clock-within}

-- The entries that are kept.
module _ (w t : ℕ) (clocks : List ℕ) where
  pub kept-length : (n : ℕ) → length (kept_to w t clocks n) ≡ 1024
  unfolding kept_to filled
  kept-length zero = length-replicate {A = ℕ} 1024 0
  kept-length (suc c) = length-set (kept_to w t clocks c) c (get_or clocks (t * w + c) 0) ∙ kept-length c

  pub zeros-long : length (zeros 1024) ≡ 1024
  unfolding filled
  zeros-long = length-replicate {A = ℕ} 1024 0

  kept_at : (n c : ℕ) → n ≤ 1024 → c < n → get_or (kept_to w t clocks n) c 0 ≡ get_or clocks (t * w + c) 0
  unfolding kept_to
  kept_at zero c h k = absurd (omega arith)
  kept_at (suc n) c h k = go (decide_eq c n) (λ i. kept_at n c (omega arith) i)
    where
      go : (c ≡ n) ⊎ (c ≢ n) → (c < n → get_or (kept_to w t clocks n) c 0 ≡ get_or clocks (t * w + c) 0) → get_or (set (kept_to w t clocks n) n (get_or clocks (t * w + n) 0)) c 0 ≡ get_or clocks (t * w + c) 0
      go (inl e) f = rw e (get_or-set_same (kept_to w t clocks n) n (get_or clocks (t * w + n) 0) 0 (omega (arith, kept-length n)))
      go (inr e) f = get_or-set_other (kept_to w t clocks n) n c (get_or clocks (t * w + n) 0) 0 e ∙ f (omega arith)

  kept_past : (n c : ℕ) → n ≤ c → get_or (kept_to w t clocks n) c 0 ≡ get_or (zeros 1024) c 0
  unfolding kept_to
  kept_past zero c h = refl
  kept_past (suc n) c h = get_or-set_other (kept_to w t clocks n) n c (get_or clocks (t * w + n) 0) 0 (λ e. omega arith) ∙ kept_past n c (omega arith)

  -- they are copied as one
  pub kept_copied : (part kept : List ℕ) (d : ℕ) → d ≡ w → w ≤ 1024 → t * w + w ≤ length clocks → kept ≡ zeros 1024 → part ≡ take d (drop (t * w) clocks) → part ++ drop w kept ≡ kept_to w t clocks w
  kept_copied part kept d z narrow room ek ep = ext_get_or 0 (part ++ drop w kept) (kept_to w t clocks w) (all ∙ sym (kept-length w)) (λ i h. at i (lt-or-ge i w) (omega (arith, h, all)))
    where
      long : length part ≡ w
      long = omega (arith, ap length ep, length-take d (drop (t * w) clocks), length-drop (t * w) clocks, z)

      all : length (part ++ drop w kept) ≡ 1024
      all = omega (arith, length-append part (drop w kept), length-drop w kept, ap length ek, zeros-long, long)

      at : (i : ℕ) → (i < w) ⊎ (w ≤ i) → i < 1024 → get_or (part ++ drop w kept) i 0 ≡ get_or (kept_to w t clocks w) i 0
      at i (inl l) h =
          get_or-append part (drop w kept) 0 i (omega (arith, long)) ∙ ap (λ (x : List ℕ). get_or x i 0) ep ∙ get_or-take d (drop (t * w) clocks) i 0 (omega (arith, z)) ∙ get_or-drop (t * w) clocks i 0 ∙ sym (kept_at w i narrow l)
      at i (inr l) h =
          let e : w + (i - length part) ≡ i = omega (arith, long) in
          get_or-append_right part (drop w kept) i 0 (omega (arith, long)) ∙ get_or-drop w kept (i - length part) 0 ∙ ap (λ (n : ℕ). get_or kept n 0) e ∙ ap (λ (x : List ℕ). get_or x i 0) ek ∙ sym (kept_past w i l)

-- As the functions make it.
module _ (chosen : List ℕ) (w : ℕ) where
  pub may-rows : {clocks : List ℕ} {t : ℕ} → MayLead chosen w clocks t → (p : ℕ) → p < t → RowsIn chosen w clocks p t × (get_or chosen p 0 < 1024)
  may-rows {clocks} {t} m p h =
      let r = m.room in
      let k = m.known in
      let c = m.chains_fit p (omega arith) in
      (record { known = omega arith; own = omega (arith, mul-le-mul_right w h, suc-mul p w); other = omega arith }, omega (arith, m.narrow))

  pub may-keep : {clocks clocks' : List ℕ} {t : ℕ} → MayLead chosen w clocks t → length clocks' ≡ length clocks → MayLead chosen w clocks' t
  may-keep m e = record { known = m.known; low = m.low; narrow = m.narrow; room = omega (arith, m.room, e); chains_fit = m.chains_fit }

  pub own_room : {clocks : List ℕ} {t : ℕ} → MayLead chosen w clocks t → t * w + get_or chosen t 0 < length clocks
  own_room {clocks} {t} m = omega (arith, m.room, m.chains_fit t (omega arith))

  module _ (kept : List ℕ) (t : ℕ) where
    pub not-before : (clocks : List ℕ) (p : ℕ) → get_or kept (get_or chosen p 0) 0 < get_or clocks (p * w + get_or chosen p 0) 0 → false ≡ leads_in chosen w kept t clocks p
    unfolding leads_in
    not-before clocks p h = rw (lt-leb (get_or clocks (p * w + get_or chosen p 0) 0) (get_or kept (get_or chosen p 0) 0) h) refl

    pub is-before : (clocks : List ℕ) (p : ℕ) → get_or clocks (p * w + get_or chosen p 0) 0 ≤ get_or kept (get_or chosen p 0) 0 → ltb (get_or clocks (t * w + get_or chosen p 0) 0) (get_or clocks (p * w + get_or chosen p 0) 0) ≡ leads_in chosen w kept t clocks p
    unfolding leads_in
    is-before clocks p h = rw (le-leb (get_or clocks (p * w + get_or chosen p 0) 0) (get_or kept (get_or chosen p 0) 0) h) refl

    module _ (chains : ℕ) where
      pub lead-taken : (p : ℕ) (clocks : List ℕ) → leads_in chosen w kept t clocks p ≡ true → merge_row w chains p t clocks ≡ lead_from chosen w kept t chains p clocks
      unfolding lead_from
      lead-taken p clocks e = rw e refl

      pub lead-left : (p : ℕ) (clocks : List ℕ) → leads_in chosen w kept t clocks p ≡ false → clocks ≡ lead_from chosen w kept t chains p clocks
      unfolding lead_from
      lead-left p clocks e = rw e refl

      pub lead-none : (p : ℕ) (clocks : List ℕ) → p ≤ 0 → lead_down chosen w kept t chains p clocks ≡ clocks
      unfolding lead_down
      lead-none p clocks h = let z : p ≡ 0 = omega arith in rw z refl

      pub lead-down : (p : ℕ) (clocks clocks' : List ℕ) → 0 < p → clocks' ≡ lead_from chosen w kept t chains (p - 1) clocks → lead_down chosen w kept t chains (p - 1) clocks' ≡ lead_down chosen w kept t chains p clocks
      unfolding lead_down
      lead-down zero clocks clocks' h e = elim h [ ]
      lead-down (suc p) clocks clocks' h e = let z : suc p - 1 ≡ p = omega arith in rw (e, z) refl

  pub lead-whole : (chains t : ℕ) (clocks kept cleared led clocks' : List ℕ) (place own : ℕ) → place ≡ t * w + get_or chosen t 0 → own ≡ get_or clocks place 0 → kept ≡ kept_to w t clocks w → cleared ≡ clear_row w t clocks → led ≡ lead_down chosen w kept t chains t cleared → clocks' ≡ raise_to place own led → clocks' ≡ lead_in chosen w chains t clocks
  unfolding lead_in
  lead-whole chains t clocks kept cleared led clocks' place own a b c d e f = f ∙ rw (e, d, c, b, a) refl

-- In flat clocks, over rows before t that are closed: row t is merged with the rows of its direct predecessors, and all others are as they were.
module _
    (l : Links) (fw : Forward l) (t : ℕ) (final : ℕ → ℕ → ℕ) (cl : Closed l t final) (chosen : List ℕ) (w chains m : ℕ) (rest : List ℕ) (narrow : w ≤ 1024) (fits : t < m)
    (chain : (p : ℕ) → p ≤ t → (get_or chosen p 0 ≡ chain_of l p) × (chain_of l p < w)) (zero-past : (p c : ℕ) → p < t → (chains ≤ c) ⊎ (p < c) → final p c ≡ 0)
    (rows : ℕ → ℕ → ℕ) (done : (p c : ℕ) → p < t → rows p c ≡ final p c)
    (kept : List ℕ) (keeps : (c : ℕ) → c < w → get_or kept c 0 ≡ entry l t c) where
  -- the rows from k on were looked at
  pub record Led (k : ℕ) (cs : List ℕ) : Type 0 where
    pub now : ℕ → ℕ → ℕ
    pub clocks_are : cs ≡ flat w m now ++ rest
    pub others : (v c : ℕ) → v ≢ t → now v c ≡ rows v c
    pub leading : Leading l t final k (now t)

  module _ {p : ℕ} {cs : List ℕ} (g : Led (suc p) cs) (h : p < t) where
    row_is : (c : ℕ) → g.now p c ≡ final p c
    row_is c = g.others p c (omega arith) ∙ done p c h

    test-is : leads_in chosen w kept t cs p ≡ (leb (entry l p (chain_of l p)) (entry l t (chain_of l p)) && ltb (g.now t (chain_of l p)) (entry l p (chain_of l p)))
    unfolding leads_in
    test-is =
        let (e, i) = chain p (omega arith) in
        let own = flat-read w m rest g.now p (chain_of l p) (omega arith) i ∙ row_is (chain_of l p) ∙ cl.own p h in
        let there = flat-read w m rest g.now t (chain_of l p) fits i in
        rw (e, g.clocks_are, own, there, keeps (chain_of l p) i) refl

    led-merge : leads_in chosen w kept t cs p ≡ true → Led p (merge_row w chains p t cs)
    led-merge b = record {
      now = merge_into g.now p t;
      clocks_are = ap (merge_row w chains p t) g.clocks_are ∙ merged-row w m rest g.now chains p t narrow h fits (λ c k z. row_is c ∙ zero-past p c h z);
      others = λ v c n. into-other g.now p t v c n ∙ g.others v c n;
      leading = lead-merge l fw t final cl g.leading h before (merge_into g.now p t t) (λ c. into-own g.now p t c ∙ ap (max (g.now t c)) (row_is c));
    }
      where
        both : (x y : Bool) → (x && y) ≡ true → x ≡ true
        both true y e = refl
        both false y e = e

        before : l ⊢ p ≼ t
        before = (entry-decides l fw p t).0 (leb-true (entry l p (chain_of l p)) (entry l t (chain_of l p)) (both (leb (entry l p (chain_of l p)) (entry l t (chain_of l p))) (ltb (g.now t (chain_of l p)) (entry l p (chain_of l p))) (sym test-is ∙ b)))

    led-skip : leads_in chosen w kept t cs p ≡ false → Led p cs
    led-skip b = record { now = g.now; clocks_are = g.clocks_are; others = g.others; leading = lead-skip l fw t final cl g.leading h covered }
      where
        second : (x y : Bool) → (x && y) ≡ false → x ≡ true → y ≡ false
        second true y e f = e
        second false y e f = absurd (subst T (sym f) tt)

        covered : l ⊢ p ≼ t → entry l p (chain_of l p) ≤ g.now t (chain_of l p)
        covered k = ltb-false (g.now t (chain_of l p)) (entry l p (chain_of l p)) (second (leb (entry l p (chain_of l p)) (entry l t (chain_of l p))) (ltb (g.now t (chain_of l p)) (entry l p (chain_of l p))) (sym test-is ∙ b) (le-leb (entry l p (chain_of l p)) (entry l t (chain_of l p)) ((entry-decides l fw p t).1 k)))

    led-from : Led p (lead_from chosen w kept t chains p cs)
    unfolding lead_from
    led-from = go (leads_in chosen w kept t cs p) refl
      where
        go : (b : Bool) → leads_in chosen w kept t cs p ≡ b → Led p (rows_if b (merge_row w chains p t cs) cs)
        go true e = led-merge e
        go false e = led-skip e

  led-all : (k : ℕ) (cs : List ℕ) → k ≤ t → Led k cs → Led 0 (lead_down chosen w kept t chains k cs)
  unfolding lead_down
  led-all zero cs h g = g
  led-all (suc p) cs h g = led-all p (lead_from chosen w kept t chains p cs) (omega arith) (led-from g (omega arith))

  led-cleared : (cs : List ℕ) → cs ≡ flat w m rows ++ rest → Led 0 (lead_down chosen w kept t chains t (clear_row w t cs))
  led-cleared cs e = led-all t (clear_row w t cs) (omega arith) (record {
    now = zero_in rows t;
    clocks_are = ap (clear_row w t) e ∙ cleared-row w m rest rows t narrow fits;
    others = zero-other rows t;
    leading = lead-start l fw t final cl (zero_in rows t t) (zero-own rows t);
  })

-- where row t is as filled
module _
    (l : Links) (fw : Forward l) (t : ℕ) (final : ℕ → ℕ → ℕ) (cl : Closed l t final) (chosen : List ℕ) (w chains m : ℕ) (rest : List ℕ) (narrow : w ≤ 1024) (fits : t < m)
    (chain : (p : ℕ) → p ≤ t → (get_or chosen p 0 ≡ chain_of l p) × (chain_of l p < w)) (zero-past : (p c : ℕ) → p < t → (chains ≤ c) ⊎ (p < c) → final p c ≡ 0)
    (rows : ℕ → ℕ → ℕ) (done : (p c : ℕ) → p < t → rows p c ≡ final p c) (filled : (c : ℕ) → rows t c ≡ entry l t c) (cs : List ℕ) (e : cs ≡ flat w m rows ++ rest) where
  pub record Ready (cs' : List ℕ) : Type 0 where
    pub now : ℕ → ℕ → ℕ
    pub clocks_are : cs' ≡ flat w m now ++ rest
    pub own : (c : ℕ) → now t c ≡ ready l t final c
    pub others : (v c : ℕ) → v ≢ t → now v c ≡ rows v c

  read-own : (c : ℕ) → c < w → get_or cs (t * w + c) 0 ≡ entry l t c
  read-own c h = ap (λ (x : List ℕ). get_or x (t * w + c) 0) e ∙ flat-read w m rest rows t c fits h ∙ filled c

  keeps : (c : ℕ) → c < w → get_or (kept_to w t cs w) c 0 ≡ entry l t c
  keeps c h = kept_at w t cs w c narrow h ∙ read-own c h

  pub made-ready : Ready (lead_in chosen w chains t cs)
  unfolding lead_in raise_to
  made-ready = record { now = now; clocks_are = clocks_are; own = own; others = λ v c n. rw (ne_eqb v t n) (g.others v c n) }
    where
      g : Led l fw t final cl chosen w chains m rest narrow fits chain zero-past rows done (kept_to w t cs w) keeps 0 (lead_down chosen w (kept_to w t cs w) t chains t (clear_row w t cs))
      g = led-cleared l fw t final cl chosen w chains m rest narrow fits chain zero-past rows done (kept_to w t cs w) keeps cs e

      led : (c : ℕ) → g.now t c ≡ largest (l.preds t) (λ p. final p c)
      led = lead-end l fw t final cl g.leading

      now : ℕ → ℕ → ℕ
      now v c = cond (eqb v t) (max (g.now v c) (entry l t c)) (g.now v c)

      now-own : (c : ℕ) → cond (eqb t t) (max (g.now t c) (entry l t c)) (g.now t c) ≡ max (g.now t c) (entry l t c)
      now-own c = rw (eq-eqb t t refl) refl

      own : (c : ℕ) → cond (eqb t t) (max (g.now t c) (entry l t c)) (g.now t c) ≡ ready l t final c
      own c = now-own c ∙ omega (arith, led c)

      but : SameBut t (chain_of l t) g.now (λ v c. cond (eqb v t) (max (g.now v c) (entry l t c)) (g.now v c))
      but v d n = go (decide_eq v t)
        where
          go : (v ≡ t) ⊎ (v ≢ t) → cond (eqb v t) (max (g.now v d) (entry l t d)) (g.now v d) ≡ g.now v d
          go (inl z) = rw z (now-own d ∙ omega (arith, led d, clock-within l fw t final cl d (λ y. n (z, sym y))))
          go (inr z) = rw (ne_eqb v t z) refl

      clocks_are : set (lead_down chosen w (kept_to w t cs w) t chains t (clear_row w t cs)) (t * w + get_or chosen t 0) (max (get_or (lead_down chosen w (kept_to w t cs w) t chains t (clear_row w t cs)) (t * w + get_or chosen t 0) 0) (get_or cs (t * w + get_or chosen t 0) 0)) ≡ flat w m now ++ rest
      clocks_are =
          let (a, b) = chain t (omega arith) in
          rw (a, read-own (chain_of l t) b, g.clocks_are, flat-read w m rest g.now t (chain_of l t) fits b, ← now-own (chain_of l t)) (flat-store w m rest g.now now t (chain_of l t) fits b but)
