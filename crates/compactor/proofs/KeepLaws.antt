-- The stamps of the cells tell which records are kept. Assumes nothing.
use Prim.Native.Nat.{ℕ, zero, suc, ◌+◌, ◌*◌, ◌≤◌, ◌<◌}
use mathlib.Core.Path.{◌≡◌, refl, sym, ap, ◌∙◌, subst}
use mathlib.Core.Logic.{◌≢◌, ◌⊎◌, inl, inr}
use mathlib.Core.Bool.{Bool, true, false, cond, not, ◌&&◌, and-eq-true_iff}
use mathlib.Core.List.{List, [], ◌∷◌, ◌++◌, map, map-append}
use native.Mathlib.Omega.{arith}
use native.Mathlib.Decide.{ℕ_discrete}
use native.Mathlib.Numerals.{add-one}
use borrow.Author.Tests.{eq-eqb, ne_eqb, leb-true, le-leb}
use lib.Dec.{T, eqb, leb, eqb→eq}
use lib.ListN.{length, get_or, set, drop, length-map, length-drop, length-set, length-append, get_or-replicate, length-replicate}
use lib.Seq.{get_or-set_same, get_or-set_other, drop-drop, take_at, drop_at}
use Rattle.records.specs.declared.Record.{Record}
use Rattle.records.specs.Records.{at, event_of}
use Rattle.slices.specs.Slices.{filled, zeros}
use Rattle.trace.specs.Rule.{numbered}
use Rattle.trace.specs.Reading.{Acceptable}
use Rattle.records.specs.Encoding.{encode, stored, stored_within}
use Rattle.trace.proofs.Marked.{formed}
use Rattle.trace.proofs.Blocks.{passes_at, contiguous}
use Rattle.records.proofs.Encoded.{encode-length, encode-append}
use Rattle.coverage.specs.Below.{upto}
use Rattle.slices.proofs.Tests.{same, passed, or_left, or_right, eq→eqb}
use Rattle.coverage.proofs.Lists.{upto-yes, upto-no}
use Rattle.coverage.proofs.Indexed.{size, size-zero, size-yes, size-no, size-more, size-most, not-no}
use Rattle.races.specs.Traces.{is_access}
use Rattle.races.proofs.Instance.{access-kind}
use Rattle.races.proofs.CandidateLaws.{cell-low}
use Rattle.compactor.specs.SlimTrace.{dropped, kept, slim_of}
use Rattle.compactor.specs.loops.Keeping.{last_by, Stamped, Stamps, Passes}
use Rattle.compactor.proofs.SlimLaws.{Repeat, repeat-of, of-repeat, slim-length}

module _ (tr : List Record) (k c : ℕ) where
  -- record j is of that kind and cell
  abbrev Hits : ℕ → Type 0
  Hits j = ((at tr j).kind ≡ k) × ((at tr j).second ≡ c)

  hit : (i : ℕ) → Hits i → last_by tr k c (suc i) ≡ event_of (at tr i)
  unfolding last_by
  hit i (a, b) = rw (eq-eqb _ _ a, eq-eqb _ _ b)

  hit-dec : (i : ℕ) → Dec (Hits i)
  hit-dec i = go (ℕ_discrete (at tr i).kind k) (ℕ_discrete (at tr i).second c)
    where
      go : Dec ((at tr i).kind ≡ k) → Dec ((at tr i).second ≡ c) → Dec (Hits i)
      go (yes a) (yes b) = yes (a, b)
      go (no a) d = no (λ h. a h.0)
      go (yes a) (no b) = no (λ h. b h.1)

  miss : (i : ℕ) → (Hits i → ⊥) → last_by tr k c (suc i) ≡ last_by tr k c i
  unfolding last_by
  miss i n = go (ℕ_discrete (at tr i).kind k) (ℕ_discrete (at tr i).second c)
    where
      go : Dec ((at tr i).kind ≡ k) → Dec ((at tr i).second ≡ c)
          → cond (eqb (at tr i).kind k && eqb (at tr i).second c) (event_of (at tr i)) (last_by tr k c i) ≡ last_by tr k c i
      go (yes a) (yes b) = absurd (n (a, b))
      go (no a) d = rw (ne_eqb _ _ a)
      go (yes a) (no b) = rw (eq-eqb _ _ a, ne_eqb _ _ b)

  -- the last such record before i, from j on
  pub record Last (j i : ℕ) : Type 0 where
    pub position : ℕ
    pub from : j ≤ position
    pub below : position < i
    pub hits : Hits position
    pub tells : last_by tr k c i ≡ event_of (at tr position)

  later : {j i : ℕ} → (Hits i → ⊥) → Last j i → Last j (suc i)
  later {j} {i} n l = record { position = l.position; from = l.from; below = omega (arith, l.below); hits = l.hits; tells = miss i n ∙ l.tells }

  here : (j i : ℕ) → j ≤ i → Hits i → Last j (suc i)
  here j i l h = record { position = i; from = l; below = omega arith; hits = h; tells = hit i h }

  last-from : (j i : ℕ) → j < i → Hits j → Last j i
  last-from j zero l h = absurd (omega arith)
  last-from j (suc i) l h = go (hit-dec i) (ℕ_discrete j i) (last-from j i)
    where
      go : Dec (Hits i) → Dec (j ≡ i) → (j < i → Hits j → Last j i) → Last j (suc i)
      go (yes y) d ih = here j i (omega arith) y
      go (no n) (yes e) ih = absurd (n (rw e at h))
      go (no n) (no d) ih = later n (ih (omega arith) h)

  none_yet : last_by tr k c zero ≡ 0
  unfolding last_by
  none_yet = refl

  last-any : (i : ℕ) → last_by tr k c i ≢ 0 → Last 0 i
  last-any zero n = absurd (n none_yet)
  last-any (suc i) n = go (hit-dec i) (last-any i)
    where
      go : Dec (Hits i) → (last_by tr k c i ≢ 0 → Last 0 i) → Last 0 (suc i)
      go (yes y) ih = here 0 i (omega arith) y
      go (no m) ih = later m (ih (λ e. n (miss i m ∙ e)))

module _ {tr : List Record} (acc : Acceptable tr) where
  named : (i : ℕ) → i < length tr → event_of (at tr i) ≢ 0
  unfolding numbered
  named i l e =
      let n = (formed (at tr i) (passes_at acc i l).well-formed).0 in
      let h = leb-true 1 (at tr i).first ((and-eq-true_iff (leb 1 (at tr i).first) (leb (at tr i).first 1024)).0 n).0 in
      omega arith

  module _ (i : ℕ) (l : i < length tr) (access : T (is_access (at tr i))) where
    abbrev k : ℕ
    k = (at tr i).kind

    abbrev c : ℕ
    c = (at tr i).second

    by-stamp : T (eqb (last_by tr k c i) (event_of (at tr i))) → T (dropped tr i)
    by-stamp h =
        let e = eqb→eq (last_by tr k c i) (event_of (at tr i)) h in
        let x = last-any tr k c i (λ z. named i l (sym e ∙ z)) in
        of-repeat tr i x.position (record {
          earlier = x.below;
          access = access;
          same_kind = x.hits.0;
          same_event = sym x.tells ∙ e;
          same_cell = x.hits.1;
        })

    to-stamp : T (dropped tr i) → T (eqb (last_by tr k c i) (event_of (at tr i)))
    to-stamp d =
        let (j, r) = repeat-of tr i d in
        let x = last-from tr k c j i r.earlier (r.same_kind, r.same_cell) in
        subst T (sym (eq-eqb (last_by tr k c i) (event_of (at tr i)) (x.tells ∙ own x r (ℕ_discrete j x.position)))) tt
      where
        own : {j : ℕ} (x : Last tr k c j i) → Repeat tr i j → Dec (j ≡ x.position) → event_of (at tr x.position) ≡ event_of (at tr i)
        own x r (yes e) = ap (λ (y : ℕ). event_of (at tr y)) (sym e) ∙ r.same_event
        own {j} x r (no n) =
            let f = x.from in
            contiguous acc j x.position i (omega arith) x.below l r.same_event ∙ r.same_event

    -- the stamp of its cell is another event's exactly where record i is kept
    pub stamp-tells : {stamps : List ℕ} → Stamped tr k i stamps → not (eqb (get_or stamps c 0) (event_of (at tr i))) ≡ kept tr i
    stamp-tells s = rw (s.tells c (cell-low acc i l)) (ap not (same (eqb (last_by tr k c i) (event_of (at tr i))) (dropped tr i) by-stamp to-stamp))

  -- the stamps after record i: its own cell's where it is of that kind
  pub stamped-next : (i : ℕ) → i < length tr → {stamps : List ℕ} → Stamped tr (at tr i).kind i stamps
      → Stamped tr (at tr i).kind (i + 1) (set stamps (at tr i).second (event_of (at tr i)))
  stamped-next i l {stamps} s = rw (add-one i) (record {
    size = length-set stamps (at tr i).second (event_of (at tr i)) ∙ s.size;
    tells = λ d m. go d m (ℕ_discrete d (at tr i).second);
  })
    where
      k : ℕ
      k = (at tr i).kind

      c : ℕ
      c = (at tr i).second

      low : c < length stamps
      low = let z = cell-low acc i l in omega (arith, s.size)

      go : (d : ℕ) → d < 1025 → Dec (d ≡ c) → get_or (set stamps c (event_of (at tr i))) d 0 ≡ last_by tr k d (suc i)
      go d m (yes e) = rw e (get_or-set_same stamps c (event_of (at tr i)) 0 low ∙ sym (hit tr k c i (refl, refl)))
      go d m (no n) = get_or-set_other stamps c d (event_of (at tr i)) 0 n ∙ s.tells d m ∙ sym (miss tr k d i (λ h. n (sym h.1)))

  pub stamped-other : (kind i : ℕ) → (at tr i).kind ≢ kind → {stamps : List ℕ} → Stamped tr kind i stamps → Stamped tr kind (i + 1) stamps
  stamped-other kind i n s = rw (add-one i) (record { size = s.size; tells = λ c l. s.tells c l ∙ sym (miss tr kind c i (λ h. n h.0)) })

  pub stamps-start : Stamps tr 0 (zeros 1025) (zeros 1025)
  unfolding filled last_by
  stamps-start = record {
    acceptable = acc;
    reads = record { size = length-replicate {A = ℕ} 1025 0; tells = λ c l. get_or-replicate {A = ℕ} 1025 c 0 0 l };
    writes = record { size = length-replicate {A = ℕ} 1025 0; tells = λ c l. get_or-replicate {A = ℕ} 1025 c 0 0 l };
  }

module _ {tr : List Record} {i : ℕ} {read written : List ℕ} (s : Stamps tr i read written) (l : i < length tr) where
  -- record i is no access
  pub keeps-other : (at tr i).kind ≢ 5 → (at tr i).kind ≢ 6 → (true ≡ kept tr i) × Stamps tr (i + 1) read written
  keeps-other n m = (
    sym (passed (kept tr i) (not-no (dropped tr i) (λ d. let (j, r) = repeat-of tr i d in go (access-kind (at tr i) r.access)))),
    record {
      acceptable = s.acceptable;
      reads = stamped-other s.acceptable 5 i n s.reads;
      writes = stamped-other s.acceptable 6 i m s.writes;
    },
  )
    where
      go : ((at tr i).kind ≡ 5) ⊎ ((at tr i).kind ≡ 6) → ⊥
      go (inl e) = n e
      go (inr e) = m e

  -- it is a read
  as_read : (at tr i).kind ≡ 5
      → (not (eqb (get_or read (at tr i).second 0) (at tr i).first) ≡ kept tr i) × Stamps tr (i + 1) (set read (at tr i).second (at tr i).first) written
  as_read e = (
    stamp-tells s.acceptable i l (or_left (eqb (at tr i).kind 5) (eqb (at tr i).kind 6) (eq→eqb _ _ e)) {stamps = read} (rw e s.reads),
    record {
      acceptable = s.acceptable;
      reads = rw e at (stamped-next s.acceptable i l {stamps = read} (rw e s.reads));
      writes = stamped-other s.acceptable 6 i (λ k. omega arith) s.writes;
    },
  )

  -- it is a write
  as-write : (at tr i).kind ≡ 6
      → (not (eqb (get_or written (at tr i).second 0) (at tr i).first) ≡ kept tr i) × Stamps tr (i + 1) read (set written (at tr i).second (at tr i).first)
  as-write e = (
    stamp-tells s.acceptable i l (or_right (eqb (at tr i).kind 5) (eqb (at tr i).kind 6) (eq→eqb _ _ e)) {stamps = written} (rw e s.writes),
    record {
      acceptable = s.acceptable;
      reads = stamped-other s.acceptable 5 i (λ k. omega arith) s.reads;
      writes = rw e at (stamped-next s.acceptable i l {stamps = written} (rw e s.writes));
    },
  )

  -- by what stamping its cell gives
  module _ (cell event : ℕ) (cell-is : cell ≡ (at tr i).second) (event-is : event ≡ (at tr i).first) where
    pub keeps-read : {r : Bool} {read' : List ℕ} → (at tr i).kind ≡ 5 → (r ≡ not (eqb (get_or read cell 0) event)) × (read' ≡ set read cell event)
        → (r ≡ kept tr i) × Stamps tr (i + 1) read' written
    keeps-read e (q, w) = let (k, n) = as_read e in (q ∙ rw (cell-is, event-is) k, rw (w, cell-is, event-is) n)

    pub keeps-write : {r : Bool} {written' : List ℕ} → (at tr i).kind ≡ 6 → (r ≡ not (eqb (get_or written cell 0) event)) × (written' ≡ set written cell event)
        → (r ≡ kept tr i) × Stamps tr (i + 1) read written'
    keeps-write e (q, w) = let (k, n) = as-write e in (q ∙ rw (cell-is, event-is) k, rw (w, cell-is, event-is) n)

-- by the answer to whether a record is kept
pub not-kept : {q : Bool} (r : Bool) → r ≡ q → r ≡ false → T q → ⊥
not-kept r e h y = subst T (sym e ∙ h) y

pub is_kept : {q : Bool} (r : Bool) → r ≡ q → r ≡ true → T q
is_kept r e h = subst T (sym h ∙ e) tt

-- the kept records below one that is there are few
pub few-kept : {tr : List Record} → Acceptable tr → (i : ℕ) → i ≤ length tr → (size (kept tr) i ≤ 4096) × (size (kept tr) i ≤ length (slim_of tr))
few-kept {tr} acc i l =
    let m = size-most (kept tr) i in
    let n = size-more (kept tr) i (length tr) l in
    let f = acc.few in
    (omega arith, omega (arith, slim-length acc))

-- what is written when the records below i are passed, k of them kept
pub record Written (writing : Bool) (tr : List Record) (i k : ℕ) (out out' : List ℕ) : Type 0 where
  pub count : k ≡ size (kept tr) i
  pub out-is : out' ≡ cond writing (encode (map (at tr) (upto i (kept tr))) ++ drop (5 * k) out) out

module _ (tr : List Record) where
  abbrev below : ℕ → List Record
  below i = map (at tr) (upto i (kept tr))

  below_length : (i : ℕ) → length (below i) ≡ size (kept tr) i
  below_length i = length-map (upto i (kept tr)) (at tr)

  below-kept : (i : ℕ) → T (kept tr i) → below (suc i) ≡ below i ++ (at tr i ∷ [])
  below-kept i h = ap (map (at tr)) (upto-yes i (kept tr) h) ∙ map-append (at tr) (upto i (kept tr)) (i ∷ [])

  pub written_start : (writing : Bool) (out : List ℕ) → Written writing tr 0 0 out out
  unfolding upto encode
  written_start true out = record { count = sym (size-zero (kept tr)); out-is = refl }
  written_start false out = record { count = sym (size-zero (kept tr)); out-is = refl }

  pub written-dropped : {writing : Bool} {i k : ℕ} {out out' : List ℕ} → Written writing tr i k out out' → (T (kept tr i) → ⊥)
      → Written writing tr (i + 1) k out out'
  written-dropped {writing} {i} {k} {out} w h = rw (add-one i) (record {
    count = w.count ∙ sym (size-no (kept tr) i h);
    out-is = w.out-is ∙ ap (λ (l : List ℕ). cond writing (encode (map (at tr) l) ++ drop (5 * k) out) out) (sym (upto-no i (kept tr) h));
  })

  -- vs stored after the first bytes e
  pub stored-after : (e out vs : List ℕ) (n : ℕ) → length e ≡ n → stored (e ++ drop n out) n vs ≡ (e ++ vs) ++ drop (n + length vs) out
  unfolding stored
  stored-after e out vs n h =
      let d : drop (n + length vs) (e ++ drop n out) ≡ drop (n + length vs) out =
      sym (drop-drop (length vs) n (e ++ drop n out)) ∙ ap (drop (length vs)) (drop_at e (drop n out) n h) ∙ drop-drop (length vs) n out in
      rw (take_at e (drop n out) n h, d)

  pub written-kept : (writing : Bool) {i k : ℕ} {out out' out'' : List ℕ} → Written writing tr i k out out' → T (kept tr i)
      → (T writing → 5 * k + 5 ≤ length out') → out'' ≡ cond writing (stored_within out' (5 * k) (encode (at tr i ∷ []))) out'
      → Written writing tr (i + 1) (k + 1) out out''
  unfolding encode stored_within
  written-kept true {i} {k} {out} {out'} {out''} w h room e = rw (add-one i) (record {
    count = ap (λ (n : ℕ). n + 1) w.count ∙ sym (size-yes (kept tr) i h);
    out-is =
        let long : length (encode (below i)) ≡ 5 * k = encode-length (below i) ∙ ap (λ (n : ℕ). 5 * n) (below_length i ∙ sym w.count) in
        let five : 5 * k + 5 ≡ 5 * (k + 1) = omega arith in
        let put : out'' ≡ (encode (below i) ++ encode (at tr i ∷ [])) ++ drop (5 * k + 5) out =
        e ∙ rw (le-leb (5 * k + 5) (length out') (room tt)) (rw w.out-is (stored-after (encode (below i)) out (encode (at tr i ∷ [])) (5 * k) long)) in
        put ∙ rw (below-kept i h, encode-append (below i) (at tr i ∷ []), five);
  })
  written-kept false {i} {k} {out} w h room e = rw (add-one i) (record {
    count = ap (λ (n : ℕ). n + 1) w.count ∙ sym (size-yes (kept tr) i h);
    out-is = e ∙ w.out-is;
  })

  -- a record that is kept has room
  pub written-room : (writing : Bool) {i k : ℕ} {out out' : List ℕ} → Written writing tr i k out out' → (m : ℕ) → size (kept tr) (suc i) ≤ m → T (kept tr i)
      → (T writing → 5 * m ≤ length out) → T writing → 5 * k + 5 ≤ length out'
  written-room true {i} {k} {out} w m l h room y =
      let z = size-yes (kept tr) i h in
      let r = room y in
      let e = ap length w.out-is ∙ length-append (encode (below i)) (drop (5 * k) out) in
      let n = encode-length (below i) in
      let b = below_length i in
      omega (arith, w.count, length-drop (5 * k) out)
  written-room false w m l h room y = absurd y

  pub written-long : (writing : Bool) {i k : ℕ} {out out' : List ℕ} → Written writing tr i k out out' → (m : ℕ) → size (kept tr) i ≤ m
      → (T writing → 5 * m ≤ length out) → length out' ≡ length out
  written-long true {i} {k} {out} w m l room =
      let r = room tt in
      let e = ap length w.out-is ∙ length-append (encode (below i)) (drop (5 * k) out) in
      let n = encode-length (below i) in
      let b = below_length i in
      omega (arith, w.count, length-drop (5 * k) out)
  written-long false w m l room = ap length w.out-is

  pub written-end : Acceptable tr → {writing : Bool} {i k : ℕ} {out out' : List ℕ} → Written writing tr i k out out' → i ≡ length tr
      → Passes writing tr out out' k
  unfolding slim_of
  written-end acc {writing} {i} {k} {out} w e =
      let n : k ≡ length (slim_of tr) = w.count ∙ ap (size (kept tr)) e ∙ sym (slim-length acc) in
      record { count = n; out-is = w.out-is ∙ rw (e, n) }
