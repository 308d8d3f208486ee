-- Filling decides 31 and tells happens-before. Assumes nothing.
use Prim.Native.Nat.{ℕ, zero, suc, ◌+◌, ◌-◌, ◌≤◌, ◌<◌}
use mathlib.Core.Path.{◌≡◌, refl, sym, ap, ap₂, ◌∙◌, subst}
use mathlib.Core.Logic.{◌≢◌, ◌⊎◌, inl, inr}
use mathlib.Core.Bool.{Bool, true, false, ◌&&◌, ◌||◌}
use mathlib.Core.List.{List}
use native.Mathlib.Omega.{arith}
use borrow.Author.Tests.{eq-eqb, ne_eqb, eqb-true}
use lib.Dec.{T, eqb}
use lib.ListN.{get_or}
use Rattle.slices.specs.Slices.{zeros}
use Rattle.slices.proofs.Tests.{passed, decide_eq, or_right}
use Rattle.records.specs.declared.Record.{Record}
use Rattle.records.specs.Records.{at, past, is_begin, is_join, begun}
use Rattle.records.proofs.Positions.{decide, lt-or-ge, true-not-false}
use Rattle.bits.specs.Laws.{Proper}
use Rattle.bits.specs.Table.{bit_of, put_bit}
use Rattle.bits.proofs.RowLaws.{zeros-word, zeros-room, proper-or, takes-row, proper-put, puts-bit, no_member, no-sets-room, proper-zeros, no-bit}
use Rattle.bits.proofs.TableLaws.{outside_low, bit-none}
use Rattle.records.specs.Kinds.{is_send, starts}
use Rattle.precedence.specs.Before.{Begins}
use Rattle.precedence.specs.Table.{table, sets, blocked}
use Rattle.precedence.specs.Sound.{Sound, Next}
use Rattle.precedence.specs.Scan.{Scan, run, scan_for, scan_at}
use Rattle.precedence.proofs.Rows.{begins-later, begins-begun, begun-begins, begun-or-not, begun-only, transitive}
use Rattle.precedence.proofs.ScanLaws.{scan-refuses, scan-gathers}
use Rattle.precedence.proofs.Growing.{sound-zero, sound-next}
use Rattle.links.specs.Rule.{Walked, walk}
use Rattle.links.specs.Fill as spec
use Rattle.links.specs.Fill.{linked, step_words, step_last, step_stuck, fill_from}
use Rattle.links.specs.Promise.{Lawful, Ranked, Decides}
use Rattle.links.proofs.FillLaws.{linked-to-none, linked-is, begin-is}
use Rattle.links.proofs.WalkSim.{holds, or_no, Ready, Tells, Walks, walks}
use Rattle.links.proofs.LastSend.{Noted, noted-next, walk-skips}

pub next_of : {tr : List Record} {i : ℕ} → Lawful tr i → (T (is_begin (at tr i)) → blocked tr i ≡ false) → Next tr i
next_of x free = record {
  begin_fresh = x.begin_fresh;
  join_fresh = x.join_fresh;
  target_fresh = x.target_fresh;
  running = x.running;
  waited = x.waited;
  together = x.together;
  free = free;
}

module _ {tr : List Record} {f : ℕ → ℕ} {n : ℕ} (g : Ranked tr f n) where
  -- ranks tell events that begin apart
  pub one-to-one : (x y : ℕ) → Begins tr n x → Begins tr n y → f x ≡ f y → x ≡ y
  one-to-one x y b c e = go (lt-or-ge b.position c.position) (lt-or-ge c.position b.position)
    where
      go : (b.position < c.position) ⊎ (c.position ≤ b.position) → (c.position < b.position) ⊎ (b.position ≤ c.position) → x ≡ y
      go (inl h) _ = let k = g.rises x y b c h in absurd (omega (arith, e))
      go (inr h) (inl k) = let m = g.rises y x c b k in absurd (omega (arith, e))
      go (inr h) (inr k) =
          let p : b.position ≡ c.position = omega arith in
          sym b.of_event ∙ ap (λ (z : ℕ). (at tr z).first) p ∙ c.of_event

  -- what begins before position i is lower than what doesn't
  earlier : (i x y : ℕ) → i ≤ n → Begins tr i x → begun y (past tr i) ≡ false → Begins tr n y → f x < f y
  earlier i x y l b h c = go (lt-or-ge c.position i)
    where
      go : (c.position < i) ⊎ (i ≤ c.position) → f x < f y
      go (inl k) =
          absurd (true-not-false (begins-begun tr y i (record { position = c.position; inside = k; is-begin = c.is-begin; of_event = c.of_event })) h)
      go (inr k) =
          let m = b.inside in
          g.rises x y (record { position = b.position; inside = omega arith; is-begin = b.is-begin; of_event = b.of_event }) c (omega arith)

  same_row : (q u : ℕ) → Begins tr n q → Begins tr n u → eqb (f u - 1) (f q - 1) ≡ eqb q u
  same_row q u b c = go (decide_eq q u)
    where
      go : (q ≡ u) ⊎ (q ≢ u) → eqb (f u - 1) (f q - 1) ≡ eqb q u
      go (inl e) = rw (eq-eqb q u e) (eq-eqb (f u - 1) (f q - 1) (ap (λ (z : ℕ). f z - 1) (sym e)))
      go (inr d) =
          let h = g.positive q b in
          let k = g.positive u c in
          let m : f u - 1 ≡ f q - 1 → ⊥ = λ e. d (one-to-one q u b c (omega arith)) in
          rw (ne_eqb q u d) (ne_eqb (f u - 1) (f q - 1) m)

  -- rows of no rank have no bits
  abbrev Spare : List ℕ → Type 0
  Spare ws = (t v : ℕ) → ((x : ℕ) → Begins tr n x → v ≢ f x - 1) → bit_of ws t v ≡ false

  pub record Fills (i : ℕ) (ws last : List ℕ) : Type 0 where
    pub proper : Proper ws
    pub noted : Noted tr i last
    pub bits : (t u : ℕ) → Begins tr n t → Begins tr n u → bit_of ws (f t - 1) (f u - 1) ≡ table tr i t u
    pub spare : Spare ws

  module _ (i : ℕ) (l : i < n) (s : Sound tr i) (x : Lawful tr i) (ws last : List ℕ) (z : Fills i ws last) where
    abbrev r : Record
    r = at tr i

    record Linked (p q : ℕ) (ws' : List ℕ) : Type 0 where
      proper' : Proper ws'
      bits' : (t u : ℕ) → Begins tr n t → Begins tr n u → bit_of ws' (f t - 1) (f u - 1) ≡ (table tr i t u || (eqb q u && table tr i t p))
      spare' : Spare ws'

    -- a direct link from p, which has begun, to q, which has not
    link-tells : (p q : ℕ) → Begins tr i p → begun q (past tr i) ≡ false → Linked p q (linked (f p) (f q) ws)
    link-tells p q b h = go (begun-or-not tr q n)
      where
        p-begins : Begins tr n p
        p-begins = begins-later tr (omega arith) b

        p-some : f p ≢ 0
        p-some e = let k = g.positive p p-begins in omega (arith, e)

        go : Begins tr n q ⊎ (begun q (past tr n) ≡ false) → Linked p q (linked (f p) (f q) ws)
        go (inr k) = subst (Linked p q) (linked-to-none (f p) (f q) ws p-some (g.none q k)) (record {
          proper' = z.proper;
          bits' = λ t u a c. z.bits t u a c ∙ or_no (table tr i t u) ∙ ap (λ (v : Bool). table tr i t u || v) (sym (other t u c));
          spare' = z.spare;
        })
          where
            other : (t u : ℕ) → Begins tr n u → (eqb q u && table tr i t p) ≡ false
            other t u c =
                let d : q ≡ u → ⊥ = λ e. true-not-false (begins-begun tr q n (subst (Begins tr n) (sym e) c)) k in
                rw (ne_eqb q u d)
        go (inl c) =
            let k = g.positive p p-begins in
            let m = earlier i p q (omega arith) b h c in
            let o = g.within q c in
            let q-some : f q ≡ 0 → ⊥ = λ e. omega (arith, e) in
            let a₁ : f p - 1 < f q - 1 = omega arith in
            let a₂ : f q - 1 < 1024 = omega arith in
            subst (Linked p q) (linked-is (f p) (f q) ws p-some q-some) (record {
              proper' = proper-or (f p - 1) (f q - 1) a₁ a₂ ws z.proper;
              bits' = λ t u a d. takes-row (f p - 1) (f q - 1) a₁ a₂ ws z.proper (f t - 1) (f u - 1)
                  ∙ ap₂ (λ (v v' : Bool). v || v') (z.bits t u a d) (ap₂ (λ (v v' : Bool). v && v') (same_row q u c d) (z.bits t p a p-begins));
              spare' = λ t v d. takes-row (f p - 1) (f q - 1) a₁ a₂ ws z.proper t v
                  ∙ ap₂ (λ (y y' : Bool). y || (y' && bit_of ws t (f p - 1))) (z.spare t v d) (ne_eqb v (f q - 1) (d q c));
            })

    -- the table after record i, by its kind
    next-join : r.kind ≡ 4 → (t u : ℕ) → table tr (suc i) t u ≡ (table tr i t u || (eqb r.first u && table tr i t r.second))
    unfolding table sets
    next-join k t u = rw k (ap (λ (v : Bool). table tr i t u || v) (sym (or_no (eqb r.first u && table tr i t r.second))))

    next_start : is_begin r ≡ false → is_join r ≡ false → starts r ≡ true → (t u : ℕ)
        → table tr (suc i) t u ≡ (table tr i t u || (eqb r.second u && table tr i t r.first))
    unfolding table sets
    next_start a b c t u = rw (c, a, b) (ap (λ (v : Bool). table tr i t u || v) (sym (or_no (eqb r.second u && table tr i t r.first))))

    next-other : is_begin r ≡ false → is_join r ≡ false → starts r ≡ false → (t u : ℕ) → table tr (suc i) t u ≡ table tr i t u
    unfolding table sets
    next-other a b c t u = rw (c, a, b) (sym (or_no (table tr i t u)))

    next-begin : r.kind ≡ 1 → (t u : ℕ) → r.first ≢ u → table tr (suc i) t u ≡ table tr i t u
    unfolding table sets
    next-begin k t u d = rw (k, ne_eqb r.first u d) (sym (or_no (table tr i t u)))

    words-join : r.kind ≡ 4 → linked (f r.second) (f r.first) ws ≡ step_words tr f i ws last
    unfolding step_words
    words-join k = rw k

    words-start : is_begin r ≡ false → is_join r ≡ false → starts r ≡ true → linked (f r.first) (f r.second) ws ≡ step_words tr f i ws last
    unfolding step_words
    words-start a b c = rw (c, a, b)

    words-other : is_begin r ≡ false → is_join r ≡ false → starts r ≡ false → ws ≡ step_words tr f i ws last
    unfolding step_words
    words-other a b c = rw (c, a, b)

    not_stuck : is_begin r ≡ false → step_stuck tr f i ws last ≡ false
    unfolding step_stuck
    not_stuck a = rw a

    abbrev Refused : Type 0
    Refused = (step_stuck tr f i ws last ≡ true) × T (is_begin r) × (blocked tr i ≡ true)

    abbrev Goes : Type 0
    Goes = (step_stuck tr f i ws last ≡ false) × Sound tr (suc i) × Fills (suc i) (step_words tr f i ws last) (step_last tr f i ws last)

    module _ (small : i < 65535) where
      no-begin : is_begin r ≡ false → Sound tr (suc i)
      no-begin a = sound-next tr i s (next_of x (λ h. absurd (subst T a h)))

      goes-join : is_begin r ≡ false → is_join r ≡ true → Goes
      goes-join a b =
          let k = eqb-true r.kind 4 b in
          let m = link-tells r.second r.first (begun-begins tr r.second i (holds (x.waited (holds b)))) (x.join_fresh (holds b)) in
          let v = subst (Linked r.second r.first) (words-join k) m in (
            not_stuck a,
            no-begin a,
            record {
              proper = v.proper';
              noted = noted-next tr f i ws last small z.noted;
              bits = λ t u c d. v.bits' t u c d ∙ sym (next-join k t u);
              spare = v.spare';
            },
          )

      goes-start : is_begin r ≡ false → is_join r ≡ false → starts r ≡ true → Goes
      goes-start a b c =
          let m = link-tells r.first r.second (begun-begins tr r.first i (holds (x.running (holds c)))) (x.target_fresh (holds c)) in
          let v = subst (Linked r.first r.second) (words-start a b c) m in (
            not_stuck a,
            no-begin a,
            record {
              proper = v.proper';
              noted = noted-next tr f i ws last small z.noted;
              bits = λ t u d o. v.bits' t u d o ∙ sym (next_start a b c t u);
              spare = v.spare';
            },
          )

      goes_other : is_begin r ≡ false → is_join r ≡ false → starts r ≡ false → Goes
      goes_other a b c =
          let q = words-other a b c in (
            not_stuck a,
            no-begin a,
            record {
              proper = subst Proper q z.proper;
              noted = noted-next tr f i ws last small z.noted;
              bits = λ t u d o. subst (λ (v : List ℕ). bit_of v (f t - 1) (f u - 1) ≡ table tr i t u) q (z.bits t u d o) ∙ sym (next-other a b c t u);
              spare = subst Spare q z.spare;
            },
          )

      -- a begin
      module _ (a : is_begin r ≡ true) where
        abbrev e : ℕ
        e = r.first

        abbrev u : ℕ
        u = f r.first

        abbrev has : ℕ → Bool
        has v = begun v (past tr i)

        kind-is : r.kind ≡ 1
        kind-is = eqb-true r.kind 1 a

        e-begins : Begins tr n e
        e-begins = record { position = i; inside = l; is-begin = holds a; of_event = refl }

        begins-all : (v : ℕ) → T (has v) → Begins tr n v
        begins-all v h = begins-later tr (omega arith) (begun-begins tr v i h)

        rank-lower : (v : ℕ) → T (has v) → f v < u
        rank-lower v h = earlier i v e (omega arith) (begun-begins tr v i h) (x.begin_fresh (holds a)) e-begins

        rank-later : (v : ℕ) → has v ≡ false → v ≢ e → (f v ≡ 0) ⊎ (u < f v)
        rank-later v h d = go (begun-or-not tr v n)
          where
            go : Begins tr n v ⊎ (begun v (past tr n) ≡ false) → (f v ≡ 0) ⊎ (u < f v)
            go (inr k) = inl (g.none v k)
            go (inl c) = by (lt-or-ge i c.position) (decide_eq c.position i)
              where
                by : (i < c.position) ⊎ (c.position ≤ i) → (c.position ≡ i) ⊎ (c.position ≢ i) → (f v ≡ 0) ⊎ (u < f v)
                by (inl k) _ = inr (g.rises e v (record { position = i; inside = l; is-begin = holds a; of_event = refl }) c k)
                by (inr k) (inl q) = absurd (d (sym c.of_event ∙ ap (λ (m : ℕ). (at tr m).first) q))
                by (inr k) (inr q) =
                    let m : c.position < i = omega (arith, q) in
                    absurd (true-not-false (begins-begun tr v i (record { position = c.position; inside = m; is-begin = c.is-begin; of_event = c.of_event })) h)

        ready : Ready tr f e u i (table tr i) has
        ready = record {
          own_rank = λ v y h q. own v y h q (begun-or-not tr y n);
          positive = λ v h. g.positive v (begins-all v h);
          lower = rank-lower;
          later = rank-later;
          within = g.within e e-begins;
          sender = λ j m h. holds (begins-begun tr (at tr j).first i (begins-later tr (omega arith) (s.starter_begun j m (or_right (eqb (at tr j).kind 3) (is_send (at tr j)) h))));
          through = λ t p v. transitive s i t p v (omega arith);
        }
          where
            own : (v y : ℕ) → T (has v) → f v ≡ f y → Begins tr n y ⊎ (begun y (past tr n) ≡ false) → v ≡ y
            own v y h q (inl c) = one-to-one v y (begins-all v h) c q
            own v y h q (inr k) = let m = g.positive v (begins-all v h) in let o = g.none y k in absurd (omega (arith, q))

        u-some : u ≢ 0
        u-some q = let k = g.positive e e-begins in omega (arith, q)

        u-table : u - 1 < 1024
        u-table = let k = g.positive e e-begins in let m = g.within e e-begins in omega arith

        started : List ℕ
        started = put_bit (u - 1) (u - 1) ws

        started-proper : Proper started
        unfolding started
        started-proper = proper-put (u - 1) (u - 1) (omega arith) u-table ws z.proper

        started-bit : (t v : ℕ) → bit_of started t v ≡ (bit_of ws t v || (eqb t (u - 1) && eqb v (u - 1)))
        unfolding started
        started-bit t v = puts-bit (u - 1) (u - 1) (omega arith) u-table ws z.proper t v

        -- an entry that isn't e's own
        started-old : (t v : ℕ) → Begins tr n t → Begins tr n v → (eqb (f t - 1) (u - 1) && eqb (f v - 1) (u - 1)) ≡ false
            → bit_of started (f t - 1) (f v - 1) ≡ table tr i t v
        started-old t v c d q =
            started-bit (f t - 1) (f v - 1) ∙ ap (λ (y : Bool). bit_of ws (f t - 1) (f v - 1) || y) q ∙ sym (or_no (bit_of ws (f t - 1) (f v - 1)))
            ∙ z.bits t v c d

        lower-row : (v : ℕ) → T (has v) → f v - 1 ≢ u - 1
        lower-row v h q = let k = rank-lower v h in let m = g.positive v (begins-all v h) in omega (arith, q)

        s₀ : Scan
        s₀ = record { reach = λ k y. false; row = λ t. table tr i t e; stuck = false }

        tells₀ : Tells f u (table tr i) has (bit_of started) started (zeros 64) s₀
        unfolding s₀
        tells₀ = record {
          proper = started-proper;
          room = no-sets-room;
          rows =
              λ t v h k. started-old t v (begins-all t h) (begins-all v k)
              (ap (λ (y : Bool). y && eqb (f v - 1) (u - 1)) (ne_eqb (f t - 1) (u - 1) (lower-row t h)));
          frame = λ t v d. refl;
          itself =
              started-bit (u - 1) (u - 1)
              ∙ passed _ (or_right (bit_of ws (u - 1) (u - 1)) (eqb (u - 1) (u - 1) && eqb (u - 1) (u - 1)) (both_own (eq-eqb (u - 1) (u - 1) refl)));
          own = λ t h. started-old t e (begins-all t h) e-begins (ap (λ (y : Bool). y && eqb (u - 1) (u - 1)) (ne_eqb (f t - 1) (u - 1) (lower-row t h)));
          reaches = λ k y c d h. no_member 64 (k - 16) (f y - 1);
          row_closed = λ t p h k. transitive s i t p e (omega arith) h k;
          reach_closed = λ k t p h c. absurd c;
        }
          where
            both_own : eqb (u - 1) (u - 1) ≡ true → T (eqb (u - 1) (u - 1) && eqb (u - 1) (u - 1))
            both_own q = rw q tt

        done : Walks (bit_of started) ready i started (zeros 64) s₀
        unfolding s₀
        done = walks (bit_of started) ready i (omega arith) started (zeros 64) s₀ refl tells₀

        begun-is : spec.begun tr f i ws last ≡ walk tr f e u i started (zeros 64)
        unfolding spec.begun started
        begun-is =
            let k = x.in_range (holds a) in
            sym (begin-is tr f e u (get_or last e 0) ws u-some)
            ∙ sym (walk-skips tr f e u (put_bit (u - 1) (u - 1) ws) i (get_or last e 0) (z.noted.reached e k) (z.noted.none_after e k))

        left : List ℕ
        left = (walk tr f e u i started (zeros 64)).words

        pass-is : run tr e (table tr i) has i s₀ ≡ scan_at tr i
        unfolding scan_for s₀
        pass-is = refl

        words-begin : left ≡ step_words tr f i ws last
        unfolding step_words left
        words-begin = rw a (sym (ap (λ (y : Walked). y.words) begun-is))

        stuck-begin : step_stuck tr f i ws last ≡ blocked tr i
        unfolding step_stuck
        stuck-begin = rw a (ap (λ (y : Walked). y.stuck) begun-is ∙ done.stuck_same ∙ ap (λ (y : Scan). y.stuck) pass-is ∙ scan-refuses tr i e)

        module _ (free : blocked tr i ≡ false) where
          sound-on : Sound tr (suc i)
          sound-on = sound-next tr i s (next_of x (λ h. free))

          not-refused : (run tr e (table tr i) has i s₀).stuck ≡ false
          not-refused = ap (λ (y : Scan). y.stuck) pass-is ∙ scan-refuses tr i e ∙ free

          gathers : (t : ℕ) → table tr (suc i) t e ≡ (eqb t e || (run tr e (table tr i) has i s₀).row t)
          gathers t = scan-gathers tr i (holds a) free t ∙ ap (λ (y : Scan). eqb t e || y.row t) (sym pass-is)

          -- rows other than e's
          other-bits : (t v : ℕ) → Begins tr n t → Begins tr n v → e ≢ v → bit_of left (f t - 1) (f v - 1) ≡ table tr (suc i) t v
          unfolding left
          other-bits t v b c d =
              let k = g.positive v c in
              let m = g.positive e e-begins in
              let q : f v - 1 ≡ u - 1 → ⊥ = λ o. d (one-to-one e v e-begins c (omega arith)) in
              done.frame_left not-refused (f t - 1) (f v - 1) q
              ∙ started-old t v b c (no_second (ne_eqb (f v - 1) (u - 1) q))
              ∙ sym (next-begin kind-is t v d)
            where
              no_second : eqb (f v - 1) (u - 1) ≡ false → (eqb (f t - 1) (u - 1) && eqb (f v - 1) (u - 1)) ≡ false
              no_second q = by (eqb (f t - 1) (u - 1)) q
                where
                  by : (y : Bool) → eqb (f v - 1) (u - 1) ≡ false → (y && eqb (f v - 1) (u - 1)) ≡ false
                  by true q = q
                  by false q = refl

          -- e's own row
          own_bits : (t : ℕ) → Begins tr n t → bit_of left (f t - 1) (u - 1) ≡ table tr (suc i) t e
          unfolding left
          own_bits t b = go (decide_eq t e) (decide (has t))
            where
              no_table : t ≢ e → has t ≡ false → T (table tr (suc i) t e) → ⊥
              no_table d h k =
                  let c = begun-only sound-on (suc i) t e (omega arith) k in
                  by c (decide_eq c.position i)
                where
                  by : (c : Begins tr (suc i) t) → (c.position ≡ i) ⊎ (c.position ≢ i) → ⊥
                  by c (inl q) = d (sym c.of_event ∙ ap (λ (m : ℕ). (at tr m).first) q)
                  by c (inr q) =
                      let o = c.inside in
                      true-not-false (begins-begun tr t i (record { position = c.position; inside = omega (arith, q); is-begin = c.is-begin; of_event = c.of_event })) h

              fails : (y : Bool) → (T y → ⊥) → y ≡ false
              fails true h = absurd (h tt)
              fails false h = refl

              far : (f t ≡ 0) ⊎ (u < f t) → bit_of (walk tr f e u i started (zeros 64)).words (f t - 1) (u - 1) ≡ false
              far (inl q) = let k = g.positive t b in absurd (omega (arith, q))
              far (inr q) = let k = g.positive e e-begins in sym (bit-none (f t - 1) (u - 1) _ (outside_low (f t - 1) (u - 1) (omega arith)))

              go : (t ≡ e) ⊎ (t ≢ e) → (has t ≡ true) ⊎ (has t ≡ false)
                  → bit_of (walk tr f e u i started (zeros 64)).words (f t - 1) (u - 1) ≡ table tr (suc i) t e
              go (inl q) _ =
                  ap (λ (y : ℕ). bit_of (walk tr f e u i started (zeros 64)).words (f y - 1) (u - 1)) q ∙ done.itself_left not-refused
                  ∙ sym (gathers t ∙ ap (λ (y : Bool). y || (run tr e (table tr i) has i s₀).row t) (eq-eqb t e q))
              go (inr d) (inl h) =
                  done.own_left not-refused t (holds h)
                  ∙ sym (gathers t ∙ ap (λ (y : Bool). y || (run tr e (table tr i) has i s₀).row t) (ne_eqb t e d))
              go (inr d) (inr h) = far (rank-later t h d) ∙ sym (fails (table tr (suc i) t e) (no_table d h))

          goes-begin : Goes
          unfolding left
          goes-begin = (
            stuck-begin ∙ free,
            sound-on,
            record {
              proper = subst Proper words-begin (done.proper_left not-refused);
              noted = noted-next tr f i ws last small z.noted;
              bits = λ t v b c. subst (λ (y : List ℕ). bit_of y (f t - 1) (f v - 1) ≡ table tr (suc i) t v) words-begin (all t v b c (decide_eq e v));
              spare = subst Spare words-begin spared;
            },
          )
            where
              and_no : (y : Bool) → (y && false) ≡ false
              and_no true = refl
              and_no false = refl

              spared : Spare (walk tr f e u i started (zeros 64)).words
              spared t v d =
                  done.frame_left not-refused t v (d e e-begins) ∙ started-bit t v
                  ∙ ap₂ (λ (y y' : Bool). y || (eqb t (u - 1) && y')) (z.spare t v d) (ne_eqb v (u - 1) (d e e-begins)) ∙ and_no (eqb t (u - 1))

              all : (t v : ℕ) → Begins tr n t → Begins tr n v → (e ≡ v) ⊎ (e ≢ v)
                  → bit_of (walk tr f e u i started (zeros 64)).words (f t - 1) (f v - 1) ≡ table tr (suc i) t v
              all t v b c (inl q) =
                  subst (λ (y : ℕ). bit_of (walk tr f e u i started (zeros 64)).words (f t - 1) (f y - 1) ≡ table tr (suc i) t y) q (own_bits t b)
              all t v b c (inr d) = other-bits t v b c d

        pub at-begin : Refused ⊎ Goes
        at-begin = go (decide (blocked tr i))
          where
            go : (blocked tr i ≡ true) ⊎ (blocked tr i ≡ false) → Refused ⊎ Goes
            go (inl y) = inl (stuck-begin ∙ y, holds a, y)
            go (inr y) = inr (goes-begin y)

      pub step : Refused ⊎ Goes
      step = go (decide (is_begin r)) (decide (is_join r)) (decide (starts r))
        where
          go : (is_begin r ≡ true) ⊎ (is_begin r ≡ false) → (is_join r ≡ true) ⊎ (is_join r ≡ false) → (starts r ≡ true) ⊎ (starts r ≡ false) → Refused ⊎ Goes
          go (inl a) _ _ = at-begin a
          go (inr a) (inl b) _ = inr (goes-join a b)
          go (inr a) (inr b) (inl c) = inr (goes-start a b c)
          go (inr a) (inr b) (inr c) = inr (goes_other a b c)

  module _ (lawful : (i : ℕ) → i < n → Lawful tr i) (small : n ≤ 65535) where
    -- what filling tells, and of a whole table that there is room for more
    record Ends (done : spec.FilledTable) : Type 0 where
      decides : Decides tr f n done
      whole : done.stop ≡ n → Proper done.words × Spare done.words

    fills : (k i : ℕ) (ws last : List ℕ) → i + k ≡ n → Sound tr i → Fills i ws last → Ends (fill_from tr f i k ws last)
    unfolding fill_from
    fills zero i ws last q s z =
        let m : i ≡ n = omega arith in
        record {
          decides = record {
            inside = omega arith;
            sound = s;
            refuses = λ h. absurd (omega arith);
            tells = λ o t u b c. z.bits t u b c ∙ ap (λ (y : ℕ). table tr y t u) m;
          };
          whole = λ h. (z.proper, z.spare);
        }
    fills (suc k) i ws last q s z =
        go (step i (omega arith) s (lawful i (omega arith)) ws last z (omega arith))
        (fills k (suc i) (step_words tr f i ws last) (step_last tr f i ws last) (omega arith))
      where
        go : ((step_stuck tr f i ws last ≡ true) × T (is_begin (at tr i)) × (blocked tr i ≡ true))
            ⊎ ((step_stuck tr f i ws last ≡ false) × Sound tr (suc i) × Fills (suc i) (step_words tr f i ws last) (step_last tr f i ws last))
            → (Sound tr (suc i) → Fills (suc i) (step_words tr f i ws last) (step_last tr f i ws last)
            → Ends (fill_from tr f (suc i) k (step_words tr f i ws last) (step_last tr f i ws last)))
            → Ends (spec.filled_if (step_stuck tr f i ws last) (record { stop = i; words = step_words tr f i ws last }) (fill_from tr f (suc i) k (step_words tr f i ws last) (step_last tr f i ws last)))
        go (inl y) h = rw y.0 (record {
          decides = record { inside = omega arith; sound = s; refuses = λ o. (y.1, y.2); tells = λ o. absurd (omega (arith, o)) };
          whole = λ o. absurd (omega (arith, o));
        })
        go (inr y) h = rw y.0 (h y.1 y.2)

    none-noted : Noted tr 0 (zeros 1025)
    none-noted = record {
      room = zeros-room 1025 1025 (omega arith);
      reached = λ e l. let k = zeros-word 1025 e in omega arith;
      none_after = λ e l m a b. absurd (omega arith);
    }

    at_first : Fills 0 (zeros 8704) (zeros 1025)
    unfolding table
    at_first = record { proper = proper-zeros; noted = none-noted; bits = λ t u b c. no-bit 8704 (f t - 1) (f u - 1); spare = λ t v d. no-bit 8704 t v }

    pub fill-decides : Decides tr f n (fill_from tr f 0 n (zeros 8704) (zeros 1025))
    fill-decides = (fills n 0 (zeros 8704) (zeros 1025) (omega arith) (sound-zero tr) at_first).decides

    pub fill-whole : (fill_from tr f 0 n (zeros 8704) (zeros 1025)).stop ≡ n
        → Proper (fill_from tr f 0 n (zeros 8704) (zeros 1025)).words × Spare (fill_from tr f 0 n (zeros 8704) (zeros 1025)).words
    fill-whole = (fills n 0 (zeros 8704) (zeros 1025) (omega arith) (sound-zero tr) at_first).whole
