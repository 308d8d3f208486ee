-- The test of an event that is to begin decides 31 for it. Assumes nothing.
use Prim.Native.Nat.{ℕ, zero, suc, ◌+◌, ◌-◌, ◌≤◌, ◌<◌}
use mathlib.Core.Path.{◌≡◌, refl, sym, ap, ◌∙◌, subst}
use mathlib.Core.Logic.{◌≢◌, ◌⊎◌, inl, inr}
use mathlib.Core.Bool.{Bool, true, false, not, ◌&&◌, ◌||◌}
use mathlib.Core.List.{List}
use native.Mathlib.Omega.{arith}
use borrow.Author.Tests.{eq-eqb, ne_eqb, leb-true}
use lib.Dec.{T, eqb, leb, eqb→eq}
use lib.ListN.{length, get_or, set, length-set}
use lib.Seq.{get_or-set_same, get_or-set_other}
use Rattle.slices.specs.Slices.{zeros}
use Rattle.slices.proofs.Tests.{both, and, or_right, passed, decide_eq}
use Rattle.records.specs.declared.Record.{Record}
use Rattle.records.specs.Records.{at, past, is_begin, begun, begins}
use Rattle.records.proofs.Positions.{decide, lt-or-ge, true-not-false}
use Rattle.bits.specs.Laws.{Proper}
use Rattle.bits.specs.Table.{bit_of, put_bit}
use Rattle.bits.proofs.RowLaws.{zeros-room, proper-put, puts-bit, no_member, no-sets-room}
use Rattle.ranks.specs.Ranks.{ranks_of}
use Rattle.bits.specs.Words.{words_if}
use Rattle.records.specs.Kinds.{is_send, same_link}
use Rattle.precedence.specs.Table.{table, missing, blocked_for}
use Rattle.precedence.specs.Before.{Begins, Blocked}
use Rattle.precedence.specs.Sound.{Sound}
use Rattle.precedence.specs.Scan.{Scan}
use Rattle.precedence.proofs.Steps.{Puts, puts}
use Rattle.precedence.proofs.Rows.{begins-later, begins-begun, begun-begins, begun-or-not, transitive}
use Rattle.precedence.proofs.ScanLaws.{row-aside}
use Rattle.precedence.proofs.Theorems.{refusal-decides}
use Rattle.links.specs.Rule.{rank_in, Walked, walk}
use Rattle.links.specs.Fill.{FilledTable, fill_from}
use Rattle.links.specs.Promise.{Lawful, Ranked, Decides, BeginDecides}
use Rattle.links.specs.Begin as spec
use Rattle.links.specs.Begin.{send_to, last_send, may_turn, may_sent, may, table_blocked, begin_blocked}
use Rattle.links.proofs.WalkSim.{holds, or_no, Ready, Tells, walks}
use Rattle.links.proofs.LastSend.{NoSend, walk-skips}
use Rattle.links.proofs.FillSim.{one-to-one, fill-decides, fill-whole}
use Rattle.links.proofs.RankSim.{ranked, ranks-reach, order-decided}
use Rattle.links.proofs.BeginLaws.{to-it, by-table, blocked-none, blocked-free, blocked-told}

-- after the last send to e there is none
module _ (tr : List Record) (e : ℕ) where
  abbrev Sent : ℕ → ℕ → Type 0
  Sent i l = (l ≤ i) × NoSend tr e l i

  last-suc : (i : ℕ) → Sent i (last_send tr e i) → Sent (suc i) (last_send tr e (suc i))
  unfolding last_send send_to
  last-suc i p = go (decide (is_send (at tr i) && eqb (at tr i).second e))
    where
      go : ((is_send (at tr i) && eqb (at tr i).second e) ≡ true) ⊎ ((is_send (at tr i) && eqb (at tr i).second e) ≡ false)
          → Sent (suc i) (spec.number_if (is_send (at tr i) && eqb (at tr i).second e) (suc i) (last_send tr e i))
      go (inl y) = rw y (omega arith, λ m a b. absurd (omega arith))
      go (inr y) = let l = p.0 in rw y (omega arith, λ m a b s. by m a b s (decide_eq m i))
        where
          by : (m : ℕ) → last_send tr e i ≤ m → m < suc i → is_send (at tr m) ≡ true → (m ≡ i) ⊎ (m ≢ i) → (at tr m).second ≢ e
          by m a b s (inr d) = p.1 m a (omega (arith, d)) s
          by m a b s (inl q) = λ c.
              true-not-false
              (passed (is_send (at tr i) && eqb (at tr i).second e)
              (and (is_send (at tr i)) (eqb (at tr i).second e) (subst (λ (x : ℕ). T (is_send (at tr x))) q (holds s))
              (subst (λ (x : ℕ). T (eqb (at tr x).second e)) q (holds (eq-eqb (at tr m).second e c))))) y

  pub last-noted : (i : ℕ) → Sent i (last_send tr e i)
  unfolding last_send
  last-noted zero = (omega arith, λ m a b. absurd (omega arith))
  last-noted (suc i) = last-suc i (last-noted i)

-- on the way down
module _ (tr : List Record) (f : ℕ → ℕ) (e : ℕ) where
  sent-room : (r : Record) (sent : List ℕ) → 4 ≤ length sent → 4 ≤ length (may_sent f e r sent)
  unfolding may_sent
  sent-room r sent l = go (decide (send_to e r))
    where
      go : (send_to e r ≡ true) ⊎ (send_to e r ≡ false) → 4 ≤ length (words_if (send_to e r) (set sent (r.kind - 16) 1) sent)
      go (inl y) = rw y (let k = length-set sent (r.kind - 16) 1 in omega arith)
      go (inr y) = rw y l

  set-marks : (sent : List ℕ) (p k : ℕ) → k < length sent → (p ≡ k) ⊎ (p ≢ k) → (p ≢ k → get_or sent k 0 ≡ 1) → get_or (set sent p 1) k 0 ≡ 1
  set-marks sent p k l (inl q) h = rw q (get_or-set_same sent k 1 0 l)
  set-marks sent p k l (inr d) h = get_or-set_other sent p k 1 0 (λ q. d (sym q)) ∙ h d

  stays-marked : (r : Record) (sent : List ℕ) (k : ℕ) → k < length sent → get_or sent k 0 ≡ 1 → get_or (may_sent f e r sent) k 0 ≡ 1
  unfolding may_sent
  stays-marked r sent k l h = go (decide (send_to e r))
    where
      go : (send_to e r ≡ true) ⊎ (send_to e r ≡ false) → get_or (words_if (send_to e r) (set sent (r.kind - 16) 1) sent) k 0 ≡ 1
      go (inl y) = rw y (set-marks sent (r.kind - 16) k l (decide_eq (r.kind - 16) k) (λ d. h))
      go (inr y) = rw y h

  now-marked : (r : Record) (sent : List ℕ) (k : ℕ) → k < length sent → true ≡ send_to e r → r.kind - 16 ≡ k → get_or (may_sent f e r sent) k 0 ≡ 1
  unfolding may_sent
  now-marked r sent k l y q = rw (← y) (set-marks sent (r.kind - 16) k l (inl q) (λ d. absurd (d q)))

  found_turn : (r : Record) (sent : List ℕ) → is_send r ≡ true → r.second ≢ e → f r.second ≡ 0 → get_or sent (r.kind - 16) 0 ≡ 1 → may_turn f e r sent ≡ true
  unfolding may_turn
  found_turn r sent s d z m = rw (s, ne_eqb r.second e d, eq-eqb (f r.second) 0 z, eq-eqb (get_or sent (r.kind - 16) 0) 1 m)

  -- x, a send to another event that has no rank, on a link that is marked or will be further up
  data Marked (x j : ℕ) (sent : List ℕ) : Type 0 where
    marked : get_or sent ((at tr x).kind - 16) 0 ≡ 1 → Marked x j sent
    coming : (y : ℕ) → x < y → y < j → is_send (at tr y) ≡ true → (at tr y).second ≡ e → (at tr y).kind ≡ (at tr x).kind → Marked x j sent

  module _ (x : ℕ) (s : is_send (at tr x) ≡ true) (d : (at tr x).second ≢ e) (none : f (at tr x).second ≡ 0) where
    link-low : (at tr x).kind - 16 < 4
    link-low =
        let k = leb-true (at tr x).kind 19 (passed (leb (at tr x).kind 19) (both (leb 16 (at tr x).kind) (leb (at tr x).kind 19) (holds s)).1) in
        omega arith

    may-finds : (j : ℕ) (sent : List ℕ) → 4 ≤ length sent → x < j → Marked x j sent → may tr f e j sent ≡ true
    unfolding may
    may-finds zero sent l h m = absurd (omega arith)
    may-finds (suc j) sent l h m = go (decide_eq x j) m (may-finds j (may_sent f e (at tr j) sent) (sent-room (at tr j) sent l))
      where
        low : (at tr x).kind - 16 < length sent
        low = let k = link-low in omega arith

        go : (x ≡ j) ⊎ (x ≢ j) → Marked x (suc j) sent → (x < j → Marked x j (may_sent f e (at tr j) sent) → may tr f e j (may_sent f e (at tr j) sent) ≡ true)
            → (may_turn f e (at tr j) sent || may tr f e j (may_sent f e (at tr j) sent)) ≡ true
        go (inl q) (coming y a b c o k) g = absurd (omega arith)
        go (inl q) (marked m) g = rw (subst (λ (i : ℕ). may_turn f e (at tr i) sent ≡ true) q (found_turn (at tr x) sent s d none m))
        go (inr n) m g =
            passed _ (or_right (may_turn f e (at tr j) sent) (may tr f e j (may_sent f e (at tr j) sent)) (holds (g (omega (arith, n)) (next m))))
          where
            next : Marked x (suc j) sent → Marked x j (may_sent f e (at tr j) sent)
            next (marked m) = marked (stays-marked (at tr j) sent ((at tr x).kind - 16) low m)
            next (coming y a b c o k) = by (decide_eq y j)
              where
                by : (y ≡ j) ⊎ (y ≢ j) → Marked x j (may_sent f e (at tr j) sent)
                by (inr v) = coming y a (omega (arith, v)) c o k
                by (inl v) =
                    marked
                    (subst (λ (i : ℕ). get_or (may_sent f e (at tr i) sent) ((at tr x).kind - 16) 0 ≡ 1) v
                    (now-marked (at tr y) sent ((at tr x).kind - 16) low (to-it e (at tr y) c o) (ap (λ (i : ℕ). i - 16) k)))

fails : (y : Bool) → (T y → ⊥) → y ≡ false
fails true h = absurd (h tt)
fails false h = refl

-- The tests that need no order are right, where events that have not begun have no rank.
module _ (tr : List Record) (f : ℕ → ℕ) (n e : ℕ) where
  abbrev from : ℕ
  from = last_send tr e n

  sent-before : (p : Puts tr (table tr n) n e (missing tr n e)) → is_send (at tr p.y) ≡ true → p.y < from
  sent-before p s = go (lt-or-ge p.y from)
    where
      go : (p.y < from) ⊎ (from ≤ p.y) → p.y < from
      go (inl h) = h
      go (inr h) = absurd ((last-noted tr e n).1 p.y h p.inside s p.to)

  links : (p : Puts tr (table tr n) n e (missing tr n e)) → (is_send (at tr p.x) ≡ true) × ((at tr p.y).kind ≡ (at tr p.x).kind) × (is_send (at tr p.y) ≡ true)
  unfolding same_link
  links p =
      let r = at tr p.x in
      let s = at tr p.y in
      let a = both (is_send r) (eqb r.kind s.kind) p.one_link in
      let q = eqb→eq r.kind s.kind a.1 in
      (passed (is_send r) a.0, sym q, passed (is_send s) (subst (λ (k : ℕ). T (leb 16 k && leb k 19)) q a.0))

  pub no-send-free : from ≡ 0 → blocked_for tr n e ≡ false
  unfolding blocked_for
  no-send-free z = fails (blocked_for tr n e) (λ h.
      let p = puts tr (table tr n) n e (missing tr n e) h in
      let k = sent-before p (links p).2 in
      absurd (omega (arith, z)))

  pub may-not-free : ((v : ℕ) → begun v (past tr n) ≡ false → f v ≡ 0) → may tr f e from (zeros 4) ≡ false → blocked_for tr n e ≡ false
  unfolding blocked_for
  may-not-free none m = fails (blocked_for tr n e) (λ h.
      let p = puts tr (table tr n) n e (missing tr n e) h in
      let v = (at tr p.x).second in
      let a = both (not (eqb v e)) (not (begun v (past tr n))) p.passes in
      let k = sent-before p (links p).2 in
      let l = p.earlier in
      true-not-false
      (may-finds tr f e p.x (links p).0 (λ q. not-both (eqb v e) a.0 (holds (eq-eqb v e q))) (none v (fails (begun v (past tr n)) (not-both (begun v (past tr n)) a.1)))
      from (zeros 4) (zeros-room 4 4 (omega arith)) (omega arith) (coming p.y l k (links p).2 p.to (links p).1)) m)
    where
      not-both : (y : Bool) → T (not y) → T y → ⊥
      not-both true h k = h
      not-both false h k = k

-- The walk for e in the row past those begun, over a table that tells happens-before and has no bits there.
module _ {tr : List Record} {f : ℕ → ℕ} {n : ℕ} (g : Ranked tr f n) (s : Sound tr n) (e u : ℕ) (under : (x : ℕ) → Begins tr n x → f x < u)
    (room : u ≤ 1024) (some : 0 < u) (ws : List ℕ) (fit : Proper ws)
    (tells : (t v : ℕ) → Begins tr n t → Begins tr n v → bit_of ws (f t - 1) (f v - 1) ≡ table tr n t v)
    (empty : (t : ℕ) → bit_of ws t (u - 1) ≡ false) where
  abbrev has : ℕ → Bool
  has v = begun v (past tr n)

  begins-all : (v : ℕ) → T (has v) → Begins tr n v
  begins-all v h = begun-begins tr v n h

  ready : Ready tr f e u n (table tr n) has
  ready = record {
    own_rank = λ v y h q. own v y h q (begun-or-not tr y n);
    positive = λ v h. g.positive v (begins-all v h);
    lower = λ v h. under v (begins-all v h);
    later = λ v h d. inl (g.none v h);
    within = room;
    sender = λ j m h. holds (begins-begun tr (at tr j).first n
        (begins-later tr (omega arith) (s.starter_begun j m (or_right (eqb (at tr j).kind 3) (is_send (at tr j)) h))));
    through = λ t p v. transitive s n t p v (omega arith);
  }
    where
      own : (v y : ℕ) → T (has v) → f v ≡ f y → Begins tr n y ⊎ (begun y (past tr n) ≡ false) → v ≡ y
      own v y h q (inl c) = one-to-one g v y (begins-all v h) c q
      own v y h q (inr k) = let m = g.positive v (begins-all v h) in let o = g.none y k in absurd (omega (arith, q))

  started : List ℕ
  started = put_bit (u - 1) (u - 1) ws

  started-proper : Proper started
  unfolding started
  started-proper = proper-put (u - 1) (u - 1) (omega arith) (omega arith) ws fit

  started-bit : (t v : ℕ) → bit_of started t v ≡ (bit_of ws t v || (eqb t (u - 1) && eqb v (u - 1)))
  unfolding started
  started-bit t v = puts-bit (u - 1) (u - 1) (omega arith) (omega arith) ws fit t v

  -- an entry of an event that has begun
  started-old : (t v : ℕ) → T (has t) → bit_of started (f t - 1) v ≡ bit_of ws (f t - 1) v
  started-old t v h =
      let k = under t (begins-all t h) in
      let m = g.positive t (begins-all t h) in
      let d : f t - 1 ≡ u - 1 → ⊥ = λ q. omega (arith, q) in
      started-bit (f t - 1) v ∙ ap (λ (y : Bool). bit_of ws (f t - 1) v || (y && eqb v (u - 1))) (ne_eqb (f t - 1) (u - 1) d)
      ∙ sym (or_no (bit_of ws (f t - 1) v))

  s₀ : Scan
  s₀ = record { reach = λ k y. false; row = λ t. false; stuck = false }

  tells₀ : Tells f u (table tr n) has (bit_of started) started (zeros 64) s₀
  unfolding s₀
  tells₀ = record {
    proper = started-proper;
    room = no-sets-room;
    rows = λ t v h k. started-old t (f v - 1) h ∙ tells t v (begins-all t h) (begins-all v k);
    frame = λ t v d. refl;
    itself =
        started-bit (u - 1) (u - 1)
        ∙ passed _ (or_right (bit_of ws (u - 1) (u - 1)) (eqb (u - 1) (u - 1) && eqb (u - 1) (u - 1)) (both_own (eq-eqb (u - 1) (u - 1) refl)));
    own = λ t h. started-old t (u - 1) h ∙ empty (f t - 1);
    reaches = λ k y c d h. no_member 64 (k - 16) (f y - 1);
    row_closed = λ t p h k. absurd k;
    reach_closed = λ k t p h c. absurd c;
  }
    where
      both_own : eqb (u - 1) (u - 1) ≡ true → T (eqb (u - 1) (u - 1) && eqb (u - 1) (u - 1))
      both_own q = rw q tt

  pub walk-decides : (walk tr f e u (last_send tr e n) (put_bit (u - 1) (u - 1) ws) (zeros 64)).stuck ≡ blocked_for tr n e
  unfolding started s₀
  walk-decides =
      let l = last-noted tr e n in
      ap (λ (y : Walked). y.stuck) (sym (walk-skips tr f e u (put_bit (u - 1) (u - 1) ws) n (last_send tr e n) l.0 l.1))
      ∙ (walks (bit_of started) ready n (omega arith) started (zeros 64) s₀ refl tells₀).stuck_same
      ∙ row-aside tr n e (λ t. false)

-- Records that pass 4 to 8, none of whose begins 31 refuses, and where there is room for one more event action.
module _ (tr : List Record) (lawful : (i : ℕ) → i < length tr → Lawful tr i) (few : begins (past tr (length tr)) ≤ 1023) (small : length tr ≤ 65535)
    (accepted : (i : ℕ) → i < length tr → T (is_begin (at tr i)) → Blocked tr i → ⊥) where
  abbrev n : ℕ
  n = length tr

  abbrev count : ℕ
  count = begins (past tr (length tr))

  abbrev f : ℕ → ℕ
  f = rank_in (ranks_of tr)

  abbrev done : FilledTable
  done = fill_from tr (rank_in (ranks_of tr)) 0 (length tr) (zeros 8704) (zeros 1025)

  by_rank : Ranked tr f n
  unfolding ranks_of
  by_rank = ranked tr n lawful (omega arith)

  under : (x : ℕ) → Begins tr n x → f x ≤ count
  unfolding ranks_of
  under x b = ranks-reach tr n lawful (omega arith) x b

  decides : Decides tr f n done
  decides = fill-decides by_rank lawful small

  to_the_end : done.stop ≡ n
  to_the_end = go (lt-or-ge done.stop n)
    where
      go : (done.stop < n) ⊎ (n ≤ done.stop) → done.stop ≡ n
      go (inl h) = let r = (order-decided decides).refused_there h in absurd (accepted done.stop h r.0 r.1)
      go (inr h) = let k = decides.inside in omega arith

  all_sound : Sound tr n
  all_sound = subst (Sound tr) to_the_end decides.sound

  module _ (e : ℕ) where
    abbrev last : ℕ
    last = last_send tr e (length tr)

    table-told : table_blocked tr f last e count ≡ blocked_for tr n e
    table-told =
        let w = fill-whole by_rank lawful small to_the_end in
        let q : count + 1 - 1 ≡ count = omega arith in
        sym (by-table tr f last e count few)
        ∙ ap (λ (k : ℕ). (walk tr f e (count + 1) last (put_bit k k done.words) (zeros 64)).stuck) (sym q)
        ∙ walk-decides by_rank all_sound e (count + 1) (λ x b. let k = under x b in omega arith) (omega arith) (omega arith) done.words w.0
        (decides.tells to_the_end) (λ t. w.1 t (count + 1 - 1) past-ranks)
      where
        past-ranks : (x : ℕ) → Begins tr n x → count + 1 - 1 ≢ f x - 1
        past-ranks x b q = let k = under x b in let m = by_rank.positive x b in omega (arith, q)

    begin-told : begin_blocked tr e ≡ blocked_for tr n e
    begin-told = go (decide_eq last 0) (decide (may tr f e last (zeros 4)))
      where
        go : (last ≡ 0) ⊎ (last ≢ 0) → (may tr f e last (zeros 4) ≡ true) ⊎ (may tr f e last (zeros 4) ≡ false) → begin_blocked tr e ≡ blocked_for tr n e
        go (inl z) _ = sym (blocked-none tr e last (ranks_of tr) refl z) ∙ sym (no-send-free tr f n e z)
        go (inr d) (inr m) = sym (blocked-free tr e last (ranks_of tr) refl d refl m) ∙ sym (may-not-free tr f n e by_rank.none m)
        go (inr d) (inl m) = sym (blocked-told tr e last (ranks_of tr) refl d refl m count refl) ∙ table-told

    pub begin-decided : BeginDecides tr e (begin_blocked tr e)
    begin-decided =
        let k = refusal-decides all_sound e in
        record { computed = begin-told; literal = (λ h. k.0 (subst T begin-told h), λ h. subst T (sym begin-told) (k.1 h)) }
