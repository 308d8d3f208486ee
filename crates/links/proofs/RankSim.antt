-- The ranks that are filled in are ranks in begin order, and so the whole is decided. Assumes nothing.
use Prim.Native.Nat.{ℕ, zero, suc, ◌+◌, ◌%◌, ◌≤◌, ◌<◌}
use mathlib.Core.Path.{◌≡◌, sym, ap, ◌∙◌, subst}
use mathlib.Core.Logic.{◌≢◌, ◌⊎◌, inl, inr}
use mathlib.Core.Bool.{true, false}
use mathlib.Core.List.{List}
use native.Mathlib.Omega.{arith}
use native.Mathlib.Nat.{mod-eq_of_lt}
use lib.Dec.{T}
use lib.ListN.{length, get_or, set, length-set}
use lib.Seq.{get_or-set_same, get_or-set_other}
use Rattle.slices.proofs.Tests.{decide_eq, passed}
use Rattle.records.specs.declared.Record.{Record}
use Rattle.records.specs.Records.{at, past, is_begin, begun, begins}
use Rattle.records.proofs.Positions.{decide, true-not-false}
use Rattle.ranks.specs.Ranks.{with_rank, ranks_upto, ranks_of}
use Rattle.ranks.proofs.RankLaws.{ranks-length}
use Rattle.bits.proofs.RowLaws.{zeros-word}
use Rattle.precedence.specs.Before.{Begins}
use Rattle.precedence.specs.Sound.{Sound}
use Rattle.precedence.proofs.Rows.{begins-later, begins-begun, begun-or-not}
use Rattle.precedence.proofs.Theorems.{shorter, table-decides, refusal-decides}
use Rattle.links.specs.Rule.{rank_in}
use Rattle.links.specs.Fill.{FilledTable, fill_all}
use Rattle.links.specs.Promise.{Lawful, Ranked, Decides, DecidesOrder}
use Rattle.links.proofs.WalkSim.{holds}
use Rattle.links.proofs.FillSim.{fill-decides}

module _ (tr : List Record) where
  abbrev count : ℕ → ℕ
  count i = begins (past tr i)

  count-begin : (i : ℕ) → is_begin (at tr i) ≡ true → count (suc i) ≡ suc (count i)
  unfolding begins past
  count-begin i h = let k : count i + 1 ≡ suc (count i) = omega arith in rw h k

  count-other : (i : ℕ) → is_begin (at tr i) ≡ false → count (suc i) ≡ count i
  unfolding begins past
  count-other i h = rw h

  count-up : (i : ℕ) → count i ≤ count (suc i)
  count-up i = go (decide (is_begin (at tr i)))
    where
      go : (is_begin (at tr i) ≡ true) ⊎ (is_begin (at tr i) ≡ false) → count i ≤ count (suc i)
      go (inl h) = let k = count-begin i h in omega arith
      go (inr h) = let k = count-other i h in omega arith

  count-rises : (i j : ℕ) → i ≤ j → count i ≤ count j
  count-rises i zero l = let q : i ≡ 0 = omega arith in rw q (omega arith)
  count-rises i (suc j) l = go (decide_eq i (suc j)) (count-rises i j)
    where
      go : (i ≡ suc j) ⊎ (i ≢ suc j) → (i ≤ j → count i ≤ count j) → count i ≤ count (suc j)
      go (inl q) g = rw q (omega arith)
      go (inr d) g = let k = g (omega (arith, d)) in let m = count-up j in omega arith

  -- the ranks after i records
  record RanksAre (i : ℕ) (all : List ℕ) : Type 0 where
    room : length all ≡ 1025
    none : (x : ℕ) → begun x (past tr i) ≡ false → get_or all x 0 ≡ 0
    some : (x : ℕ) (b : Begins tr i x) → get_or all x 0 ≡ suc (count b.position)

  abbrev RanksTo : ℕ → Type 0
  RanksTo i = RanksAre i (ranks_upto tr i)

  upto-other : (i : ℕ) → is_begin (at tr i) ≡ false → ranks_upto tr i ≡ ranks_upto tr (suc i)
  unfolding ranks_upto
  upto-other i h = rw h

  upto-begin : (i : ℕ) → is_begin (at tr i) ≡ true → set (ranks_upto tr i) (at tr i).first ((count i + 1) % 65536) ≡ ranks_upto tr (suc i)
  unfolding ranks_upto with_rank
  upto-begin i h = rw h

  ranks-zero : RanksTo 0
  unfolding ranks_upto
  ranks-zero = record { room = ranks-length tr 0; none = λ x h. zeros-word 1025 x; some = λ x b. let k = b.inside in absurd (omega arith) }

  module _ (i : ℕ) (x : Lawful tr i) (small : count i < 65535) (z : RanksTo i) where
    abbrev e : ℕ
    e = (at tr i).first

    not-later : (v : ℕ) → Begins tr i v → Begins tr (suc i) v
    not-later v b = begins-later tr (omega arith) b

    fresh-none : (v : ℕ) → begun v (past tr (suc i)) ≡ false → begun v (past tr i) ≡ false
    fresh-none v h = go (begun-or-not tr v i)
      where
        go : Begins tr i v ⊎ (begun v (past tr i) ≡ false) → begun v (past tr i) ≡ false
        go (inr k) = k
        go (inl b) = absurd (true-not-false (begins-begun tr v (suc i) (not-later v b)) h)

    ranks-other : is_begin (at tr i) ≡ false → RanksTo (suc i)
    ranks-other h = subst (RanksAre (suc i)) (upto-other i h) (record {
      room = z.room;
      none = λ v k. z.none v (fresh-none v k);
      some = λ v b. z.some v (record { position = b.position; inside = inside' v b; is-begin = b.is-begin; of_event = b.of_event });
    })
      where
        inside' : (v : ℕ) (b : Begins tr (suc i) v) → b.position < i
        inside' v b = go (decide_eq b.position i)
          where
            go : (b.position ≡ i) ⊎ (b.position ≢ i) → b.position < i
            go (inl q) = absurd (subst T h (subst (λ (m : ℕ). T (is_begin (at tr m))) q b.is-begin))
            go (inr d) = let k = b.inside in omega (arith, d)

    ranks-begin : is_begin (at tr i) ≡ true → RanksTo (suc i)
    ranks-begin h = subst (RanksAre (suc i)) (upto-begin i h) (record {
      room = length-set (ranks_upto tr i) e ((count i + 1) % 65536) ∙ z.room;
      none = λ v k. none' v k (decide_eq v e);
      some = λ v b. some' v b (decide_eq v e) (decide_eq b.position i);
    })
      where
        none' : (v : ℕ) → begun v (past tr (suc i)) ≡ false → (v ≡ e) ⊎ (v ≢ e) → get_or (set (ranks_upto tr i) e ((count i + 1) % 65536)) v 0 ≡ 0
        none' v k (inl q) =
            absurd (true-not-false (begins-begun tr v (suc i) (record { position = i; inside = omega arith; is-begin = holds h; of_event = sym q })) k)
        none' v k (inr d) = get_or-set_other (ranks_upto tr i) e v ((count i + 1) % 65536) 0 d ∙ z.none v (fresh-none v k)

        some' : (v : ℕ) (b : Begins tr (suc i) v) → (v ≡ e) ⊎ (v ≢ e) → (b.position ≡ i) ⊎ (b.position ≢ i)
            → get_or (set (ranks_upto tr i) e ((count i + 1) % 65536)) v 0 ≡ suc (count b.position)
        some' v b (inl q) (inl p) =
            let r = z.room in
            let y = x.in_range (holds h) in
            let k : (count i + 1) % 65536 ≡ count i + 1 = mod-eq_of_lt (omega arith) in
            let m : count i + 1 ≡ suc (count i) = omega arith in
            ap (λ (w : ℕ). get_or (set (ranks_upto tr i) e ((count i + 1) % 65536)) w 0) q
            ∙ get_or-set_same (ranks_upto tr i) e ((count i + 1) % 65536) 0 (omega arith) ∙ k ∙ m ∙ ap (λ (w : ℕ). suc (count w)) (sym p)
        some' v b (inl q) (inr p) =
            let k = b.inside in
            let c : Begins tr i v = record { position = b.position; inside = omega (arith, p); is-begin = b.is-begin; of_event = b.of_event } in
            absurd (true-not-false (begins-begun tr e i (subst (Begins tr i) q c)) (x.begin_fresh (holds h)))
        some' v b (inr d) (inl p) = absurd (d (sym b.of_event ∙ ap (λ (m : ℕ). (at tr m).first) p))
        some' v b (inr d) (inr p) =
            let k = b.inside in
            get_or-set_other (ranks_upto tr i) e v ((count i + 1) % 65536) 0 d
            ∙ z.some v (record { position = b.position; inside = omega (arith, p); is-begin = b.is-begin; of_event = b.of_event })

    ranks-next : RanksTo (suc i)
    ranks-next = go (decide (is_begin (at tr i)))
      where
        go : (is_begin (at tr i) ≡ true) ⊎ (is_begin (at tr i) ≡ false) → RanksTo (suc i)
        go (inl h) = ranks-begin h
        go (inr h) = ranks-other h

  module _ (n : ℕ) (lawful : (i : ℕ) → i < n → Lawful tr i) (few : count n ≤ 1024) where
    ranks-all : (i : ℕ) → i ≤ n → RanksTo i
    ranks-all zero l = ranks-zero
    ranks-all (suc i) l =
        let k = count-rises i n (omega arith) in
        ranks-next i (lawful i l) (omega arith) (ranks-all i (omega arith))

    above : (x : ℕ) (b : Begins tr n x) → suc (count b.position) ≤ count n
    above x b =
        let k = count-begin b.position (passed (is_begin (at tr b.position)) b.is-begin) in
        let m = count-rises (suc b.position) n b.inside in
        omega arith

    -- no rank is past the number of begins
    pub ranks-reach : (x : ℕ) → Begins tr n x → rank_in (ranks_upto tr n) x ≤ count n
    ranks-reach x b = let k = (ranks-all n (omega arith)).some x b in let m = above x b in omega arith

    pub ranked : Ranked tr (rank_in (ranks_upto tr n)) n
    ranked =
        let z = ranks-all n (omega arith) in
        record {
          positive = λ x b. let k = z.some x b in omega arith;
          within = λ x b. let k = z.some x b in let m = above x b in omega arith;
          none = z.none;
          rises = λ x y b c h. let k = z.some x b in let m = z.some y c in let o = steps x y b c h in omega arith;
        }
      where
        steps : (x y : ℕ) (b : Begins tr n x) (c : Begins tr n y) → b.position < c.position → suc (count b.position) ≤ count c.position
        steps x y b c h =
            let k = count-begin b.position (passed (is_begin (at tr b.position)) b.is-begin) in
            let m = count-rises (suc b.position) c.position h in
            omega arith

-- all records of a trace that pass 4 to 8
pub all-decided : (tr : List Record) → ((i : ℕ) → i < length tr → Lawful tr i) → begins (past tr (length tr)) ≤ 1024 → length tr ≤ 65535
    → Decides tr (rank_in (ranks_of tr)) (length tr) (fill_all tr)
unfolding fill_all ranks_of
all-decided tr lawful few small = fill-decides (ranked tr (length tr) lawful few) lawful small

-- in the documents' words
module _ {tr : List Record} {f : ℕ → ℕ} {n : ℕ} {done : FilledTable} (d : Decides tr f n done) where
  pub order-decided : DecidesOrder tr f n done
  order-decided = record {
    free_before = λ i l b k.
        let m : i ≤ done.stop = omega arith in
        let s = shorter m d.sound in
        subst T (d.sound.unblocked i l b) ((refusal-decides s (at tr i).first).1 k);
    refused_there = λ l. let r = d.refuses l in (r.0, (refusal-decides d.sound (at tr done.stop).first).0 (holds r.1));
    happens-before = λ q t u b c.
        let e = d.tells q t u b c in
        let s = subst (Sound tr) q d.sound in
        let k = table-decides s t u c in
        (λ h. k.0 (subst T e h), λ h. subst T (sym e) (k.1 h));
  }

pub trace-decided : (tr : List Record) → ((i : ℕ) → i < length tr → Lawful tr i) → begins (past tr (length tr)) ≤ 1024 → length tr ≤ 65535
    → DecidesOrder tr (rank_in (ranks_of tr)) (length tr) (fill_all tr)
trace-decided tr lawful few small = order-decided (all-decided tr lawful few small)
