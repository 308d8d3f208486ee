-- The list of ranks gives each event's rank.
-- Assumes nothing.
use Prim.Native.Nat.{ℕ, zero, suc, ◌+◌, ◌%◌, ◌<◌, ◌≤◌}
use mathlib.Core.Path.{◌≡◌, refl, sym, ◌∙◌}
use mathlib.Core.Bool.{Bool, true, false, cond, ◌&&◌}
use mathlib.Core.List.{List}
use native.Mathlib.Omega.{arith}
use native.Mathlib.Decide.{ℕ_discrete, dec_lt}
use borrow.Author.Tests.{eq-eqb, ne_eqb}
use lib.Dec.{eqb}
use lib.ListN.{length, get_or, get_or-replicate, get_or-eq_default}
use lib.Seq.{get_or-set_same, get_or-set_other, set_out}
use Rattle.records.specs.declared.Record.{Record}
use Rattle.records.specs.Records.{at, past, is_begin}
use Rattle.trace.specs.Reading.{Acceptable}
use Rattle.trace.proofs.Blocks.{passes_at}
use Rattle.trace.proofs.Marked.{formed}
use Rattle.trace.proofs.Going.{in_range}
use Rattle.ranks.specs.OrderingOf.{ordering_of}
use Rattle.order.specs.Rank.{rank_in, rank}
use Rattle.order.specs.loops.RecordLinks.{ordering_at}
use Rattle.slices.specs.Slices.{filled}
use Rattle.ranks.specs.Ranks.{with_rank, rank_if, ranks_upto, ranks_of}
use Rattle.ranks.proofs.RankLaws.{ranks-length}
use Rattle.order.proofs.Counted.{counted, counted-zero, counted-begin, counted-other}
use Rattle.order.proofs.TraceOrder.{rank-begins}

module _ (tr : List Record) where
  few : (i : ℕ) → counted tr i ≤ i
  few zero = omega (arith, counted-zero tr)
  few (suc i) = go (ℕ_discrete (at tr i).kind 1) (few i)
    where
      go : Dec ((at tr i).kind ≡ 1) → counted tr i ≤ i → counted tr (suc i) ≤ suc i
      go (yes k) h = omega (arith, counted-begin tr i k)
      go (no n) h = omega (arith, counted-other tr i n)

  set_here : (m : List ℕ) (e f k : ℕ) → k < 65536 → e < length m → Dec (f ≡ e) → (x : ℕ) → get_or m f 0 ≡ x → get_or (with_rank m e k) f 0 ≡ cond (eqb e f) k x
  unfolding with_rank
  set_here m e f k l h (yes p) x q =
      let small : k % 65536 ≡ k = omega arith in
      rw (p, eq-eqb e e refl, get_or-set_same m e (k % 65536) 0 h) small
  set_here m e f k l h (no n) x q = rw (ne_eqb e f (λ p. n (sym p)), get_or-set_other m e f (k % 65536) 0 n) q

  step-at : (b : Bool) (m : List ℕ) (e f k : ℕ) → k < 65536 → length m ≡ 1025 → f < 1025 → (x : ℕ) → get_or m f 0 ≡ x → get_or (rank_if b m e k) f 0 ≡ cond (b && eqb e f) k x
  unfolding with_rank
  step-at false m e f k l h g x q = q
  step-at true m e f k l h g x q = go (dec_lt e 1025)
    where
      go : Dec (e < 1025) → get_or (with_rank m e k) f 0 ≡ cond (eqb e f) k x
      go (yes y) = set_here m e f k l (omega arith) (ℕ_discrete f e) x q
      go (no y) = past_end (omega arith)
        where
          past_end : length m ≤ e → get_or (with_rank m e k) f 0 ≡ cond (eqb e f) k x
          past_end z = rw (set_out m e (k % 65536) z, ne_eqb e f (λ p. omega arith)) q

  ranks-at : (i e : ℕ) → i < 65535 → e < 1025 → get_or (ranks_upto tr i) e 0 ≡ rank_in e (past tr i)
  unfolding ranks_upto filled rank_in past
  ranks-at zero e l h = get_or-replicate {A = ℕ} 1025 e 0 0 h
  ranks-at (suc i) e l h =
      let f = few i in
      step-at (is_begin (at tr i)) (ranks_upto tr i) (at tr i).first e (counted tr i + 1) (omega arith) (ranks-length tr i) h (rank_in e (past tr i)) (ranks-at i e (omega arith) h)

-- of an acceptable trace
module _ {tr : List Record} (a : Acceptable tr) where
  -- no event above 1,024 begins
  no-rank : (e : ℕ) → 1025 ≤ e → Dec (rank tr e ≡ 0) → rank tr e ≡ 0
  no-rank e h (yes z) = z
  no-rank e h (no n) =
      let b = rank-begins a e n in
      let r = at tr b.position in
      let f = (formed r (passes_at a b.position b.inside).well-formed).0 in
      let s = in_range r.first f in
      absurd (omega (arith, b.of_event))

  pub ranks_are : (e : ℕ) → get_or (ranks_of tr) e 0 ≡ rank tr e
  unfolding ranks_of rank
  ranks_are e = go (dec_lt e 1025)
    where
      go : Dec (e < 1025) → get_or (ranks_upto tr (length tr)) e 0 ≡ rank_in e (past tr (length tr))
      go (yes h) = let l = a.few in ranks-at tr (length tr) e (omega arith) h
      go (no h) = get_or-eq_default (ranks_upto tr (length tr)) 0 (omega (arith, ranks-length tr (length tr))) ∙ sym (no-rank e (omega arith) (ℕ_discrete (rank tr e) 0))

  -- so what a record says by the list is what it says
  pub ops-are : (i : ℕ) → ordering_of (λ e. get_or (ranks_of tr) e 0) (at tr i) ≡ ordering_at tr i
  unfolding ordering_at ordering_of
  ops-are i = simp ranks_are
