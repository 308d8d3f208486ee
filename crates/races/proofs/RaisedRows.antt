-- The row of one event action while it is raised: when a second access is met it is the cover clock's row there, and at the end the cover clock's row.
-- Assumes nothing.
use Prim.Native.Nat.{ℕ, suc, ◌+◌, ◌≤◌, ◌<◌, max}
use mathlib.Core.Path.{◌≡◌, sym, ap, ◌∙◌}
use mathlib.Core.Logic.{◌≢◌, ◌⊎◌, inl, inr}
use mathlib.Core.Bool.{Bool}
use mathlib.Core.List.{List}
use native.Mathlib.Omega.{arith}
use lib.Dec.{T, eqb, eqb→eq}
use lib.ListN.{length}
use Rattle.records.specs.declared.Record.{Record}
use Rattle.records.specs.Records.{at}
use Rattle.trace.specs.Reading.{Acceptable}
use Rattle.trace.proofs.Blocks.{apart}
use Rattle.coverage.specs.loops.Whole.{Edges}
use Rattle.order.specs.Links.{leq}
use Rattle.order.specs.Chains.{bit, used}
use Rattle.order.specs.loops.Sets.{is_in}
use Rattle.order.specs.Clocks.{chain_of, entry, largest}
use Rattle.order.specs.HappensBefore.{Link, trace_links}
use Rattle.order.specs.Rank.{rank}
use Rattle.order.specs.loops.Numbering.{Firsts, whole_of, cover_row, cover_row_at}
use Rattle.order.proofs.CountLaws.{count_none}
use Rattle.order.proofs.ChainLaws.{chain-below, used-le-self}
use Rattle.order.proofs.SetLaws.{row_count}
use Rattle.slices.proofs.Tests.{both, decide-lt}
use Rattle.order.proofs.CoverRows.{cover-first, cover-none, cover-next, cover-last, start-in-place}
use Rattle.races.specs.Traces.{setting_of}
use Rattle.races.proofs.Instance.{laws}
use Rattle.races.proofs.CoverNumbers.{events, name_of, number, Tested, named, numbered, in_order, preds, direct, clock-is, number-name}

module _ (tr : List Record) where
  -- the cover clock's row of u; and at its record x
  abbrev pub final : ℕ → ℕ → ℕ
  final u c = cover_row (setting_of tr) (name_of tr) (chain_of (trace_links tr)) u c

  abbrev pub final_at : ℕ → ℕ → ℕ → ℕ
  final_at x u c = cover_row_at (setting_of tr) (name_of tr) (chain_of (trace_links tr)) x u c

  -- Row t, of which the edges with a second before y are merged.
  pub record Raised (e : ℕ → ℕ → Bool) (t y : ℕ) (row : ℕ → ℕ) : Type 0 where
    pub here : (x c : ℕ) → x < length tr → number tr x ≡ t → y ≤ x → ((p d : ℕ) → T (e p d) → number tr d ≡ t → y ≤ d → x ≤ d) → row c ≡ final_at x t c
    pub ends : (c : ℕ) → ((p d : ℕ) → T (e p d) → number tr d ≡ t → y ≤ d → ⊥) → row c ≡ final t c

  -- a row is 0 past the chains of those up to its own, so past its own number
  pub final-zero : (u c : ℕ) → used (leq (trace_links tr)) (suc u) ≤ c → final u c ≡ 0
  final-zero u c h =
      let set = whole_of (setting_of tr) (name_of tr) u in
      row_count (chain_of (trace_links tr)) set (suc u) c
      ∙ count_none (is_in (chain_of (trace_links tr)) set c) (suc u) (λ s k t. let e = eqb→eq (chain_of (trace_links tr) s) c (both (eqb (chain_of (trace_links tr) s) c) (set s) t).0 in omega (arith, chain-below (leq (trace_links tr)) s (suc u) k))

  pub final-short : (u c chains : ℕ) → used (leq (trace_links tr)) (suc u) ≤ chains → (chains ≤ c) ⊎ (u < c) → final u c ≡ 0
  final-short u c chains h (inl k) = final-zero u c (omega arith)
  final-short u c chains h (inr k) = final-zero u c (omega (arith, used-le-self (leq (trace_links tr)) (suc u)))

module _ {tr : List Record} (a : Acceptable tr) where
  pub number_of : (x u : ℕ) → u < events tr → (at tr x).first ≡ name_of tr u → number tr x ≡ u
  number_of x u h e = let r = ap (rank tr) e ∙ named a u h in omega arith

  pub name-of : (x u : ℕ) → x < length tr → number tr x ≡ u → (at tr x).first ≡ name_of tr u
  name-of x u h e = (number-name a x h).1 ∙ ap (name_of tr) e

  -- records go through the event actions in order of begin
  pub number-mono : (x y : ℕ) → x ≤ y → y < length tr → number tr x ≤ number tr y
  number-mono x y h k = go (decide-lt (number tr y) (number tr x))
    where
      go : (number tr y < number tr x) ⊎ (number tr x ≤ number tr y) → number tr x ≤ number tr y
      go (inr l) = l
      go (inl l) =
          let (i, p) = number-name a x (omega arith) in
          let (j, q) = number-name a y k in
          let n = numbered a in
          let d : (at tr (n.place (number tr y))).first ≢ (at tr (n.place (number tr x))).first = λ z. omega (arith, n.distinct (number tr y) (number tr x) j i (sym (n.at (number tr y) j) ∙ z ∙ n.at (number tr x) i)) in
          let b = apart a (n.place (number tr y)) y (n.place (number tr x)) x k (n.inside (number tr x) i) (n.at (number tr y) j ∙ sym q) (n.at (number tr x) i ∙ sym p) d (n.rising (number tr y) (number tr x) l i) in
          absurd (omega arith)

  module _ (e : ℕ → ℕ → Bool) (es : Edges (setting_of tr) (Tested tr e)) (t : ℕ) (i : t < events tr) where
    -- by name, as the laws of the rows say it
    by_name : (p d : ℕ) → T (e p d) → (at tr d).first ≡ name_of tr t → number tr d ≡ t
    by_name p d h q = number_of d t i q

    -- at its begin: the row that was filled, merged with the rows of its direct predecessors
    pub raised-start : (y : ℕ) → ((p d : ℕ) → T (e p d) → number tr d ≡ t → y ≤ d) → (row : ℕ → ℕ) → ((c : ℕ) → row c ≡ max (entry (trace_links tr) t c) (largest ((trace_links tr).preds t) (λ p. final tr p c))) → Raised tr e t y row
    raised-start y f row r = record {
      here = λ x c k n l g. start c ∙ sym (cover-first (setting_of tr) (laws a) (events tr) (name_of tr) (chain_of (trace_links tr)) (numbered a) (in_order a) (Link tr) (Tested tr e) (direct a) es t i x k (name-of x t k n) (λ p d h q. g p d h (by_name p d h q) (f p d h (by_name p d h q))) ((trace_links tr).preds t) (preds a t i) c);
      ends = λ c g. start c ∙ sym (cover-none (setting_of tr) (laws a) (events tr) (name_of tr) (chain_of (trace_links tr)) (numbered a) (in_order a) (Link tr) (Tested tr e) (direct a) es t i (λ p d h q. g p d h (by_name p d h q) (f p d h (by_name p d h q))) ((trace_links tr).preds t) (preds a t i) c);
    }
      where
        start : (c : ℕ) → row c ≡ largest ((trace_links tr).preds t) (λ p. final tr p c) + bit (eqb (chain_of (trace_links tr) t) c)
        start c = r c ∙ ap (λ x. max x (largest ((trace_links tr).preds t) (λ p. final tr p c))) (sym (clock-is a t c i)) ∙ start-in-place (setting_of tr) (laws a) (events tr) (name_of tr) (chain_of (trace_links tr)) (numbered a) (in_order a) (Link tr) (Tested tr e) (direct a) es t i ((trace_links tr).preds t) (preds a t i) c

    -- after second access b: merged with the rows of the firsts of its edges
    pub raised-next : {y : ℕ} {row : ℕ → ℕ} → Raised tr e t y row → (b : ℕ) → b < length tr → number tr b ≡ t → y ≤ b → ((p d : ℕ) → T (e p d) → number tr d ≡ t → y ≤ d → b ≤ d) → (vs : List ℕ) → Firsts (setting_of tr) (name_of tr) (Tested tr e) t b vs → (row' : ℕ → ℕ) → ((c : ℕ) → row' c ≡ max (row c) (largest vs (λ v. final tr v c))) → Raised tr e t (suc b) row'
    raised-next {y} {row} r b j n l g vs fs row' r' = record {
      here = λ x c k m q h. merged c ∙ sym (cover-next (setting_of tr) (laws a) (events tr) (name_of tr) (chain_of (trace_links tr)) (numbered a) (in_order a) (Link tr) (Tested tr e) (direct a) es t i b j (name-of b t j n) vs fs x q k (name-of x t k m) (λ p d w z v. upto x h p d w (by_name p d w z) v) c);
      ends = λ c h. merged c ∙ sym (cover-last (setting_of tr) (laws a) (events tr) (name_of tr) (chain_of (trace_links tr)) (numbered a) (in_order a) (Link tr) (Tested tr e) (direct a) es t i b j (name-of b t j n) vs fs (λ p d w z. let k : suc b ≤ d → ⊥ = h p d w (by_name p d w z) in omega (arith, k)) c);
    }
      where
        merged : (c : ℕ) → row' c ≡ max (final_at tr b t c) (largest vs (λ v. final tr v c))
        merged c = r' c ∙ ap (λ x. max x (largest vs (λ v. final tr v c))) (r.here b c j n l g)

        upto : (x : ℕ) → ((p d : ℕ) → T (e p d) → number tr d ≡ t → suc b ≤ d → x ≤ d) → (p d : ℕ) → T (e p d) → number tr d ≡ t → d < x → d ≤ b
        upto x h p d w z v = let k : suc b ≤ d → ⊥ = λ m. omega (arith, h p d w z m) in omega (arith, k)
