-- The event actions of an acceptable trace, numbered in order of begin: the theory of cover clocks holds of them, over the chains and links of
-- the order question. Assumes nothing.
use Prim.Native.Nat.{ℕ, suc, ◌-◌, ◌≤◌, ◌<◌}
use mathlib.Core.Path.{◌≡◌, refl, sym, ap, ◌∙◌, subst}
use mathlib.Core.Logic.{◌↔◌}
use mathlib.Core.Bool.{Bool, ◌&&◌}
use mathlib.Core.List.{List, map, Memᴰ}
use native.Mathlib.Omega.{arith}
use native.Mathlib.Nat.{suc_inj}
use lib.Dec.{T}
use lib.ListN.{length}
use Rattle.records.specs.declared.Record.{Record}
use Rattle.records.specs.Records.{at}
use Rattle.trace.specs.Reading.{Acceptable}
use Rattle.coverage.specs.Leading.{coveredb}
use Rattle.coverage.specs.Below.{Listed, upto}
use Rattle.coverage.specs.Race.{Race, raceb}
use Rattle.coverage.specs.Neighbours.{neighbour}
use Rattle.coverage.specs.Lists.{short_list}
use Rattle.coverage.specs.loops.Whole.{Edges, Direct, taken}
use Rattle.slices.proofs.Tests.{both, and}
use Rattle.coverage.proofs.Lists.{in_map, map-in, in-upto, upto-in}
use Rattle.coverage.proofs.Order.{race-of, of-race}
use Rattle.coverage.proofs.Short.{neighbour-iff}
use Rattle.coverage.proofs.Pairs.{in-short}
use Rattle.coverage.proofs.WholeSteps.{links-direct}
use Rattle.coverage.proofs.WholeEdges.{taken-test-edges}
use Rattle.order.specs.Links.{leq}
use Rattle.order.specs.Clocks.{chain_of, entry}
use Rattle.order.specs.HappensBefore.{Link, trace_links, happens_before}
use Rattle.order.specs.Rank.{rank}
use Rattle.order.specs.loops.Numbering.{Numbered, InOrder, Preds, Firsts, clock_row, cover_row}
use Rattle.order.specs.loops.Raising.{row_after, row_so_far, start_of, Seconds, records_from}
use Rattle.order.proofs.OrderLaws.{≼→leq, leq→≼}
use Rattle.order.proofs.ClockLaws.{chain-≼, clock}
use Rattle.order.proofs.SetLaws.{row_same, row_count}
use Rattle.order.proofs.CoverRows.{race-earlier}
use Rattle.order.proofs.RaisingLaws.{all-seconds, in-seconds, raised, marked}
use Rattle.order.proofs.Counted.{counted, counted-more, counted-passes}
use Rattle.order.proofs.TraceOrder.{record-begins, begins-rank, begins-at, forward-links, rank-one, link-ranked, linked-named, up, down, happens-before, before-happens}
pub use Rattle.order.proofs.EventRows.{events, name_of}
pub use Rattle.order.proofs.TraceOrder.{named}
use Rattle.order.proofs.EventRows.{begin_of, begun}
use Rattle.races.specs.Traces.{setting_of, cells_of}
use Rattle.races.proofs.Instance.{laws, links, go_on}

module _ {tr : List Record} (a : Acceptable tr) where
  pub numbered : Numbered (setting_of tr) (events tr) (name_of tr)
  numbered = record {
    place = begin_of tr;
    inside = λ r h. (begun tr r h).inside;
    at = λ r h. refl;
    distinct = λ r s h k e. suc_inj (sym (named a r h) ∙ ap (rank tr) e ∙ named a s k);
    rising = rising;
  }
    where
      rising : (r s : ℕ) → r < s → s < events tr → begin_of tr r < begin_of tr s
      rising r s h k =
          let x = (begun tr r (omega arith)).number in
          let y = (begun tr s k).number in
          let g : begin_of tr s ≤ begin_of tr r → ⊥ = λ z. omega (arith, counted-more tr (begin_of tr s) (begin_of tr r) z) in
          omega (arith, g)

  -- happens-before by number
  pub by_number : (s r : ℕ) → s < events tr → r < events tr → T (leq (trace_links tr) s r) ↔ T (happens_before tr (name_of tr s) (name_of tr r))
  by_number s r h k = (λ x. happens-before a _ _ (down a (name_of tr s) (name_of tr r) (named a s h) (named a r k) (leq→≼ (trace_links tr) (forward-links a) s r x)), back)
    where
      back : T (happens_before tr (name_of tr s) (name_of tr r)) → T (leq (trace_links tr) s r)
      back x =
          let (q, e, y) = up a s (named a s h) (before-happens a (name_of tr s) (name_of tr r) x) in
          let z : q ≡ r = suc_inj (sym e ∙ named a r k) in
          ≼→leq (trace_links tr) (forward-links a) (rw z at y)

  pub in_order : InOrder (setting_of tr) (events tr) (name_of tr) (chain_of (trace_links tr))
  in_order s r h k e = (by_number s r (omega arith) k).0 (≼→leq (trace_links tr) (forward-links a) (chain-≼ (trace_links tr) (forward-links a) s r h e))

  pub preds : (u : ℕ) → u < events tr → Preds (name_of tr) (Link tr) u ((trace_links tr).preds u)
  preds u h = record { earlier = forward-links a u; linked = linked; all = all }
    where
      linked : (p : ℕ) → Memᴰ p ((trace_links tr).preds u) → Link tr (name_of tr p) (name_of tr u)
      linked p k =
          let n = linked-named a p u k in
          let x : n.from_event ≡ name_of tr p = rank-one a n.from_event (name_of tr p) p n.from_rank (named a p (omega (arith, forward-links a u p k))) in
          let y : n.to_event ≡ name_of tr u = rank-one a n.to_event (name_of tr u) u n.to_rank (named a u h) in
          subst (Link tr (name_of tr p)) y (subst (λ (z : ℕ). Link tr z n.to_event) x n.linked)

      all : (x : ℕ) → Link tr x (name_of tr u) → (p : ℕ) × (Memᴰ p ((trace_links tr).preds u)) × (name_of tr p ≡ x)
      all x k =
          let g = link-ranked a k in
          let e : g.to ≡ u = suc_inj (sym g.to_rank ∙ named a u h) in
          let m = subst (λ (z : ℕ). Memᴰ g.from ((trace_links tr).preds z)) e g.linked in
          (g.from, m, rank-one a (name_of tr g.from) x g.from (named a g.from (omega (arith, forward-links a u g.from m))) g.from_rank)

  pub direct : Direct (setting_of tr) (Link tr)
  direct = links-direct (setting_of tr) (laws a) (Link tr) (links a) (go_on a)

  -- the clock rows of the order question
  pub clock-is : (u c : ℕ) → u < events tr → clock_row (setting_of tr) (name_of tr) (chain_of (trace_links tr)) u c ≡ entry (trace_links tr) u c
  clock-is u c h = row_same (chain_of (trace_links tr)) (λ r. happens_before tr (name_of tr r) (name_of tr u)) (λ r. leq (trace_links tr) r u) (suc u) c (λ s k. let b = by_number s u (omega arith) h in (b.1, b.0)) ∙ row_count (chain_of (trace_links tr)) (λ r. leq (trace_links tr) r u) (suc u) c ∙ sym (clock (trace_links tr) (forward-links a) u c)

module _ (tr : List Record) where
  -- the number of a record's event action
  abbrev pub number : ℕ → ℕ
  number i = rank tr (at tr i).first - 1

  -- a test as edges; the numbers of the firsts of those into b; the records of event action u
  abbrev pub Tested : (ℕ → ℕ → Bool) → ℕ → ℕ → Type 0
  Tested e c d = T (e c d)

  abbrev pub firsts_of : (ℕ → ℕ → Bool) → ℕ → List ℕ
  firsts_of e b = map number (upto b (λ c. e c b))

  abbrev pub seconds_of : ℕ → List ℕ
  seconds_of u = records_from (setting_of tr) (name_of tr u) 0 (length tr)

module _ {tr : List Record} (a : Acceptable tr) where
  pub number-name : (i : ℕ) → i < length tr → (number tr i < events tr) × ((at tr i).first ≡ name_of tr (number tr i))
  number-name i h =
      let b = record-begins a i h in
      let e = begins-rank a b in
      let l : counted tr b.position < events tr = counted-passes tr b.position (length tr) b.inside (begins-at a b) in
      let n : number tr i < events tr = omega arith in
      let r : rank tr (at tr i).first ≡ suc (number tr i) = omega arith in
      (n, rank-one a (at tr i).first (name_of tr (number tr i)) (number tr i) r (named a (number tr i) n))

  -- what marking takes of the short list, and of the list of all races
  pub taken-short : Edges (setting_of tr) (Tested tr (taken (setting_of tr) (cells_of tr) (λ c d. neighbour (cells_of tr) c d && raceb (setting_of tr) c d)))
  taken-short = taken-test-edges (setting_of tr) (laws a) (cells_of tr) (λ c d. refl) (λ c d. neighbour (cells_of tr) c d && raceb (setting_of tr) c d) there (λ c d h. race-of (setting_of tr) c d (both (neighbour (cells_of tr) c d) (raceb (setting_of tr) c d) h).1)
    where
      there : (c d : ℕ) → Listed c d (short_list (setting_of tr) (cells_of tr)) → T (neighbour (cells_of tr) c d && raceb (setting_of tr) c d)
      there c d m = let (n, r) = (in-short (setting_of tr) (cells_of tr) c d).0 m in and (neighbour (cells_of tr) c d) (raceb (setting_of tr) c d) ((neighbour-iff (cells_of tr) c d).1 n) (of-race (setting_of tr) c d r)

  pub taken-all : Edges (setting_of tr) (Tested tr (taken (setting_of tr) (cells_of tr) (raceb (setting_of tr))))
  taken-all = taken-test-edges (setting_of tr) (laws a) (cells_of tr) (λ c d. refl) (raceb (setting_of tr)) (λ c d m. of-race (setting_of tr) c d ((in-short (setting_of tr) (cells_of tr) c d).0 m).1) (race-of (setting_of tr))

  module _ (e : ℕ → ℕ → Bool) (es : Edges (setting_of tr) (Tested tr e)) where
    firsts : (u b : ℕ) → u < events tr → b < length tr → (at tr b).first ≡ name_of tr u → Firsts (setting_of tr) (name_of tr) (Tested tr e) u b (firsts_of tr e b)
    firsts u b h k own = record { earlier = λ v m. earlier v (chosen v m); edges = λ v m. edges v (chosen v m); all = all }
      where
        chosen : (v : ℕ) → Memᴰ v (map (number tr) (upto b (λ c. e c b))) → (c : ℕ) × (c < b) × T (e c b) × (v ≡ number tr c)
        chosen v m =
            let (c, n, q) = in_map (number tr) (upto b (λ c. e c b)) m in
            let (x, y) = in-upto b (λ c. e c b) n in
            (c, x, y, q)

        name-of : (c v : ℕ) → c < b → v ≡ number tr c → (v < events tr) × ((at tr c).first ≡ name_of tr v)
        name-of c v x q = let (i, j) = number-name c (omega arith) in (omega arith, j ∙ ap (name_of tr) (sym q))

        earlier : (v : ℕ) → (c : ℕ) × (c < b) × T (e c b) × (v ≡ number tr c) → v < u
        earlier v (c, x, y, q) = let (i, j) = name-of c v x q in race-earlier (setting_of tr) (laws a) (events tr) (name_of tr) (chain_of (trace_links tr)) (numbered a) (in_order a) c b v u (es.race y) i h j own

        edges : (v : ℕ) → (c : ℕ) × (c < b) × T (e c b) × (v ≡ number tr c) → (c : ℕ) × T (e c b) × ((at tr c).first ≡ name_of tr v)
        edges v (c, x, y, q) = (c, y, (name-of c v x q).1)

        all : (c : ℕ) → T (e c b) → (v : ℕ) × Memᴰ v (map (number tr) (upto b (λ c. e c b))) × ((at tr c).first ≡ name_of tr v)
        all c y = let r = es.race y in (number tr c, map-in (number tr) (upto-in b (λ c. e c b) c r.first y), (number-name c (omega (arith, r.first))).1)

    seconds : (u : ℕ) → u < events tr → Seconds (setting_of tr) (Tested tr e) (name_of tr u) 0 (seconds_of tr u)
    seconds u h = all-seconds (setting_of tr) (Tested tr e) (λ c d m. (es.race m).inside) (name_of tr u)

    -- Rows raised along the edges are the cover clocks of the trace, and tell the mark of every race.
    module _ (R : ℕ → ℕ → ℕ) (law : (u : ℕ) → u < events tr → (c : ℕ) → R u c ≡ row_after (firsts_of tr e) R (start_of (chain_of (trace_links tr)) (trace_links tr).preds R u) (seconds_of tr u) c) where
      pub trace-raised : (u : ℕ) → u < events tr → (c : ℕ) → R u c ≡ cover_row (setting_of tr) (name_of tr) (chain_of (trace_links tr)) u c
      trace-raised = raised (setting_of tr) (laws a) (events tr) (name_of tr) (chain_of (trace_links tr)) (numbered a) (in_order a) (Link tr) (Tested tr e) (direct a) es (trace_links tr).preds (firsts_of tr e) (seconds_of tr) (preds a) firsts seconds R law

      pub trace-marked : (x b : ℕ) → Race (setting_of tr) x b → T (coveredb (setting_of tr) x b) ↔ (R (number tr x) (chain_of (trace_links tr) (number tr x)) ≤ row_so_far (firsts_of tr e) R (start_of (chain_of (trace_links tr)) (trace_links tr).preds R (number tr b)) (seconds_of tr (number tr b)) b (chain_of (trace_links tr) (number tr x)))
      trace-marked x b r =
          let (i, own) = number-name b r.inside in
          let (j, f) = number-name x (omega (arith, r.first, r.inside)) in
          marked (setting_of tr) (laws a) (events tr) (name_of tr) (chain_of (trace_links tr)) (numbered a) (in_order a) (Link tr) (Tested tr e) (direct a) es (trace_links tr).preds (firsts_of tr e) (seconds_of tr) (preds a) firsts seconds R law (number tr b) b x (number tr x) i r.inside own (in-seconds (setting_of tr) (Tested tr e) (λ c d m. (es.race m).inside) (name_of tr (number tr b)) b r.inside own) j f
