-- Over clocks that filling left, the comparison is happens-before.
-- Assumes nothing.
use Prim.Native.Nat.{ℕ, ◌-◌, ◌≤◌, ◌<◌}
use mathlib.Core.Path.{◌≡◌, sym, ap, ap₂, subst}
use mathlib.Core.List.{List, ◌++◌}
use mathlib.Core.Logic.{◌≢◌, ◌↔◌}
use native.Mathlib.Omega.{arith}
use lib.Dec.{T, leb, eqb, eqb→eq}
use lib.ListN.{get_or-append}
use Rattle.records.specs.declared.Record.{Record}
use Rattle.trace.specs.Reading.{Acceptable}
use Rattle.clocks.specs.Rows.{compare_in}
use Rattle.order.specs.Links.{leq, ◌⊢◌≼◌}
use Rattle.order.specs.Chains.{used}
use Rattle.order.specs.Clocks.{chain_of, clocks_of}
use Rattle.order.specs.Rank.{rank}
use Rattle.order.specs.HappensBefore.{trace_links, happens_before}
use Rattle.order.specs.Compared.{compared}
use Rattle.order.specs.Fill.{events_in, row_past_width, trace_clocks}
use Rattle.slices.proofs.Tests.{eq→eqb, same as equal-tests}
use Rattle.order.proofs.ChainLaws.{chain-below, needs-none}
use Rattle.order.proofs.RowLaws.{clocks-length, place}
use Rattle.order.proofs.Theorems.{order-question}
use Rattle.order.proofs.TraceOrder.{rank-one, forward-links, up, down, happens-before, before-happens}
use Rattle.order.proofs.TableLaws.{rank-row}

-- two events that begin are one exactly where their rows are
pub same_rows : {tr : List Record} (a : Acceptable tr) (t u : ℕ) → rank tr t ≢ 0 → rank tr u ≢ 0 → eqb (rank tr t - 1) (rank tr u - 1) ≡ eqb t u
same_rows {tr} a t u nt nu = equal-tests (eqb (rank tr t - 1) (rank tr u - 1)) (eqb t u) (λ h. eq→eqb t u (one (eqb→eq (rank tr t - 1) (rank tr u - 1) h))) (λ h. eq→eqb (rank tr t - 1) (rank tr u - 1) (ap (λ x. rank tr x - 1) (eqb→eq t u h)))
  where
    one : rank tr t - 1 ≡ rank tr u - 1 → t ≡ u
    one e = rank-one a t u (rank tr t - 1) (omega (arith, nt)) (omega (arith, nt, nu, e))

-- rows that filling left, with anything after them
module _ {tr : List Record} (a : Acceptable tr) (w : ℕ) (enough : row_past_width tr w ≡ events_in tr) (rest : List ℕ) where
  chains_fit : used (leq (trace_links tr)) (events_in tr) ≤ w
  unfolding row_past_width
  chains_fit = (needs-none (leq (trace_links tr)) w (events_in tr)).0 enough

  -- the comparison reads the rows alone
  in_rows : (t u : ℕ) → t < events_in tr → u < events_in tr → compare_in (trace_clocks tr w ++ rest) w (chain_of (trace_links tr) t) t u ≡ compare_in (trace_clocks tr w) w (chain_of (trace_links tr) t) t u
  unfolding compare_in trace_clocks
  in_rows t u h k =
      let c : chain_of (trace_links tr) t < w = omega (arith, chain-below (leq (trace_links tr)) t (events_in tr) h, chains_fit) in
      let l = clocks-length (trace_links tr) w (events_in tr) in
      ap₂ leb
      (get_or-append (clocks_of (trace_links tr) w (events_in tr)) rest 0 _ (omega (arith, l, place w (events_in tr) t (chain_of (trace_links tr) t) h c)))
      (get_or-append (clocks_of (trace_links tr) w (events_in tr)) rest 0 _ (omega (arith, l, place w (events_in tr) u (chain_of (trace_links tr) t) k c)))

  pub compared-before : (t u : ℕ) → rank tr t ≢ 0 → rank tr u ≢ 0 → compared tr w (trace_clocks tr w ++ rest) t u ≡ happens_before tr t u
  unfolding compared trace_clocks
  compared-before t u nt nu = equal-tests _ _ there back
    where
      rows : compare_in (trace_clocks tr w ++ rest) w (chain_of (trace_links tr) (rank tr t - 1)) (rank tr t - 1) (rank tr u - 1) ≡ compare_in (trace_clocks tr w) w (chain_of (trace_links tr) (rank tr t - 1)) (rank tr t - 1) (rank tr u - 1)
      rows = in_rows (rank tr t - 1) (rank tr u - 1) (rank-row a t nt) (rank-row a u nu)

      says : T (compare_in (clocks_of (trace_links tr) w (events_in tr)) w (chain_of (trace_links tr) (rank tr t - 1)) (rank tr t - 1) (rank tr u - 1)) ↔ (trace_links tr ⊢ rank tr t - 1 ≼ rank tr u - 1)
      says = order-question (trace_links tr) (forward-links a) w (events_in tr) (rank tr t - 1) (rank tr u - 1) chains_fit (rank-row a t nt) (rank-row a u nu)

      there : T (compare_in (trace_clocks tr w ++ rest) w (chain_of (trace_links tr) (rank tr t - 1)) (rank tr t - 1) (rank tr u - 1)) → T (happens_before tr t u)
      there h = happens-before a t u (down a t u (omega arith) (omega arith) (says.0 (subst T rows h)))

      back : T (happens_before tr t u) → T (compare_in (trace_clocks tr w ++ rest) w (chain_of (trace_links tr) (rank tr t - 1)) (rank tr t - 1) (rank tr u - 1))
      back h =
          let p = up a (rank tr t - 1) (omega arith) (before-happens a t u h) in
          let e : p.0 ≡ rank tr u - 1 = omega (arith, p.1) in
          subst T (sym rows) (says.1 (subst (λ (q : ℕ). trace_links tr ⊢ rank tr t - 1 ≼ q) e p.2))
