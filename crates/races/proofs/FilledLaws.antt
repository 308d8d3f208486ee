-- Filled clocks answer for the records of a trace.
-- Assumes nothing.
use Prim.Native.Nat.{ℕ, ◌*◌, ◌-◌, ◌≤◌, ◌<◌}
use mathlib.Core.Path.{◌≡◌, refl, sym, ap, ◌∙◌, subst}
use mathlib.Core.Bool.{Bool, true, false, not, ◌&&◌}
use mathlib.Core.List.{List}
use mathlib.Core.Logic.{◌≢◌}
use native.Mathlib.Omega.{arith}
use native.Mathlib.Decide.{ℕ_discrete}
use borrow.Author.Tests.{eq-eqb, ne_eqb, lt-ltb}
use lib.Dec.{T, eqb, eqb→eq}
use lib.ListN.{length, get_or, replicate, length-append, length-replicate}
use Rattle.records.specs.declared.Record.{Record}
use Rattle.records.specs.Records.{at, event_of}
use Rattle.ranks.proofs.RankLaws.{ranks-many}
use Rattle.clocks.specs.Rows.{compare_in}
use Rattle.clocks.specs.WayRound.{way_round, relate_in, says_before, says_unordered}
use Rattle.clocks.proofs.WayLaws.{says-before, says-unordered}
use Rattle.order.specs.Clocks.{table, chain_of}
use Rattle.order.specs.Rank.{rank}
use Rattle.order.specs.HappensBefore.{trace_links, happens_before}
use Rattle.order.specs.Links.{leq}
use Rattle.order.specs.Fill.{events_in, row_past_width, chain_table, trace_clocks}
use Rattle.order.specs.Compared.{compared}
use Rattle.order.proofs.RankLaws.{ranks_are}
use Rattle.order.proofs.ChainLaws.{chain-below, needs-none}
use Rattle.order.proofs.RowLaws.{table-length, clocks-length, place}
use Rattle.order.proofs.TraceOrder.{record-begins, begins-rank}
use Rattle.order.proofs.TableLaws.{rank-row, events-few, chain-at}
use Rattle.order.proofs.ComparedLaws.{same_rows, compared-before}
use Rattle.order.proofs.TraceLaws.{le_refl, forward}
use Rattle.coverage.specs.Race.{before, raceb}
use Rattle.coverage.specs.Neighbours.{conflicts}
use Rattle.races.specs.Traces.{cells_of, setting_of}
use Rattle.races.specs.loops.Clashes.{conflict, clash}
use Rattle.slices.proofs.Tests.{eq→eqb}
use Rattle.races.specs.loops.FilledClocks.{FilledClocks, RowsIn, BothIn}

module _ {tr : List Record} {ranks chosen : List ℕ} {width : ℕ} {clocks : List ℕ} (f : FilledClocks tr ranks chosen width clocks) where
  abbrev ev : ℕ → ℕ
  ev x = event_of (at tr x)

  module _ (x : ℕ) (h : x < length tr) where
    pub has-rank : rank tr (ev x) ≢ 0
    has-rank z = omega (arith, begins-rank f.acceptable (record-begins f.acceptable x h), z)

    pub rank_is : get_or ranks (ev x) 0 ≡ rank tr (ev x)
    rank_is = ap (λ m. get_or m (ev x) 0) f.ranks_are ∙ ranks_are f.acceptable (ev x)

    pub rank-some : get_or ranks (ev x) 0 ≢ 0
    rank-some z = has-rank (sym rank_is ∙ z)

    pub row_inside : rank tr (ev x) - 1 < events_in tr
    row_inside = rank-row f.acceptable (ev x) has-rank

  pub chosen-length : length chosen ≡ 1024
  unfolding chain_table
  chosen-length = omega (arith, ap length f.chosen_are, length-append (table (events_in tr) (chain_of (trace_links tr))) (replicate (1024 - events_in tr) 0), table-length (events_in tr) (chain_of (trace_links tr)), length-replicate {A = ℕ} (1024 - events_in tr) 0, events-few f.acceptable)

  pub ranks-length : length ranks ≡ 1025
  ranks-length = ap length f.ranks_are ∙ ranks-many tr

  pub row_room : (x : ℕ) → x < length tr → get_or ranks (ev x) 0 - 1 < length chosen
  row_room x h = omega (arith, rank_is x h, row_inside x h, events-few f.acceptable, chosen-length)

  pub before-is : (a b : ℕ) → a < length tr → b < length tr
      → compare_in clocks width (get_or chosen (get_or ranks (ev a) 0 - 1) 0) (get_or ranks (ev a) 0 - 1) (get_or ranks (ev b) 0 - 1) ≡ happens_before tr (ev a) (ev b)
  unfolding compared
  before-is a b h k =
      let c : get_or chosen (rank tr (ev a) - 1) 0 ≡ chain_of (trace_links tr) (rank tr (ev a) - 1) = ap (λ o. get_or o (rank tr (ev a) - 1) 0) f.chosen_are ∙ chain-at f.acceptable (rank tr (ev a) - 1) (row_inside a h) in
      rw (rank_is a h, rank_is b k, c, f.clocks_are) (compared-before f.acceptable width f.enough f.rest (ev a) (ev b) (has-rank a h) (has-rank b k))

  -- the chain of a row has its place in the width
  pub chain_fits : (r : ℕ) → r < events_in tr → get_or chosen r 0 < width
  unfolding row_past_width
  chain_fits r h =
      let c : get_or chosen r 0 ≡ chain_of (trace_links tr) r = ap (λ o. get_or o r 0) f.chosen_are ∙ chain-at f.acceptable r h in
      let u = (needs-none (leq (trace_links tr)) width (events_in tr)).0 f.enough in
      omega (arith, chain-below (leq (trace_links tr)) r (events_in tr) h)

  pub clocks-hold : events_in tr * width ≤ length clocks
  unfolding trace_clocks
  clocks-hold = omega (arith, ap length f.clocks_are, length-append (trace_clocks tr width) f.rest, clocks-length (trace_links tr) width (events_in tr))

  -- rows that have begun stand in the clocks
  pub rows_in : (t u : ℕ) → t < events_in tr → u < events_in tr → RowsIn chosen width clocks t u
  rows_in t u h k = record {
    known = omega (arith, chosen-length, events-few f.acceptable);
    own = omega (arith, clocks-hold, place width (events_in tr) t (get_or chosen t 0) h (chain_fits t h));
    other = omega (arith, clocks-hold, place width (events_in tr) u (get_or chosen t 0) k (chain_fits t h));
  }

  -- over filled clocks rows say what happens before what
  pub rows_before : (a b t u : ℕ) → a < length tr → b < length tr → t ≡ rank tr (ev a) - 1 → u ≡ rank tr (ev b) - 1 → compare_in clocks width (get_or chosen t 0) t u ≡ happens_before tr (ev a) (ev b)
  rows_before a b t u h k d e = rw (d, e) (rw (rank_is a h, rank_is b k) at (before-is a b h k))

  -- and the reply of two rows is that of their event actions
  pub rows_told : (a b t u : ℕ) → a < length tr → b < length tr → t ≡ rank tr (ev a) - 1 → u ≡ rank tr (ev b) - 1
      → relate_in clocks width t (get_or chosen t 0) u (get_or chosen u 0) ≡ way_round (eqb (ev a) (ev b)) (happens_before tr (ev a) (ev b)) (happens_before tr (ev b) (ev a))
  unfolding relate_in
  rows_told a b t u h k d e = rw (same, rows_before a b t u h k d e, rows_before b a u t k h e d) refl
    where
      same : eqb t u ≡ eqb (ev a) (ev b)
      same = rw (d, e) (same_rows f.acceptable (ev a) (ev b) (has-rank a h) (has-rank b k))

  module _ (a b t u : ℕ) (h : a < length tr) (k : b < length tr) (d : t ≡ rank tr (ev a) - 1) (e : u ≡ rank tr (ev b) - 1) where
    same-before : T (eqb (ev a) (ev b)) → T (happens_before tr (ev a) (ev b))
    same-before s = subst (λ (v : ℕ). T (happens_before tr (ev a) v)) (eqb→eq (ev a) (ev b) s) (le_refl f.acceptable (ev a))

    pub before-told : says_before (relate_in clocks width t (get_or chosen t 0) u (get_or chosen u 0)) ≡ happens_before tr (ev a) (ev b)
    before-told = rw (rows_told a b t u h k d e) (says-before (eqb (ev a) (ev b)) (happens_before tr (ev a) (ev b)) (happens_before tr (ev b) (ev a)) same-before)

    pub rows_both : BothIn chosen width clocks t u
    rows_both =
        let i : t < events_in tr = omega (arith, row_inside a h) in
        let j : u < events_in tr = omega (arith, row_inside b k) in
        record { first = rows_in t u i j; second = rows_in u t j i }

    -- where a stands before b, the event action of b does not come before another
    module _ (l : a < b) where
      not_after : T (happens_before tr (ev b) (ev a)) → ev a ≡ ev b
      not_after s = go (ℕ_discrete (ev b) (ev a))
        where
          go : Dec (ev b ≡ ev a) → ev a ≡ ev b
          go (yes q) = sym q
          go (no n) = absurd (omega (arith, forward f.acceptable b a k h s n))

      pub unordered-told : says_unordered (relate_in clocks width t (get_or chosen t 0) u (get_or chosen u 0)) ≡ not (happens_before tr (ev a) (ev b))
      unordered-told = rw (rows_told a b t u h k d e) (says-unordered (eqb (ev a) (ev b)) (happens_before tr (ev a) (ev b)) (happens_before tr (ev b) (ev a)) same-before (λ s. eq→eqb (ev a) (ev b) (not_after s)))

-- a race, by its parts
pub conflict-is : (tr : List Record) (a b : ℕ) → conflict (at tr a) (at tr b) ≡ conflicts (cells_of tr) a b
unfolding conflict conflicts
conflict-is tr a b = refl

module _ (tr : List Record) (a b : ℕ) (l : a < b) (h : b < length tr) where
  no-conflict : conflict (at tr a) (at tr b) ≡ false → raceb (setting_of tr) a b ≡ false
  unfolding raceb
  no-conflict c = rw (lt-ltb a b l, lt-ltb b (length tr) h, ← conflict-is tr a b, c)

  pub same_event : conflict (at tr a) (at tr b) ≡ true → event_of (at tr a) ≡ event_of (at tr b) → raceb (setting_of tr) a b ≡ false
  unfolding raceb before
  same_event c e = rw (lt-ltb a b l, lt-ltb b (length tr) h, ← conflict-is tr a b, c, eq-eqb _ _ e)

  pub other-event : conflict (at tr a) (at tr b) ≡ true → event_of (at tr a) ≢ event_of (at tr b) → raceb (setting_of tr) a b ≡ not (happens_before tr (event_of (at tr a)) (event_of (at tr b)))
  unfolding raceb before
  other-event c n = rw (lt-ltb a b l, lt-ltb b (length tr) h, ← conflict-is tr a b, c, ne_eqb _ _ n)

  pub no-clash : clash (at tr a) (at tr b) ≡ false → raceb (setting_of tr) a b ≡ false
  unfolding clash
  no-clash e = go (conflict (at tr a) (at tr b)) refl (eqb (event_of (at tr a)) (event_of (at tr b))) refl e
    where
      go : (p : Bool) → conflict (at tr a) (at tr b) ≡ p → (q : Bool) → eqb (event_of (at tr a)) (event_of (at tr b)) ≡ q → (p && not q) ≡ false → raceb (setting_of tr) a b ≡ false
      go true c true f g = same_event c (eqb→eq _ _ (subst T (sym f) tt))
      go true c false f g = absurd (subst T g tt)
      go false c q f g = no-conflict c

  pub clash-race : clash (at tr a) (at tr b) ≡ true → raceb (setting_of tr) a b ≡ not (happens_before tr (event_of (at tr a)) (event_of (at tr b)))
  unfolding clash
  clash-race e = go (conflict (at tr a) (at tr b)) refl (eqb (event_of (at tr a)) (event_of (at tr b))) refl e
    where
      go : (p : Bool) → conflict (at tr a) (at tr b) ≡ p → (q : Bool) → eqb (event_of (at tr a)) (event_of (at tr b)) ≡ q → (p && not q) ≡ true → raceb (setting_of tr) a b ≡ not (happens_before tr (event_of (at tr a)) (event_of (at tr b)))
      go true c true f g = absurd (subst T (sym g) tt)
      go true c false f g = other-event c (λ z. subst T f (eq→eqb _ _ z))
      go false c q f g = absurd (subst T (sym g) tt)
