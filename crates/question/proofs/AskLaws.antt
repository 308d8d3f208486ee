-- How the order question on an accepted trace ends.
-- Assumes nothing.
use Prim.Native.Nat.{ℕ, ◌+◌, ◌-◌, ◌≤◌, ◌<◌}
use mathlib.Core.Path.{◌≡◌, refl, sym, ap, ◌∙◌}
use mathlib.Core.Bool.{Bool, true, false, not, ◌&&◌}
use mathlib.Core.List.{List}
use mathlib.Core.Logic.{◌≢◌, ◌⊎◌, inl, inr}
use native.Mathlib.Omega.{arith}
use native.Mathlib.Decide.{ℕ_discrete}
use borrow.Author.Tests.{eq-eqb, ne_eqb}
use lib.Dec.{eqb}
use lib.ListN.{length, get_or}
use Rattle.records.specs.declared.Record.{Record}
use Rattle.trace.specs.Reading.{Acceptable}
use Rattle.clocks.specs.Rows.{space_for}
use Rattle.clocks.specs.WayRound.{relate_in}
use Rattle.order.specs.Clocks.{chain_of}
use Rattle.order.specs.Rank.{rank}
use Rattle.order.specs.HappensBefore.{trace_links}
use Rattle.order.specs.Fill.{events_in, row_past_width}
use Rattle.order.specs.Compared.{compared}
use Rattle.question.specs.loops.ChainPass.{PassesChains}
use Rattle.trace.specs.Reply.{refused, gives, demand}
use Rattle.order.specs.Lent.{spaces, enough_chains}
use Rattle.question.specs.Question.{both_begin, related_in, order_trace}
use Rattle.order.proofs.ComparedLaws.{same_rows}
use Rattle.ranks.specs.Ranks.{ranks_of}
use Rattle.order.proofs.RankLaws.{ranks_are}
use Rattle.order.proofs.TableLaws.{rank-row, chain-at}

pub rank-told : {tr : List Record} (a : Acceptable tr) (e : ℕ) {ranks : List ℕ} {x : ℕ} → ranks ≡ ranks_of tr → x ≡ get_or ranks e 0 → x ≡ rank tr e
rank-told a e r h = h ∙ ap (λ m. get_or m e 0) r ∙ ranks_are a e

first-none : (tr : List Record) (t u : ℕ) → rank tr t ≡ 0 → both_begin tr t u ≡ false
unfolding both_begin
first-none tr t u z = rw (eq-eqb (rank tr t) 0 z)

second_none : (tr : List Record) (t u : ℕ) → rank tr u ≡ 0 → both_begin tr t u ≡ false
unfolding both_begin
second_none tr t u z = rw (eq-eqb (rank tr u) 0 z) (and-false (not (eqb (rank tr t) 0)))
  where
    and-false : (p : Bool) → (p && false) ≡ false
    and-false true = refl
    and-false false = refl

pub ask-none : (tr : List Record) (events width : ℕ) (clocks : List ℕ) (t u : ℕ) → (rank tr t ≡ 0) ⊎ (rank tr u ≡ 0) → order_trace tr events width clocks t u ≡ refused 11 0
unfolding order_trace demand
ask-none tr events width clocks t u h = rw (none h)
  where
    none : (rank tr t ≡ 0) ⊎ (rank tr u ≡ 0) → both_begin tr t u ≡ false
    none (inl z) = first-none tr t u z
    none (inr z) = second_none tr t u z

module _ {tr : List Record} (a : Acceptable tr) where
  module _ (events width : ℕ) (ee : events ≡ events_in tr) (clocks : List ℕ) (t u x y : ℕ) (ex : x ≡ rank tr t) (ey : y ≡ rank tr u) (nx : x ≢ 0) (ny : y ≢ 0) where
    begin-both : both_begin tr t u ≡ true
    unfolding both_begin
    begin-both = rw (ne_eqb (rank tr t) 0 (λ z. nx (ex ∙ z)), ne_eqb (rank tr u) 0 (λ z. ny (ey ∙ z)))

    pub ask-space : space_for width events (length clocks) ≡ false → order_trace tr events width clocks t u ≡ refused 21 0
    unfolding order_trace spaces enough_chains demand
    ask-space s = rw (begin-both, s)

    module _ (s : space_for width events (length clocks) ≡ true) (position c d : ℕ) (p : PassesChains tr (x - 1) (y - 1) width position c d) where
      pub ask-short : position < length tr → order_trace tr events width clocks t u ≡ refused 23 (position + 1)
      unfolding order_trace spaces enough_chains demand
      ask-short h =
          let n : row_past_width tr width ≢ events_in tr = λ e. omega (arith, (p.whole e).2) in
          rw (begin-both, s, ne_eqb (row_past_width tr width) events (λ e. n (e ∙ ee)), ← (p.short n).place)

      whole : length tr ≤ position → Dec (row_past_width tr width ≡ events_in tr) → row_past_width tr width ≡ events_in tr
      whole h (yes e) = e
      whole h (no n) = absurd (omega (arith, (p.short n).inside))

      pub ask-done : length tr ≤ position → order_trace tr events width clocks t u ≡ gives (relate_in clocks width (x - 1) c (y - 1) d)
      unfolding order_trace spaces enough_chains demand compared related_in relate_in
      ask-done h =
          let e = whole h (ℕ_discrete (row_past_width tr width) (events_in tr)) in
          let f : c ≡ chain_of (trace_links tr) (rank tr t - 1) = (p.whole e).0 ∙ rw ex (chain-at a (rank tr t - 1) (rank-row a t (λ z. nx (ex ∙ z)))) in
          let g : d ≡ chain_of (trace_links tr) (rank tr u - 1) = (p.whole e).1 ∙ rw ey (chain-at a (rank tr u - 1) (rank-row a u (λ z. ny (ey ∙ z)))) in
          rw (begin-both, s, eq-eqb (row_past_width tr width) events (e ∙ sym ee), ← same_rows a t u (λ z. nx (ex ∙ z)) (λ z. ny (ey ∙ z)), f, g, ex, ey)
