-- How filling an accepted trace ends, from how the pass ended.
-- Assumes nothing.
use Prim.Native.Nat.{ℕ, ◌+◌, ◌*◌, ◌≤◌, ◌<◌}
use mathlib.Core.Path.{◌≡◌, sym, ap, ◌∙◌}
use mathlib.Core.Bool.{true}
use mathlib.Core.List.{List, ◌++◌}
use mathlib.Core.Logic.{◌≢◌}
use native.Mathlib.Omega.{arith}
use native.Mathlib.Decide.{ℕ_discrete}
use borrow.Author.Tests.{eq-eqb, ne_eqb}
use lib.ListN.{length, drop, replicate}
use Rattle.records.specs.declared.Record.{Record}
use Rattle.trace.specs.Reading.{Acceptable}
use Rattle.ranks.specs.Ranks.{ranks_of}
use Rattle.clocks.specs.Rows.{space_for, clear_rows}
use Rattle.clocks.proofs.RowLaws.{clear-rows-fit}
use Rattle.trace.specs.Reply.{refused, gives, demand, unless}
use Rattle.order.specs.Fill.{events_in, row_past_width, chains_used, no_chains}
use Rattle.order.specs.Lent.{enough_chains, clocks_filled, chains_filled}
use Rattle.std.proofs.Common.{Result}
use Rattle.trace.specs.declared.Refusal.{Refusal}
use Rattle.order.specs.Paper.{fill_paper}
use Rattle.order.specs.loops.FillsTrace.{FillsTrace}
use Rattle.order.specs.loops.PassEnds.{Ready, Passes}
use Rattle.order.proofs.SpaceLaws.{has_room}

module _ (tr : List Record) (a : Acceptable tr) (events width : ℕ) (ee : events ≡ events_in tr) (cs : List ℕ)
    (space : space_for width events (length cs) ≡ true) where
  fits : events * width ≤ length cs
  fits = (has_room width events (length cs) space).fits

  narrow : width ≤ 1024
  narrow = (has_room width events (length cs) space).narrow

  pub ready : (ranks sizes chosen : List ℕ) → ranks ≡ ranks_of tr → sizes ≡ no_chains → chosen ≡ no_chains → Ready tr width ranks cs sizes chosen
  ready ranks sizes chosen r s o = record {
    acceptable = a;
    ranks_are = r;
    narrow = narrow;
    room = rw (← ee) fits;
    sizes_clear = s;
    chosen_clear = o;
  }

  module _ (cs₂ chosen : List ℕ) (chains position : ℕ) (p : Passes tr width cs cs₂ chosen chains position) where
    rest_of : drop (events * width) cs₂ ≡ drop (events * width) cs
    rest_of = rw (← ee) at p.rest

    not_short : length tr ≤ position → Dec (row_past_width tr width ≡ events_in tr) → row_past_width tr width ≡ events_in tr
    not_short h (yes e) = e
    not_short h (no n) = absurd (omega (arith, (p.short n).inside))

    not-whole : position < length tr → row_past_width tr width ≢ events_in tr
    not-whole h e = omega (arith, (p.whole e).to_end)

    -- 23
    module _ (h : position < length tr) where
      none : row_past_width tr width ≢ events
      none e = not-whole h (e ∙ ee)

      short-reply : enough_chains tr events width (gives (chains_used tr)) ≡ refused 23 (position + 1)
      unfolding enough_chains demand
      short-reply = rw (ne_eqb (row_past_width tr width) events none, ← (p.short (not-whole h)).place)

      short-clocks : (cs₃ : List ℕ) → length cs₂ ≡ length cs → cs₃ ≡ clear_rows width events cs₂ → cs₃ ≡ clocks_filled tr events width cs
      unfolding clocks_filled unless
      short-clocks cs₃ l e =
          rw short-reply (e ∙ (clear-rows-fit width cs₂ events narrow (omega (arith, fits)) ∙ ap (λ r. replicate (events * width) 0 ++ r) rest_of))

      pub ends-short : (cs₃ chosen₃ ranks : List ℕ) → length cs₂ ≡ length cs → cs₃ ≡ clear_rows width events cs₂ → chosen₃ ≡ no_chains → ranks ≡ ranks_of tr → (r : Result ℕ Refusal) → fill_paper r ≡ refused 23 (position + 1) → FillsTrace tr events width cs cs₃ r chosen₃ ranks
      unfolding chains_filled unless
      ends-short cs₃ chosen₃ ranks l e o k r q = record { answer = q ∙ sym short-reply; clocks-after = short-clocks cs₃ l e; chains_after = rw short-reply o; ranks_after = k }

    -- the rows are filled
    module _ (h : length tr ≤ position) where
      enough : row_past_width tr width ≡ events_in tr
      enough = not_short h (ℕ_discrete (row_past_width tr width) (events_in tr))

      whole-reply : enough_chains tr events width (gives (chains_used tr)) ≡ gives chains
      unfolding enough_chains demand
      whole-reply = rw (eq-eqb (row_past_width tr width) events (enough ∙ sym ee), ← (p.whole enough).chains_are)

      whole-clocks : cs₂ ≡ clocks_filled tr events width cs
      unfolding clocks_filled unless
      whole-clocks =
          rw whole-reply (rw (← ee) at (p.whole enough).clocks_are)

      whole-chains : chosen ≡ chains_filled tr events width
      unfolding chains_filled unless
      whole-chains = rw whole-reply (p.whole enough).chosen_are

      pub ends-whole : (ranks : List ℕ) → ranks ≡ ranks_of tr → (r : Result ℕ Refusal) → fill_paper r ≡ gives chains → FillsTrace tr events width cs cs₂ r chosen ranks
      ends-whole ranks k r q = record { answer = q ∙ sym whole-reply; clocks-after = whole-clocks; chains_after = whole-chains; ranks_after = k }
