-- All rows straight from the order: the same clocks, chains and numbers of members as along the links. Assumes nothing.
use Prim.Native.Nat.{ℕ, zero, suc, ◌+◌, ◌*◌, ◌-◌, ◌≤◌, ◌<◌}
use mathlib.Core.Path.{◌≡◌, refl, sym, ◌∙◌, ap, ap₂}
use mathlib.Core.Logic.{◌≢◌, ◌⊎◌, inl, inr}
use mathlib.Core.Bool.{Bool, cond}
use mathlib.Core.List.{List, ◌++◌, append_assoc}
use native.Mathlib.Omega.{arith}
use borrow.Author.Tests.{eq-eqb, ne_eqb}
use lib.Dec.{eqb}
use lib.ListN.{length, get_or, set, drop, replicate, length-append, length-set, length-replicate, get_or-append}
use native.Mathlib.Nat.{mul-le-mul_right, suc-mul}
use lib.Seq.{set_at, set-set, get_or-set_same, drop_at}
use Rattle.slices.specs.Slices.{filled}
use Rattle.clocks.specs.Rows.{clear_row}
use Rattle.order.specs.Links.{Links, Forward, leq}
use Rattle.order.specs.Chains.{used, needs}
use Rattle.order.specs.Clocks.{table, flat, chain_of, entry, merged, clocks_of}
use Rattle.order.specs.Fill.{no_chains}
use Rattle.order.specs.loops.Pass.{tick, choose_in, Rows, Are}
use Rattle.order.specs.loops.FromTable.{take_before, ready_row, make_row, make_rows, RoomToMake, Tells, ReadyToMake, MakesRows}
use Rattle.slices.proofs.Tests.{decide_eq, decide-lt}
use Rattle.order.proofs.CountLaws.{first_from-local, count-le}
use Rattle.order.proofs.ChainLaws.{chain-below, members-le, needs-at, needs-none}
use Rattle.order.proofs.ClockLaws.{below, merged-count, entry-law, chain-merged}
use Rattle.order.proofs.RowLaws.{flat-length, flat-same, table-length, table_at}
use Rattle.order.proofs.FlatLaws.{zero_in, zero-own, zero-other, add_at, add-own, add-other, flat-read, flat-any, cleared-row, ticked-row}
use Rattle.order.proofs.FillLaws.{Taken, taken_start, taken_more}
use Rattle.order.proofs.PassLaws.{enter-room, enter-full}
use Rattle.order.proofs.FromTableLaws.{clocks-from-table}

module _ (l : Links) where
  -- the chains of the first k rows
  abbrev pub chains_of : ℕ → List ℕ
  chains_of k = table k (chain_of l) ++ replicate (1024 - k) 0

  chains-at : (k t : ℕ) → t < k → get_or (chains_of k) t 0 ≡ chain_of l t
  chains-at k t h =
      get_or-append (table k (chain_of l)) (replicate (1024 - k) 0) 0 t (omega (arith, table-length k (chain_of l))) ∙ table_at k (chain_of l) t h

  pub chains-more : (k : ℕ) → k < 1024 → set (chains_of k) k (chain_of l k) ≡ chains_of (suc k)
  unfolding table
  chains-more k h =
      let e : 1024 - k ≡ suc (1024 - suc k) = omega arith in
      rw (e, append_assoc) (set_at (table k (chain_of l)) 0 (replicate (1024 - suc k) 0) (chain_of l k) k (table-length k (chain_of l)))

module _
    (l : Links) (fw : Forward l) (m : ℕ) (before : ℕ → ℕ → Bool) (tests : (p u : ℕ) → p < u → u < m → before p u ≡ leq l p u)
    (w : ℕ) (narrow : w ≤ 1024) (few : m ≤ 1024) (rest : List ℕ) where
  -- Once the first u rows are made.
  pub record Made (u : ℕ) (s : Rows) : Type 0 where
    pub rows : ℕ → ℕ → ℕ
    pub clocks_are : s.clocks ≡ flat w m rows ++ rest
    pub done : (t c : ℕ) → t < u → rows t c ≡ entry l t c
    pub taken : Taken l w u s.sizes s.chains
    pub chosen_are : s.chosen ≡ chains_of l u

  pub made-start : (cs : List ℕ) (rows : ℕ → ℕ → ℕ) → cs ≡ flat w m rows ++ rest
      → Made 0 (record { clocks = cs; sizes = no_chains; chosen = no_chains; chains = 0 })
  unfolding filled table
  made-start cs rows e = record { rows = rows; clocks_are = e; done = λ t c h. absurd (omega arith); taken = taken_start l w 1024 narrow; chosen_are = refl }

  module _ (u : ℕ) (s : Rows) (p : Made u s) (h : u < m) where
    -- the rows once row u is taken from the order
    abbrev rows_then : ℕ → ℕ → ℕ
    rows_then v c = cond (eqb v u) (merged l u c) (zero_in p.rows u v c)

    abbrev clocks_then : List ℕ
    clocks_then = take_before (λ t. before t u) w u s.chosen u (clear_row w u s.clocks)

    abbrev state_then : Rows
    state_then = record { clocks = clocks_then; sizes = s.sizes; chosen = set s.chosen u 1024; chains = s.chains }

    then-own : (c : ℕ) → rows_then u c ≡ merged l u c
    then-own c = rw (eq-eqb u u refl)

    then-other : (v c : ℕ) → v ≢ u → rows_then v c ≡ p.rows v c
    then-other v c n = rw (ne_eqb v u n)

    fits : (t : ℕ) → t < u → chain_of l t < w
    fits t a = omega (arith, chain-below (leq l) t u a, p.taken.chains_are, p.taken.chains_fit)

    clocks-then : clocks_then ≡ flat w m rows_then ++ rest
    clocks-then =
        ap (λ cs. take_before (λ t. before t u) w u s.chosen u (clear_row w u cs)) p.clocks_are
        ∙ (ap (take_before (λ t. before t u) w u s.chosen u) (cleared-row w m rest p.rows u narrow h)
        ∙ clocks-from-table l fw m before tests w u rest s.chosen (zero_in p.rows u) h (λ t a. ap (λ cs. get_or cs t 0) p.chosen_are ∙ chains-at l u t a)
        fits
        (λ t c a. zero-other p.rows u t c (λ e. omega arith) ∙ p.done t c a) (zero-own p.rows u))

    -- the chain choice is the chain of the event action
    merged-is : (c : ℕ) → c < w → get_or clocks_then (u * w + c) 0 ≡ merged l u c
    merged-is c k = ap (λ cs. get_or cs (u * w + c) 0) clocks-then ∙ (flat-read w m rest rows_then u c h k ∙ then-own c)

    chosen_is : choose_in w u clocks_then s.sizes s.chains ≡ chain_of l u
    unfolding choose_in
    chosen_is =
        first_from-local _ _ 0 s.chains (λ c g k. let j : c < w = omega (arith, p.taken.chains_fit) in ap₂ eqb (merged-is c j) (p.taken.sizes_are c j))
        ∙ rw p.taken.chains_are (sym (chain-merged l fw u))

    -- there is room for all of it
    long : length s.chosen ≡ 1024
    long =
        ap length p.chosen_are
        ∙ omega (arith, length-append (table u (chain_of l)) (replicate (1024 - u) 0), table-length u (chain_of l), length-replicate {A = ℕ} (1024 - u) 0)

    row_fits : (r : ℕ → ℕ → ℕ) → u * w + w ≤ length (flat w m r ++ rest)
    row_fits r = omega (arith, length-append (flat w m r) rest, flat-length w m r, mul-le-mul_right w h, suc-mul u w)

    merged-few : (c : ℕ) → merged l u c ≤ u
    merged-few c = omega (arith, merged-count l fw u c, count-le (below l u c) u)

    pub made-room : RoomToMake before w u s
    unfolding ready_row
    made-room = record {
      to_take = record {
        narrow = narrow;
        few = omega arith;
        row = rw p.clocks_are (row_fits p.rows);
        chosen_room = omega (arith, long);
        fits = λ t a. omega (arith, ap (λ cs. get_or cs t 0) p.chosen_are, chains-at l u t a, fits t a);
      };
      inside = omega (arith, long);
      to_begin = record {
        narrow = narrow;
        room = record { row = rw clocks-then (row_fits rows_then); chains_fit = p.taken.chains_fit; sizes_room = p.taken.sizes_room };
        chosen_room = omega (arith, long, length-set s.chosen u 1024);
        few_entries = λ c a. omega (arith, merged-is c a, merged-few c);
        few_members = λ c a. omega (arith, p.taken.sizes_are c a, members-le (leq l) u c);
        hint_low = omega (arith, hint);
        hinted = λ c a. absurd (omega (arith, hint));
      };
    }
      where
        hint : get_or (set s.chosen u 1024) u 0 ≡ 1024
        hint = get_or-set_same s.chosen u 1024 0 (omega (arith, long))

    -- a chain is left for it
    pub made_more : chain_of l u < w → Made (suc u) (make_row before w u s)
    unfolding make_row ready_row
    made_more k = rw (chosen_is, enter-room w u state_then (chain_of l u) k) (record {
      rows = add_at rows_then u (chain_of l u);
      clocks_are = ap (tick w u (chain_of l u)) clocks-then ∙ ticked-row w m rest rows_then u (chain_of l u) h k;
      done = λ t c a. done t c a (decide_eq t u);
      taken = taken_more l w u s.sizes s.chains p.taken k;
      chosen_are = set-set s.chosen u 1024 (chain_of l u) ∙ (ap (λ (cs : List ℕ). set cs u (chain_of l u)) p.chosen_are ∙ chains-more l u (omega arith));
    })
      where
        done : (t c : ℕ) → t < suc u → (t ≡ u) ⊎ (t ≢ u) → add_at rows_then u (chain_of l u) t c ≡ entry l t c
        done t c a (inl e) = rw e (omega (arith, add-own rows_then u (chain_of l u) c, then-own c, entry-law l fw u c))
        done t c a (inr n) = add-other rows_then u (chain_of l u) t c n ∙ (then-other t c n ∙ p.done t c (omega arith))

    -- none is left: it is the begin that needs one
    pub made-short : w ≤ chain_of l u → ((make_row before w u s).chains ≡ suc w) × (needs (leq l) w m ≡ u)
    unfolding make_row ready_row
    made-short k = (
      rw chosen_is (ap (λ (r : Rows). r.chains) (enter-full w u state_then (chain_of l u) k)),
      needs-at (leq l) w m u h (omega (arith, p.taken.chains_are, p.taken.chains_fit)) k,
    )

    -- and what is past the rows stays
    pub made-rest : w ≤ chain_of l u → drop (m * w) (make_row before w u s).clocks ≡ rest
    unfolding make_row ready_row
    made-rest k =
        rw (chosen_is, enter-full w u state_then (chain_of l u) k)
        (ap (drop (m * w)) clocks-then ∙ drop_at (flat w m rows_then) rest (m * w) (flat-length w m rows_then))

  -- where the width has all chains: the clocks, the chain of each row, and how many chains are taken
  pub made-rows : used (leq l) m ≤ w → (s : Rows) → Made 0 s → (u : ℕ) → u ≤ m → Made u (make_rows before w u s)
  unfolding make_rows
  made-rows f s p zero h = p
  made-rows f s p (suc u) h = made_more u (make_rows before w u s) (made-rows f s p u (omega arith)) h (omega (arith, chain-below (leq l) u m h))

  pub made-end : (s : Rows) → Made m s → (s.clocks ≡ clocks_of l w m ++ rest) × (s.chosen ≡ chains_of l m) × (s.chains ≡ used (leq l) m)
  unfolding clocks_of
  made-end s p = (p.clocks_are ∙ ap (λ cs. cs ++ rest) (flat-same w m p.rows (entry l) (λ u c h k. p.done u c h)), p.chosen_are, p.taken.chains_are)

-- The loop that makes all rows, row by row.
module _ (before : ℕ → ℕ → Bool) (m w : ℕ) (clocks₀ : List ℕ) where
  pub record Going (l : Links) (clocks sizes chosen : List ℕ) (chains u : ℕ) : Type 0 where
    pub tells : Tells before m l
    pub narrow : w ≤ 1024
    pub few : m ≤ 1024
    pub within : u ≤ m
    pub made : Made l tells.forward m before tells.tests w narrow few (drop (m * w) clocks₀) u
        (record { clocks = clocks; sizes = sizes; chosen = chosen; chains = chains })

  pub going_start : (sizes chosen : List ℕ) → ReadyToMake before m w clocks₀ sizes chosen → (l : Links) → Tells before m l → Going l clocks₀ sizes chosen 0 0
  going_start sizes chosen r l t = record {
    tells = t;
    narrow = r.narrow;
    few = r.few;
    within = omega arith;
    made = rw (r.sizes_clear, r.chosen_clear)
        (made-start l t.forward m before t.tests w r.narrow r.few (drop (m * w) clocks₀) clocks₀
        (λ u c. get_or clocks₀ (u * w + c) 0) (flat-any w m clocks₀ r.room));
  }

  module _ (l : Links) (clocks sizes chosen : List ℕ) (chains u : ℕ) (g : Going l clocks sizes chosen chains u) where
    abbrev state : Rows
    state = record { clocks = clocks; sizes = sizes; chosen = chosen; chains = chains }

    pub going-room : u < m → RoomToMake before w u state
    going-room h = made-room l g.tells.forward m before g.tells.tests w g.narrow g.few (drop (m * w) clocks₀) u state g.made h

    module _ (h : u < m) (clocks' sizes' chosen' : List ℕ) (chains' : ℕ) (e : Are (make_row before w u state) clocks' sizes' chosen' chains') where
      short : w ≤ chain_of l u → ((make_row before w u state).chains ≡ suc w) × (needs (leq l) w m ≡ u)
      short = made-short l g.tells.forward m before g.tells.tests w g.narrow g.few (drop (m * w) clocks₀) u state g.made h

      more : chain_of l u < w
          → Made l g.tells.forward m before g.tells.tests w g.narrow g.few (drop (m * w) clocks₀) (suc u) (make_row before w u state)
      more = made_more l g.tells.forward m before g.tells.tests w g.narrow g.few (drop (m * w) clocks₀) u state g.made h

      same_rest : w ≤ chain_of l u → drop (m * w) (make_row before w u state).clocks ≡ drop (m * w) clocks₀
      same_rest = made-rest l g.tells.forward m before g.tells.tests w g.narrow g.few (drop (m * w) clocks₀) u state g.made h

      pub going_next : chains' ≤ w → Going l clocks' sizes' chosen' chains' (u + 1)
      going_next k = go (decide-lt (chain_of l u) w)
        where
          go : (chain_of l u < w) ⊎ (w ≤ chain_of l u) → Going l clocks' sizes' chosen' chains' (u + 1)
          go (inl j) = let n : u + 1 ≡ suc u = omega arith in rw n (record {
            tells = g.tells;
            narrow = g.narrow;
            few = g.few;
            within = h;
            made = rw (e.clocks_are, e.sizes_are, e.chosen_are, e.chains_are) (more j);
          })
          go (inr j) = absurd (omega (arith, (short j).0, e.chains_are))

      pub going-stop : w < chains' → MakesRows l m w clocks₀ clocks' chosen' u chains
      going-stop k = go (decide-lt (chain_of l u) w)
        where
          go : (chain_of l u < w) ⊎ (w ≤ chain_of l u) → MakesRows l m w clocks₀ clocks' chosen' u chains
          go (inl j) = absurd (omega (arith, (more j).taken.chains_fit, e.chains_are))
          go (inr j) = record {
            rows_are = sym (short j).1;
            clocks_are = λ z. absurd (omega arith);
            chosen_are = λ z. absurd (omega arith);
            chains_are = λ z. absurd (omega arith);
            rest = ap (drop (m * w)) e.clocks_are ∙ same_rest j;
          }

    pub going_end : m ≤ u → MakesRows l m w clocks₀ clocks chosen m chains
    going_end k =
        let n : u ≡ m = omega (arith, g.within) in
        let x = made-end l g.tells.forward m before g.tells.tests w g.narrow g.few (drop (m * w) clocks₀) state (rw n at g.made) in
        record {
          rows_are = sym ((needs-none (leq l) w m).1 (omega (arith, x.2, g.made.taken.chains_fit)));
          clocks_are = λ z. x.0;
          chosen_are = λ z. x.1;
          chains_are = λ z. x.2;
          rest = ap (drop (m * w)) g.made.clocks_are ∙ drop_at (flat w m g.made.rows) (drop (m * w) clocks₀) (m * w) (flat-length w m g.made.rows);
        }
