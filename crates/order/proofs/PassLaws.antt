-- The pass over the records keeps the rows of those that have begun, and stops at the begin for which the width has no chain left.
-- Assumes nothing.
use Prim.Native.Nat.{ℕ, suc, ◌+◌, ◌*◌, ◌-◌, ◌<◌, ◌≤◌, max}
use mathlib.Core.Path.{◌≡◌, refl, sym, ap, ap₂, ◌∙◌, subst}
use mathlib.Core.Bool.{false, ◌&&◌}
use mathlib.Core.List.{List, [], ◌++◌, append_assoc}
use mathlib.Core.Logic.{◌≢◌, ◌⊎◌, inl, inr}
use native.Mathlib.Omega.{arith}
use native.Mathlib.Numerals.{add-one}
use native.Mathlib.Nat.{mul-le-mul_right, suc-mul}
use borrow.Author.Tests.{le-leb, lt-leb, eq-eqb, ne_eqb}
use lib.Dec.{eqb, eqb→eq}
use lib.ListN.{length, get_or, set, drop, replicate, length-append, length-replicate, length-set, get_or-replicate, get_or-append, get_or-eq_default}
use lib.Seq.{set_at, drop_at, get_or-set_other, ext_get_or, get_or-append-add}
use Rattle.records.specs.declared.Record.{Record}
use Rattle.records.specs.Records.{at, is_begin}
use Rattle.records.specs.Kinds.{has_send}
use Rattle.trace.specs.Reading.{Acceptable}
use Rattle.trace.proofs.Events.{few-events}
use Rattle.records.proofs.Positions.{lt-or-ge}
use Rattle.ranks.specs.Ranks.{ranks_of}
use Rattle.ranks.specs.declared.Ordering.{Ordering}
use Rattle.ranks.specs.declared.Ordering.TheVariants.{Begin}
use Rattle.order.specs.Links.{Links, Forward, ◌∈◌, leq}
use Rattle.clocks.specs.Rows.{rows_if, clear_row}
use Rattle.order.specs.Chains.{bit}
use Rattle.order.specs.Clocks.{table, flat, largest, chain_of, entry, merged, clocks_of}
use Rattle.order.specs.loops.Standing.{begins}
use Rattle.order.specs.loops.Walk.{FillWalked, FillWalks}
use Rattle.order.specs.loops.Pass.{tick, choose_in, Rows, enter_row, begin_row, RoomToBegin, Are}
use Rattle.order.specs.loops.PassEnds.{Ready, Passes}
use Rattle.order.specs.loops.RecordLinks.{ordering_at}
use Rattle.order.specs.HappensBefore.{trace_links}
use Rattle.slices.specs.Slices.{filled}
use Rattle.order.specs.Fill.{events_in, begin_position, row_past_width, chains_used, chain_table, trace_clocks, no_chains}
use Rattle.slices.proofs.Tests.{both, and, eq→eqb, decide_eq}
use Rattle.order.proofs.CountLaws.{first_from-local, first-first, first-only}
use Rattle.order.proofs.ScheduleLaws.{begins-zero, begins-suc, begins-mono, begin-next}
use Rattle.order.proofs.ChainLaws.{chain-below, members-le, needs-at, needs-none}
use Rattle.order.proofs.ClockLaws.{chain-merged}
use Rattle.order.proofs.RowLaws.{flat-length, flat-same, table-length, table_at}
use Rattle.order.proofs.FlatLaws.{add_at, zero_in, zero-own, zero-other, flat-read, flat-any, cleared-row, ticked-row}
use Rattle.order.proofs.WalkLaws.{along-start, pred-linked, ZeroPast}
use Rattle.order.proofs.HintLaws.{Hinted, hinted-begin, unhinted, Shows, FillArrives}
use Rattle.order.proofs.FillLaws.{Taken, taken_start, taken_more, entry-short, row-merged, filling-begin, hinted-none, rows-le}
use Rattle.order.proofs.Counted.{counted, counted-passes}
use Rattle.order.proofs.RecordOrder.{records-make, ops-begins, ops-ordered, op-kind, link-target, first-begins}
use Rattle.order.proofs.TraceOrder.{forward-links}
use Rattle.order.proofs.TraceWalk.{arrives}

-- a begin for which a chain is left, and one for which none is
pub enter-room : (w u : ℕ) (s : Rows) (c : ℕ) → c < w → enter_row w u s c ≡ record { clocks = tick w u c s.clocks; sizes = set s.sizes c (get_or s.sizes c 0 + 1); chosen = set s.chosen u c; chains = max s.chains (suc c) }
unfolding enter_row
enter-room w u s c h = rw (lt-leb w c h)

pub enter-full : (w u : ℕ) (s : Rows) (c : ℕ) → w ≤ c → enter_row w u s c ≡ record { clocks = s.clocks; sizes = s.sizes; chosen = s.chosen; chains = suc w }
unfolding enter_row
enter-full w u s c h = rw (le-leb w c h)

-- what the code has is what the definition says
are-rows : (s : Rows) (clocks sizes chosen : List ℕ) (chains : ℕ) → Are s clocks sizes chosen chains → record { clocks = clocks; sizes = sizes; chosen = chosen; chains = chains } ≡ s
are-rows s clocks sizes chosen chains e = rw (e.clocks_are, e.sizes_are, e.chosen_are, e.chains_are)

module _ {tr : List Record} (a : Acceptable tr) (w : ℕ) (rest : List ℕ) where
  abbrev op : ℕ → Ordering
  op = ordering_at tr

  abbrev n : ℕ
  n = length tr

  abbrev pub l : Links
  l = trace_links tr

  abbrev pub m : ℕ
  m = begins (ordering_at tr) (length tr)

  fw : Forward (trace_links tr)
  fw = forward-links a

  pub events_are : m ≡ events_in tr
  unfolding events_in
  events_are = ops-begins a n (omega arith)

  pub few : m ≤ 1024
  few = omega (arith, few-events a, ops-begins a n (omega arith))

  -- the chains of the first k rows
  abbrev pub chains-of : ℕ → List ℕ
  chains-of k = table k (chain_of l) ++ replicate (1024 - k) 0

  -- one row more in the list of chains
  pub chains-more : (k : ℕ) → k < 1024 → set (chains-of k) k (chain_of l k) ≡ chains-of (suc k)
  unfolding table
  chains-more k h =
      let e : 1024 - k ≡ suc (1024 - suc k) = omega arith in
      rw (e, append_assoc) (set_at (table k (chain_of l)) 0 (replicate (1024 - suc k) 0) (chain_of l k) k (table-length k (chain_of l)))

  pub begun-below : (i u : ℕ) → i < n → op i ≡ Begin u → (u ≡ begins op i) × (u < m)
  begun-below i u h e =
      let b = begin-next op n (ops-ordered a) i u h e in
      (b, omega (arith, begins-suc op i (Begin u) e, begins-mono op (suc i) n h))

  -- the begin of row u stands at one position
  pub begin-position : (i u : ℕ) → i < n → op i ≡ Begin u → begin_position tr u ≡ i
  unfolding begin_position
  begin-position i u h e =
      let b = begun-below i u h e in
      let k = op-kind a i u e in
      let c = ops-begins a i (omega arith) in
      first-only (λ j. is_begin (at tr j) && eqb (counted tr j) u) n _ i
      (first-first (λ j. is_begin (at tr j) && eqb (counted tr j) u) n)
      (record {
        from = omega arith;
        to = omega arith;
        passes = λ g. and (is_begin (at tr i)) (eqb (counted tr i) u) (eq→eqb (at tr i).kind 1 k) (eq→eqb (counted tr i) u (omega (arith, b.0)));
        none = λ j f g t.
            let p = both (is_begin (at tr j)) (eqb (counted tr j) u) t in
            omega (arith, counted-passes tr j i g (eqb→eq (at tr j).kind 1 p.0), eqb→eq (counted tr j) u p.1, b.0);
      })

  -- After the first i records, up to a begin or the end.
  pub record Passing (i : ℕ) (s : Rows) : Type 0 where
    pub shows : Shows op n (entry l) w rest i s.chosen s.clocks
    pub taken : Taken l w (begins op i) s.sizes s.chains
    pub of_size : length s.chosen ≡ 1024
    pub of_hinted : Hinted op (chain_of l) i s.chosen
    pub of_past : (u : ℕ) → m ≤ u → u < 1024 → get_or s.chosen u 0 ≡ 0

  pub passing-start :
      (cs : List ℕ) → w ≤ 1024 → cs ≡ flat w m (λ u c. get_or cs (u * w + c) 0) ++ rest → Passing 0 (record { clocks = cs; sizes = no_chains; chosen = no_chains; chains = 0 })
  unfolding filled
  passing-start cs h e =
      let b = begins-zero op in
      let k = length-replicate {A = ℕ} 1024 0 in
      record {
        shows = record {
          rows = λ u c. 0;
          along = along-start op (λ u c. 0) (entry l) (λ u c. 0) (λ u c. refl);
          shown = λ u c. get_or cs (u * w + c) 0;
          shown-is = λ u c g. absurd (none u (lt-or-ge u 1024) g);
          clocks_are = e;
        };
        taken = rw b (taken_start l w 1024 h);
        of_size = k;
        of_hinted = record {
          chains = λ u g. absurd (omega arith);
          hints = λ u q j g k y. absurd (omega arith);
          low = λ u g. omega (arith, get_or-replicate {A = ℕ} 1024 u 0 0 (omega arith));
        };
        of_past = λ u g q. get_or-replicate {A = ℕ} 1024 u 0 0 q;
      }
    where
      none : (u : ℕ) → (u < 1024) ⊎ (1024 ≤ u) → (u < begins op 0) ⊎ (get_or (replicate {A = ℕ} 1024 0) u 0 ≢ 0) → ⊥
      none u a (inl g) = omega (arith, begins-zero op)
      none u (inl a) (inr g) = g (get_or-replicate {A = ℕ} 1024 u 0 0 a)
      none u (inr a) (inr g) = g (get_or-eq_default (replicate {A = ℕ} 1024 0) 0 {n = u} (omega (arith, length-replicate {A = ℕ} 1024 0)))

  -- the same where the clocks show row u
  pub record Standing (i : ℕ) (s : Rows) (u : ℕ) : Type 0 where
    pub passing : Passing i s
    pub own : (c : ℕ) → passing.shows.shown u c ≡ passing.shows.rows u c

  module _ (i : ℕ) (s : Rows) (p : Passing i s) where
    -- what is past the rows stays
    pub passing-rest : drop (m * w) s.clocks ≡ rest
    passing-rest = rw p.shows.clocks_are (drop_at (flat w m p.shows.shown) rest (m * w) (flat-length w m p.shows.shown))

    -- the rows past the chains taken are 0
    pub zero-past : ZeroPast op (entry l) w s.chains i
    zero-past q c g k d = entry-short l fw (begins op i) q c g (rw p.taken.chains_are at d)

    -- at a begin
    module _ (narrow : w ≤ 1024) (u : ℕ) (h : i < n) (e : op i ≡ Begin u) where
      turn : (u ≡ begins op i) × (u < m)
      turn = begun-below i u h e

      -- its row is 0 where no link came to it
      unlinked : get_or s.chosen u 0 ≡ 0 → (c : ℕ) → p.shows.rows u c ≡ 0
      unfolding largest
      unlinked z c =
          let early : (q : ℕ) → q < begins op i → chain_of l q < 1024 = λ q g. omega (arith, chain-below (leq l) q _ g, p.taken.chains_are, p.taken.chains_fit) in
          let inside : u < length s.chosen = omega (arith, p.of_size, few, turn.1) in
          let none = unhinted op (chain_of l) n (ops-ordered a) i (omega arith) s.chosen p.of_hinted early u (omega (arith, turn.0)) inside z in
          p.shows.along.coming u c (omega (arith, turn.0)) ∙ rw none refl

      -- so the clocks show it once it is cleared there
      pub passing-fresh : Standing i (record { clocks = rows_if (eqb (get_or s.chosen u 0) 0) (clear_row w u s.clocks) s.clocks; sizes = s.sizes; chosen = s.chosen; chains = s.chains }) u
      passing-fresh = go (decide_eq (get_or s.chosen u 0) 0)
        where
          go : (get_or s.chosen u 0 ≡ 0) ⊎ (get_or s.chosen u 0 ≢ 0) →
              Standing i (record { clocks = rows_if (eqb (get_or s.chosen u 0) 0) (clear_row w u s.clocks) s.clocks; sizes = s.sizes; chosen = s.chosen; chains = s.chains }) u
          go (inl z) = rw (eq-eqb (get_or s.chosen u 0) 0 z) (record {
            passing = record {
              shows = record {
                rows = p.shows.rows;
                along = p.shows.along;
                shown = zero_in p.shows.shown u;
                shown-is = λ v c k. zero-other p.shows.shown u v c (apart v k) ∙ p.shows.shown-is v c k;
                clocks_are = ap (clear_row w u) p.shows.clocks_are ∙ cleared-row w m rest p.shows.shown u narrow turn.1;
              };
              taken = p.taken;
              of_size = p.of_size;
              of_hinted = p.of_hinted;
              of_past = p.of_past;
            };
            own = λ c. zero-own p.shows.shown u c ∙ sym (unlinked z c);
          })
            where
              apart : (v : ℕ) → (v < begins op i) ⊎ (get_or s.chosen v 0 ≢ 0) → v ≢ u
              apart v (inl k) x = omega (arith, turn.0)
              apart v (inr k) x = k (rw x z)
          go (inr z) = rw (ne_eqb (get_or s.chosen u 0) 0 z) (record { passing = p; own = λ c. p.shows.shown-is u c (inr z) })

    -- along the links to the next begin
    pub passing-walk :
        (narrow : w ≤ 1024) (r : FillWalked) → FillArrives op n (ops-ordered a) (link-target a) (entry l) (chain_of l) w s.chains narrow rest i s.chosen r →
        Passing r.position (record { clocks = r.clocks; sizes = s.sizes; chosen = r.hints; chains = s.chains })
    passing-walk narrow r f =
        record {
          shows = f.shows;
          taken = rw f.none_begun p.taken;
          of_size = f.same_length ∙ p.of_size;
          of_hinted = f.hinted;
          of_past = λ u h k. f.past u h ∙ p.of_past u h k;
        }

  -- at a begin whose row the clocks show
  module _ (i : ℕ) (s : Rows) (u : ℕ) (q : Standing i s u) (ns : has_send tr ≡ false) (h : i < n) (e : op i ≡ Begin u) where
    abbrev p : Passing i s
    p = q.passing

    turn-of : (u ≡ begins op i) × (u < m)
    turn-of = begun-below i u h e

    taken : Taken l w u s.sizes s.chains
    taken = rw turn-of.0 p.taken

    row_is : (c : ℕ) → c < w → get_or s.clocks (u * w + c) 0 ≡ p.shows.rows u c
    row_is c k = ap (λ x. get_or x (u * w + c) 0) p.shows.clocks_are ∙ (flat-read w m rest p.shows.shown u c turn-of.1 k ∙ q.own c)

    merged-is : (c : ℕ) → c < w → get_or s.clocks (u * w + c) 0 ≡ merged l u c
    merged-is c k = row_is c k ∙ row-merged l fw op n (ops-ordered a) (records-make tr ns) i u h e p.shows.rows p.shows.along c

    -- what it asks for is there
    pub passing-room : w ≤ 1024 → RoomToBegin w u s
    passing-room narrow = record {
      narrow = narrow;
      room = record { row = fits; chains_fit = taken.chains_fit; sizes_room = taken.sizes_room };
      chosen_room = inside;
      few_entries = λ c g. omega (arith, row_is c g, rows-le l fw op n (ops-ordered a) (records-make tr ns) i p.shows.rows (omega arith) p.shows.along u c, few, begins-mono op i n (omega arith));
      few_members = λ c g. omega (arith, taken.sizes_are c g, members-le (leq l) u c, few, turn-of.1);
      hint_low = p.of_hinted.low u inside;
      hinted = λ c g x.
          let k : c < w = omega (arith, taken.chains_fit) in
          hinted-none l fw u (1024 - get_or s.chosen u 0) low c (omega arith) (omega (arith, taken.chains_are)) (sym (merged-is c k) ∙ (x ∙ taken.sizes_are c k));
    }
      where
        inside : u < length s.chosen
        inside = omega (arith, p.of_size, few, turn-of.1)

        low : (t : ℕ) → t ∈ l.preds u → 1024 - get_or s.chosen u 0 ≤ chain_of l t
        low t y =
            let r = pred-linked op n (ops-ordered a) l (records-make tr ns) i u h e t y in
            omega (arith, p.of_hinted.hints u t r.0 (omega (arith, turn-of.0)) inside r.1 r.2)

        fits : u * w + w ≤ length s.clocks
        fits = omega (arith, ap length p.shows.clocks_are, length-append (flat w m p.shows.shown) rest, flat-length w m p.shows.shown, mul-le-mul_right w turn-of.1, suc-mul u w)

    -- the chain choice is the chain of the event action
    pub chosen_is : choose_in w u s.clocks s.sizes s.chains ≡ chain_of l u
    unfolding choose_in
    chosen_is =
        first_from-local _ _ 0 s.chains (λ c g k. let j : c < w = omega (arith, taken.chains_fit) in ap₂ eqb (merged-is c j) (taken.sizes_are c j))
        ∙ (rw taken.chains_are (sym (chain-merged l fw u)))

    -- a chain is left for it
    pub passing-begin : w ≤ 1024 → chain_of l u < w → Passing (suc i) (begin_row w u s)
    passing-begin narrow t = rw (chosen_is, enter-room w u s (chain_of l u) t) (record {
      shows = record {
        rows = add_at p.shows.rows u (chain_of l u);
        along = filling-begin l fw op n (ops-ordered a) (records-make tr ns) i u h e p.shows.rows p.shows.along;
        shown = add_at p.shows.shown u (chain_of l u);
        shown-is = λ v c k. ap (λ (x : ℕ). x + bit (eqb v u && eqb (chain_of l u) c)) (each v c k (decide_eq v u));
        clocks_are = ap (tick w u (chain_of l u)) p.shows.clocks_are ∙ ticked-row w m rest p.shows.shown u (chain_of l u) turn-of.1 t;
      };
      taken = rw b (taken_more l w u s.sizes s.chains taken t);
      of_size = length-set s.chosen u (chain_of l u) ∙ p.of_size;
      of_hinted = hinted-begin op (chain_of l) i u s.chosen e turn-of.0 (omega (arith, p.of_size, few, turn-of.1)) (omega (arith, narrow)) p.of_hinted;
      of_past = λ v k g. get_or-set_other s.chosen u v (chain_of l u) 0 (omega (arith, turn-of.1)) ∙ p.of_past v k g;
    })
      where
        b : begins op (suc i) ≡ suc u
        b = begins-suc op i (Begin u) e ∙ ap suc (sym turn-of.0)

        before : (v : ℕ) → v ≢ u → (v < begins op (suc i)) ⊎ (get_or (set s.chosen u (chain_of l u)) v 0 ≢ 0) → (v < begins op i) ⊎ (get_or s.chosen v 0 ≢ 0)
        before v x (inl k) = inl (omega (arith, b, turn-of.0))
        before v x (inr k) = inr (λ z. k (get_or-set_other s.chosen u v (chain_of l u) 0 x ∙ z))

        each : (v c : ℕ) → (v < begins op (suc i)) ⊎ (get_or (set s.chosen u (chain_of l u)) v 0 ≢ 0) → (v ≡ u) ⊎ (v ≢ u) → p.shows.shown v c ≡ p.shows.rows v c
        each v c k (inl x) = rw x (q.own c)
        each v c k (inr x) = p.shows.shown-is v c (before v x k)

    -- none is left: it is the begin that needs one
    pub short-is : w ≤ chain_of l u → row_past_width tr w ≡ u
    unfolding row_past_width
    short-is t = rw (← events_are) (needs-at (leq l) w m u turn-of.1 (omega (arith, taken.chains_are, taken.chains_fit)) t)

  -- all records are passed
  pub record Completed (s : Rows) : Type 0 where
    pub clocks_are : s.clocks ≡ trace_clocks tr w ++ rest
    pub chosen_are : s.chosen ≡ chain_table tr
    pub chains_are : s.chains ≡ chains_used tr
    pub enough : row_past_width tr w ≡ events_in tr

  pub passing-end : (s : Rows) → Passing n s → Completed s
  unfolding trace_clocks clocks_of chain_table chains_used row_past_width
  passing-end s p = record {
    clocks_are = rw (← events_are) (p.shows.clocks_are ∙ ap (λ x. x ++ rest) (flat-same w m p.shows.shown (entry l) (λ u c h k. p.shows.shown-is u c (inl h) ∙ p.shows.along.done u c h)));
    chosen_are = rw (← events_are) (ext_get_or 0 s.chosen (chains-of m) (p.of_size ∙ sym size) (λ u h. each u (omega (arith, p.of_size)) (lt-or-ge u m)));
    chains_are = rw (← events_are) p.taken.chains_are;
    enough = rw (← events_are) ((needs-none (leq l) w m).1 (omega (arith, p.taken.chains_are, p.taken.chains_fit)));
  }
    where
      size : length (chains-of m) ≡ 1024
      size = omega (arith, length-append (table m (chain_of l)) (replicate (1024 - m) 0), table-length m (chain_of l), length-replicate {A = ℕ} (1024 - m) 0, few)

      each : (u : ℕ) → u < 1024 → (u < m) ⊎ (m ≤ u) → get_or s.chosen u 0 ≡ get_or (chains-of m) u 0
      each u h (inl k) = p.of_hinted.chains u k ∙ sym (get_or-append (table m (chain_of l)) (replicate (1024 - m) 0) 0 u (omega (arith, table-length m (chain_of l))) ∙ table_at m (chain_of l) u k)
      each u h (inr k) =
          let t = table-length m (chain_of l) in
          let x : u ≡ length (table m (chain_of l)) + (u - m) = omega arith in
          p.of_past u k h ∙ sym (ap (λ v. get_or (chains-of m) v 0) x ∙ (get_or-append-add (table m (chain_of l)) (replicate (1024 - m) 0) (u - m) 0 ∙ get_or-replicate {A = ℕ} (1024 - m) (u - m) 0 0 (omega (arith, few))))

-- The loop of the pass, event action by event action.
module _ (tr : List Record) (w : ℕ) (ranks clocks₀ : List ℕ) where
  pub record Going (clocks sizes chosen : List ℕ) (chains u i : ℕ) : Type 0 where
    pub acceptable : Acceptable tr
    pub no_sends : has_send tr ≡ false
    pub narrow : w ≤ 1024
    pub ranks_are : ranks ≡ ranks_of tr
    pub within : i ≤ length tr
    pub row_is : u ≡ begins (ordering_at tr) i
    pub at-begin : i < length tr → ordering_at tr i ≡ Begin u
    pub passing : Passing acceptable w (drop (events_in tr * w) clocks₀) i (record { clocks = clocks; sizes = sizes; chosen = chosen; chains = chains })

  pub going_start : (sizes chosen : List ℕ) → Ready tr w ranks clocks₀ sizes chosen → has_send tr ≡ false → Going clocks₀ sizes chosen 0 0 0
  going_start sizes chosen r ns = record {
    acceptable = r.acceptable;
    no_sends = ns;
    narrow = r.narrow;
    ranks_are = r.ranks_are;
    within = omega arith;
    row_is = sym (begins-zero (ordering_at tr));
    at-begin = first-begins r.acceptable;
    passing = rw (r.sizes_clear, r.chosen_clear) (passing-start r.acceptable w rest clocks₀ r.narrow same);
  }
    where
      rest : List ℕ
      rest = drop (events_in tr * w) clocks₀

      same : clocks₀ ≡ flat w (m r.acceptable w rest) (λ u c. get_or clocks₀ (u * w + c) 0) ++ rest
      same = rw (events_are r.acceptable w rest) (flat-any w (events_in tr) clocks₀ r.room)

  module _ {clocks sizes chosen : List ℕ} {chains u i : ℕ} (g : Going clocks sizes chosen chains u i) where
    rest-stays : drop (events_in tr * w) clocks ≡ drop (events_in tr * w) clocks₀
    rest-stays = subst (λ (k : ℕ). drop (k * w) clocks ≡ drop (events_in tr * w) clocks₀) (events_are g.acceptable w []) (passing-rest g.acceptable w _ i _ g.passing)

    pub going-size : length chosen ≡ 1024
    going-size = g.passing.of_size

    module _ (h : i < length tr) where
      pub going-row : u < 1024
      going-row = let b = begun-below g.acceptable w [] i u h (g.at-begin h) in omega (arith, few g.acceptable w [])

      -- once its row is cleared where no link came to it
      module _ (fresh : List ℕ) (ef : fresh ≡ rows_if (eqb (get_or chosen u 0) 0) (clear_row w u clocks) clocks) where
        standing : Standing g.acceptable w (drop (events_in tr * w) clocks₀) i (record { clocks = fresh; sizes = sizes; chosen = chosen; chains = chains }) u
        standing = rw ef (passing-fresh g.acceptable w _ i _ g.passing g.narrow u h (g.at-begin h))

        rest-fresh : drop (events_in tr * w) fresh ≡ drop (events_in tr * w) clocks₀
        rest-fresh = subst (λ (k : ℕ). drop (k * w) fresh ≡ drop (events_in tr * w) clocks₀) (events_are g.acceptable w []) (passing-rest g.acceptable w _ i _ standing.passing)

        pub going-room : RoomToBegin w u (record { clocks = fresh; sizes = sizes; chosen = chosen; chains = chains })
        going-room = passing-room g.acceptable w _ i _ u standing g.no_sends h (g.at-begin h) g.narrow

        module _ (clocks' sizes' chosen' : List ℕ) (next : ℕ) (t : Are (begin_row w u (record { clocks = fresh; sizes = sizes; chosen = chosen; chains = chains })) clocks' sizes' chosen' next) where
          abbrev choice : ℕ
          choice = chain_of (trace_links tr) u

          begun : record { clocks = clocks'; sizes = sizes'; chosen = chosen'; chains = next } ≡ enter_row w u (record { clocks = fresh; sizes = sizes; chosen = chosen; chains = chains }) choice
          begun = are-rows _ clocks' sizes' chosen' next t ∙ ap (enter_row w u (record { clocks = fresh; sizes = sizes; chosen = chosen; chains = chains })) (chosen_is g.acceptable w _ i _ u standing g.no_sends h (g.at-begin h))

          -- a chain was left
          left : next ≤ w → (choice < w) ⊎ (w ≤ choice) → choice < w
          left k (inl c) = c
          left k (inr c) = absurd (omega (arith, ap (λ r. r.chains) (begun ∙ enter-full w u _ choice c)))

          module _ (k : next ≤ w) (clocks'' chosen'' : List ℕ) (j : ℕ) (x : FillWalks tr ranks w next (i + 1) clocks' chosen' clocks'' chosen'' j) where
            entered : Passing g.acceptable w (drop (events_in tr * w) clocks₀) (suc i) (record { clocks = clocks'; sizes = sizes'; chosen = chosen'; chains = next })
            entered = rw (are-rows _ clocks' sizes' chosen' next t) (passing-begin g.acceptable w _ i _ u standing g.no_sends h (g.at-begin h) g.narrow (left k (lt-or-ge choice w)))

            early : (q : ℕ) → q < begins (ordering_at tr) (suc i) → chain_of (trace_links tr) q < 1024
            early q y = omega (arith, chain-below (leq (trace_links tr)) q _ y, entered.taken.chains_are, entered.taken.chains_fit, g.narrow)

            arrived : FillArrives (ordering_at tr) (length tr) (ops-ordered g.acceptable) (link-target g.acceptable) (entry (trace_links tr)) (chain_of (trace_links tr)) w next g.narrow (drop (events_in tr * w) clocks₀) (suc i) chosen' (record { position = j; clocks = clocks''; hints = chosen'' })
            arrived =
                arrives g.acceptable ranks g.ranks_are _ _ w next _ (suc i) clocks' chosen' clocks'' chosen'' j g.narrow h entered.shows
                (zero-past g.acceptable w _ (suc i) _ entered) entered.of_hinted early (omega (arith, entered.of_size, few g.acceptable w [])) (rw (add-one i) at x)

            pub going_on : i < j
            going_on = arrived.later

            pub going_next : Going clocks'' sizes' chosen'' next (u + 1) j
            going_next =
                let b : begins (ordering_at tr) (suc i) ≡ u + 1 = begins-suc (ordering_at tr) i (Begin u) (g.at-begin h) ∙ omega (arith, g.row_is) in
                record {
                  acceptable = g.acceptable;
                  no_sends = g.no_sends;
                  narrow = g.narrow;
                  ranks_are = g.ranks_are;
                  within = arrived.inside;
                  row_is = sym (arrived.none_begun ∙ b);
                  at-begin = λ y. arrived.at-begin y ∙ ap Begin b;
                  passing = passing-walk g.acceptable w _ (suc i) _ entered g.narrow _ arrived;
                }

          -- none was left
          pub going-stop : w < next → Passes tr w clocks₀ clocks' chosen' chains i
          going-stop k = stops (lt-or-ge choice w)
            where
              stops : (choice < w) ⊎ (w ≤ choice) → Passes tr w clocks₀ clocks' chosen' chains i
              stops (inl c) = absurd (omega (arith, ap (λ r. r.chains) (begun ∙ enter-room w u _ choice c), g.passing.taken.chains_fit))
              stops (inr c) =
                  let s = short-is g.acceptable w _ i _ u standing g.no_sends h (g.at-begin h) c in
                  let b = begun-below g.acceptable w [] i u h (g.at-begin h) in
                  let e = events_are g.acceptable w [] in
                  record {
                    whole = λ z. absurd (omega arith);
                    short = λ z. record { place = sym (ap (begin_position tr) s ∙ begin-position g.acceptable w [] i u h (g.at-begin h)); inside = h };
                    rest = ap (λ r. drop (events_in tr * w) r.clocks) (begun ∙ enter-full w u _ choice c) ∙ rest-fresh;
                  }

    pub going_end : length tr ≤ i → Passes tr w clocks₀ clocks chosen chains i
    going_end h =
        let l = g.within in
        let e : i ≡ length tr = omega arith in
        let p = passing-end g.acceptable w _ _ (rw e at g.passing) in
        record {
          whole = λ z. record { clocks_are = p.clocks_are; chosen_are = p.chosen_are; chains_are = p.chains_are; to_end = e };
          short = λ n. absurd (n p.enough);
          rest = rest-stays;
        }
