-- The pass that finds the chains from the trace alone keeps the last member of each chain and the chains of the rows asked for, and stops at the begin for which the width has no chain left.
-- Assumes nothing.
use Prim.Native.Nat.{ℕ, zero, suc, ◌+◌, ◌<◌, ◌≤◌}
use mathlib.Core.Path.{◌≡◌, refl, sym, ap, ◌∙◌}
use mathlib.Core.Bool.{Bool, false}
use mathlib.Core.List.{List, []}
use mathlib.Core.Logic.{◌≢◌, ◌⊎◌, inl, inr}
use native.Mathlib.Omega.{arith}
use native.Mathlib.Numerals.{add-one}
use lib.ListN.{length, get_or}
use Rattle.records.specs.declared.Record.{Record}
use Rattle.records.specs.Kinds.{has_send}
use Rattle.trace.specs.Reading.{Acceptable}
use Rattle.records.proofs.Positions.{lt-or-ge}
use Rattle.order.specs.Links.{leq}
use Rattle.order.specs.Chains.{lasts, chain, used, needs}
use Rattle.order.specs.loops.Standing.{begins}
use Rattle.question.specs.loops.Marking.{marked, marks_in, marks_down_in, mark_in}
use Rattle.ranks.specs.declared.Ordering.{Ordering}
use Rattle.ranks.specs.declared.Ordering.TheVariants.{Link, Begin, Nothing}
use Rattle.order.specs.loops.RecordLinks.{ordering_at}
use Rattle.order.specs.HappensBefore.{trace_links}
use Rattle.ranks.specs.Ranks.{ranks_of}
use Rattle.order.specs.Fill.{events_in, row_past_width, chain_table}
use Rattle.order.specs.loops.PassEnds.{Short}
use Rattle.question.specs.declared.chains.Members.{Members}
use Rattle.question.specs.loops.ChainPass.{marked_chain, enter_chain, said_by, turn_members, RoomFor, ReadyChains, PassesChains}
use Rattle.order.proofs.CountLaws.{first_from-local}
use Rattle.order.proofs.ChainLaws.{chain-search, needs-at, needs-none}
use Rattle.order.proofs.ScheduleLaws.{begins-zero, begins-suc}
use Rattle.question.proofs.MarkListLaws.{marks-list}
use Rattle.question.proofs.HoldLaws.{Holding, enter-room, enter-full, holding-start, holding-next}
use Rattle.order.proofs.RankLaws.{ops-are}
use Rattle.order.proofs.RecordOrder.{records-make, ops-ordered}
use Rattle.order.proofs.TraceOrder.{forward-links}
use Rattle.order.proofs.PassLaws.{events_are, few, begun-below, begin-position}

-- a record that says no begin leaves the members
pub unbegun :
    (ranks : List ℕ) (tr : List Record) (x y w i : ℕ) (o : Ordering) → ((u : ℕ) → o ≡ Begin u → ⊥) → (m : Members) →
    turn_members ranks tr x y w i o m ≡ m
unfolding turn_members
unbegun ranks tr x y w i (Link p u) n m = refl
unbegun ranks tr x y w i (Begin u) n m = absurd (n u refl)
unbegun ranks tr x y w i Nothing n m = refl

-- the marks go by what the records say, and so by whatever says the same
down-same : (f g : ℕ → Ordering) → ((i : ℕ) → f i ≡ g i) → (i : ℕ) (ms : List ℕ) → marks_down_in f i ms ≡ marks_down_in g i ms
unfolding marks_down_in
down-same f g h zero ms = refl
down-same f g h (suc i) ms = rw (h i) (down-same f g h i (mark_in (g i) ms))

module _ {tr : List Record} (a : Acceptable tr) (x y w : ℕ) (narrow : w ≤ 1024) where
  abbrev op : ℕ → Ordering
  op = ordering_at tr

  abbrev n : ℕ
  n = length tr

  abbrev le : ℕ → ℕ → Bool
  le = leq (trace_links tr)

  -- after the first i records
  abbrev pub Keeping : ℕ → Members → Type 0
  Keeping i s = Holding (trace_links tr) x y w (begins op i) s

  pub keeping_start : (ls : List ℕ) → length ls ≡ 1024 → Keeping 0 (record { lasts = ls; chains = 0; first = 0; second = 0 })
  keeping_start ls h = rw (begins-zero op) (holding-start (trace_links tr) x y w ls h)

  module _ (i : ℕ) (s : Members) (h : i < n) (k : Keeping i s) where
    -- the chain found is the chain
    found : has_send tr ≡ false → (u : ℕ) → op i ≡ Begin u → marked_chain (marks_in op i u 1024) s.lasts s.chains ≡ chain le u
    unfolding marked_chain
    found ns u e =
        let b = begun-below a w [] i u h e in
        rw k.chains_are
        (first_from-local (λ c. marked (marks_in op i u 1024) (get_or s.lasts c 0)) (λ c. le (get_or (lasts le u) c 0) u) 0 (used le (begins op i)) (each u e b.0 b.1)
        ∙ rw (← b.0) (sym (chain-search le u)))
      where
        each : (u : ℕ) → op i ≡ Begin u → u ≡ begins op i → u < begins op n → (c : ℕ) → 0 ≤ c → c < 0 + used le (begins op i) → marked (marks_in op i u 1024) (get_or s.lasts c 0) ≡ le (get_or (lasts le u) c 0) u
        each u e b l c x y =
            marks-list (trace_links tr) (forward-links a) op n (ops-ordered a) (records-make tr ns) 1024 u i (few a w []) l h e (get_or s.lasts c 0)
            ∙ ap (λ t. le t u) (k.lasts_are c (omega arith) ∙ ap (λ v. get_or (lasts le v) c 0) (sym b))

    pub keeping-room : RoomFor (op i) s
    keeping-room = go (op i) refl
      where
        go : (o : Ordering) → op i ≡ o → RoomFor o s
        go (Link p u) e = tt
        go (Begin u) e =
            let b = begun-below a w [] i u h e in
            let f = few a w [] in
            (omega (arith, b.1, f), omega (arith, k.chains_fit), k.lasts_size)
        go Nothing e = tt

    -- row u enters its chain
    entered : (u : ℕ) → op i ≡ Begin u → chain le u < w → Keeping (suc i) (enter_chain x y w u s (chain le u))
    entered u e t =
        let b = begun-below a w [] i u h e in
        let f = few a w [] in
        let next : begins op (suc i) ≡ suc u = begins-suc op i (Begin u) e ∙ ap suc (sym b.0) in
        rw next (holding-next (trace_links tr) x y w narrow u (omega (arith, b.1)) s (rw b.0 k) t)

    module _ (ranks : List ℕ) (r : ranks ≡ ranks_of tr) (ns : has_send tr ≡ false) where
      said : (j : ℕ) → said_by ranks tr j ≡ op j
      said j = rw r (ops-are a j)

      turned : (u : ℕ) → op i ≡ Begin u → marked_chain (marks_in (said_by ranks tr) i u 1024) s.lasts s.chains ≡ chain le u
      turned u e = ap (λ m. marked_chain m s.lasts s.chains) (down-same (said_by ranks tr) op said i _) ∙ found ns u e

      abbrev turned_by : Members
      turned_by = turn_members ranks tr x y w i (said_by ranks tr i) s

      pub keeping-next : turned_by.chains ≤ w → Keeping (suc i) turned_by
      unfolding turn_members
      keeping-next l = rw (said i) (go (op i) refl (rw (said i) at l))
        where
          begun : (u : ℕ) → op i ≡ Begin u → (chain le u < w) ⊎ (w ≤ chain le u) → (enter_chain x y w u s (chain le u)).chains ≤ w → Keeping (suc i) (enter_chain x y w u s (chain le u))
          begun u e (inl t) l = entered u e t
          begun u e (inr t) l = absurd (omega (arith, l, ap (λ m. m.chains) (enter-full x y w u s (chain le u) t)))

          stays : (o : Ordering) → op i ≡ o → begins op (suc i) ≡ begins op i → Keeping (suc i) s
          stays o e q = record {
            lasts_are = rw q k.lasts_are;
            lasts_size = k.lasts_size;
            chains_are = rw q k.chains_are;
            chains_fit = k.chains_fit;
            first-is = rw q k.first-is;
            second_is = rw q k.second_is;
          }

          go : (o : Ordering) → op i ≡ o → (turn_members ranks tr x y w i o s).chains ≤ w → Keeping (suc i) (turn_members ranks tr x y w i o s)
          go (Link p u) e l = stays (Link p u) e (begins-suc op i (Link p u) e)
          go (Begin u) e l = rw (turned u e) (begun u e (lt-or-ge (chain le u) w) (rw (turned u e) at l))
          go Nothing e l = stays Nothing e (begins-suc op i Nothing e)

      pub keeping-stop : w < turned_by.chains → (row_past_width tr w ≢ events_in tr) × Short tr w i
      unfolding turn_members row_past_width
      keeping-stop l = go (op i) refl (rw (said i) at l)
        where
          stops : (u : ℕ) → op i ≡ Begin u → (chain le u < w) ⊎ (w ≤ chain le u) → w < (enter_chain x y w u s (chain le u)).chains → (needs le w (events_in tr) ≢ events_in tr) × Short tr w i
          stops u e (inl t) l = absurd (omega (arith, l, ap (λ m. m.chains) (enter-room x y w u s (chain le u) t), k.chains_fit))
          stops u e (inr t) l =
              let b = begun-below a w [] i u h e in
              let v = events_are a w [] in
              let q : needs le w (events_in tr) ≡ u = needs-at le w (events_in tr) u (omega (arith, b.1, v)) (omega (arith, k.chains_are, k.chains_fit, ap (used le) b.0)) t in
              (λ z. omega (arith, q, z, b.1, v), record { place = rw q (sym (begin-position a w [] i u h e)); inside = h })

          go : (o : Ordering) → op i ≡ o → w < (turn_members ranks tr x y w i o s).chains → (needs le w (events_in tr) ≢ events_in tr) × Short tr w i
          go (Link p u) e l = absurd (omega (arith, l, k.chains_fit))
          go (Begin u) e l = stops u e (lt-or-ge (chain le u) w) (rw (turned u e) at l)
          go Nothing e l = absurd (omega (arith, l, k.chains_fit))

  pub keeping-end : (s : Members) → Keeping n s → (row_past_width tr w ≡ events_in tr) × (s.first ≡ get_or (chain_table tr) x 0) × (s.second ≡ get_or (chain_table tr) y 0)
  unfolding row_past_width chain_table
  keeping-end s k =
      let v = events_are a w [] in
      ((needs-none le w (events_in tr)).1 (omega (arith, k.chains_are, k.chains_fit, ap (used le) v)), rw (← v) k.first-is, rw (← v) k.second_is)

-- The loop of the pass, turn by turn.
module _ (tr : List Record) (x y w : ℕ) (ranks : List ℕ) where
  pub record Going (s : Members) (i : ℕ) : Type 0 where
    pub within : i ≤ length tr
    pub acceptable : Acceptable tr
    pub no_sends : has_send tr ≡ false
    pub narrow : w ≤ 1024
    pub ranks_are : ranks ≡ ranks_of tr
    pub keeping : Keeping acceptable x y w narrow i s

  pub going_start : (ls : List ℕ) → length ls ≡ 1024 → ReadyChains tr w ranks → has_send tr ≡ false
      → Going (record { lasts = ls; chains = 0; first = 0; second = 0 }) 0
  going_start ls h r ns = record {
    within = omega arith;
    acceptable = r.acceptable;
    no_sends = ns;
    narrow = r.narrow;
    ranks_are = r.ranks_are;
    keeping = keeping_start r.acceptable x y w r.narrow ls h;
  }

  module _ {s : Members} {i : ℕ} (g : Going s i) where
    pub going-room : i < length tr → RoomFor (said_by ranks tr i) s
    going-room h = rw (g.ranks_are, ops-are g.acceptable i) (keeping-room g.acceptable x y w g.narrow i s h g.keeping)

    module _ (h : i < length tr) (s' : Members) (t : s' ≡ turn_members ranks tr x y w i (said_by ranks tr i) s) where
      pub going_next : s'.chains ≤ w → Going s' (i + 1)
      going_next l = record {
        within = omega arith;
        acceptable = g.acceptable;
        no_sends = g.no_sends;
        narrow = g.narrow;
        ranks_are = g.ranks_are;
        keeping = rw (add-one i, t) (keeping-next g.acceptable x y w g.narrow i s h g.keeping ranks g.ranks_are g.no_sends (rw t at l));
      }

      pub going-stop : w < s'.chains → PassesChains tr x y w i s'.first s'.second
      going-stop l =
          let z = keeping-stop g.acceptable x y w g.narrow i s h g.keeping ranks g.ranks_are g.no_sends (rw t at l) in
          record { whole = λ e. absurd (z.0 e); short = λ n. z.1 }

    pub going_end : length tr ≤ i → PassesChains tr x y w (length tr) s.first s.second
    going_end h =
        let l = g.within in
        let e : i ≡ length tr = omega arith in
        let k = keeping-end g.acceptable x y w g.narrow s (rw e at g.keeping) in
        record { whole = λ z. (k.1, k.2, refl); short = λ n. absurd (n k.0) }
