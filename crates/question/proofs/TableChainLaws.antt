-- The chains found in a table that tells the order are the chains. Assumes nothing.
use Prim.Native.Nat.{ℕ, ◌+◌, ◌<◌, ◌≤◌}
use mathlib.Core.Path.{◌≡◌, sym, ap, ◌∙◌}
use mathlib.Core.Bool.{Bool}
use mathlib.Core.List.{List}
use mathlib.Core.Logic.{◌⊎◌, inl, inr}
use native.Mathlib.Omega.{arith}
use native.Mathlib.Numerals.{add-one}
use lib.ListN.{length, get_or}
use Rattle.slices.proofs.Tests.{decide-lt}
use Rattle.records.specs.declared.Record.{Record}
use Rattle.order.specs.Links.{Links, leq}
use Rattle.order.specs.Chains.{lasts, chain, used}
use Rattle.order.specs.HappensBefore.{trace_links}
use Rattle.order.specs.Fill.{events_in, begin_position, row_past_width, chain_table}
use Rattle.order.specs.loops.FromTable.{Tells}
use Rattle.order.proofs.CountLaws.{first_from-local}
use Rattle.order.proofs.ChainLaws.{chain-search, lasts-last, needs-at, needs-none}
use Rattle.order.proofs.TableLaws.{events-few}
use Rattle.order.proofs.TablePass.{position-whole, position-short}
use Rattle.question.specs.declared.chains.Members.{Members}
use Rattle.question.specs.loops.ChainPass.{enter_chain, ReadyChains, PassesChains}
use Rattle.question.specs.loops.TableChains.{bit_chain, ReadyRows, EntersRows}
use Rattle.question.proofs.HoldLaws.{Holding, enter-room, enter-full, holding-start, holding-next}

module _ (before : ℕ → ℕ → Bool) (m x y w : ℕ) where
  -- the chain found is the chain
  found : (l : Links) → Tells before m l → (u : ℕ) → u < m → (s : Members) → Holding l x y w u s → bit_chain before s.lasts s.chains u ≡ chain (leq l) u
  unfolding bit_chain
  found l t u h s k =
      rw k.chains_are
      (first_from-local (λ c. before (get_or s.lasts c 0) u) (λ c. leq l (get_or (lasts (leq l) u) c 0) u) 0 (used (leq l) u) each
      ∙ sym (chain-search (leq l) u))
    where
      each : (c : ℕ) → 0 ≤ c → c < 0 + used (leq l) u → before (get_or s.lasts c 0) u ≡ leq l (get_or (lasts (leq l) u) c 0) u
      each c a b =
          let i : c < used (leq l) u = omega arith in
          ap (λ (p : ℕ). before p u) (k.lasts_are c i) ∙ t.tests (get_or (lasts (leq l) u) c 0) u (lasts-last (leq l) u c i).before h

  -- row by row
  pub record Going (l : Links) (s : Members) (u : ℕ) : Type 0 where
    pub tells : Tells before m l
    pub narrow : w ≤ 1024
    pub few : m ≤ 1024
    pub within : u ≤ m
    pub holding : Holding l x y w u s

  pub going_start : ReadyRows before m w → (ls : List ℕ) → length ls ≡ 1024 → (l : Links) → Tells before m l
      → Going l (record { lasts = ls; chains = 0; first = 0; second = 0 }) 0
  going_start r ls h l t = record { tells = t; narrow = r.narrow; few = r.few; within = omega arith; holding = holding-start l x y w ls h }

  module _ (l : Links) (s : Members) (u : ℕ) (g : Going l s u) where
    pub going-room : u < m → (u < 1024) × (s.chains ≤ 1024) × (length s.lasts ≡ 1024)
    going-room h = (omega (arith, g.few), omega (arith, g.holding.chains_fit, g.narrow), g.holding.lasts_size)

    module _ (h : u < m) (s' : Members) (e : s' ≡ enter_chain x y w u s (bit_chain before s.lasts s.chains u)) where
      after : s' ≡ enter_chain x y w u s (chain (leq l) u)
      after = e ∙ ap (enter_chain x y w u s) (found l g.tells u h s g.holding)

      pub going_next : s'.chains ≤ w → Going l s' (u + 1)
      going_next k = go (decide-lt (chain (leq l) u) w)
        where
          go : (chain (leq l) u < w) ⊎ (w ≤ chain (leq l) u) → Going l s' (u + 1)
          go (inl j) = rw (add-one u) (record {
            tells = g.tells;
            narrow = g.narrow;
            few = g.few;
            within = h;
            holding = rw after (holding-next l x y w g.narrow u (omega (arith, g.few)) s g.holding j);
          })
          go (inr j) = absurd (omega (arith, ap (λ (z : Members). z.chains) (after ∙ enter-full x y w u s (chain (leq l) u) j)))

      pub going-stop : w < s'.chains → EntersRows l m x y w u s'.first s'.second
      going-stop k = go (decide-lt (chain (leq l) u) w)
        where
          go : (chain (leq l) u < w) ⊎ (w ≤ chain (leq l) u) → EntersRows l m x y w u s'.first s'.second
          go (inl j) =
              absurd (omega (arith, ap (λ (z : Members). z.chains) (after ∙ enter-room x y w u s (chain (leq l) u) j), g.holding.chains_fit))
          go (inr j) = record {
            rows_are = sym (needs-at (leq l) w m u h (omega (arith, g.holding.chains_are, g.holding.chains_fit)) j);
            first-is = λ z. absurd (omega arith);
            second_is = λ z. absurd (omega arith);
          }

    pub going_end : m ≤ u → EntersRows l m x y w m s.first s.second
    going_end k =
        let z : u ≡ m = omega (arith, g.within) in
        let o = rw z at g.holding in
        record {
          rows_are = sym ((needs-none (leq l) w m).1 (omega (arith, o.chains_are, o.chains_fit)));
          first-is = λ q. o.first-is;
          second_is = λ q. o.second_is;
        }

-- of a trace
module _ (tr : List Record) (w events : ℕ) (ranks : List ℕ) (r : ReadyChains tr w ranks) (ee : events ≡ events_in tr) where
  pub tells-events : (before : ℕ → ℕ → Bool) → Tells before (events_in tr) (trace_links tr) → Tells before events (trace_links tr)
  tells-events before t = rw ee t

  pub ready-rows : (before : ℕ → ℕ → Bool) → Tells before (events_in tr) (trace_links tr) → ReadyRows before events w
  ready-rows before t = record {
    links = trace_links tr;
    tells = tells-events before t;
    narrow = r.narrow;
    few = omega (arith, ee, events-few r.acceptable);
  }

  pub table-passes : (x y rows fst snd position : ℕ) → EntersRows (trace_links tr) events x y w rows fst snd → position ≡ begin_position tr rows
      → PassesChains tr x y w position fst snd
  unfolding row_past_width chain_table
  table-passes x y rows fst snd position n p =
      let g : EntersRows (trace_links tr) (events_in tr) x y w rows fst snd = rw ee at n in
      record {
        whole = λ e.
            let q : rows ≡ events_in tr = g.rows_are ∙ e in
            (g.first-is q, g.second_is q, position-whole tr w rows position g.rows_are p e);
        short = position-short tr w rows position g.rows_are p;
      }
