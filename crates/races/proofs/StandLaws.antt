-- Where raising stands: rows before are the cover clock's, the row itself is raised up to some record, and later rows hold what was passed on to them so far.
-- Assumes nothing.
use Prim.Native.Nat.{ℕ, suc, ◌≤◌, ◌<◌, max}
use mathlib.Core.Path.{◌≡◌, refl, sym, ap, ◌∙◌, subst}
use mathlib.Core.Logic.{◌≢◌, ◌⊎◌, inl, inr, ◌↔◌}
use mathlib.Core.Bool.{Bool, true, false}
use mathlib.Core.List.{List}
use native.Mathlib.Omega.{arith}
use lib.Dec.{T, leb, leb→le, le→leb}
use lib.ListN.{length}
use Rattle.records.specs.declared.Record.{Record}
use Rattle.records.specs.Records.{at}
use Rattle.records.specs.Kinds.{has_send}
use Rattle.trace.specs.Reading.{Acceptable}
use Rattle.ranks.specs.declared.Ordering.TheVariants.{Begin}
use Rattle.coverage.specs.Race.{Race}
use Rattle.coverage.specs.Leading.{coveredb}
use Rattle.coverage.specs.loops.Whole.{Edges}
use Rattle.slices.proofs.Tests.{decide_eq, same as equal-tests}
use Rattle.order.specs.loops.Sets.{index}
use Rattle.order.specs.Schedule.{linked}
use Rattle.order.specs.Clocks.{chain_of, entry, largest}
use Rattle.order.specs.loops.RecordLinks.{ordering_at}
use Rattle.order.specs.HappensBefore.{trace_links}
use Rattle.order.proofs.SetLaws.{largest-le}
use Rattle.order.proofs.ScheduleLaws.{begins-zero, linked-suc}
use Rattle.order.proofs.WalkLaws.{along-start, linked-all}
use Rattle.order.proofs.RecordOrder.{records-make, ops-ordered}
use Rattle.order.proofs.TraceOrder.{forward-links}
use Rattle.order.proofs.CoverRows.{cover-own, mark-decides, race-earlier}
use Rattle.races.specs.Traces.{setting_of}
use Rattle.races.proofs.Instance.{laws}
use Rattle.races.proofs.CoverNumbers.{events, name_of, number, Tested, numbered, in_order, number-name}
use Rattle.races.proofs.RaisedRows.{final, final_at, Raised, name-of, raised-start}

module _ (tr : List Record) (e : ℕ → ℕ → Bool) where
  -- At row t; the edges with a second before y are merged. Without a send record i is its begin, and rows to come have what was passed on along the links
  -- of the records up to there; with one they are as filled.
  pub record Standing (i t y : ℕ) (rows : ℕ → ℕ → ℕ) : Type 0 where
    pub inside : i < length tr
    pub known : t < events tr
    pub done : (v c : ℕ) → v < t → rows v c ≡ final tr v c
    pub row : Raised tr e t y (rows t)
    pub seen : (d : ℕ) → d < y → number tr d ≤ t
    pub begins_it : has_send tr ≡ false → ordering_at tr i ≡ Begin t
    pub coming : has_send tr ≡ false → (v c : ℕ) → t < v → rows v c ≡ max (entry (trace_links tr) v c) (largest (linked (ordering_at tr) (suc i) v) (λ p. final tr p c))
    pub filled : has_send tr ≡ true → (v c : ℕ) → t < v → rows v c ≡ entry (trace_links tr) v c

module _ {tr : List Record} (a : Acceptable tr) where
  module _ (e : ℕ → ℕ → Bool) (es : Edges (setting_of tr) (Tested tr e)) where
    -- no edge leads into row v from record y on
    abbrev pub NoEdge : ℕ → ℕ → Type 0
    NoEdge v y = (p d : ℕ) → T (e p d) → number tr d ≡ v → y ≤ d → ⊥

    -- the rows where the links after its begin are passed on
    pub stand-leave : {i t y : ℕ} {rows : ℕ → ℕ → ℕ} → Standing tr e i t y rows → NoEdge t y → (v c : ℕ) → v < suc t → rows v c ≡ final tr v c
    stand-leave {i} {t} {y} {rows} s n v c h = go (decide_eq v t)
      where
        go : (v ≡ t) ⊎ (v ≢ t) → rows v c ≡ final tr v c
        go (inl q) = rw q (s.row.ends c n)
        go (inr q) = s.done v c (omega arith)

    -- no edge into row t has a second before y
    all-later : (t y : ℕ) → ((d : ℕ) → d < y → number tr d < t) → (p d : ℕ) → T (e p d) → number tr d ≡ t → y ≤ d
    all-later t y s p d w n = let z : d < y → ⊥ = λ l. omega (arith, s d l) in omega (arith, z)

    -- and where the next begin is met
    pub stand-arrive : has_send tr ≡ false → (j t y : ℕ) (rows : ℕ → ℕ → ℕ) → j < length tr → ordering_at tr j ≡ Begin t → t < events tr → ((d : ℕ) → d < y → number tr d < t) → ((v c : ℕ) → v < t → rows v c ≡ final tr v c) → ((v c : ℕ) → t ≤ v → rows v c ≡ max (entry (trace_links tr) v c) (largest (linked (ordering_at tr) j v) (λ p. final tr p c))) → Standing tr e j t y rows
    stand-arrive n j t y rows h b k s f g = record {
      inside = h;
      known = k;
      done = f;
      row = raised-start a e es t k y (all-later t y s) (rows t) (λ c. g t c (omega arith) ∙ ap (max (entry (trace_links tr) t c)) (linked-all (ordering_at tr) (length tr) (ops-ordered a) (trace_links tr) (records-make tr n) j t (λ p. final tr p c) h b));
      seen = λ d l. omega (arith, s d l);
      begins_it = λ m. b;
      coming = λ m v c l. rw (linked-suc (ordering_at tr) j v (Begin t) b) (g v c (omega arith));
      filled = λ m. absurd (subst T (sym m ∙ n) tt);
    }

    -- or where row t is ready, with a send
    pub stand-ready : has_send tr ≡ true → (j t y : ℕ) (rows : ℕ → ℕ → ℕ) → j < length tr → t < events tr → ((d : ℕ) → d < y → number tr d < t) → ((v c : ℕ) → v < t → rows v c ≡ final tr v c) → ((c : ℕ) → rows t c ≡ max (entry (trace_links tr) t c) (largest ((trace_links tr).preds t) (λ p. final tr p c))) → ((v c : ℕ) → t < v → rows v c ≡ entry (trace_links tr) v c) → Standing tr e j t y rows
    stand-ready n j t y rows h k s f r g = record {
      inside = h;
      known = k;
      done = f;
      row = raised-start a e es t k y (all-later t y s) (rows t) r;
      seen = λ d l. omega (arith, s d l);
      begins_it = λ m. absurd (subst T (sym n ∙ m) tt);
      coming = λ m. absurd (subst T (sym n ∙ m) tt);
      filled = λ m. g;
    }

    -- At the first row, as filled.
    pub stand-first : (y : ℕ) → 0 < length tr → 0 < events tr → ordering_at tr 0 ≡ Begin 0 → ((d : ℕ) → d < y → ⊥) → Standing tr e 0 0 y (entry (trace_links tr))
    stand-first y h k b s = go (has_send tr) refl
      where
        go : (x : Bool) → has_send tr ≡ x → Standing tr e 0 0 y (entry (trace_links tr))
        go false n =
            let l = along-start (ordering_at tr) (entry (trace_links tr)) (final tr) (entry (trace_links tr)) (λ u c. refl) in
            stand-arrive n 0 0 y (entry (trace_links tr)) h b k (λ d l. absurd (s d l)) (λ v c l. absurd (omega arith)) (λ v c i. l.coming v c (omega (arith, begins-zero (ordering_at tr))))
        go true n =
            stand-ready n 0 0 y (entry (trace_links tr)) h k (λ d l. absurd (s d l)) (λ v c l. absurd (omega arith)) (λ c. omega (arith, largest-le ((trace_links tr).preds 0) (λ p. final tr p c) 0 (λ p m. absurd (omega (arith, forward-links a 0 p m))))) (λ v c l. refl)

    -- The mark of a race (x, b) where b is met.
    pub stand-marks : {i t y : ℕ} {rows : ℕ → ℕ → ℕ} → Standing tr e i t y rows → (b : ℕ) → number tr b ≡ t → y ≤ b → ((p d : ℕ) → T (e p d) → y ≤ d → b ≤ d) → (x : ℕ) → Race (setting_of tr) x b → (number tr x < t) × (leb (rows (number tr x) (chain_of (trace_links tr) (number tr x))) (rows t (chain_of (trace_links tr) (number tr x))) ≡ coveredb (setting_of tr) x b)
    stand-marks {i} {t} {y} {rows} s b n l f x r = (before, rw (s.done (number tr x) c before, s.row.here b c r.inside n l (λ p d w z m. f p d w m), own) told)
      where
        c : ℕ
        c = chain_of (trace_links tr) (number tr x)

        there : (number tr x < events tr) × ((at tr x).first ≡ name_of tr (number tr x))
        there = number-name a x (omega (arith, r.first, r.inside))

        before : number tr x < t
        before = race-earlier (setting_of tr) (laws a) (events tr) (name_of tr) (chain_of (trace_links tr)) (numbered a) (in_order a) x b (number tr x) t r there.0 s.known there.1 (name-of a b t r.inside n)

        own : final tr (number tr x) c ≡ index (chain_of (trace_links tr)) (number tr x)
        own = cover-own (setting_of tr) (laws a) (events tr) (name_of tr) (chain_of (trace_links tr)) (numbered a) (in_order a) (number tr x) there.0

        decides : T (coveredb (setting_of tr) x b) ↔ (index (chain_of (trace_links tr)) (number tr x) ≤ final_at tr b t c)
        decides = mark-decides (setting_of tr) (laws a) (events tr) (name_of tr) (chain_of (trace_links tr)) (numbered a) (in_order a) t s.known b r.inside (name-of a b t r.inside n) x (number tr x) there.0 there.1

        told : leb (index (chain_of (trace_links tr)) (number tr x)) (final_at tr b t c) ≡ coveredb (setting_of tr) x b
        told = equal-tests (leb (index (chain_of (trace_links tr)) (number tr x)) (final_at tr b t c)) (coveredb (setting_of tr) x b) (λ h. decides.1 (leb→le (index (chain_of (trace_links tr)) (number tr x)) (final_at tr b t c) h)) (λ h. le→leb (index (chain_of (trace_links tr)) (number tr x)) (final_at tr b t c) (decides.0 h))
