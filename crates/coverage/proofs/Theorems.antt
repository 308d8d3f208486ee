-- The theorems, in one place: over any setting with its laws.
use Prim.Native.Nat.{ℕ, ◌≤◌, ◌<◌}
use mathlib.Core.Path.{◌≡◌, refl, sym, subst}
use mathlib.Core.Logic.{◌≢◌, ◌⊎◌, inl, inr, ◌↔◌}
use mathlib.Core.Bool.{Bool, false}
use mathlib.Core.List.{List}
use native.Mathlib.Omega.{arith}
use lib.Dec.{T}
use Rattle.coverage.specs.Below.{◌∈◌, Listed, Ordered}
use Rattle.coverage.specs.Setting.{Setting, Laws}
use Rattle.coverage.specs.Race.{before, Race, raceb}
use Rattle.coverage.specs.Cover.{Covers, Covered, Open, coversb}
use Rattle.coverage.specs.Arrangement.{Last, Arrangement, Accesses, Accessible}
use Rattle.coverage.specs.Leading.{Leads, leads, coveredb, kept, entries}
use Rattle.coverage.specs.Neighbours.{Cells, conflicts, Neighbours, neighbour}
use Rattle.coverage.specs.Lists.{all_races, short_list, ShortBound}
use Rattle.coverage.specs.Demand.{OpenExactly, OpenCells}
use Rattle.coverage.specs.Retelling.{Shortest}
use Rattle.coverage.proofs.Order
use Rattle.coverage.proofs.Spelled.{Spelled}
use Rattle.coverage.proofs.Spelled as Spelling
use Rattle.coverage.proofs.CoverTest
use Rattle.coverage.proofs.Leads as Leading
use Rattle.coverage.proofs.Steps.{Links, GoOn, Onward}
use Rattle.coverage.proofs.Steps
use Rattle.coverage.proofs.Needed
use Rattle.coverage.proofs.Entries
use Rattle.coverage.proofs.Kept
use Rattle.coverage.proofs.Retelling
use Rattle.coverage.proofs.Short
use Rattle.coverage.proofs.Some
use Rattle.coverage.proofs.Pairs
use Rattle.coverage.proofs.Listed.{Enough}
use Rattle.coverage.proofs.Listed as On
use Rattle.coverage.proofs.Bound

module _ (t : Setting) where
  -- "So a ≼ a is false for records."
  pub before_self : (a : ℕ) → T (before t a a) → ⊥
  before_self a h = go (Order.before-cases t a a h)
    where
      go : ((t.ev a ≡ t.ev a) × (a < a)) ⊎ ((t.ev a ≢ t.ev a) × T (t.le (t.ev a) (t.ev a))) → ⊥
      go (inl k) = omega (arith, k.1)
      go (inr k) = k.0 refl

  -- The computed race test says what a race is.
  pub race-iff : (a b : ℕ) → T (raceb t a b) ↔ Race t a b
  race-iff a b = (Order.race-of t a b, Order.of-race t a b)

  -- The computed test says what a cover is.
  pub covers-test : (cs : List (ℕ × ℕ)) (a b : ℕ) → T (coversb t cs a b) ↔ Covers t cs a b
  covers-test cs a b = (CoverTest.cover-of t b (t.ev a) cs, CoverTest.of-cover t b)

  -- A cover, place by place: "n at least 1, when ev(a) ≼ ev(c1), each ev(di) ≼ ev(c(i+1)), and dn ≼ b"
  pub covers-iff : (a b : ℕ) (cs : List (ℕ × ℕ)) → Covers t cs a b ↔ Spelled t b (t.ev a) cs
  covers-iff = Spelling.covers-spelled t

  -- "From both definitions, it follows that operation b must be the last operation": of an arrangement that runs b and not a
  pub accesses-last : (a b : ℕ) → Race t a b → (π : List ℕ) → Accesses t a b π → Last b π
  accesses-last = Needed.accesses-last t

  -- The lists hold the races, and the races among neighbours.
  pub in_all : (a b : ℕ) → Listed a b (all_races t) ↔ Race t a b
  in_all = Pairs.in_all t

  pub in-short : (s : Cells) (a b : ℕ) → Listed a b (short_list t s) ↔ (Neighbours s a b × Race t a b)
  in-short = Pairs.in-short t

  -- "ordered by second record, then first"
  pub all-ordered : Ordered (all_races t)
  all-ordered = Pairs.all-ordered t

  pub short-ordered : (s : Cells) → Ordered (short_list t s)
  short-ordered = Pairs.short-ordered t

  -- "With p writes (at least 1) and q reads there are at most p − 1 + 2q entries."
  pub short-bound : (s : Cells) → ShortBound t s
  short-bound = Bound.short-bound t

module _ (t : Setting) (w : Laws t) where
  -- The computed test says from which event actions "happens-before and races lead to b".
  pub leads-iff : (b u : ℕ) → T (leads t b u) ↔ Leads t b u
  leads-iff = Leading.leads-exact t w

  -- The computed mark says whether a race is covered.
  pub covered-iff : (a b : ℕ) → Race t a b → T (coveredb t a b) ↔ Covered t a b
  covered-iff = Leading.covered-iff t w

  -- The third demand. The source: "If a race R ∈ races(π) \ uncovered(π), then R is not accessible"; "if R ∈ uncovered(π), then R is an accessible
  -- race"
  pub open_exactly : (a b : ℕ) → Race t a b → OpenExactly t a b
  open_exactly a b r = record {
    arranged = (λ h. (kept t b, given h), λ p. iff.1 (λ cs c. Needed.covered-stuck t w a b r (cs, c) p.0 p.1.0 p.1.1 p.1.2));
    uncovered = iff;
    given = given;
    spelled = Entries.entries-written t w b r.inside;
    covered = λ h. (covered-iff a b r).0 (subst T (sym h) tt);
  }
    where
      iff : (coveredb t a b ≡ false) ↔ Open t a b
      iff = Leading.open-iff t w a b r

      given : coveredb t a b ≡ false → Accesses t a b (kept t b)
      given h = Kept.open-accesses t w a b r (iff.0 h)

  -- "keeps ev(b) up to b, and the whole of each other event action t from which happens-before and races lead to b"
  pub kept-iff : (b : ℕ) → b < t.size → (x : ℕ) → (x ∈ kept t b) ↔ (((t.ev x ≡ t.ev b) × (x ≤ b)) ⊎ ((t.ev x ≢ t.ev b) × (x < t.size) × Leads t b (t.ev x)))
  kept-iff = Kept.kept-iff t w

  -- A cover can be read off forwards: the next race of it, from any event action that leads to b.
  pub cover-next : (b u : ℕ) → b < t.size → T (leads t b u) → (T (t.le u (t.ev b)) → ⊥) → (c d : ℕ) × Race t c d × T (t.le u (t.ev c)) × (d < b) × (T (before t d b) ⊎ (T (leads t b (t.ev d)) × (T (t.le (t.ev d) (t.ev b)) → ⊥)))
  cover-next = Leading.cover-next t w

  -- The next race can be taken from the list of all races, and, below, from the short list.
  pub all-enough : Enough t (all_races t)
  all-enough = On.all-enough t w

  -- What leads to b, but for ev(b), stands wholly before b.
  pub leads-ahead : (b x : ℕ) → b < t.size → x < t.size → t.ev x ≢ t.ev b → T (leads t b (t.ev x)) → x < b
  leads-ahead = Leading.leads-ahead t w

  -- "each arrangement running the second access without the first contains all event actions of the one given": every one that runs b does
  pub minimal : (b : ℕ) (π : List ℕ) → Arrangement t π → b ∈ π → (x : ℕ) → x ∈ kept t b → x ∈ π
  minimal b π A = Needed.minimal t w π A b

  -- so the one given is the shortest, and in trace order the only one of its event actions
  pub shortest : (a b : ℕ) → Race t a b → Open t a b → Shortest t a b (entries t b)
  shortest = Retelling.shortest t w

  -- "a trace with any race has an open one"
  pub some-open : (a b : ℕ) → Race t a b → (c d : ℕ) × Race t c d × Open t c d
  some-open = Some.some-open t w

  -- The source: "A trace π is race-free (⟦π⟧ has no accessible races) iff races(π) = ∅."
  pub race-free : ((a b : ℕ) → Race t a b → Accessible t a b → ⊥) ↔ ((a b : ℕ) → Race t a b → ⊥)
  race-free = (λ f a b r. let (c, d, q, o) = some-open a b r in f c d q (kept t d, Kept.open-accesses t w c d q o), λ n a b r _. n a b r)

-- `leads b` by one step, for an order made of direct links: what one pass from b down to the first record computes.
module _ (t : Setting) (w : Laws t) (Link : ℕ → ℕ → Type 0) (ls : Links t Link) (b : ℕ) (in-trace : b < t.size) where
  pub leads-step : (u : ℕ) → u ≢ t.ev b → T (leads t b u) ↔ (((v : ℕ) × Link u v × T (leads t b v)) ⊎ ((c d : ℕ) × (t.ev c ≡ u) × (c < d) × (d < b) × T (t.conf c d) × T (leads t b (t.ev d))))
  leads-step = Steps.leads-step t w Link ls b in-trace

  -- It is the least set of event actions that holds ev(b) and is closed under such steps, and the only one that holds nothing else.
  pub least : GoOn t Link → (P : ℕ → Type 0) → P (t.ev b) → ((x : ℕ) → x < b → t.ev x ≢ t.ev b → Onward t Link b P (t.ev x) → P (t.ev x)) → (x : ℕ) → x < t.size → T (leads t b (t.ev x)) → P (t.ev x)
  least = Steps.least t w Link ls b in-trace

  pub leads-only : GoOn t Link → (f : ℕ → Bool) → T (f (t.ev b)) → ((x : ℕ) → x < b → t.ev x ≢ t.ev b → T (f (t.ev x)) ↔ Onward t Link b (λ v. T (f v)) (t.ev x)) → ((x : ℕ) → b < x → x < t.size → t.ev x ≢ t.ev b → T (f (t.ev x)) → ⊥) → (x : ℕ) → x < t.size → f (t.ev x) ≡ leads t b (t.ev x)
  leads-only = Steps.leads-only t w Link ls b in-trace

-- The computed test says the three families of the short list.
pub neighbour-iff : (s : Cells) (a b : ℕ) → T (neighbour s a b) ↔ Neighbours s a b
neighbour-iff = Short.neighbour-iff

module _ (t : Setting) (w : Laws t) (s : Cells) (means : (a b : ℕ) → t.conf a b ≡ conflicts s a b) where
  -- An open race has neighbours with the same second that are an open race.
  pub open-neighbours : (a b : ℕ) → Race t a b → Open t a b → (p : ℕ) × (a ≤ p) × T (neighbour s p b) × Race t p b × Open t p b
  open-neighbours = Short.short-list t w s means

  pub short-enough : Enough t (short_list t s)
  short-enough = On.short-enough t w s means

  -- "For every cell, the short list names it as open exactly when some race on that cell, listed there or not, is open."
  pub open-cells : OpenCells t s
  open-cells c = (listed, named)
    where
      listed : (a b : ℕ) × Listed a b (short_list t s) × (s.cell b ≡ c) × (coveredb t a b ≡ false) → (a b : ℕ) × Race t a b × (s.cell b ≡ c) × Open t a b
      listed (a, b, m, e, h) = let r = ((in-short t s a b).0 m).1 in (a, b, r, e, (open_exactly t w a b r).uncovered.0 h)

      named : (a b : ℕ) × Race t a b × (s.cell b ≡ c) × Open t a b → (a b : ℕ) × Listed a b (short_list t s) × (s.cell b ≡ c) × (coveredb t a b ≡ false)
      named (a, b, r, e, o) = let (p, l, n, q, k) = open-neighbours a b r o in (p, b, (in-short t s p b).1 ((neighbour-iff s p b).0 n, q), e, (open_exactly t w p b q).uncovered.1 k)
