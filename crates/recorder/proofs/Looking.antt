-- Looking back through the records, one at a time; and the facts that the rules ask for.
-- Assumes nothing.
use Prim.Native.Nat.{ℕ, ◌-◌, ◌<◌}
use mathlib.Core.Path.{◌≡◌, refl}
use mathlib.Core.Bool.{Bool, true, false, cond, not, ◌&&◌, ◌||◌}
use mathlib.Core.List.{List}
use borrow.Author.Tests.{eq-eqb, ne_eqb}
use lib.Dec.{eqb}
use Rattle.records.specs.declared.Record.{Record}
use Rattle.records.specs.Records.{at, past, is_begin, is_join, has}
use Rattle.records.specs.Kinds.{starts}
use Rattle.trace.specs.Rule.{again, early, judge}
use Rattle.records.proofs.Records.{past-less}
use Rattle.recorder.specs.Recording.{of_kind}

-- the record before position i, and those before it
module _ (tr : List Record) (kind e i : ℕ) (h : 0 < i) where
  pub seen_here : (at tr (i - 1)).kind ≡ kind → (at tr (i - 1)).first ≡ e → has (of_kind kind) e (past tr i) ≡ true
  unfolding has
  seen_here k f = rw (past-less tr i h, eq-eqb (at tr (i - 1)).kind kind k, eq-eqb (at tr (i - 1)).first e f)

  pub other-kind : ((at tr (i - 1)).kind ≡ kind → ⊥) → has (of_kind kind) e (past tr i) ≡ has (of_kind kind) e (past tr (i - 1))
  unfolding has
  other-kind n = rw (past-less tr i h, ne_eqb (at tr (i - 1)).kind kind n)

  pub other-event : ((at tr (i - 1)).first ≡ e → ⊥) → has (of_kind kind) e (past tr i) ≡ has (of_kind kind) e (past tr (i - 1))
  unfolding has
  other-event n = rw (past-less tr i h, ne_eqb (at tr (i - 1)).first e n) (drop_false (eqb (at tr (i - 1)).kind kind) (has (of_kind kind) e (past tr (i - 1))))
    where
      drop_false : (a b : Bool) → ((a && false) || b) ≡ b
      drop_false true b = refl
      drop_false false b = refl

-- The rules ask whether first has begun of a begin and a join only, whether second has begun of a fork and a send, whether it has ended of a join.
again-asked : (r : Record) (x y : Bool) → again r ((is_begin r || is_join r) && x) (starts r && y) ≡ again r x y
unfolding again
again-asked r x y = go (is_begin r || is_join r) (starts r)
  where
    go : (s f : Bool) → cond f (f && y) (s && (s && x)) ≡ cond f y (s && x)
    go true true = refl
    go true false = refl
    go false true = refl
    go false false = refl

early-asked : (r : Record) (z : Bool) → early r (is_join r && z) ≡ early r z
unfolding early
early-asked r z = go (is_join r)
  where
    go : (j : Bool) → (j && not (j && z)) ≡ (j && not z)
    go true = refl
    go false = refl

pub judge-asked : (s e : ℕ) (r : Record) (x y z h : Bool)
    → judge s e r ((is_begin r || is_join r) && x) (starts r && y) (is_join r && z) h ≡ judge s e r x y z h
unfolding judge
judge-asked s e r x y z h = rw (again-asked r x y, early-asked r z)
