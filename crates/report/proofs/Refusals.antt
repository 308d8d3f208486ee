-- Refusals have numbers up to 31 and places up to 4,097; the reader's. Assumes nothing.
use Prim.Native.Nat.{ℕ, zero, suc, ◌+◌, ◌≤◌}
use mathlib.Core.Path.{◌≡◌, refl}
use mathlib.Core.Bool.{Bool, true, false, cond, not, ◌&&◌}
use mathlib.Core.List.{List, [], ◌∷◌}
use native.Mathlib.Omega.{arith}
use lib.Dec.{eqb}
use lib.ListN.{length}
use Rattle.records.specs.declared.Record.{Record}
use Rattle.records.specs.Records.{is_begin, begun, ended}
use Rattle.trace.specs.Place.{place, unknown_kind}
use Rattle.trace.specs.Rule.{situation, owner, well_formed, misplaced, again, early, judge, behind, rule}
use Rattle.trace.specs.Reply.{Reply, refused, gives, demand, or_else, then}
use Rattle.trace.specs.Reading.{closing, walk, trailer_reply, frame_reply, records_in, read_reply}
use Rattle.trace.proofs.Accepted.{framed, records-length}

unfoldable pub Small : {A : Type 0} → Reply A → Type 0
Small (refused n p) = (n ≤ 31) × (p ≤ 4097)
Small (gives a) = Unit {0}

module _ {A : Type 0} where
  pub small-gives : (a : A) → Small (gives a)
  unfolding Small
  small-gives a = tt

  pub small-demand : (t : Bool) (n p : ℕ) (y : Reply A) → n ≤ 31 → p ≤ 4097 → Small y → Small (demand t n p y)
  unfolding demand Small
  small-demand true n p y h k s = s
  small-demand false n p y h k s = (h, k)

  small-else : (n p : ℕ) (y : Reply A) → n ≤ 31 → p ≤ 4097 → Small y → Small (or_else n p y)
  unfolding or_else Small
  small-else zero p y h k s = s
  small-else (suc n) p y h k s = (h, k)

pub small-then : {A B : Type 0} (x : Reply A) (f : A → Reply B) → Small x → ((a : A) → gives a ≡ x → Small (f a)) → Small (then x f)
unfolding then Small
small-then (refused n p) f s g = s
small-then (gives a) f s g = g a refl

rule-small : (before : List Record) (r : Record) → rule before r ≤ 31
unfolding rule judge
rule-small before r =
    let s = situation before in
    let e = owner before in
    go (eqb (place s r.kind) unknown_kind) (not (well_formed r)) (misplaced s e r)
    (again r (begun r.first before) (begun r.second before)) (is_begin r && behind r.first before) (early r (ended r.second before))
  where
    go : (x y z u w v : Bool) → cond x 4 (cond y 5 (cond z 6 (cond u 7 (cond w 31 (cond v 8 0))))) ≤ 31
    go true y z u w v = omega arith
    go false true z u w v = omega arith
    go false false true u w v = omega arith
    go false false false true w v = omega arith
    go false false false false true v = omega arith
    go false false false false false true = omega arith
    go false false false false false false = omega arith

walk-small : (start m : ℕ) (rest before : List Record) → length before + length rest ≤ 4096 → Small (walk start m before rest)
unfolding walk closing
walk-small start m [] before h =
    small-demand _ 9 (length before) _ (omega arith) (omega arith) (small-demand _ 10 0 _ (omega arith) (omega arith) (small-gives _))
walk-small start m (r ∷ rest) before h =
    small-else (rule before r) (length before + 1) (walk start m (r ∷ before) rest) (omega (arith, rule-small before r)) (omega arith)
    (walk-small start m rest (r ∷ before) (omega arith))

frame_small : (b : List ℕ) → Small (frame_reply b)
unfolding frame_reply trailer_reply
frame_small b =
    small-demand _ 1 0 _ (omega arith) (omega arith) (small-demand _ 1 0 _ (omega arith) (omega arith)
    (small-demand _ 2 0 _ (omega arith) (omega arith) (small-demand _ 3 0 _ (omega arith) (omega arith) (small-gives _))))

pub read_small : (b : List ℕ) → Small (read_reply b)
unfolding read_reply
read_small b = small-then (frame_reply b) _ (frame_small b) (λ t e. let f = framed b t e in
    walk-small t.start t.events (records_in b t) [] (omega (arith, f.few, records-length f)))
