-- The place rule, kind by kind.
-- Assumes nothing.
use Prim.Native.Nat.{ℕ, ◌<◌, ◌≤◌, zero-le}
use mathlib.Core.Path.{◌≡◌, ◌∙◌}
use mathlib.Core.Bool.{true, false, cond}
use mathlib.Core.Logic.{◌≢◌, ◌⊎◌, inl, inr}
use native.Mathlib.Omega.{arith}
use native.Mathlib.Decide.{ℕ_discrete}
use borrow.Author.Tests.{ne_eqb, eqb-false, lt-ltb, le-ltb, le-leb, lt-leb}
use lib.Dec.{ltb, eqb}
use Rattle.records.proofs.Positions.{lt-or-ge}
use Rattle.trace.specs.Place.{place}

-- outside an event action: a begin leads inside, a join after a join
pub data Outside (k next : ℕ) : Type 0 where
  begins : k ≡ 1 → next ≡ 2 → Outside k next
  joins : k ≡ 4 → next ≡ 1 → Outside k next

-- inside one: an end leads out; a fork, a send, a read and a write stay inside
pub data Inside (k next : ℕ) : Type 0 where
  ends : k ≡ 2 → next ≡ 0 → Inside k next
  forks : k ≡ 3 → next ≡ 2 → Inside k next
  reads : k ≡ 5 → next ≡ 2 → Inside k next
  writes : k ≡ 6 → next ≡ 2 → Inside k next
  sends : 16 ≤ k → k ≤ 19 → next ≡ 2 → Inside k next

-- the kinds, and no kind
pub data NoKind (k : ℕ) : Type 0 where
  zero : k ≡ 0 → NoKind k
  middle : 6 < k → k < 16 → NoKind k
  high : 19 < k → NoKind k

pub data KindOf (k : ℕ) : Type 0 where
  begin : k ≡ 1 → KindOf k
  end : k ≡ 2 → KindOf k
  fork : k ≡ 3 → KindOf k
  join : k ≡ 4 → KindOf k
  read : k ≡ 5 → KindOf k
  write : k ≡ 6 → KindOf k
  send : 16 ≤ k → k ≤ 19 → KindOf k
  none : NoKind k → KindOf k

above : (m k : ℕ) → m ≤ k → (k ≡ m → ⊥) → m < k
above m k l n = omega arith

pub kind-of : (k : ℕ) → KindOf k
kind-of k = go (ℕ_discrete k 1) (ℕ_discrete k 2) (ℕ_discrete k 3) (ℕ_discrete k 4) (ℕ_discrete k 5) (ℕ_discrete k 6) (ℕ_discrete k 0)
  where
    past-six : 6 < k → (k < 16) ⊎ (16 ≤ k) → (19 < k) ⊎ (k ≤ 19) → KindOf k
    past-six l (inl h) _ = none (middle l h)
    past-six l (inr h) (inl m) = none (high m)
    past-six l (inr h) (inr m) = send h m

    go : Dec (k ≡ 1) → Dec (k ≡ 2) → Dec (k ≡ 3) → Dec (k ≡ 4) → Dec (k ≡ 5) → Dec (k ≡ 6) → Dec (k ≡ 0) → KindOf k
    go (yes e) _ _ _ _ _ _ = begin e
    go (no a) (yes e) _ _ _ _ _ = end e
    go (no a) (no b) (yes e) _ _ _ _ = fork e
    go (no a) (no b) (no c) (yes e) _ _ _ = join e
    go (no a) (no b) (no c) (no d) (yes e) _ _ = read e
    go (no a) (no b) (no c) (no d) (no f) (yes e) _ = write e
    go (no a) (no b) (no c) (no d) (no f) (no g) (yes e) = none (zero e)
    go (no a) (no b) (no c) (no d) (no f) (no g) (no h) =
        past-six (above 6 k (above 5 k (above 4 k (above 3 k (above 2 k (above 1 k (above 0 k zero-le h) a) b) c) d) f) g) (lt-or-ge k 16) (lt-or-ge 19 k)

-- no kind is unknown
pub place_none : (s k : ℕ) → NoKind k → place s k ≡ 3
unfolding place
place_none s k (zero e) = simp e
place_none s k (middle h l) = simp (le-leb 1 k (omega arith), lt-leb k 6 h, lt-leb 16 k l)
place_none s k (high h) = simp (le-leb 1 k (omega arith), lt-leb k 6 (omega arith), le-leb 16 k (omega arith), lt-leb k 19 h)

-- a send is placed like a fork
module _ (k : ℕ) (l : 16 ≤ k) (h : k ≤ 19) where
  pub place-send : (s : ℕ) → place s k ≡ cond (ltb s 2) 4 2
  unfolding place
  place-send s = simp (le-leb 1 k (omega arith), lt-leb k 6 (omega arith), le-leb 16 k l, le-leb k 19 h)

  pub send-outside : (s : ℕ) → s < 2 → place s k ≡ 4
  send-outside s m = place-send s ∙ simp (lt-ltb s 2 m)

  pub send-inside : (s : ℕ) → 2 ≤ s → place s k ≡ 2
  send-inside s m = place-send s ∙ simp (le-ltb s 2 m)

-- a read or a write stays inside an event action
pub inside-access : (k : ℕ) → 5 ≤ k → k ≤ 6 → place 2 k ≡ 2
unfolding place
inside-access k l h = simp (le-leb 1 k (omega arith), le-leb k 6 h, ne_eqb k 2 (λ e. omega arith), ne_eqb k 3 (λ e. omega arith), le-leb 5 k l)

-- a begin or a join is out of place there
pub inside-none : (k : ℕ) → 1 ≤ k → k < 5 → k ≢ 2 → k ≢ 3 → place 2 k ≡ 4
unfolding place
inside-none k l h n m = simp (le-leb 1 k l, le-leb k 6 (omega arith), ne_eqb k 2 n, ne_eqb k 3 m, lt-leb 5 k h)

-- outside one all but a begin and a join are out of place
pub outside-none : (k : ℕ) → 1 ≤ k → k ≤ 6 → k ≢ 1 → k ≢ 4 → place 0 k ≡ 4
unfolding place
outside-none k l h n m = simp (le-leb 1 k l, le-leb k 6 h, ne_eqb k 1 n, ne_eqb k 4 m)

-- between event actions and after a join the replies are the same; a situation above 2 counts as 2
pub as-between : (s k : ℕ) → s < 2 → place 0 k ≡ place s k
unfolding place
as-between s k h = simp (lt-ltb s 2 h)

pub as-inside : (s k : ℕ) → 2 ≤ s → place 2 k ≡ place s k
unfolding place
as-inside s k h = simp (le-ltb s 2 h)

module _ (s k : ℕ) (known : eqb (place s k) 3 ≡ false) (placed : eqb (place s k) 4 ≡ false) where
  not-unknown : place s k ≡ 3 → ⊥
  not-unknown = eqb-false (place s k) 3 known

  not-misplaced : place s k ≡ 4 → ⊥
  not-misplaced = eqb-false (place s k) 4 placed

  pub outside : s < 2 → Outside k (place s k)
  unfolding place
  outside h = go (kind-of k)
    where
      t : ltb s 2 ≡ true
      t = lt-ltb s 2 h

      go : KindOf k → Outside k (place s k)
      go (begin e) = begins e (simp (e, t))
      go (join e) = joins e (simp (e, t))
      go (end e) = absurd (not-misplaced (simp (e, t)))
      go (fork e) = absurd (not-misplaced (simp (e, t)))
      go (read e) = absurd (not-misplaced (simp (e, t)))
      go (write e) = absurd (not-misplaced (simp (e, t)))
      go (send l m) = absurd (not-misplaced (send-outside k l m s h))
      go (none e) = absurd (not-unknown (place_none s k e))

  pub inside : 2 ≤ s → Inside k (place s k)
  unfolding place
  inside h = go (kind-of k)
    where
      t : ltb s 2 ≡ false
      t = le-ltb s 2 h

      go : KindOf k → Inside k (place s k)
      go (begin e) = absurd (not-misplaced (simp (e, t)))
      go (join e) = absurd (not-misplaced (simp (e, t)))
      go (end e) = ends e (simp (e, t))
      go (fork e) = forks e (simp (e, t))
      go (read e) = reads e (simp (e, t))
      go (write e) = writes e (simp (e, t))
      go (send l m) = sends l m (send-inside k l m s h)
      go (none e) = absurd (not-unknown (place_none s k e))
