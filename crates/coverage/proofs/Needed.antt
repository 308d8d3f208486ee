-- What every arrangement with b must hold: a covered race cannot be turned round, and the kept records are the fewest.
use Prim.Native.Nat.{ℕ, suc, ◌<◌}
use mathlib.Core.Path.{◌≡◌, refl, sym, subst, ◌∙◌}
use mathlib.Core.Logic.{◌≢◌, ◌⊎◌, inl, inr}
use mathlib.Core.List.Memᴰ
use mathlib.Core.List.{List, [], ◌∷◌, ◌++◌, append_assoc}
use native.Mathlib.Omega.{arith}
use lib.Dec.{T, eqb, eqb→eq}
use Rattle.coverage.specs.Below.{◌∈◌, ◌∉◌}
use Rattle.coverage.specs.Setting.{Setting, Laws}
use Rattle.coverage.specs.Race.{Race}
use Rattle.coverage.specs.Cover.{CoversFrom, one, more, Covered}
use Rattle.coverage.specs.Arrangement.{Earlier, Last, records_of, blocks, Arrangement, Accesses}
use Rattle.coverage.specs.Leading.{leads, kept}
use Rattle.slices.proofs.Tests.{decide_eq, eq→eqb}
use Rattle.coverage.proofs.Lists.{earlier-left, earlier-right, not_last, earlier-append-right, earlier-across, Split, left, across, right, earlier-split, in-upto, upto-in}
use Rattle.coverage.proofs.Order.{le-before, race-apart}
use Rattle.coverage.proofs.Leads.{leads-sound}

module _ (t : Setting) where
  pub in-records : {x : ℕ} (u m : ℕ) → x ∈ records_of t u m → (x < m) × (t.ev x ≡ u)
  unfolding records_of
  in-records {x} u m h = let r = in-upto m (λ (i : ℕ). eqb (t.ev i) u) h in (r.0, eqb→eq (t.ev x) u r.1)

  records-in : (x u m : ℕ) → x < m → t.ev x ≡ u → x ∈ records_of t u m
  unfolding records_of
  records-in x u m l e = upto-in m (λ (i : ℕ). eqb (t.ev i) u) x l (eq→eqb (t.ev x) u e)

  same-records : {c d : ℕ} (u m : ℕ) → Earlier c d (records_of t u m) → t.ev c ≡ t.ev d
  same-records u m r = (in-records u m (earlier-left r)).1 ∙ sym (in-records u m (earlier-right r)).1

  -- where a record of another event action follows c, it follows all of c's event action
  whole : (us : List ℕ) (e k : ℕ) {c d : ℕ} (x : ℕ) → x < t.size → t.ev x ≡ t.ev c → t.ev c ≢ t.ev d → Earlier c d (blocks t us ++ records_of t e k) → Earlier x d (blocks t us ++ records_of t e k)
  whole [] e k x l q n r = absurd (n (same-records e k r))
  whole (u ∷ us) e k {c} {d} x l q n r = rw append_assoc (go (earlier-split (records_of t u t.size) (rw append_assoc at r)) (whole us e k x l q n))
    where
      go : Split c d (records_of t u t.size) (blocks t us ++ records_of t e k) → (Earlier c d (blocks t us ++ records_of t e k) → Earlier x d (blocks t us ++ records_of t e k)) → Earlier x d (records_of t u t.size ++ (blocks t us ++ records_of t e k))
      go (left s) f = absurd (n (same-records u t.size s))
      go (across p s) f = earlier-across (records-in x u t.size l (q ∙ (in-records u t.size p).1)) s
      go (right s) f = earlier-append-right (records_of t u t.size) (f s)

module _ (t : Setting) (w : Laws t) (π : List ℕ) (A : Arrangement t π) where
  whole_in : (c d x : ℕ) → x < t.size → t.ev x ≡ t.ev c → t.ev c ≢ t.ev d → Earlier c d π → Earlier x d π
  whole_in c d x l q n r = let g = A.grouped in rw g.together (whole t g.events g.end g.cut x l q n (rw g.together at r))

  -- a record at or below a race whose second has something after it has something after it
  step : (c d x y : ℕ) → Race t c d → T (t.le (t.ev x) (t.ev c)) → x < t.size → Earlier d y π → (z : ℕ) × Earlier x z π
  step c d x y r h l e = go (A.raced c d r (earlier-left e)) (decide_eq (t.ev x) (t.ev c))
    where
      go : Earlier c d π ⊎ ((c ∉ π) × Last d π) → (t.ev x ≡ t.ev c) ⊎ (t.ev x ≢ t.ev c) → (z : ℕ) × Earlier x z π
      go (inr s) _ = absurd (not_last A.distinct e s.1)
      go (inl s) (inl q) = (d, whole_in c d x l q (race-apart t w c d r) s)
      go (inl s) (inr n) =
          let k : x < c = w.forward x c l (omega (arith, r.first, r.inside)) h n in
          (c, A.ordered x c l (le-before t x c k h) (earlier-left s))

  present-under : {b : ℕ} {cs : List (ℕ × ℕ)} (x v : ℕ) → x < t.size → b ∈ π → CoversFrom t b v cs → v ≡ t.ev x → (z : ℕ) × Earlier x z π
  present-under {b} x v l m (one {c = c} {d = d} h r q) e =
      step c d x b r (subst (λ (u : ℕ). T (t.le u (t.ev c))) e h) l (A.ordered d b r.inside q m)
  present-under x v l m (more {c = c} {d = d} h r s) e =
      let f = present-under d (t.ev d) r.inside m s refl in step c d x f.0 r (subst (λ (u : ℕ). T (t.le u (t.ev c))) e h) l f.1

  present : {b : ℕ} {cs : List (ℕ × ℕ)} (x : ℕ) → x < t.size → b ∈ π → CoversFrom t b (t.ev x) cs → (z : ℕ) × Earlier x z π
  present x l m c = present-under x (t.ev x) l m c refl

  -- With b stand all the records that are kept for b
  pub minimal : (b : ℕ) → b ∈ π → (x : ℕ) → x ∈ kept t b → x ∈ π
  unfolding kept
  minimal b m x k = let r = in-upto (suc b) (λ (i : ℕ). leads t b (t.ev i)) k in go (decide_eq x b) (leads-sound t w b (t.ev x) r.1) r.0
    where
      go : (x ≡ b) ⊎ (x ≢ b) → T (t.le (t.ev x) (t.ev b)) ⊎ ((cs : List (ℕ × ℕ)) × CoversFrom t b (t.ev x) cs) → x < suc b → x ∈ π
      go (inl e) _ l = Memᴰ.cast e m
      go (inr n) (inl h) l = earlier-left (A.ordered x b (omega (arith, A.inside b m)) (le-before t x b (omega arith) h) m)
      go (inr n) (inr c) l = earlier-left (present x (omega (arith, A.inside b m)) m c.1).1

-- Of a covered race, no arrangement holds the second without the first
pub covered-stuck : (t : Setting) → Laws t → (a b : ℕ) → Race t a b → Covered t a b → (π : List ℕ) → Arrangement t π → b ∈ π → a ∉ π → ⊥
covered-stuck t w a b r c π A m n = n (earlier-left (present t w π A a (omega (arith, r.first, r.inside)) m c.1).1)

-- An arrangement that holds the second of a race without the first ends in the second.
pub accesses-last : (t : Setting) (a b : ℕ) → Race t a b → (π : List ℕ) → Accesses t a b π → Last b π
accesses-last t a b r π (A, m, n) = go (A.raced a b r m)
  where
    go : Earlier a b π ⊎ ((a ∉ π) × Last b π) → Last b π
    go (inl e) = absurd (n (earlier-left e))
    go (inr h) = h.1
