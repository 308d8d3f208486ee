-- Raising makes the rows of the cover clocks, and at each second access the row that tells the marks. Assumes nothing.
use Prim.Native.Nat.{ℕ, zero, suc, ◌+◌, ◌≤◌, ◌<◌, max}
use mathlib.Core.Path.{◌≡◌, refl, sym, ◌∙◌, ap, subst}
use mathlib.Core.Logic.{◌≢◌, ◌⊎◌, inl, inr, ◌↔◌}
use mathlib.Core.List.Memᴰ
use mathlib.Core.List.{List, [], ◌∷◌}
use native.Mathlib.Omega.{arith}
use lib.Dec.{T, eqb, eqb→eq}
use Rattle.coverage.specs.Setting.{Setting, Laws}
use Rattle.coverage.specs.Leading.{coveredb}
use Rattle.coverage.specs.loops.Whole.{Edges, Direct}
use Rattle.slices.proofs.Tests.{decide, decide_eq, eq→eqb, passed, failed, smaller}
use Rattle.order.specs.Links.{◌∈◌}
use Rattle.order.specs.Chains.{bit}
use Rattle.order.specs.Clocks.{largest}
use Rattle.order.specs.loops.Numbering.{Numbered, InOrder, Preds, Firsts, cover_row, cover_row_at}
use Rattle.order.specs.loops.Raising.{raised_by, row_after, row_so_far, start_of, Seconds, none, then, records_from}
use Rattle.order.proofs.SetLaws.{largest-local}
use Rattle.order.proofs.CoverRows.{cover-first, cover-none, cover-next, cover-last, cover-own, mark-decides}

-- a row is read entry by entry
module _ (firsts : ℕ → List ℕ) (R : ℕ → ℕ → ℕ) where
  after_none : (row : ℕ → ℕ) (c : ℕ) → row_after firsts R row [] c ≡ row c
  unfolding row_after
  after_none row c = refl

  after_then : (row : ℕ → ℕ) (b : ℕ) (bs : List ℕ) (c : ℕ) → row_after firsts R row (b ∷ bs) c ≡ row_after firsts R (raised_by firsts R row b) bs c
  unfolding row_after
  after_then row b bs c = refl

  before_here : (row : ℕ → ℕ) (b : ℕ) (bs : List ℕ) (x c : ℕ) → b ≡ x → row_so_far firsts R row (b ∷ bs) x c ≡ row c
  unfolding row_so_far
  before_here row b bs x c e = rw (passed (eqb b x) (eq→eqb b x e))

  before-then : (row : ℕ → ℕ) (b : ℕ) (bs : List ℕ) (x c : ℕ) → (T (eqb b x) → ⊥) → row_so_far firsts R row (b ∷ bs) x c ≡ row_so_far firsts R (raised_by firsts R row b) bs x c
  unfolding row_so_far
  before-then row b bs x c n = rw (failed (eqb b x) n)

-- all records of an event are its seconds
module _ (t : Setting) (E : ℕ → ℕ → Type 0) (race : (c d : ℕ) → E c d → d < t.size) (e : ℕ) where
  from-yes : (n k : ℕ) → t.ev n ≡ e → records_from t e n (suc k) ≡ n ∷ records_from t e (suc n) k
  unfolding records_from
  from-yes n k h = rw (passed (eqb (t.ev n) e) (eq→eqb (t.ev n) e h))

  from-no : (n k : ℕ) → t.ev n ≢ e → records_from t e n (suc k) ≡ records_from t e (suc n) k
  unfolding records_from
  from-no n k h = rw (failed (eqb (t.ev n) e) (λ x. h (eqb→eq (t.ev n) e x)))

  from_zero : (n : ℕ) → records_from t e n 0 ≡ []
  unfolding records_from
  from_zero n = refl

  seconds-from : (k j n : ℕ) → j ≤ n → n + k ≡ t.size → ((d : ℕ) → j ≤ d → d < n → t.ev d ≡ e → ⊥) → Seconds t E e j (records_from t e n k)
  seconds-from zero j n a z f = rw (from_zero n) (none {n = j} (λ c d x y. let g : j ≤ d → ⊥ = λ w. f d w (omega (arith, race c d x)) y in omega (arith, g)))
  seconds-from (suc k) j n a z f = go (decide_eq (t.ev n) e) (λ j w v. seconds-from k j (suc n) w (omega arith) v)
    where
      go : (t.ev n ≡ e) ⊎ (t.ev n ≢ e) → ((j : ℕ) → j ≤ suc n → ((d : ℕ) → j ≤ d → d < suc n → t.ev d ≡ e → ⊥) → Seconds t E e j (records_from t e (suc n) k)) → Seconds t E e j (records_from t e n (suc k))
      go (inl h) g = rw (from-yes n k h) (then a (omega arith) h (λ c d x y w. let q : j ≤ d → ⊥ = λ v. f d v w y in omega (arith, q)) (g (suc n) (omega arith) (λ d x y w. omega arith)))
      go (inr h) g = rw (from-no n k h) (g j (omega arith) (λ d x y w. at d x y w (decide_eq d n)))
        where
          at : (d : ℕ) → j ≤ d → d < suc n → t.ev d ≡ e → (d ≡ n) ⊎ (d ≢ n) → ⊥
          at d x y w (inl q) = h (sym (ap t.ev q) ∙ w)
          at d x y w (inr q) = f d x (omega arith) w

  pub all-seconds : Seconds t E e 0 (records_from t e 0 t.size)
  all-seconds = seconds-from t.size 0 0 (omega arith) (omega arith) (λ d x y. absurd (omega arith))

  from_in : (k n b : ℕ) → n ≤ b → b < n + k → t.ev b ≡ e → b ∈ records_from t e n k
  from_in zero n b x y h = absurd (omega arith)
  from_in (suc k) n b x y h = go (decide_eq n b) (decide_eq (t.ev n) e) (λ w. from_in k (suc n) b w (omega arith) h)
    where
      go : (n ≡ b) ⊎ (n ≢ b) → (t.ev n ≡ e) ⊎ (t.ev n ≢ e) → (suc n ≤ b → b ∈ records_from t e (suc n) k) → b ∈ records_from t e n (suc k)
      go (inl q) (inl z) f = rw (from-yes n k z) (Memᴰ.head (sym q))
      go (inl q) (inr z) f = absurd (z (ap t.ev q ∙ h))
      go (inr q) (inl z) f = rw (from-yes n k z) (Memᴰ.tail (f (omega arith)))
      go (inr q) (inr z) f = rw (from-no n k z) (f (omega arith))

  pub in-seconds : (b : ℕ) → b < t.size → t.ev b ≡ e → b ∈ records_from t e 0 t.size
  in-seconds b h z = from_in t.size 0 b (omega arith) (omega arith) z

module _ (t : Setting) (l : Laws t) (m : ℕ) (name ch : ℕ → ℕ) (ns : Numbered t m name) (order : InOrder t m name ch) (Link E : ℕ → ℕ → Type 0) (ls : Direct t Link) (es : Edges t E) (preds firsts seconds : ℕ → List ℕ) (pred : (u : ℕ) → u < m → Preds name Link u (preds u)) (first : (u b : ℕ) → u < m → b < t.size → t.ev b ≡ name u → Firsts t name E u b (firsts b)) (second : (u : ℕ) → u < m → Seconds t E (name u) 0 (seconds u)) where
  -- the rows of the event actions before u are made
  abbrev Made : (ℕ → ℕ → ℕ) → ℕ → Type 0
  Made R u = (v : ℕ) → v < u → (c : ℕ) → R v c ≡ cover_row t name ch v c

  module _ (R : ℕ → ℕ → ℕ) (u : ℕ) (i : u < m) (made : Made R u) where
    start_is : (c : ℕ) → start_of ch preds R u c ≡ largest (preds u) (λ p. cover_row t name ch p c) + bit (eqb (ch u) c)
    start_is c = ap (λ x. x + bit (eqb (ch u) c)) (largest-local (preds u) (λ p. R p c) (λ p. cover_row t name ch p c) (λ p k. made p ((pred u i).earlier p k) c))

    raised_is : (b : ℕ) → b < t.size → t.ev b ≡ name u → (row : ℕ → ℕ) → ((c : ℕ) → row c ≡ cover_row_at t name ch b u c) → (c : ℕ) → raised_by firsts R row b c ≡ max (cover_row_at t name ch b u c) (largest (firsts b) (λ v. cover_row t name ch v c))
    raised_is b j own row e c = let z = largest-local (firsts b) (λ v. R v c) (λ v. cover_row t name ch v c) (λ v k. made v ((first u b i j own).earlier v k) c) in omega (arith, e c)

    next-is : (b x : ℕ) → b < t.size → t.ev b ≡ name u → suc b ≤ x → x < t.size → t.ev x ≡ name u → ((c d : ℕ) → E c d → t.ev d ≡ name u → d < x → d < suc b) → (row : ℕ → ℕ) → ((c : ℕ) → row c ≡ cover_row_at t name ch b u c) → (c : ℕ) → raised_by firsts R row b c ≡ cover_row_at t name ch x u c
    next-is b x j own k y z f row e c = raised_is b j own row e c ∙ sym (cover-next t l m name ch ns order Link E ls es u i b j own (firsts b) (first u b i j own) x k y z (λ c d q w v. omega (arith, f c d q w v)) c)

    abbrev At : ℕ → (ℕ → ℕ) → Type 0
    At b row = (c : ℕ) → row c ≡ cover_row_at t name ch b u c

    -- from a second on, with the row as it should be there
    after_is : {b : ℕ} {bs : List ℕ} → b < t.size → t.ev b ≡ name u → Seconds t E (name u) (suc b) bs → (row : ℕ → ℕ) → At b row → (c : ℕ) → row_after firsts R row (b ∷ bs) c ≡ cover_row t name ch u c
    after_is {b} j own (none f) row e c = after_then firsts R row b [] c ∙ after_none firsts R (raised_by firsts R row b) c ∙ raised_is b j own row e c ∙ sym (cover-last t l m name ch ns order Link E ls es u i b j own (firsts b) (first u b i j own) (λ c d q w. omega (arith, f c d q w)) c)
    after_is {b} j own (then {b = x} {bs = bs} k y z f s) row e c = after_then firsts R row b (x ∷ bs) c ∙ after_is y z s (raised_by firsts R row b) (next-is b x j own k y z f row e) c

    before-is : {b x : ℕ} {bs : List ℕ} → b < t.size → t.ev b ≡ name u → Seconds t E (name u) (suc b) bs → x ∈ b ∷ bs → (row : ℕ → ℕ) → At b row → (c : ℕ) → row_so_far firsts R row (b ∷ bs) x c ≡ cover_row_at t name ch x u c
    before-is {b} {x} j own (none f) h row e c = here (Memᴰ.eq_of_singleton h)
      where
        here : x ≡ b → row_so_far firsts R row (b ∷ []) x c ≡ cover_row_at t name ch x u c
        here q = before_here firsts R row b [] x c (sym q) ∙ subst (λ (v : ℕ). row c ≡ cover_row_at t name ch v u c) (sym q) (e c)
    before-is {b} {x} j own (then {b = y} {bs = bs} k g z f s) h row e c = go (decide (eqb b x)) h (λ n. before-is g z s n (raised_by firsts R row b) (next-is b y j own k g z f row e) c)
      where
        go : T (eqb b x) ⊎ (T (eqb b x) → ⊥) → x ∈ b ∷ y ∷ bs → (x ∈ y ∷ bs → row_so_far firsts R (raised_by firsts R row b) (y ∷ bs) x c ≡ cover_row_at t name ch x u c) → row_so_far firsts R row (b ∷ y ∷ bs) x c ≡ cover_row_at t name ch x u c
        go (inl q) h g = let q' = eqb→eq b x q in before_here firsts R row b (y ∷ bs) x c q' ∙ subst (λ (v : ℕ). row c ≡ cover_row_at t name ch v u c) q' (e c)
        go (inr n) (Memᴰ.head q) g = absurd (n (eq→eqb b x (sym q)))
        go (inr n) (Memᴰ.tail q) g = before-then firsts R row b (y ∷ bs) x c n ∙ g q

    -- at the first second the row is as it started
    start-at : {b : ℕ} → b < t.size → t.ev b ≡ name u → ((c d : ℕ) → E c d → t.ev d ≡ name u → d < b → d < 0) → At b (start_of ch preds R u)
    start-at {b} j own f c = start_is c ∙ sym (cover-first t l m name ch ns order Link E ls es u i b j own (λ c d e z. let k : d < b → ⊥ = λ g. omega (arith, f c d e z g) in omega (arith, k)) (preds u) (pred u i) c)

    row-after : {bs : List ℕ} → Seconds t E (name u) 0 bs → (c : ℕ) → row_after firsts R (start_of ch preds R u) bs c ≡ cover_row t name ch u c
    row-after (none f) c = after_none firsts R (start_of ch preds R u) c ∙ start_is c ∙ sym (cover-none t l m name ch ns order Link E ls es u i (λ c d e z. omega (arith, f c d e z)) (preds u) (pred u i) c)
    row-after (then k j own f s) c = after_is j own s (start_of ch preds R u) (start-at j own f) c

    row_before : {x : ℕ} {bs : List ℕ} → Seconds t E (name u) 0 bs → x ∈ bs → (c : ℕ) → row_so_far firsts R (start_of ch preds R u) bs x c ≡ cover_row_at t name ch x u c
    row_before (none f) h c = absurd (Memᴰ.not-nil h)
    row_before (then k j own f s) h c = before-is j own s h (start_of ch preds R u) (start-at j own f) c

  -- the rows of the cover clocks are such
  pub cover-raised : (u : ℕ) → u < m → (c : ℕ) → cover_row t name ch u c ≡ row_after firsts (cover_row t name ch) (start_of ch preds (cover_row t name ch) u) (seconds u) c
  cover-raised u i c = sym (row-after (cover_row t name ch) u i (λ v k c. refl) (second u i) c)

  module _ (R : ℕ → ℕ → ℕ) (law : (u : ℕ) → u < m → (c : ℕ) → R u c ≡ row_after firsts R (start_of ch preds R u) (seconds u) c) where
    -- Rows that are raised, each after those before it, are the rows of the cover clocks.
    pub raised : (u : ℕ) → u < m → (c : ℕ) → R u c ≡ cover_row t name ch u c
    raised = smaller (λ u. u < m → (c : ℕ) → R u c ≡ cover_row t name ch u c) (λ u ih i c. law u i c ∙ row-after R u i (λ v k. ih v k (omega arith)) (second u i) c)

    -- The mark of a race (a, b): is the own entry of ev(a) at most the entry of the row of ev(b) when b is met?
    pub marked : (u b a r : ℕ) → u < m → b < t.size → t.ev b ≡ name u → b ∈ seconds u → r < m → t.ev a ≡ name r → T (coveredb t a b) ↔ (R r (ch r) ≤ row_so_far firsts R (start_of ch preds R u) (seconds u) b (ch r))
    marked u b a r i j own h k e =
        let x = raised r k (ch r) ∙ cover-own t l m name ch ns order r k in
        let y = row_before R u i (λ v z. raised v (omega arith)) (second u i) h (ch r) in
        rw (x, y) (mark-decides t l m name ch ns order u i b j own a r k e)
