-- Laws of lists: what stands earlier, what is last, and the increasing list of the numbers that pass a test. Assumes nothing.
use Prim.Native.Nat.{ℕ, zero, suc, ◌≤◌, ◌<◌}
use mathlib.Core.Path.{◌≡◌, refl, sym, ap, ◌∙◌, subst}
use mathlib.Core.Logic.{◌≢◌, ◌⊎◌, inl, inr}
use mathlib.Core.Bool.{Bool, true, false}
use mathlib.Core.List.Memᴰ
use mathlib.Core.List.{List, [], ◌∷◌, ◌++◌, map, Memᴰ, append-nil}
use native.Mathlib.Omega.{arith}
use lib.Dec.{T}
use Rattle.coverage.specs.Below.{◌∈◌, ◌∉◌, only, upto}
use Rattle.coverage.specs.Arrangement.{Earlier, here, there, Last, final, later, Distinct}
use Rattle.slices.proofs.Tests.{decide_eq}

pub earlier-left : {a b : ℕ} {l : List ℕ} → Earlier a b l → a ∈ l
earlier-left (here e m) = Memᴰ.head e
earlier-left (there r) = Memᴰ.tail (earlier-left r)

pub earlier-right : {a b : ℕ} {l : List ℕ} → Earlier a b l → b ∈ l
earlier-right (here e m) = Memᴰ.tail m
earlier-right (there r) = Memᴰ.tail (earlier-right r)

pub last-in : {b : ℕ} {l : List ℕ} → Last b l → b ∈ l
last-in (final e) = Memᴰ.head e
last-in (later r) = Memᴰ.tail (last-in r)

pub last_snoc : (l : List ℕ) (b : ℕ) → Last b (l ++ (b ∷ []))
last_snoc [] b = final refl
last_snoc (x ∷ xs) b = later (last_snoc xs b)

-- what has something after it is not the last
pub not_last : {a b : ℕ} {l : List ℕ} → Distinct l → Earlier a b l → Last a l → ⊥
not_last d (here e m) (final e') = Memᴰ.not-nil m
not_last d (here e m) (later r) = d.0 (Memᴰ.cast (sym e) (last-in r))
not_last d (there r) (final e) = elim r [ ]
not_last d (there r) (later s) = not_last d.1 r s

-- of two, only one stands earlier
pub not_back : {a b : ℕ} {l : List ℕ} → Distinct l → Earlier a b l → Earlier b a l → ⊥
not_back d (here e m) (here f n) = d.0 (Memᴰ.cast (sym f) m)
not_back d (here e m) (there r) = d.0 (Memᴰ.cast (sym e) (earlier-right r))
not_back d (there r) (here e m) = d.0 (Memᴰ.cast (sym e) (earlier-right r))
not_back d (there r) (there s) = not_back d.1 r s

pub earlier-append-left : {a b : ℕ} {l : List ℕ} (k : List ℕ) → Earlier a b l → Earlier a b (l ++ k)
earlier-append-left k (here e m) = here e (Memᴰ.append_left k m)
earlier-append-left k (there r) = there (earlier-append-left k r)

pub earlier-append-right : {a b : ℕ} (l : List ℕ) {k : List ℕ} → Earlier a b k → Earlier a b (l ++ k)
earlier-append-right [] r = r
earlier-append-right (x ∷ xs) r = there (earlier-append-right xs r)

pub earlier-across : {a b : ℕ} {l k : List ℕ} → a ∈ l → b ∈ k → Earlier a b (l ++ k)
earlier-across {l = x ∷ xs} (Memᴰ.head e) m = here e (Memᴰ.append_right xs m)
earlier-across (Memᴰ.tail r) m = there (earlier-across r m)

pub data Split (a b : ℕ) (l k : List ℕ) : Type 0 where
  left : Earlier a b l → Split a b l k
  across : a ∈ l → b ∈ k → Split a b l k
  right : Earlier a b k → Split a b l k

pub earlier-split : {a b : ℕ} (l : List ℕ) {k : List ℕ} → Earlier a b (l ++ k) → Split a b l k
earlier-split [] r = right r
earlier-split {a} {b} (x ∷ xs) {k} (here e m) = go (Memᴰ.append_cases xs m)
  where
    go : (b ∈ xs) ⊎ (b ∈ k) → Split a b (x ∷ xs) k
    go (inl h) = left (here e h)
    go (inr h) = across (Memᴰ.head e) h
earlier-split {a} {b} (x ∷ xs) {k} (there r) = go (earlier-split xs r)
  where
    go : Split a b xs k → Split a b (x ∷ xs) k
    go (left h) = left (there h)
    go (across h m) = across (Memᴰ.tail h) m
    go (right h) = right h

pub distinct_snoc : (l : List ℕ) (x : ℕ) → Distinct l → x ∉ l → Distinct (l ++ (x ∷ []))
distinct_snoc [] x d n = (λ m. n m, tt)
distinct_snoc (y ∷ ys) x d n = (λ m. go (Memᴰ.append_cases ys m), distinct_snoc ys x d.1 (λ m. n (Memᴰ.tail m)))
  where
    go : (y ∈ ys) ⊎ (y ∈ x ∷ []) → ⊥
    go (inl m) = d.0 m
    go (inr m) = n (Memᴰ.head (sym (Memᴰ.eq_of_singleton m)))

pub in_map : {A : Type 0} {x : A} (f : ℕ → A) (l : List ℕ) → Memᴰ x (map f l) → (i : ℕ) × (i ∈ l) × (x ≡ f i)
in_map f [] m = absurd (Memᴰ.not-nil m)
in_map f (i ∷ l) (Memᴰ.head e) = (i, Memᴰ.head refl, e)
in_map f (i ∷ l) (Memᴰ.tail m) = let r = in_map f l m in (r.0, Memᴰ.tail r.1, r.2)

pub map-in : {A : Type 0} {i : ℕ} (f : ℕ → A) {l : List ℕ} → i ∈ l → Memᴰ (f i) (map f l)
map-in f (Memᴰ.head e) = Memᴰ.head (ap f e)
map-in f (Memᴰ.tail m) = Memᴰ.tail (map-in f m)

pub map-distinct : (f : ℕ → ℕ) (l : List ℕ) → ((i j : ℕ) → i ∈ l → j ∈ l → f i ≡ f j → i ≡ j) → Distinct l → Distinct (map f l)
map-distinct f [] h d = tt
map-distinct f (i ∷ l) h d = (λ m. let r = in_map f l m in d.0 (Memᴰ.cast (h i r.0 (Memᴰ.head refl) (Memᴰ.tail r.1) r.2) r.1), map-distinct f l (λ j k m n. h j k (Memᴰ.tail m) (Memᴰ.tail n)) d.1)

-- the increasing list of the numbers below m that pass a test

in-only : {x i : ℕ} (b : Bool) → x ∈ only b i → (x ≡ i) × T b
in-only true (Memᴰ.head e) = (e, tt)
in-only true (Memᴰ.tail m) = absurd (Memᴰ.not-nil m)
in-only false m = absurd (Memᴰ.not-nil m)

only-in : {x i : ℕ} (b : Bool) → x ≡ i → T b → x ∈ only b i
only-in true e h = Memᴰ.head e
only-in false e h = absurd h

pub in-upto : {i : ℕ} (m : ℕ) (p : ℕ → Bool) → i ∈ upto m p → (i < m) × T (p i)
unfolding upto
in-upto zero p h = absurd (Memᴰ.not-nil h)
in-upto {i} (suc m) p h = go (Memᴰ.append_cases (upto m p) h) (in-upto m p)
  where
    go : (i ∈ upto m p) ⊎ (i ∈ only (p m) m) → (i ∈ upto m p → (i < m) × T (p i)) → (i < suc m) × T (p i)
    go (inl k) f = let r = f k in (omega (arith, r.0), r.1)
    go (inr k) f = let r = in-only (p m) k in (omega (arith, r.0), subst (λ (x : ℕ). T (p x)) (sym r.0) r.1)

pub upto-in : (m : ℕ) (p : ℕ → Bool) (i : ℕ) → i < m → T (p i) → i ∈ upto m p
unfolding upto
upto-in zero p i l h = absurd (omega arith)
upto-in (suc m) p i l h = go (decide_eq i m) (upto-in m p i)
  where
    go : (i ≡ m) ⊎ (i ≢ m) → (i < m → T (p i) → i ∈ upto m p) → i ∈ upto m p ++ only (p m) m
    go (inl e) f = Memᴰ.append_right (upto m p) (only-in (p m) e (subst (λ (x : ℕ). T (p x)) e h))
    go (inr n) f = Memᴰ.append_left (only (p m) m) (f (omega arith) h)

pub upto-earlier : (m : ℕ) (p : ℕ → Bool) (i j : ℕ) → i < j → j < m → T (p i) → T (p j) → Earlier i j (upto m p)
unfolding upto
upto-earlier zero p i j l k h g = absurd (omega arith)
upto-earlier (suc m) p i j l k h g = go (decide_eq j m) (upto-earlier m p i j l)
  where
    go : (j ≡ m) ⊎ (j ≢ m) → (j < m → T (p i) → T (p j) → Earlier i j (upto m p)) → Earlier i j (upto m p ++ only (p m) m)
    go (inl e) f = earlier-across (upto-in m p i (omega arith) h) (only-in (p m) e (subst (λ (x : ℕ). T (p x)) e g))
    go (inr n) f = earlier-append-left (only (p m) m) (f (omega arith) h g)

pub upto-rising : (m : ℕ) (p : ℕ → Bool) (i j : ℕ) → Earlier i j (upto m p) → i < j
unfolding upto
upto-rising zero p i j e = elim e [ ]
upto-rising (suc m) p i j e = go (earlier-split (upto m p) e) (upto-rising m p i j)
  where
    alone : (b : Bool) → Earlier i j (only b m) → ⊥
    alone true (here e h) = Memᴰ.not-nil h
    alone true (there r) = elim r [ ]
    alone false r = elim r [ ]

    go : Split i j (upto m p) (only (p m) m) → (Earlier i j (upto m p) → i < j) → i < j
    go (left r) f = f r
    go (across h k) f = omega (arith, (in-upto m p h).0, (in-only (p m) k).0)
    go (right r) f = absurd (alone (p m) r)

pub upto-distinct : (m : ℕ) (p : ℕ → Bool) → Distinct (upto m p)
unfolding upto
upto-distinct zero p = tt
upto-distinct (suc m) p = go (p m) (upto-distinct m p)
  where
    go : (b : Bool) → Distinct (upto m p) → Distinct (upto m p ++ only b m)
    go true f = distinct_snoc (upto m p) m f (λ h. absurd (omega (arith, (in-upto m p h).0)))
    go false f = rw append-nil f

pub upto-ext : (m : ℕ) (p q : ℕ → Bool) → ((i : ℕ) → i < m → p i ≡ q i) → upto m p ≡ upto m q
unfolding upto
upto-ext zero p q h = refl
upto-ext (suc m) p q h = rw (upto-ext m p q (λ i l. h i (omega arith)), h m (omega arith)) refl

-- what a step adds
pub upto_zero : (p : ℕ → Bool) → upto 0 p ≡ []
unfolding upto
upto_zero p = refl

pub upto-yes : (m : ℕ) (p : ℕ → Bool) → T (p m) → upto (suc m) p ≡ upto m p ++ (m ∷ [])
unfolding upto
upto-yes m p h = go (p m) h
  where
    go : (b : Bool) → T b → upto m p ++ only b m ≡ upto m p ++ (m ∷ [])
    go true h = refl
    go false h = absurd h

pub upto-no : (m : ℕ) (p : ℕ → Bool) → (T (p m) → ⊥) → upto (suc m) p ≡ upto m p
unfolding upto
upto-no m p h = go (p m) h
  where
    go : (b : Bool) → (T b → ⊥) → upto m p ++ only b m ≡ upto m p
    go true h = absurd (h tt)
    go false h = append-nil (upto m p)

-- none passes below m; none passes from m on
pub upto-empty : (m : ℕ) (p : ℕ → Bool) → ((i : ℕ) → i < m → T (p i) → ⊥) → upto m p ≡ []
unfolding upto
upto-empty zero p h = refl
upto-empty (suc m) p h = upto-no m p (h m (omega arith)) ∙ upto-empty m p (λ i l k. h i (omega arith) k)

pub upto-same : (m k : ℕ) (p : ℕ → Bool) → m ≤ k → ((i : ℕ) → i < k → T (p i) → i < m) → upto m p ≡ upto k p
upto-same m zero p l h = let e : m ≡ 0 = omega arith in rw e refl
upto-same m (suc k) p l h = go (decide_eq m (suc k)) (upto-same m k p)
  where
    go : (m ≡ suc k) ⊎ (m ≢ suc k) → (m ≤ k → ((i : ℕ) → i < k → T (p i) → i < m) → upto m p ≡ upto k p) → upto m p ≡ upto (suc k) p
    go (inl e) f = rw e refl
    go (inr n) f = f (omega arith) (λ i j g. h i (omega arith) g) ∙ sym (upto-no k p (λ g. absurd (omega (arith, h k (omega arith) g))))
