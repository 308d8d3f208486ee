-- Cover clocks: their rows tell what leads to an event action as a whole and to a record, and are made by merging. Assumes nothing.
use Prim.Native.Nat.{ℕ, suc, ◌+◌, ◌≤◌, ◌<◌, max}
use mathlib.Core.Path.{◌≡◌, sym, ◌∙◌, ap, subst}
use mathlib.Core.Logic.Iff
use mathlib.Core.Logic.{◌≢◌, ◌⊎◌, inl, inr, ◌↔◌}
use mathlib.Core.Bool.{Bool, ◌||◌}
use mathlib.Core.List.{List}
use native.Mathlib.Omega.{arith}
use lib.Dec.{T, eqb, eqb→eq}
use Rattle.coverage.specs.Setting.{Setting, Laws}
use Rattle.coverage.specs.Race.{Race}
use Rattle.coverage.specs.Leading.{leads, coveredb}
use Rattle.coverage.specs.loops.Whole.{Whole, below, Edges, Direct}
use Rattle.slices.proofs.Tests.{either, or_left, or_right, eq→eqb, decide-lt}
use Rattle.coverage.proofs.Order.{race-apart}
use Rattle.coverage.proofs.Leads.{leads-below}
use Rattle.coverage.proofs.Whole.{whole-self, whole_below, whole-trans, race-whole, whole-ahead, whole-decides, leads-whole, leads-to-whole}
use Rattle.coverage.proofs.WholeSteps.{whole-step, leads-first, leads-next, whole-last}
use Rattle.order.specs.Links.{◌∈◌, some}
use Rattle.order.specs.Chains.{bit}
use Rattle.order.specs.Clocks.{largest}
use Rattle.order.specs.loops.Sets.{index, Initial, Family}
use Rattle.order.specs.loops.Numbering.{Numbered, InOrder, Preds, Firsts, whole_of, leads_to, up_to, clock_row, cover_row, cover_row_at}
use Rattle.order.proofs.OrderLaws.{found, find}
use Rattle.order.proofs.SetLaws.{row-mono, row-decides, row-merge, row-start, family-decides, own-entry}

module _ (t : Setting) (l : Laws t) (m : ℕ) (name ch : ℕ → ℕ) (ns : Numbered t m name) (order : InOrder t m name ch) where
  -- what leads to an event action begins no later
  ahead : (u r : ℕ) → u < m → r < m → Whole t (name u) (name r) → r ≤ u
  ahead u r i j w = go (decide-lt u r)
    where
      go : (u < r) ⊎ (r ≤ u) → r ≤ u
      go (inr k) = k
      go (inl k) = absurd (omega (arith, ns.rising u r k j, whole-ahead t l (ns.place r) (ns.place u) (ns.inside r j) (ns.inside u i) apart there))
        where
          apart : t.ev (ns.place r) ≢ t.ev (ns.place u)
          apart e = omega (arith, ns.distinct r u j i (sym (ns.at r j) ∙ e ∙ ns.at u i))

          there : Whole t (t.ev (ns.place u)) (t.ev (ns.place r))
          there = rw (ns.at u i, ns.at r j) w

  pub cover-family : Family m ch (whole_of t name)
  cover-family = record {
    self = λ u i. (whole-decides t l (name u) (name u)).1 (whole-self t l (name u));
    ahead = λ u r i j h. ahead u r i j ((whole-decides t l (name u) (name r)).0 h);
    initial = λ u i s r a b e h. (whole-decides t l (name u) (name s)).1 (whole_below t l (order s r a b e) ((whole-decides t l (name u) (name r)).0 h));
  }

  -- r leads to u as a whole exactly where r's own entry is at most that of u's row at r's chain
  pub cover-decides : (u r : ℕ) → u < m → r < m → Whole t (name u) (name r) ↔ (index ch r ≤ cover_row t name ch u (ch r))
  cover-decides u r i j = (λ w. k.0 ((whole-decides t l (name u) (name r)).1 w), λ h. (whole-decides t l (name u) (name r)).0 (k.1 h))
    where
      k : T (whole_of t name u r) ↔ (index ch r ≤ cover_row t name ch u (ch r))
      k = family-decides m ch (whole_of t name) cover-family u r i j

  pub cover-own : (r : ℕ) → r < m → cover_row t name ch r (ch r) ≡ index ch r
  cover-own r i = own-entry m ch (whole_of t name) cover-family r i

  -- closure: what leads to u as a whole has a row below that of u, so merging it changes nothing
  pub cover-skip : (u v : ℕ) → u < m → v < m → Whole t (name u) (name v) → (c : ℕ) → cover_row t name ch v c ≤ cover_row t name ch u c
  cover-skip u v i j w c = row-mono ch (whole_of t name v) (whole_of t name u) (suc v) (suc u) c (λ s a e h. (omega (arith, ahead u v i j w), (whole-decides t l (name u) (name s)).1 (whole-trans t l w ((whole-decides t l (name v) (name s)).0 h))))

  -- the first of a race begins before the second
  pub race-earlier : (c d v u : ℕ) → Race t c d → v < m → u < m → t.ev c ≡ name v → t.ev d ≡ name u → v < u
  race-earlier c d v u r i j e f =
      let k = ahead u v j i (subst (λ (x : ℕ). Whole t x (name v)) f (subst (λ (x : ℕ). Whole t (t.ev d) x) e (race-whole t l r))) in
      let n : v ≡ u → ⊥ = λ (q : v ≡ u). race-apart t l c d r (e ∙ ap name q ∙ sym f) in
      omega (arith, n)

  -- Row u at its record b.
  module _ (u : ℕ) (i : u < m) (b : ℕ) (j : b < t.size) (own : t.ev b ≡ name u) where
    pub leads-initial : Initial ch (suc u) (leads_to t name b)
    leads-initial s r a k e h = leads-below t l b (name s) (name r) (order s r a (omega arith) e) h

    at-decides : (r : ℕ) → r < m → T (leads t b (name r)) ↔ (index ch r ≤ cover_row_at t name ch b u (ch r))
    at-decides r k = (λ h. d.0 (omega (arith, ahead u r i k (subst (λ (x : ℕ). Whole t x (name r)) own (leads-to-whole t l b (name r) j h))), h), λ h. (d.1 h).1)
      where
        d : ((r < suc u) × T (leads t b (name r))) ↔ (index ch r ≤ cover_row_at t name ch b u (ch r))
        d = row-decides ch (leads_to t name b) (suc u) leads-initial r

    -- The mark: a race (a, b) is covered exactly where the own entry of ev(a) is at most that of row u at b.
    pub mark-decides : (a r : ℕ) → r < m → t.ev a ≡ name r → T (coveredb t a b) ↔ (index ch r ≤ cover_row_at t name ch b u (ch r))
    mark-decides a r k e = rw e (at-decides r k)

  -- How the rows are made, of direct links and edges.
  module _ (Link E : ℕ → ℕ → Type 0) (ls : Direct t Link) (es : Edges t E) where
    abbrev Some : List ℕ → ℕ → Type 0
    Some ps s = (p : ℕ) × (p ∈ ps) × T (whole_of t name p s)

    by-preds : {u : ℕ} {ps : List ℕ} → Preds name Link u ps → (s : ℕ) → ((p : ℕ) × Link p (name u) × Whole t p (name s)) ↔ Some ps s
    by-preds g s = (λ (x, k, w). let (p, q, e) = g.all x k in (p, q, (whole-decides t l (name p) (name s)).1 (subst (λ (y : ℕ). Whole t y (name s)) (sym e) w)), λ (p, q, h). (name p, g.linked p q, (whole-decides t l (name p) (name s)).0 h))

    by-firsts : {u b : ℕ} {vs : List ℕ} → Firsts t name E u b vs → (s : ℕ) → ((c : ℕ) × E c b × Whole t (t.ev c) (name s)) ↔ Some vs s
    by-firsts g s = (λ (c, k, w). let (v, q, e) = g.all c k in (v, q, (whole-decides t l (name v) (name s)).1 (subst (λ (y : ℕ). Whole t y (name s)) e w)), λ (v, q, h). let (c, k, e) = g.edges v q in (c, k, subst (λ (y : ℕ). Whole t y (name s)) (sym e) ((whole-decides t l (name v) (name s)).0 h)))

    -- what leads to b and some rows' sets together have with v, not ev(b) itself, all of v's set: merging v's row changes nothing (`row-absorbs`)
    pub with-closed : (b v : ℕ) (vs : List ℕ) → b < t.size → v < m → name v ≢ t.ev b → T (leads t b (name v)) ⊎ Some vs v → (s : ℕ) → T (whole_of t name v s) → T (leads t b (name s)) ⊎ Some vs s
    with-closed b v vs j i n h s w = go h
      where
        k : Whole t (name v) (name s)
        k = (whole-decides t l (name v) (name s)).0 w

        go : T (leads t b (name v)) ⊎ Some vs v → T (leads t b (name s)) ⊎ Some vs s
        go (inl h) = inl (leads-whole t l b (ns.place v) j (ns.inside v i) (λ e. n (sym (ns.at v i) ∙ e)) (rw (ns.at v i) h) (rw (ns.at v i) k))
        go (inr (p, q, h)) = inr (p, q, (whole-decides t l (name p) (name s)).1 (whole-trans t l ((whole-decides t l (name p) (name v)).0 h) k))

    module _ (u : ℕ) (i : u < m) where
      -- from the direct predecessors: u itself, and their sets
      by-start : {ps : List ℕ} → Preds name Link u ps → (s : ℕ) → s < suc u → ((name s ≡ name u) ⊎ ((p : ℕ) × Link p (name u) × Whole t p (name s))) ↔ ((s ≡ u) ⊎ Some ps s)
      by-start {ps} g s a = (there, back)
        where
          there : (name s ≡ name u) ⊎ ((p : ℕ) × Link p (name u) × Whole t p (name s)) → (s ≡ u) ⊎ Some ps s
          there (inl e) = inl (ns.distinct s u (omega arith) i e)
          there (inr h) = inr ((by-preds g s).0 h)

          back : (s ≡ u) ⊎ Some ps s → (name s ≡ name u) ⊎ ((p : ℕ) × Link p (name u) × Whole t p (name s))
          back (inl e) = inl (ap name e)
          back (inr h) = inr ((by-preds g s).1 h)

      -- from the edges of b: what led to b, and the sets of their firsts
      by_next : {b : ℕ} {vs : List ℕ} → Firsts t name E u b vs → (s : ℕ) → (T (leads t b (name s)) ⊎ ((c : ℕ) × E c b × Whole t (t.ev c) (name s))) ↔ (T (leads_to t name b s) ⊎ Some vs s)
      by_next {b} {vs} g s = (there, back)
        where
          there : T (leads t b (name s)) ⊎ ((c : ℕ) × E c b × Whole t (t.ev c) (name s)) → T (leads_to t name b s) ⊎ Some vs s
          there (inl h) = inl h
          there (inr h) = inr ((by-firsts g s).0 h)

          back : T (leads_to t name b s) ⊎ Some vs s → T (leads t b (name s)) ⊎ ((c : ℕ) × E c b × Whole t (t.ev c) (name s))
          back (inl h) = inl h
          back (inr h) = inr ((by-firsts g s).1 h)

      -- Row u at a record with no edge before it: the largest of the direct predecessors' rows, 1 more at its own chain.
      pub cover-first : (b : ℕ) → b < t.size → t.ev b ≡ name u → ((c d : ℕ) → E c d → t.ev d ≡ name u → b ≤ d) → (ps : List ℕ) → Preds name Link u ps → (c : ℕ) → cover_row_at t name ch b u c ≡ largest ps (λ p. cover_row t name ch p c) + bit (eqb (ch u) c)
      cover-first b j own f ps g c = row-start m ch (whole_of t name) cover-family (leads_to t name b) u ps i g.earlier (λ s a. Iff.trans (first s) (by-start g s a)) c
        where
          first : (s : ℕ) → T (leads t b (name s)) ↔ ((name s ≡ name u) ⊎ ((p : ℕ) × Link p (name u) × Whole t p (name s)))
          first s = rw own at (leads-first t l Link ls E es b (name s) j (λ c d e z. f c d e (z ∙ own)))

      -- In place: row u, filled before, merged with the direct predecessors' rows, is their largest, 1 more at its own chain.
      pub start-in-place : (ps : List ℕ) → Preds name Link u ps → (c : ℕ) → max (clock_row t name ch u c) (largest ps (λ p. cover_row t name ch p c)) ≡ largest ps (λ p. cover_row t name ch p c) + bit (eqb (ch u) c)
      start-in-place ps g c = sym (row-merge m ch (whole_of t name) cover-family q (up_to t name u) (suc u) ps i (λ p k. omega (arith, g.earlier p k)) before (λ s a. Iff.trans (parts s) (there s, back s a)) c) ∙ row-start m ch (whole_of t name) cover-family q u ps i g.earlier (λ s a. parts s) c
        where
          q : ℕ → Bool
          q s = eqb s u || some (λ p. whole_of t name p s) ps

          parts : (s : ℕ) → T (eqb s u || some (λ p. whole_of t name p s) ps) ↔ ((s ≡ u) ⊎ Some ps s)
          parts s = (λ h. split (either (eqb s u) (some (λ p. whole_of t name p s) ps) h), join)
            where
              split : T (eqb s u) ⊎ T (some (λ p. whole_of t name p s) ps) → (s ≡ u) ⊎ Some ps s
              split (inl h) = inl (eqb→eq s u h)
              split (inr h) = inr (found (λ p. whole_of t name p s) ps h)

              join : (s ≡ u) ⊎ Some ps s → T (eqb s u || some (λ p. whole_of t name p s) ps)
              join (inl e) = or_left (eqb s u) (some (λ p. whole_of t name p s) ps) (eq→eqb s u e)
              join (inr (p, k, h)) = or_right (eqb s u) (some (λ p. whole_of t name p s) ps) (find (λ p. whole_of t name p s) ps p k h)

          before : Initial ch (suc u) (up_to t name u)
          before s r a k e h = l.le_trans (name s) (name r) (name u) (order s r a (omega arith) e) h

          there : (s : ℕ) → (s ≡ u) ⊎ Some ps s → T (up_to t name u s) ⊎ Some ps s
          there s (inl e) = inl (subst (λ (x : ℕ). T (t.le (name s) (name x))) e (l.le_refl (name s)))
          there s (inr h) = inr h

          last : (s : ℕ) → (name s ≡ name u) ⊎ ((p : ℕ) × T (t.le (name s) p) × Link p (name u)) → (name s ≡ name u) ⊎ ((p : ℕ) × Link p (name u) × Whole t p (name s))
          last s (inl e) = inl e
          last s (inr (p, h, k)) = inr (p, k, below h)

          back : (s : ℕ) → s < suc u → T (up_to t name u s) ⊎ Some ps s → (s ≡ u) ⊎ Some ps s
          back s a (inl h) = (by-start g s a).0 (last s (ls.final (name s) (name u) h))
          back s a (inr h) = inr h

      -- the same at its end, where no edge leads into it
      pub cover-none : ((c d : ℕ) → E c d → t.ev d ≡ name u → ⊥) → (ps : List ℕ) → Preds name Link u ps → (c : ℕ) → cover_row t name ch u c ≡ largest ps (λ p. cover_row t name ch p c) + bit (eqb (ch u) c)
      cover-none f ps g c = row-start m ch (whole_of t name) cover-family (whole_of t name u) u ps i g.earlier (λ s a. Iff.trans (whole-decides t l (name u) (name s)) (Iff.trans (none s) (by-start g s a))) c
        where
          drop-edges : (s : ℕ) → (name s ≡ name u) ⊎ ((p : ℕ) × Link p (name u) × Whole t p (name s)) ⊎ ((c d : ℕ) × E c d × (t.ev d ≡ name u) × Whole t (t.ev c) (name s)) → (name s ≡ name u) ⊎ ((p : ℕ) × Link p (name u) × Whole t p (name s))
          drop-edges s (inl e) = inl e
          drop-edges s (inr (inl h)) = inr h
          drop-edges s (inr (inr (c, d, e, z, w))) = absurd (f c d e z)

          add-edges : (s : ℕ) → (name s ≡ name u) ⊎ ((p : ℕ) × Link p (name u) × Whole t p (name s)) → (name s ≡ name u) ⊎ ((p : ℕ) × Link p (name u) × Whole t p (name s)) ⊎ ((c d : ℕ) × E c d × (t.ev d ≡ name u) × Whole t (t.ev c) (name s))
          add-edges s (inl e) = inl e
          add-edges s (inr h) = inr (inl h)

          none : (s : ℕ) → Whole t (name u) (name s) ↔ ((name s ≡ name u) ⊎ ((p : ℕ) × Link p (name u) × Whole t p (name s)))
          none s = (λ w. drop-edges s ((whole-step t l Link ls E es (name u) (name s)).0 w), λ h. (whole-step t l Link ls E es (name u) (name s)).1 (add-edges s h))

      module _ (b : ℕ) (j : b < t.size) (own : t.ev b ≡ name u) (vs : List ℕ) (g : Firsts t name E u b vs) where
        -- Row u at a later record, no edge between: merged with the rows of the firsts of b's edges.
        pub cover-next : (x : ℕ) → b < x → x < t.size → t.ev x ≡ name u → ((c d : ℕ) → E c d → t.ev d ≡ name u → d < x → d ≤ b) → (c : ℕ) → cover_row_at t name ch x u c ≡ max (cover_row_at t name ch b u c) (largest vs (λ v. cover_row t name ch v c))
        cover-next x k y z f c = row-merge m ch (whole_of t name) cover-family (leads_to t name x) (leads_to t name b) (suc u) vs i (λ v q. omega (arith, g.earlier v q)) (leads-initial u i b j own) (λ s a. Iff.trans (leads-next t l Link ls E es b x (name s) k y (own ∙ sym z) (λ c d e q. f c d e (q ∙ z))) (by_next g s)) c

        -- and at its end, no edge after b
        pub cover-last : ((c d : ℕ) → E c d → t.ev d ≡ name u → d ≤ b) → (c : ℕ) → cover_row t name ch u c ≡ max (cover_row_at t name ch b u c) (largest vs (λ v. cover_row t name ch v c))
        cover-last f c = row-merge m ch (whole_of t name) cover-family (whole_of t name u) (leads_to t name b) (suc u) vs i (λ v q. omega (arith, g.earlier v q)) (leads-initial u i b j own) (λ s a. Iff.trans (whole-decides t l (name u) (name s)) (Iff.trans (last s) (by_next g s))) c
          where
            last : (s : ℕ) → Whole t (name u) (name s) ↔ (T (leads t b (name s)) ⊎ ((c : ℕ) × E c b × Whole t (t.ev c) (name s)))
            last s = subst (λ (x : ℕ). Whole t x (name s) ↔ (T (leads t b (name s)) ⊎ ((c : ℕ) × E c b × Whole t (t.ev c) (name s)))) own (whole-last t l Link ls E es b (name s) j (λ c d e q. f c d e (q ∙ own)))
