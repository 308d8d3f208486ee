-- Which races are edges: all, those of the short list, the open ones of edges, and any races that contain edges.
use Prim.Native.Nat.{ℕ, zero, suc, ◌+◌, ◌≤◌, ◌<◌}
use mathlib.Core.Path.{◌≡◌, subst}
use mathlib.Core.Bool.{Bool, not, ◌&&◌, ◌||◌}
use mathlib.Core.Logic.{◌⊎◌, inl, inr}
use native.Mathlib.Omega.{arith}
use lib.Dec.{T, ltb, eqb, eqb→eq, ltb→lt, not_T}
use Rattle.coverage.specs.Below.{some, Listed}
use Rattle.coverage.specs.Setting.{Setting, Laws}
use Rattle.coverage.specs.Race.{before, Race}
use Rattle.coverage.specs.Leading.{coveredb}
use Rattle.coverage.specs.Neighbours.{Cells, conflicts, NoWrite, Neighbours, write_write, write_read, read_write, write_between}
use Rattle.coverage.specs.Lists.{all_races, short_list}
use Rattle.coverage.specs.loops.Whole.{Whole, below, Edges, taken}
use Rattle.slices.proofs.Tests.{both, and, decide}
use Rattle.coverage.proofs.Below.{found}
use Rattle.coverage.proofs.Order.{before-le, race-not-le}
use Rattle.coverage.proofs.Short.{neighbour-iff, parted, unparted}
use Rattle.coverage.proofs.Pairs.{in_all, in-short}
use Rattle.coverage.proofs.Whole.{Ends, whole-trans, race-whole, leads-skip, leads-ends}

module _ (t : Setting) where
  -- v ≼ ev(d), or an edge no later than d is the last from v
  abbrev Ended : (ℕ → ℕ → Type 0) → ℕ → ℕ → Type 0
  Ended E v d = T (t.le v (t.ev d)) ⊎ ((p q : ℕ) × E p q × (q ≤ d) × T (t.le (t.ev q) (t.ev d)) × Whole t (t.ev p) v)

  -- any races that contain edges
  pub edges_more : {E F : ℕ → ℕ → Type 0} → Edges t E → ((c d : ℕ) → E c d → F c d) → ((c d : ℕ) → F c d → Race t c d) → Edges t F
  edges_more {E} {F} es f g = record { race = λ {c} {d} e. g c d e; ends = λ r w. go (es.ends r w) }
    where
      go : {v d : ℕ} → Ended E v d → Ended F v d
      go (inl h) = inl h
      go (inr (p, q, e, m, k, w)) = inr (p, q, f p q e, m, k, w)

module _ (t : Setting) (l : Laws t) where
  -- what ends at an earlier record below d ends at d
  later : (E : ℕ → ℕ → Type 0) (v x d : ℕ) → x ≤ d → T (t.le (t.ev x) (t.ev d)) → Ended t E v x → Ended t E v d
  later E v x d m h (inl k) = inl (l.le_trans _ _ _ k h)
  later E v x d m h (inr (p, q, e, n, k, w)) = inr (p, q, e, omega arith, l.le_trans _ _ _ k h, w)

  pub race-edges : Edges t (Race t)
  race-edges = record { race = λ r. r; ends = λ {v} {c} {d} r w. inr (c, d, r, omega arith, l.le_refl (t.ev d), w) }

  pub all_edges : Edges t (λ c d. Listed c d (all_races t))
  all_edges = edges_more t race-edges (λ c d. (in_all t c d).1) (λ c d. (in_all t c d).0)

  -- Of edges, the open ones are edges.
  module _ (E : ℕ → ℕ → Type 0) (es : Edges t E) where
    abbrev OpenEdge : ℕ → ℕ → Type 0
    OpenEdge c d = E c d × (T (coveredb t c d) → ⊥)

    ends_at : (n v c d : ℕ) → d < n → Race t c d → Whole t (t.ev c) v → Ended t OpenEdge v d
    ends_at zero v c d i r w = absurd (omega arith)
    ends_at (suc n) v c d i r w = go (es.ends r w) (ends_at n v)
      where
        go : Ended t E v d → ((c d : ℕ) → d < n → Race t c d → Whole t (t.ev c) v → Ended t OpenEdge v d) → Ended t OpenEdge v d
        go (inl h) f = inl h
        go (inr (p, q, e, m, k, x)) f = at (decide (coveredb t p q))
          where
            from : Ends t q (t.ev q) v → Ended t OpenEdge v q
            from (inl h) = inl h
            from (inr (a, b, s, j, h, y)) = later OpenEdge v b q (omega arith) h (f a b (omega arith) s y)

            at : T (coveredb t p q) ⊎ (T (coveredb t p q) → ⊥) → Ended t OpenEdge v d
            at (inl h) = later OpenEdge v q d m k (from ((leads-ends t l q v (es.race e).inside).0 (leads-skip t l (es.race e) h x)))
            at (inr h) = inr (p, q, (e, h), m, k, x)

    pub open-edges : Edges t (λ c d. E c d × (T (coveredb t c d) → ⊥))
    open-edges = record { race = λ e. es.race e.0; ends = λ {v} {c} {d} r w. ends_at (suc d) v c d (omega arith) r w }

  module _ (s : Cells) (means : (a b : ℕ) → t.conf a b ≡ conflicts s a b) where
    abbrev Short : ℕ → ℕ → Type 0
    Short c d = Listed c d (short_list t s)

    -- A write between the two of a race parts it: one of the two pairs is a race on which the way from v can end.
    narrow : (k v c d : ℕ) → d ≤ c + k → Race t c d → Whole t (t.ev c) v → Ended t Short v d
    narrow zero v c d h r w = absurd (omega (arith, r.first))
    narrow (suc k) v c d h r w = go (decide (write_between s c d)) (narrow k v)
      where
        go : T (write_between s c d) ⊎ (T (write_between s c d) → ⊥) → ((c d : ℕ) → d ≤ c + k → Race t c d → Whole t (t.ev c) v → Ended t Short v d) → Ended t Short v d
        go (inr n) f = inr (c, d, (in-short t s c d).1 ((neighbour-iff s c d).0 (unparted t l s means c d r n), r), omega arith, l.le_refl (t.ev d), w)
        go (inl b) f = let (x, left, right, cx, xd) = parted t l s means c d r b in at x left right cx xd (decide (before t c x)) (decide (before t x d))
          where
            at : (x : ℕ) → c < x → x < d → T (t.conf c x) → T (t.conf x d) → T (before t c x) ⊎ (T (before t c x) → ⊥) → T (before t x d) ⊎ (T (before t x d) → ⊥) → Ended t Short v d
            at x left right cx xd (inl p) (inl q) = absurd (race-not-le t l c d r (l.le_trans _ _ _ (before-le t l c x p) (before-le t l x d q)))
            at x left right cx xd (inr p) (inl q) = later Short v x d (omega arith) (before-le t l x d q) (f c x (omega arith) (record { first = left; inside = omega (arith, r.inside); conflict = cx; unordered = p }) w)
            at x left right cx xd (inl p) (inr q) = f x d (omega arith) (record { first = right; inside = r.inside; conflict = xd; unordered = q }) (whole-trans t l (below (before-le t l c x p)) w)
            at x left right cx xd (inr p) (inr q) = f x d (omega arith) (record { first = right; inside = r.inside; conflict = xd; unordered = q }) (whole-trans t l (race-whole t l (record { first = left; inside = omega (arith, r.inside); conflict = cx; unordered = p })) w)

    pub short-edges : Edges t (λ c d. Listed c d (short_list t s))
    short-edges = record { race = λ {c} {d} m. ((in-short t s c d).0 m).1; ends = λ {v} {c} {d} r w. narrow d v c d (omega arith) r w }

    no_write : {c d : ℕ} → Neighbours s c d → NoWrite s c d
    no_write (write_write l e x y n) = n
    no_write (write_read l e x y n) = n
    no_write (read_write l e x y n) = n

    conflict-parts : (x d : ℕ) → T (conflicts s x d) → T (s.is_access x) × (s.cell x ≡ s.cell d)
    unfolding conflicts
    conflict-parts x d h =
        let p = both (s.is_access x && s.is_access d) (eqb (s.cell x) (s.cell d) && (s.is_write x || s.is_write d)) h in
        ((both (s.is_access x) (s.is_access d) p.0).0, eqb→eq (s.cell x) (s.cell d) (both (eqb (s.cell x) (s.cell d)) (s.is_write x || s.is_write d) p.1).0)

    -- What the marking takes, of a list of races that contains the short list: of each second the open entries, the last first, down to the
    -- first one whose first access writes.
    pub taken-edges : (E : ℕ → ℕ → Type 0) → ((c d : ℕ) → Listed c d (short_list t s) → E c d) → ((c d : ℕ) → E c d → Race t c d) → Edges t (λ c d. E c d × (T (coveredb t c d) → ⊥) × ((x : ℕ) → c < x → E x d → T (s.is_write x) → ⊥))
    taken-edges E f g = edges_more t (open-edges Short short-edges) (λ c d (e, o). (f c d e, o, later-read c d ((in-short t s c d).0 e).0)) (λ c d e. g c d e.0)
      where
        later-read : (c d : ℕ) → Neighbours s c d → (x : ℕ) → c < x → E x d → T (s.is_write x) → ⊥
        later-read c d n x m e w =
            let r = g x d e in
            let (y, z) = conflict-parts x d (subst T (means x d) r.conflict) in
            no_write n x m r.first z (and (s.is_access x) (s.is_write x) y w)

    taken_of : (e : ℕ → ℕ → Bool) (c d : ℕ) → T (e c d) × (T (coveredb t c d) → ⊥) × ((x : ℕ) → c < x → T (e x d) → T (s.is_write x) → ⊥) → T (taken t s e c d)
    unfolding taken
    taken_of e c d (h, o, n) = and (e c d) _ h (and (not (coveredb t c d)) (not later_write) (not_T (coveredb t c d) o) (not_T later_write (λ k.
        let (x, i, y) = found d (λ x. ltb c x && (e x d && s.is_write x)) k in
        let p = both (ltb c x) (e x d && s.is_write x) y in
        let q = both (e x d) (s.is_write x) p.1 in
        n x (ltb→lt c x p.0) q.0 q.1)))
      where
        later_write : Bool
        later_write = some d (λ x. ltb c x && (e x d && s.is_write x))

    of-taken : (e : ℕ → ℕ → Bool) (c d : ℕ) → T (taken t s e c d) → T (e c d)
    unfolding taken
    of-taken e c d h = (both (e c d) _ h).0

    -- the same, computed
    pub taken-test-edges : (e : ℕ → ℕ → Bool) → ((c d : ℕ) → Listed c d (short_list t s) → T (e c d)) → ((c d : ℕ) → T (e c d) → Race t c d) → Edges t (λ c d. T (taken t s e c d))
    taken-test-edges e f g = edges_more t (taken-edges (λ c d. T (e c d)) f g) (taken_of e) (λ c d h. g c d (of-taken e c d h))
