-- Marks in a list are the marks. Assumes nothing.
use Prim.Native.Nat.{ℕ, zero, suc, ◌-◌, ◌≤◌, ◌<◌}
use mathlib.Core.Path.{◌≡◌, refl, sym, ◌∙◌, ap, subst, fun_ext}
use mathlib.Core.Logic.{◌≢◌, ◌⊎◌, inl, inr}
use mathlib.Core.Bool.{Bool, true, false, cond, ◌&&◌, ◌||◌, or-true, or-false}
use mathlib.Core.List.{List}
use native.Mathlib.Omega.{arith}
use lib.Dec.{eqb}
use lib.ListN.{length, set, length-set}
use lib.Seq.{get_or-set_same, get_or-set_other}
use borrow.Author.Tests.{eq-eqb, ne_eqb}
use Rattle.order.specs.Links.{Links, Forward, leq}
use Rattle.ranks.specs.declared.Ordering.{Ordering}
use Rattle.ranks.specs.declared.Ordering.TheVariants.{Link, Begin, Nothing}
use Rattle.order.specs.loops.Standing.{begins, Stands, Ordered, Makes}
use Rattle.slices.specs.Slices.{zeros}
use Rattle.slices.proofs.Cleared.{zeros-length, zeros-at}
use Rattle.question.specs.loops.Marking.{mark_by, marks_down, marked, mark_in, marks_down_in, marks_in}
use Rattle.slices.proofs.Tests.{decide_eq}
use Rattle.order.proofs.ScheduleLaws.{begins-mono}
use Rattle.question.proofs.MarkLaws.{marks_begin}

-- as a loop takes them, down from record i
pub marks-down : (op : ℕ → Ordering) (i : ℕ) (ms : List ℕ) → 0 < i → marks_down_in op i ms ≡ marks_down_in op (i - 1) (mark_in (op (i - 1)) ms)
unfolding marks_down_in
marks-down op zero ms h = absurd (omega arith)
marks-down op (suc i) ms h = let e : suc i - 1 ≡ i = omega arith in rw e

-- a record that says no link marks nothing
pub unlinked : (o : Ordering) → ((p u : ℕ) → o ≡ Link p u → ⊥) → (ms : List ℕ) → mark_in o ms ≡ ms
unfolding mark_in
unlinked (Link p u) n ms = absurd (n p u refl)
unlinked (Begin u) n ms = refl
unlinked Nothing n ms = refl

pub mark-in-length : (o : Ordering) (ms : List ℕ) → length (mark_in o ms) ≡ length ms
unfolding mark_in
mark-in-length (Link p v) ms = go (marked ms v)
  where
    go : (b : Bool) → length (cond b (set ms p 1) ms) ≡ length ms
    go true = length-set ms p 1
    go false = refl
mark-in-length (Begin v) ms = refl
mark-in-length Nothing ms = refl

-- where a link's earlier end has an entry
abbrev Room : ℕ → Ordering → Type 0
Room k (Link p v) = p < k
Room k (Begin v) = Unit {0}
Room k Nothing = Unit {0}

mark-in : (o : Ordering) (ms : List ℕ) → Room (length ms) o → (t : ℕ) → marked (mark_in o ms) t ≡ mark_by o (marked ms) t
unfolding mark_in mark_by
mark-in (Link p v) ms h t = go (marked ms v) (decide_eq t p)
  where
    go : (b : Bool) → (t ≡ p) ⊎ (t ≢ p) → marked (cond b (set ms p 1) ms) t ≡ (marked ms t || (b && eqb p t))
    go true (inl e) = rw (e, get_or-set_same ms p 1 0 h, eq-eqb p p refl) (sym (or-true (marked ms p)))
    go true (inr n) = rw (get_or-set_other ms p t 1 0 n, ne_eqb p t (λ i. n (sym i))) (sym (or-false (marked ms t)))
    go false d = sym (or-false (marked ms t))
mark-in (Begin v) ms h t = refl
mark-in Nothing ms h t = refl

marks-down-in :
    (op : ℕ → Ordering) (i k : ℕ) (ms : List ℕ) → length ms ≡ k → ((j : ℕ) → j < i → Room k (op j)) →
    (t : ℕ) → marked (marks_down_in op i ms) t ≡ marks_down op i (marked ms) t
unfolding marks_down_in marks_down
marks-down-in op zero k ms e room t = refl
marks-down-in op (suc i) k ms e room t =
    marks-down-in op i k (mark_in (op i) ms) (mark-in-length (op i) ms ∙ e) (λ j h. room j (omega arith)) t
    ∙ ap (λ m. marks_down op i m t) (fun_ext (mark-in (op i) ms (subst (λ x. Room x (op i)) (sym e) (room i (omega arith)))))

first_marks : (u k : ℕ) → u < k → (t : ℕ) → marked (set (zeros k) u 1) t ≡ eqb u t
first_marks u k h t = go (decide_eq t u)
  where
    go : (t ≡ u) ⊎ (t ≢ u) → marked (set (zeros k) u 1) t ≡ eqb u t
    go (inl e) = rw (e, get_or-set_same (zeros k) u 1 0 (omega (arith, zeros-length k)), eq-eqb u u refl)
    go (inr n) = rw (get_or-set_other (zeros k) u t 1 0 n, zeros-at k t, ne_eqb u t (λ i. n (sym i)))

stands-room : (b k : ℕ) (o : Ordering) → b ≤ k → Stands b o → Room k o
stands-room b k (Link p v) h s = omega (arith, s.0)
stands-room b k (Begin v) h s = tt
stands-room b k Nothing h s = tt

-- so they are what happens before u
module _ (l : Links) (fw : Forward l) (op : ℕ → Ordering) (n : ℕ) (w : Ordered op n) (makes : Makes op n l) where
  pub marks-list : (k u i : ℕ) → begins op n ≤ k → u < begins op n → i < n → op i ≡ Begin u → (t : ℕ) → marked (marks_in op i u k) t ≡ leq l t u
  marks-list k u i h b a e t =
      marks-down-in op i k (set (zeros k) u 1) (length-set (zeros k) u 1 ∙ zeros-length k) room t
      ∙ (ap (λ m. marks_down op i m t) (fun_ext (first_marks u k (omega arith))) ∙ marks_begin l fw op n w makes u b i a e t)
    where
      room : (j : ℕ) → j < i → Room k (op j)
      room j c = stands-room (begins op j) k (op j) (omega (arith, begins-mono op j n (omega arith))) (w j (omega arith))
