-- 31 after the check by 4 to 8.
-- Assumes nothing.
use Prim.Native.Nat.{ℕ}
use mathlib.Core.Path.{◌≡◌, refl}
use mathlib.Core.Bool.{Bool, true, false, not}
use Rattle.trace.specs.Reply.{Reply, refused, gives, demand, then}

module _ (p : ℕ) where
  -- where v tells that 31 applies
  abbrev pub linked : Bool → Reply ℕ → Reply ℕ
  linked v x = then x (λ (s : ℕ). demand (not v) 31 p (gives s))

  -- a refused check too
  pub free_stays : (v : Bool) (x : Reply ℕ) → v ≡ false → x ≡ linked v x
  unfolding then demand
  free_stays v (gives s) e = rw e
  free_stays v (refused n k) e = refl

  pub refused-stays : (v : Bool) (n k : ℕ) → refused n k ≡ linked v (refused n k)
  unfolding then
  refused-stays v n k = refl

  pub behind-refused : (v : Bool) (s : ℕ) → v ≡ true → refused 31 p ≡ linked v (gives s)
  unfolding then demand
  behind-refused v s e = rw e
