-- Zeros at the front of a list, and the test for room.
-- Assumes nothing.
use Prim.Native.Nat.{ℕ, ◌*◌, ◌≤◌}
use mathlib.Core.Path.{◌≡◌, ap}
use mathlib.Core.Bool.{true, ◌&&◌, and-eq-true_iff}
use mathlib.Core.List.{List, ◌++◌}
use native.Mathlib.Omega.{arith}
use borrow.Author.Tests.{leb-true}
use lib.Dec.{leb}
use lib.ListN.{length, drop, replicate, length-append, length-replicate, length-drop}
use lib.Seq.{drop_at}
use Rattle.clocks.specs.Rows.{space_for}

module _ (k : ℕ) (cs cs' : List ℕ) (h : k ≤ length cs) (e : cs' ≡ replicate k 0 ++ drop k cs) where
  pub cleared-drop : drop k cs' ≡ drop k cs
  cleared-drop = rw e (drop_at (replicate {A = ℕ} k 0) (drop k cs) k (length-replicate {A = ℕ} k 0))

  pub cleared : cs' ≡ replicate k 0 ++ drop k cs'
  cleared = rw cleared-drop e

  pub cleared-length : length cs' ≡ length cs
  cleared-length = omega (arith, ap length e, length-append (replicate {A = ℕ} k 0) (drop k cs), length-replicate {A = ℕ} k 0, length-drop k cs)

pub record HasRoom (width events space : ℕ) : Type 0 where
  pub some : 1 ≤ width
  pub narrow : width ≤ 1024
  pub fits : events * width ≤ space

pub has_room : (width events space : ℕ) → space_for width events space ≡ true → HasRoom width events space
unfolding space_for
has_room width events space h =
    let p = (and-eq-true_iff (leb 1 width && leb width 1024) (leb (events * width) space)).0 h in
    let q = (and-eq-true_iff (leb 1 width) (leb width 1024)).0 p.0 in
    record { some = leb-true 1 width q.0; narrow = leb-true width 1024 q.1; fits = leb-true (events * width) space p.1 }
