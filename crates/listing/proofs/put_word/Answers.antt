use mathlib.Core.Path.{◌≡◌, refl, sym, ◌∙◌}
use native.Mathlib.Omega.{arith}
use native.Mathlib.Nat.{add-zero}
use lib.ListN.{length, length-set}
use Rattle.listing.proofs.Store.{word_next, word_end}
use Rattle.listing.proofs.put_word.Goals as goal

pub loop-i-init : goal.loop-i-init
loop-i-init c = (omega arith, omega arith, rw add-zero)

pub loop-i-preserved : goal.loop-i-preserved
loop-i-preserved c = (omega arith, simp length-set (omega arith), word_next _ _ _ _ c.loop-i-test.true ∙ c.loop-i.invariant.2)

pub returns : goal.returns
returns c =
    let e : c.loop-i.i ≡ length c.args.word.now = omega arith in
    record { contents = sym (word_end _ _ c.loop-i.i c.args.word.now (omega arith)) ∙ c.loop-i.invariant.2; size = refl; next = omega arith }
