use lib.ListN.{length}
use lib.Dec.{ltb, leb}
use mathlib.Core.Bool.{true, false}
use mathlib.Core.Path.{◌≡◌}
use Rattle.recorder.specs.Recording.{open_left}
use borrow.Author.Tests.{le-leb, lt-leb, lt-ltb, le-ltb}
use Rattle.recorder.proofs.open_on.Goals as goal

pub returns-then-short : goal.returns-then-short
unfolding open_left
returns-then-short c =
    let b = c.args.bytes.now in
    let e : ltb (length b) 8 ≡ true = lt-ltb (length b) 8 c.if-short.true in
    let l : leb 8 (length b) ≡ false = lt-leb 8 (length b) c.if-short.true in
    simp (c.refused.ensures.0, c.refused.ensures.1, c.at.ensures, e, l)

pub returns : goal.returns
unfolding open_left
returns c =
    let b = c.args.bytes.now in
    let l : leb 8 (length b) ≡ true = le-leb 8 (length b) c.if-short.false in
    simp (le-ltb (length b) 8 c.if-short.false, l)
