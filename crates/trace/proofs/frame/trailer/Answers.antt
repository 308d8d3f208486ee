use borrow.Author.Tests.{lt-leb, le-leb, eq-eqb, ne_eqb}
use Rattle.trace.specs.Reply.{demand}
use Rattle.trace.specs.Reading.{trailer_reply}
use Rattle.trace.proofs.frame.trailer.Goals as goal

pub returns-then-bytes-at : goal.returns-then-bytes-at
unfolding trailer_reply demand
returns-then-bytes-at c = simp (c.at.ensures, ne_eqb _ _ c.if-bytes-at.true)

pub returns-then-bytes-at-ne1 : goal.returns-then-bytes-at-ne1
unfolding trailer_reply demand
returns-then-bytes-at-ne1 c = simp (c.at-then-bytes-at-ne1.ensures, eq-eqb _ _ c.if-bytes-at.false, ne_eqb _ _ c.if-bytes-at-ne1.true)

pub returns-then-d-ne0 : goal.returns-then-d-ne0
unfolding trailer_reply demand
returns-then-d-ne0 c =
    simp (c.at-then-d-ne0.ensures, eq-eqb _ _ c.if-bytes-at.false, eq-eqb _ _ c.if-bytes-at-ne1.false, ne_eqb _ _ c.if-d-ne0.true)

pub returns-then-d-gt20480 : goal.returns-then-d-gt20480
unfolding trailer_reply demand
returns-then-d-gt20480 c =
    let at-if1 = c in
    simp (
      c.at-then-d-gt20480.ensures,
      eq-eqb _ _ at-if1.if-bytes-at.false,
      eq-eqb _ _ c.if-bytes-at-ne1.false,
      eq-eqb _ _ c.if-d-ne0.false,
      lt-leb _ _ c.if-d-gt20480.true,
    )

pub returns-then-at-d : goal.returns-then-at-d
unfolding trailer_reply demand
returns-then-at-d c =
    let at-if1 = c in
    let small = le-leb _ _ c.if-d-gt20480.false in
    simp (
      c.at-then-at-d.ensures,
      eq-eqb _ _ at-if1.if-bytes-at.false,
      eq-eqb _ _ c.if-bytes-at-ne1.false,
      eq-eqb _ _ c.if-d-ne0.false,
      small,
      lt-leb _ _ c.if-at-d.true,
    )

pub returns : goal.returns
unfolding trailer_reply demand
returns c =
    let at-if1 = c in
    let few = le-leb _ _ c.if-d-gt20480.false in
    simp (
      c.two.ensures,
      eq-eqb _ _ at-if1.if-bytes-at.false,
      eq-eqb _ _ c.if-bytes-at-ne1.false,
      eq-eqb _ _ c.if-d-ne0.false,
      few,
      le-leb _ _ c.if-at-d.false,
    )
