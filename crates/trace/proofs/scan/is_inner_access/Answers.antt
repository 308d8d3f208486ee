use mathlib.Core.Path.{sym, ◌∙◌}
use mathlib.Core.Bool.{false≢true}
use native.Mathlib.Omega.{arith}
use Rattle.trace.proofs.scan.is_inner_access.Goals as goal

pub returns-then-r-lt5 : goal.returns-then-r-lt5
returns-then-r-lt5 c = λ z. absurd (false≢true z)

pub returns-then-r-gt6 : goal.returns-then-r-gt6
returns-then-r-gt6 c = λ z. absurd (false≢true z)

pub returns-then-r-owner : goal.returns-then-r-owner
returns-then-r-owner c = λ z. absurd (false≢true z)

pub returns : goal.returns
returns c = λ z. record {
  access = omega arith;
  kind_low = omega arith;
  own = c.if-r-owner.false;
  cell = sym c.is_numbered.ensures ∙ z;
}
