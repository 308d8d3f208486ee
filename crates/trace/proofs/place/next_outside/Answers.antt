use mathlib.Core.Path.{refl, sym}
use native.Mathlib.Omega.{arith}
use Rattle.trace.specs.Place.{place}
use Rattle.trace.proofs.PlaceRule.{zero, middle, high, place_none, send-outside, outside-none}
use Rattle.trace.proofs.place.next_outside.Goals as goal

pub returns-in-1 : goal.returns-in-1
unfolding place
returns-in-1 c = rw c.in-1.is refl

pub returns-in-4 : goal.returns-in-4
unfolding place
returns-in-4 c = rw c.in-4.is refl

pub returns-in_default : goal.returns-in_default
returns-in_default c = sym (outside-none _ (omega arith) (omega arith) (λ e. omega arith) (λ e. omega arith))

pub returns-in-5-to-6 : goal.returns-in-5-to-6
returns-in-5-to-6 c = sym (outside-none _ (omega arith) (omega arith) (λ e. omega arith) (λ e. omega arith))

pub returns-in-16-to-19 : goal.returns-in-16-to-19
returns-in-16-to-19 c = sym (send-outside _ (omega arith) (omega arith) 0 (omega arith))

pub returns-in-0 : goal.returns-in-0
returns-in-0 c = sym (place_none _ _ (zero (omega arith)))

pub returns-in-0-2 : goal.returns-in-0-2
returns-in-0-2 c = sym (place_none _ _ (middle (omega arith) (omega arith)))

pub returns-in-0-3 : goal.returns-in-0-3
returns-in-0-3 c = sym (place_none _ _ (high (omega arith)))
