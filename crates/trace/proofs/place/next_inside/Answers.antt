use mathlib.Core.Path.{refl, sym}
use native.Mathlib.Omega.{arith}
use Rattle.trace.specs.Place.{place}
use Rattle.trace.proofs.PlaceRule.{zero, middle, high, place_none, send-inside, inside-access, inside-none}
use Rattle.trace.proofs.place.next_inside.Goals as goal

pub returns-in-3 : goal.returns-in-3
unfolding place
returns-in-3 c = rw c.in-3.is refl

pub returns-in-2 : goal.returns-in-2
unfolding place
returns-in-2 c = rw c.in-2.is refl

pub returns-in_default : goal.returns-in_default
returns-in_default c = sym (inside-none _ (omega arith) (omega arith) (λ e. omega arith) (λ e. omega arith))

pub returns-in-5-to-6 : goal.returns-in-5-to-6
returns-in-5-to-6 c = sym (inside-access _ (omega arith) (omega arith))

pub returns-in-16-to-19 : goal.returns-in-16-to-19
returns-in-16-to-19 c = sym (send-inside _ (omega arith) (omega arith) 2 (omega arith))

pub returns-in-20-to-255 : goal.returns-in-20-to-255
returns-in-20-to-255 c = sym (place_none _ _ (high (omega arith)))

pub returns-in-0 : goal.returns-in-0
returns-in-0 c = sym (place_none _ _ (zero (omega arith)))

pub returns-in-0-2 : goal.returns-in-0-2
returns-in-0-2 c = sym (place_none _ _ (middle (omega arith) (omega arith)))
