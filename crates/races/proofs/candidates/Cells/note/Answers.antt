use mathlib.Core.Path.{refl}
use borrow.Author.Tests.{ne_eqb}
use Rattle.races.proofs.candidates.Cells.note.Goals as goal

pub returns-then-kind-eq6 : goal.returns-then-kind-eq6
returns-then-kind-eq6 c = record { seen_after = rw (← c.seen_after.ensures) refl; writes_after = simp c.if-kind-eq6.true }

pub returns-else-kind-eq6 : goal.returns-else-kind-eq6
returns-else-kind-eq6 c = record { seen_after = rw (← c.seen_after.ensures) refl; writes_after = simp (ne_eqb _ _ c.if-kind-eq6.false) }
