use mathlib.Core.Path.{refl}
use Rattle.trace.proofs.Faults.{at-fault, no-fault}
use Rattle.trace.proofs.Reasons.{numbered}
use Rattle.trace.proofs.rule.check.Goals as goal

pub returns-in-Ok : goal.returns-in-Ok
returns-in-Ok c = no-fault c.args.op.0 (c.in-Ok.ensures) refl c.next-next.ensures

pub returns-in-Err : goal.returns-in-Err
returns-in-Err c = rw c.at.ensures (at-fault _ c.args.op.0 _ (c.in-Err.ensures) (numbered _))
