use mathlib.Core.Path.{sym}
use Rattle.records.proofs.Decoded.{decoded-length}
use Rattle.records.proofs.access.count.Goals as goal

pub returns : goal.returns
returns c = sym (decoded-length c.args.recs.now)
