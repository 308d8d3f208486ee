use Rattle.races.proofs.EntryStores.{way-over}
use Rattle.races.proofs.lists.list_firsts.Goals as goal

pub returns-then-firsts : goal.returns-then-firsts
returns-then-firsts g c = let start = c in way-over start.requires.second.1 c.if-firsts.true _ _ _
