use Rattle.job_order.proofs.Leaving.{opens}
use Rattle.job_order.proofs.recording.jco_recorder_open.Goals as goal

pub returns : goal.returns
returns c = opens _ _ c.open_on-opened.result _ c.open_on-opened.ensures c.numbers_after-after.ensures c.number_of.ensures
