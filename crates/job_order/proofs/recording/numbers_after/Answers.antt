use Rattle.job_order.proofs.recording.numbers_after.Goals as goal

pub returns : goal.returns
returns c = rw c.closed_after.ensures
