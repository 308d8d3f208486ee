use Rattle.job_order.proofs.Leaving.{steps}
use Rattle.job_order.proofs.recording.jco_recorder_step.Goals as goal

pub returns : goal.returns
returns c =
    let at-step-on = c in
    let at-recorder-of = at-step-on in
    let stepping = at-step-on.step_on-next in
    steps _ _ _ _ at-recorder-of.recorder_of-r.result at-recorder-of.recorder_of-r.ensures _ stepping.result _ _ stepping.ensures c.numbers_after-after.ensures c.number_of.ensures c.place_of.ensures
