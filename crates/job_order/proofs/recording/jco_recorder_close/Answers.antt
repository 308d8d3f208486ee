use Rattle.job_order.proofs.Leaving.{closes}
use Rattle.job_order.proofs.recording.jco_recorder_close.Goals as goal

pub returns : goal.returns
returns c =
    let at-close-on = c in
    let at-recorder-of = at-close-on in
    let ending = at-close-on.close_on-ended in
    closes _ _ _ _ at-recorder-of.recorder_of-r.result at-recorder-of.recorder_of-r.ensures ending.result _ _ _ ending.ensures c.numbers_after-after.ensures c.number_of.ensures c.place_of.ensures c.length_of.ensures
