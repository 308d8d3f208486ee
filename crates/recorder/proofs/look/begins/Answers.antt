use mathlib.Core.Path.{◌∙◌}
use Rattle.recorder.specs.Recording.{before}
use Rattle.recorder.proofs.look.begins.Goals as goal

pub returns : goal.returns
unfolding before
returns c = c.count_begins.ensures ∙ simp c.records_from.ensures
