use mathlib.Core.Path.{ap}
use native.Mathlib.Omega.{arith}
use Rattle.races.specs.Paper.{list_paper}
use Rattle.report.proofs.TextLaws.{long-input, listed-few, listed-lines, refused-lines, over_zeros, prints-one, prints-then}
use Rattle.report.proofs.report.Goals as goal

pub returns-then-input-gt-LONGEST : goal.returns-then-input-gt-LONGEST
returns-then-input-gt-LONGEST c = rw (long-input c.args.input.now (omega arith)) (prints-one (rw c.number.ensures at c.put_refusal.ensures))

pub put_entries-requires : goal.put_entries-requires
put_entries-requires c =
    let zeros = over_zeros c.zeros-clocks.ensures c.zeros-work.ensures c.zeros-list.ensures in
    let lists = zeros c.short_list-found.ensures in
    listed-few c.args.input.now _ _ _ _ (omega arith) lists _ (ap list_paper c.in-Ok.is)

pub returns-in-Ok : goal.returns-in-Ok
returns-in-Ok c =
    let zeros = over_zeros c.zeros-clocks.ensures c.zeros-work.ensures c.zeros-list.ensures in
    let lists = zeros c.short_list-found.ensures in
    rw (listed-lines c.args.input.now _ _ _ _ (omega arith) lists _ (ap list_paper c.in-Ok.is))
    (prints-then c.put_header-at.ensures c.put_entries.ensures)

pub returns-in-Err : goal.returns-in-Err
returns-in-Err c =
    let zeros = over_zeros c.zeros-clocks.ensures c.zeros-work.ensures c.zeros-list.ensures in
    let lists = zeros c.short_list-found.ensures in
    rw (refused-lines c.args.input.now _ _ _ _ (omega arith) lists _ _ (ap list_paper c.in-Err.is)) (prints-one (rw c.number-in-Err.ensures at c.put_refusal-in-Err.ensures))
