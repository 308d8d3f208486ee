use native.Mathlib.Omega.{arith}
use Rattle.order.proofs.TableLaws.{events-few}
use Rattle.races.proofs.FilledLaws.{row_inside}
use Rattle.races.proofs.CandidateLaws.{cell-low, seen-rows}
use Rattle.races.proofs.EntryStores.{access-quiet, access-tables, access-way}
use Rattle.races.proofs.candidates.take_access.Goals as goal

pub bounds-cells-c : goal.bounds-cells-c
bounds-cells-c c =
    let start = c in
    omega (arith, cell-low start.requires.second.filled.acceptable start.args.b start.requires.second.inside, c.cell_at-c.ensures)

pub bounds-cells-c-2 : goal.bounds-cells-c-2
bounds-cells-c-2 c =
    let start = c in
    omega (arith, cell-low start.requires.second.filled.acceptable start.args.b start.requires.second.inside, c.cell_at-c.ensures)

pub is_ordered-ordered-requires : goal.is_ordered-ordered-requires
is_ordered-ordered-requires c =
    let start = c in
    let s = start.requires.second in
    rw c.cell_at-c.ensures (seen-rows s.filled start.args.short start.args.b start.args.u _ s.inside s.row (start.requires.tables.tells _ (cell-low s.filled.acceptable start.args.b s.inside)))

pub note-requires : goal.note-requires
note-requires c =
    let at-cell = c in
    let start = at-cell in
    let s = start.requires.second in
    let l = cell-low s.filled.acceptable start.args.b s.inside in
    let e = at-cell.cell_at-c.ensures in
    (omega arith, omega (arith, s.inside, s.filled.acceptable.few), omega (arith, s.row, row_inside s.filled start.args.b s.inside, events-few s.filled.acceptable))

pub returns-then-ordered : goal.returns-then-ordered
returns-then-ordered c =
    let at-note = c in
    let at-ordered = at-note in
    let at-cell = at-ordered in
    let at-kind = at-cell in
    let start = at-kind in
    record { ranges = access-quiet start.requires.second start.requires.tables at-kind.kind_at-kind.ensures at-cell.cell_at-c.ensures at-ordered.is_ordered-ordered.ensures c.if-ordered.true; tables_2 = access-tables start.requires.second start.requires.tables at-kind.kind_at-kind.ensures at-cell.cell_at-c.ensures at-ordered.is_ordered-ordered.ensures _ _ at-note.note.ensures.seen_after at-note.note.ensures.writes_after }

pub returns : goal.returns
returns c =
    let at-note = c in
    let at-ordered = at-note in
    let at-cell = at-ordered in
    let at-kind = at-cell in
    let start = at-kind in
    record { ranges = access-way start.requires.second start.requires.tables at-kind.kind_at-kind.ensures at-cell.cell_at-c.ensures at-ordered.is_ordered-ordered.ensures _ _ c.firsts_from.ensures c.firsts_to.ensures; tables_2 = access-tables start.requires.second start.requires.tables at-kind.kind_at-kind.ensures at-cell.cell_at-c.ensures at-ordered.is_ordered-ordered.ensures _ _ at-note.note.ensures.seen_after at-note.note.ensures.writes_after }
