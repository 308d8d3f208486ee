use Rattle.races.proofs.EntryStores.{raw-stores}
use Rattle.records.specs.Bytes.{decode}
use lib.ListN.{length-set}
use native.Mathlib.Omega.{arith}
use Rattle.races.proofs.lists.put_entry.Goals as goal

pub bounds-list-at-2 : goal.bounds-list-at-2
bounds-list-at-2 c = simp length-set (omega (arith, c.requires.2))

pub bounds-list-at-3 : goal.bounds-list-at-3
bounds-list-at-3 c = simp length-set (omega (arith, c.requires.2))

pub bounds-list-at-4 : goal.bounds-list-at-4
bounds-list-at-4 c =
    let start = c in
    simp length-set (omega (arith, start.requires.2))

pub bounds-list-at-5 : goal.bounds-list-at-5
bounds-list-at-5 c =
    let start = c in
    simp length-set (omega (arith, start.requires.2))

pub returns : goal.returns
returns c =
    let start = c in
    raw-stores (decode start.args.recs.now) _ _ _ _ _ _ c.cell_at.ensures c.shape_of.ensures
