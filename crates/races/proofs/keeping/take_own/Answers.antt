use native.Mathlib.Omega.{arith}
use mathlib.Core.Bool.{true, false}
use mathlib.Core.Path.{◌≡◌, sym, ◌∙◌}
use Rattle.bits.specs.Table.{bit_of}
use Rattle.order.specs.loops.FromTable.{take_own}
use Rattle.order.proofs.FromTableLaws.{own-place}
use Rattle.races.proofs.keeping.take_own.Goals as goal

pub overflow_cast-c : goal.overflow_cast-c
overflow_cast-c c =
    let s = c in
    omega (arith, s.requires.0.fits s.args.t s.requires.1, s.requires.0.narrow)

pub overflow_mul-clocks : goal.overflow_mul-clocks
overflow_mul-clocks c =
    let s = c in
    omega (arith, own-place s.requires.0 s.requires.1, s.requires.0.row)

pub overflow_add-clocks : goal.overflow_add-clocks
overflow_add-clocks c =
    let s = c in
    omega (arith, own-place s.requires.0 s.requires.1, s.requires.0.row)

pub offset_bounds-clocks-t : goal.offset_bounds-clocks-t
offset_bounds-clocks-t c =
    let s = c in
    omega (arith, own-place s.requires.0 s.requires.1, s.requires.0.row)

pub bounds-clocks-t : goal.bounds-clocks-t
bounds-clocks-t c =
    let s = c in
    omega (arith, own-place s.requires.0 s.requires.1, s.requires.0.row)

pub overflow_add-clocks-then-get : goal.overflow_add-clocks-then-get
overflow_add-clocks-then-get c =
    let s = c in
    omega (arith, s.requires.0.fits s.args.t s.requires.1, s.requires.0.row)

pub offset_bounds-clocks-u : goal.offset_bounds-clocks-u
offset_bounds-clocks-u c =
    let s = c in
    omega (arith, s.requires.0.fits s.args.t s.requires.1, s.requires.0.row)

pub bounds-clocks-u : goal.bounds-clocks-u
bounds-clocks-u c =
    let s = c in
    omega (arith, s.requires.0.fits s.args.t s.requires.1, s.requires.0.row)

pub returns-then-get : goal.returns-then-get
unfolding take_own
returns-then-get c =
    let k = c.args in
    let e : bit_of k.table.now k.t k.u ≡ true = sym c.get.ensures ∙ c.if-get.true in
    rw e

pub returns-else-get : goal.returns-else-get
returns-else-get c =
    let k = c.args in
    let e : bit_of k.table.now k.t k.u ≡ false = sym c.get.ensures ∙ c.if-get.false in
    rw e
