-- The trace program's spaces suffice: width 32 with 32 × 1,024 clocks, 1,024 bytes of work space and 8,192 entries of five numbers. Assumes nothing.
use Prim.Native.Nat.{◌*◌, ◌≤◌}
use mathlib.Core.Path.{◌≡◌}
use mathlib.Core.Bool.{true}
use mathlib.Core.List.{List}
use native.Mathlib.Omega.{arith}
use borrow.Author.Tests.{le-leb}
use lib.ListN.{length}
use Rattle.records.specs.declared.Record.{Record}
use Rattle.trace.specs.Reading.{Acceptable}
use Rattle.trace.proofs.Events.{few-events}
use Rattle.clocks.specs.Rows.{space_for}
use Rattle.order.specs.Lent.{work_for}
use Rattle.coverage.proofs.Total.{short-total}
use Rattle.races.specs.Traces.{cells_of, setting_of}
use Rattle.races.specs.loops.FilledClocks.{rows}
use Rattle.races.specs.Lists.{pairs_of, list_for}

module _ {tr : List Record} (a : Acceptable tr) where
  -- at most two entries for a record
  pub short-few : length (pairs_of tr true) ≤ 8192
  unfolding pairs_of
  short-few = omega (arith, short-total (setting_of tr) (cells_of tr), a.few)

  -- "spaces that never give 22 or 24", nor 21
  pub never-21 : space_for 32 (rows tr) 32768 ≡ true
  unfolding space_for
  never-21 = le-leb (rows tr * 32) 32768 (omega (arith, few-events a))

  pub never-22 : work_for 1024 (rows tr) ≡ true
  never-22 = le-leb (rows tr) 1024 (few-events a)

  pub never-24 : list_for (length (pairs_of tr true)) 40960 ≡ true
  never-24 = le-leb (length (pairs_of tr true)) 8192 short-few
