use native.Mathlib.Omega.{arith}
use mathlib.Core.Path.{ap}
use Prim.Native.Nat.{ℕ, ◌+◌, ◌*◌, ◌-◌}
use lib.ListN.{length, drop, length-take, length-drop}
use Rattle.races.proofs.LeadLaws.{zeros-long, kept_copied}
use Rattle.races.proofs.leading.keep_entries.Goals as goal

pub slice_bounds-copy_from_slice-end : goal.slice_bounds-copy_from_slice-end
slice_bounds-copy_from_slice-end c = omega (arith, ap length c.requires.2, zeros-long, c.requires.1)

pub slice_bounds-copy_from_slice-end-2 : goal.slice_bounds-copy_from_slice-end-2
slice_bounds-copy_from_slice-end-2 c = omega (arith, ap length c.requires.2, zeros-long, c.requires.1, length-take c.args.width c.args.kept.now)

pub copy_from_slice-requires : goal.copy_from_slice-requires
copy_from_slice-requires c =
    let a = c.args in
    let n : ℕ = a.t * a.width in
    omega (arith, ap length c.requires.2, zeros-long, c.requires.0, c.requires.1, length-take a.width a.kept.now, length-take (n + a.width - n) (drop n a.clocks.now), length-drop n a.clocks.now)

pub returns : goal.returns
returns c =
    let a = c.args in
    kept_copied a.width a.t a.clocks.now c.copy_from_slice.new.self a.kept.now _ (omega arith) c.requires.1 c.requires.0 c.requires.2 c.copy_from_slice.ensures.after
