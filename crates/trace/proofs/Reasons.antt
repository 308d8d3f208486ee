-- A reason's number is not 0, so 0 says that a record passes.
-- Assumes nothing.
use mathlib.Core.Path.{◌≡◌}
use native.Mathlib.Omega.{arith}
use Rattle.trace.specs.declared.Reason.{Reason}
use Rattle.trace.specs.declared.Reason.TheVariants.{
  NoTrailer,
  Edition,
  Distance,
  UnknownKind,
  Identifier,
  OutOfPlace,
  BegunAlready,
  NotEnded,
  StopsInside,
  BeginCount,
  NotInTrace,
  NoRace,
  TooLong,
}
use Rattle.trace.specs.declared.Reason.TheVariants.{ClockSpace, WorkSpace, Chains, ListSpace, NoSpace, Closed, Behind}
use Rattle.trace.specs.Paper.{number_of}

pub numbered : (r : Reason) → number_of r ≡ 0 → ⊥
numbered NoTrailer e = absurd (omega arith)
numbered Edition e = absurd (omega arith)
numbered Distance e = absurd (omega arith)
numbered UnknownKind e = absurd (omega arith)
numbered Identifier e = absurd (omega arith)
numbered OutOfPlace e = absurd (omega arith)
numbered BegunAlready e = absurd (omega arith)
numbered NotEnded e = absurd (omega arith)
numbered StopsInside e = absurd (omega arith)
numbered BeginCount e = absurd (omega arith)
numbered NotInTrace e = absurd (omega arith)
numbered NoRace e = absurd (omega arith)
numbered TooLong e = absurd (omega arith)
numbered ClockSpace e = absurd (omega arith)
numbered WorkSpace e = absurd (omega arith)
numbered Chains e = absurd (omega arith)
numbered ListSpace e = absurd (omega arith)
numbered NoSpace e = absurd (omega arith)
numbered Closed e = absurd (omega arith)
numbered Behind e = absurd (omega arith)
