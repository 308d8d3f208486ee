-- Document 01's number and place for each case of the answers.
-- Assumes nothing.
use Rattle.std.specs.Prelude.{ℕ, Result, Ok, Err}
use Rattle.trace.specs.declared.Reason.{Reason}
use Rattle.trace.specs.declared.Reason.TheVariants.{
  NoTrailer,
  Edition,
  Distance,
  UnknownKind,
  Identifier,
  OutOfPlace,
  BegunAlready,
  NotEnded,
  StopsInside,
  BeginCount,
  NotInTrace,
  NoRace,
  TooLong,
}
use Rattle.trace.specs.declared.Reason.TheVariants.{ClockSpace, WorkSpace, Chains, ListSpace, NoSpace, Closed, Behind}
use Rattle.trace.specs.declared.Refusal.{Refusal}
use Rattle.trace.specs.Reply.{Reply, refused, gives}

-- "A refusal gives its number": because of the input 1 to 13, because of the state 21 to 26, and of document 02 31
abbrev pub number_of : Reason → ℕ
number_of NoTrailer = 1
number_of Edition = 2
number_of Distance = 3
number_of UnknownKind = 4
number_of Identifier = 5
number_of OutOfPlace = 6
number_of BegunAlready = 7
number_of NotEnded = 8
number_of StopsInside = 9
number_of BeginCount = 10
number_of NotInTrace = 11
number_of NoRace = 12
number_of TooLong = 13
number_of ClockSpace = 21
number_of WorkSpace = 22
number_of Chains = 23
number_of ListSpace = 24
number_of NoSpace = 25
number_of Closed = 26
number_of Behind = 31

-- "A refusal gives its number and a record number"
abbrev pub paper : {A : Type 0} → Result A Refusal → Reply A
paper (Ok x) = gives x
paper (Err f) = refused (number_of f.reason) f.place.0

-- one record's check: the next situation
abbrev pub checked_paper : Result ℕ Refusal → Reply ℕ
checked_paper = paper

-- the number of a rule's refusal, or 0 where the record passes
abbrev pub code : Result Unit Reason → ℕ
code (Ok u) = 0
code (Err r) = number_of r
