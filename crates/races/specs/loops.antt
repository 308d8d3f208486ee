-- What loops compute, for contracts inside the crates: no promise to a caller rests on these.
pub mod FilledClocks
pub mod Candidates
pub mod ListPass
pub mod Marking
pub mod Leading
pub mod Raising
pub mod Refilling
pub mod Keeping
pub mod ListsFilled
pub mod Clashes
pub mod FilledOnce
