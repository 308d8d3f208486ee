-- What loops compute, for contracts inside the crates: no promise to a caller rests on these.
pub mod RecordLinks
pub mod Sets
pub mod Numbering
pub mod Raising
pub mod Walk
pub mod Pass
pub mod PassEnds
pub mod Standing
pub mod FillsTrace
pub mod FromTable
pub mod TablePass
