-- What loops compute, for contracts inside the crates: no promise to a caller rests on these.
pub mod Marking
pub mod ChainPass
pub mod TableChains
