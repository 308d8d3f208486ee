-- What loops compute, for contracts inside the crates: no promise to a caller rests on these.
pub mod Leading
pub mod Kept
pub mod PairSearch
pub mod Answers
