pub mod OrderingOf
pub mod Ranks
pub mod loops
