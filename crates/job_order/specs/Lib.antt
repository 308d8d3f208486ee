pub mod Calls
pub mod Recording
