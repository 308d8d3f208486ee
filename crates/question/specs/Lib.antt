pub mod Question
pub mod loops
