pub mod Lines
pub mod loops
