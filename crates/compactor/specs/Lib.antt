pub mod SlimTrace
pub mod Compact
pub mod Same
pub mod loops
