pub mod Cleared
pub mod Tests
