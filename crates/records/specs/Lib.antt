pub mod Bytes
pub mod Records
pub mod Kinds
pub mod Encoding
pub mod Search
