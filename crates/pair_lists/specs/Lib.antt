pub mod Pairs
pub mod Demand
pub mod loops
pub mod SomeOpen
