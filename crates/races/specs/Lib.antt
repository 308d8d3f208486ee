pub mod Traces
pub mod Lists
pub mod Paper
pub mod Demand
pub mod loops
pub mod SomeOpen
