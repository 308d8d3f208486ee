pub mod Pair
pub mod Demand
pub mod loops
pub mod Retelling
