pub mod Bound
pub mod Refusals
pub mod Spaces
pub mod TextLaws
pub mod Whole
