pub mod Places
pub mod RowLaws
pub mod WayLaws
