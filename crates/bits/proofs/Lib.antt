pub mod WordLaws
pub mod TableLaws
pub mod BitLaws
pub mod RowLaws
