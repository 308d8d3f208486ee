pub mod Decimal
pub mod Examples
pub mod Text
pub mod Store
