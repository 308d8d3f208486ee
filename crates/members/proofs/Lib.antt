pub mod SetLaws
pub mod CountLaws
