pub mod Rule
pub mod Fill
pub mod Begin
pub mod Promise
