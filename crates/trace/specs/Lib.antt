pub mod Reply
pub mod Place
pub mod Rule
pub mod Reading
pub mod Paper
pub mod Plain
pub mod Behind
pub mod loops
