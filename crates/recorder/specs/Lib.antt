pub mod Recording
pub mod Asked
pub mod History
pub mod RoundTrip
