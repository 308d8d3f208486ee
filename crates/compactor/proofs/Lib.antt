pub mod Thinned
pub mod ThinLinks
pub mod SlimLaws
pub mod KeepLaws
pub mod CompactLaws
