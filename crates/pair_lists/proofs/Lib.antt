pub mod CopyLaws
pub mod ThirdDemand
pub mod SomeOpen
