pub mod Links
pub mod Reader
