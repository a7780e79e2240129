pub mod Counted
pub mod Frees
pub mod Last
