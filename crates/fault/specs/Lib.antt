pub mod Refusals
pub mod Causes
