pub mod Changes
pub mod Content
pub mod Drained
pub mod Heaped
pub mod Keys
pub mod Moves
pub mod Pairing
