pub mod Rows
pub mod Walks
pub mod Tests
pub mod Changes
pub mod MatchingWalks
