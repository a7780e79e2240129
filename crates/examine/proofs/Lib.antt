pub mod Ranges
pub mod Rising
pub mod Wholes
