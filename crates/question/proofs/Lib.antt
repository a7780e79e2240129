pub mod Faults
pub mod Alone
pub mod Letters
