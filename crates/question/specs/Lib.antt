pub mod Refused
pub mod Questions
pub mod Printed
pub mod Readers
