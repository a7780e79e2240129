pub mod Printed
pub mod Spelled
pub mod Tells
pub mod Told
pub mod Whole
