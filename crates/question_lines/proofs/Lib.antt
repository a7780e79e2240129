pub mod Numbers
pub mod SoFar
pub mod Nearest
