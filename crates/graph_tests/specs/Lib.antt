pub mod Towns
pub mod TownGraphs
pub mod Worked
