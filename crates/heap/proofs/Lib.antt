pub mod Contents
mod Counts
pub mod Drainings
mod Pairs
mod Steps
