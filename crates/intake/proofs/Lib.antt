pub mod Feeding
pub mod Judged
pub mod Kept
pub mod Steps
pub mod Tallies
