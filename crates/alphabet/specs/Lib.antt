pub mod Characters
pub mod Counts
pub mod Faults
pub mod Holding
pub mod Readings
pub mod Slips
