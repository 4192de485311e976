pub mod KeyRanges
pub mod Remainders
