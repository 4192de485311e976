pub mod Alphabets
pub mod Buffers
pub mod Slips
pub mod Texts
