pub mod Form
pub mod Slips
pub mod Laws
pub mod Steps
