pub mod Slips
pub mod Systems
pub mod Laws
pub mod Steps
