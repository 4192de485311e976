pub mod Chains
pub mod Checks
pub mod Ends
pub mod Lists
pub mod Slips
