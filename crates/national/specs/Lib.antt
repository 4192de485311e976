pub mod Accounts
pub mod Belgian
pub mod French
pub mod BelgianLaws
pub mod FrenchLaws
