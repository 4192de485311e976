pub mod Systems
pub mod Laws
