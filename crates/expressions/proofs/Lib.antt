pub mod Laws
pub mod Cases
pub mod Nodes
pub mod Targets
pub mod Rows
pub mod Lent
