pub mod Judge
pub mod Ways
pub mod Simple
pub mod Nested
