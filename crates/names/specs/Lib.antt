pub mod Marks
pub mod Class
pub mod Sound
pub mod Chains
pub mod Expressions
pub mod Statements
