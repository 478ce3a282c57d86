pub mod Assemble
pub mod Opened
pub mod Programs
mod Traps
