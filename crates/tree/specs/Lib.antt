pub mod Search
pub mod Turns
pub mod Tally
pub mod Places
