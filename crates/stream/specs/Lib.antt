pub mod Heads
pub mod Lists
