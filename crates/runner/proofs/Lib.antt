pub mod Keeps
pub mod Program
pub mod Endings
pub mod Entrance
pub mod Told
