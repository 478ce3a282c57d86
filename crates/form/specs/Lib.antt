pub mod Tests
pub mod Formed
