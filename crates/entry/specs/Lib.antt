pub mod Cells
pub mod Slots
pub mod Refusals
