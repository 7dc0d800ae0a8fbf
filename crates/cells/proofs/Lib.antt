pub mod Slotted
pub mod Counting
pub mod Standing
