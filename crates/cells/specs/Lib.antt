pub mod Keeping
pub mod Grid
pub mod Band
pub mod Slots
pub mod Parts
pub mod Nearness
