pub mod Frame
pub mod Bottom
pub mod Full
pub mod Banded
pub mod Parts
