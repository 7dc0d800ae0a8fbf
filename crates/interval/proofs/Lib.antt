pub mod Whole
pub mod Signs
pub mod Parts
pub mod Laws
pub mod Changing
