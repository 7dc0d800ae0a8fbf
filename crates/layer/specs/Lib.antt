pub mod Views
pub mod Shapes
pub mod Settings
