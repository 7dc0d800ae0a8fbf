pub mod Refusals
pub mod Directed
pub mod Classes
pub mod Arithmetic
pub mod Laws
pub mod Examples
pub mod Limited
