pub mod Reading
pub mod Faults
pub mod Writing
pub mod Comparison
pub mod Counts
pub mod Places
