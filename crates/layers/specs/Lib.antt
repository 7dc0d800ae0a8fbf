pub mod Turnover
pub mod Mirror
