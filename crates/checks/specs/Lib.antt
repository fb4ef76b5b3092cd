pub mod Sayings
pub mod ClassChecks
pub mod Laws
