pub mod Held
pub mod Kept
pub mod Known
pub mod Laws
