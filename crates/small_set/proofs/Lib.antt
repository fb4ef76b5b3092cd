pub mod Back
pub mod Bits
