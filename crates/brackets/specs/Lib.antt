pub mod Depth
pub mod Walks
pub mod Readings
pub mod Parameters
pub mod Format
pub mod Inner
