pub mod Cuts
pub mod Earned
pub mod Longest
pub mod Reading
