pub mod Flags
pub mod Modifiers
