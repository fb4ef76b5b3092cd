pub mod Asking
pub mod Lawful
