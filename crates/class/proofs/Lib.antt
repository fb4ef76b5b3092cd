pub mod Decorators
pub mod Setters
pub mod Steps
